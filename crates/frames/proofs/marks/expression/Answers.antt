-- The first byte names the kind, and the marks stand behind it.
use Rattle.std.proofs.Common.{◌∙◌, ◌∷◌, ℕ, sym, ap, arith}
use Rattle.std.proofs.lemmas.List.Elements.{All-from_get_or}
use Rattle.frames.specs.Text.{text, most_bytes}
use Rattle.frames.proofs.FieldBytes.{IsByte, expression-bytes, taken-front}
use Rattle.frames.proofs.marks.expression.Goals as goal

pub returns : goal.returns
returns c =
    let marks = c.args.marks.now in
    let front = taken-front most_bytes _ _ marks _ c.copy_from_slice.ensures.after (omega arith) in
    let named = ap (λ (x : ℕ). x ∷ marks) c.byte.ensures in
    let are = All-from_get_or IsByte marks 0 (λ k h. (c.type_inv.marks k).fits) in
    c.of.ensures ∙ ap text (front ∙ named ∙ sym (expression-bytes marks are))

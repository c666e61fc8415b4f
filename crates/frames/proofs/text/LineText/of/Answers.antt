use Rattle.std.proofs.Common.{◌∙◌, ap, take}
use Rattle.std.proofs.lemmas.List.{take_min}
use Rattle.frames.specs.Text.{text, most_bytes}
use Rattle.frames.proofs.text.LineText.of.Goals as goal

pub returns : goal.returns
returns c =
    let all = c.args.bytes.now in
    c.whole.ensures ∙ ap text (ap (λ k. take k all) c.min.ensures ∙ take_min most_bytes all)

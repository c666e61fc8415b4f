-- THEOREMS: the line of a frame has no end in it, so that with its end it is the first line of what begins with it; and
-- it is as long as a line may be.
use Rattle.std.specs.Prelude.{ℕ, ◌+◌, ◌*◌, ◌≤◌, ◌≡◌, List, [], ◌∷◌, ◌++◌, All, length}
use Rattle.std.proofs.Common.{refl, ap, ◌∙◌, arith, append_assoc, length-append}
use Rattle.std.proofs.lemmas.List.Elements.{All-head, All-tail}
use Rattle.streams.specs.Lines.{lines, longer}
use Rattle.frames.specs.Text.{text, most_bytes}
use Rattle.frames.specs.Written.{frame_bytes, line_of, FitsLine}
use Rattle.frames.specs.declared.Frame.{Frame}
use Rattle.frames.proofs.FieldBytes.{frame-small}
use Rattle.frames.proofs.FrontLaws.{plain}
use Rattle.frames.proofs.Spelled.{IsDigit, spelled, length-spelled, digits-spelled}

-- a line of digits with its end, and more behind it
first : (l rest : List ℕ) → All IsDigit l → lines (l ++ 0x0A ∷ rest) ≡ l ∷ lines rest
unfolding lines
first [] rest digits = refl
first (c ∷ l) rest digits = rw (plain c (All-head IsDigit c l digits)) (ap (longer c) (first l rest (All-tail IsDigit c l digits)))

pub line-ends : (f : Frame) (rest : List ℕ) → lines (text (frame_bytes f) ++ rest) ≡ line_of f ∷ lines rest
unfolding text line_of
line-ends f rest =
    let l = spelled (frame_bytes f) in
    ap lines (append_assoc l (0x0A ∷ []) rest) ∙ first l rest (digits-spelled (frame_bytes f) (frame-small f))

pub length-line : (f : Frame) → length (line_of f) ≡ 2 * length (frame_bytes f)
unfolding line_of
length-line f = length-spelled (frame_bytes f)

pub length-text : (f : Frame) → length (text (frame_bytes f)) ≡ 2 * length (frame_bytes f) + 1
unfolding text
length-text f = omega (arith, length-append (spelled (frame_bytes f)) (0x0A ∷ []), length-spelled (frame_bytes f))

pub line-short : (f : Frame) → FitsLine f → length (text (frame_bytes f)) ≤ 2 * most_bytes + 1
line-short f fits = omega (arith, length-text f, fits.short)

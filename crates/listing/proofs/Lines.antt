-- The lines of a list at the end of an input are those that are written for its entries.
use Rattle.std.specs.Prelude.{ℕ, ◌≡◌, refl, Ok, length}
use Rattle.std.proofs.Common.{sym, ap, ap₂, ◌∙◌, subst, append_assoc, append-nil, length-append, arith}
use Rattle.std.proofs.lemmas.List.{append_cancel_left}
use mathlib.Core.List.{List, [], ◌∷◌, ◌++◌, map}
use Rattle.frames.specs.Frames.{FrameOf}
use Rattle.frames.specs.Written.{line_of}
use Rattle.frames.specs.declared.Frame.{Frame}
use Rattle.frames.proofs.WrittenBack.{listed-is_written}
use Rattle.reading.specs.Tables.{Entry, frame_of}
use Rattle.reading.proofs.ListLaws.{sound-extends}
use Rattle.reading.specs.Reading.{sound, Reading}
use Rattle.file.proofs.LeftOut.{NextIs, next-is, none-next, frame-line}

-- some frames, and one more
abbrev among : List Frame → Frame → List Frame → List Frame
among before f rest = before ++ f ∷ rest

-- more frames behind some are not those
not-longer : (before rest : List Frame) (f : Frame) → before ≡ among before f rest → ⊥
not-longer before rest f e = omega (arith, ap (λ (l : List Frame). length l) e, length-append before (f ∷ rest))

-- lines end with those of the entries of a list
pub record EndsWith (ls : List (List ℕ)) (list : List Entry) : Type 0 where
  pub before : List (List ℕ)
  pub are : ls ≡ before ++ map line_of (map frame_of list)

module _ {fs : List Frame} where
  -- the first of the frames that are read on is that of the first line
  first-is : (before rest : List Frame) (line : List ℕ) (ls : List (List ℕ)) (f : Frame) (w : NextIs before line ls fs)
      → fs ≡ among before f rest → w.frame ≡ f
  first-is before rest line ls f w e =
      let x = sound-extends w.rest in
      let d : w.frame ∷ x.rest ≡ f ∷ rest =
      append_cancel_left before (w.frame ∷ x.rest) (f ∷ rest) (sym (append_assoc before (w.frame ∷ []) x.rest) ∙ sym x.are ∙ e) in
      cc

  next-among : (before rest : List Frame) (f g : Frame) → g ≡ f → fs ≡ among before f rest → fs ≡ (before ++ g ∷ []) ++ rest
  next-among before rest f g e d = d ∙ sym (append_assoc before (f ∷ []) rest) ∙ ap (λ (h : Frame). (before ++ h ∷ []) ++ rest) (sym e)

  -- lines that are read as entries
  entry-lines : (before : List Frame) (ls : List (List ℕ)) (list : List Entry) → Reading before ls (sound fs)
      → fs ≡ before ++ map frame_of list → ls ≡ map line_of (map frame_of list)
  entry-lines before [] [] r e = refl
  entry-lines before [] (x ∷ list) r e = absurd (not-longer before (map frame_of list) (frame_of x) (sym (none-next r) ∙ e))
  entry-lines before (line ∷ ls) [] r e =
      let w = next-is r in
      let x = sound-extends w.rest in
      absurd (not-longer before x.rest w.frame (sym (e ∙ append-nil before) ∙ x.are ∙ append_assoc before (w.frame ∷ []) x.rest))
  entry-lines before (line ∷ ls) (x ∷ list) r e =
      let w = next-is r in
      let i = first-is before (map frame_of list) line ls (frame_of x) w e in
      let l = listed-is_written line x.0 x.1 x.2 x.3 (subst (λ (f : Frame). FrameOf line (Ok f)) i (frame-line w.found)) in
      ap₂ ◌∷◌ l (entry-lines (before ++ w.frame ∷ []) ls list w.rest (next-among before (map frame_of list) (frame_of x) w.frame i e))

  -- and lines before them
  pub list-lines : (before rest : List Frame) (ls : List (List ℕ)) (list : List Entry) → Reading before ls (sound fs)
      → fs ≡ before ++ (rest ++ map frame_of list) → EndsWith ls list
  list-lines before [] ls list r e = record { before = []; are = entry-lines before ls list r e }
  list-lines before (f ∷ rest) [] list r e = absurd (not-longer before (rest ++ map frame_of list) f (sym (none-next r) ∙ e))
  list-lines before (f ∷ rest) (line ∷ ls) list r e =
      let w = next-is r in
      let i = first-is before (rest ++ map frame_of list) line ls f w e in
      let on = list-lines (before ++ w.frame ∷ []) rest ls list w.rest (next-among before (rest ++ map frame_of list) f w.frame i e) in
      record { before = line ∷ on.before; are = ap (λ (ms : List (List ℕ)). line ∷ ms) on.are }

-- A line taken by what is held.
use Rattle.std.specs.Prelude.{ℕ, ◌≤◌, ◌≡◌, ◌≢◌, List, [], ◌∷◌, ◌++◌, Result, Ok, Err, IsErrAnd, OnOk, OnErr}
use Rattle.std.proofs.Common.{refl, ap, ◌∙◌, arith}
use Rattle.kinds.specs.Kinds.{most_states, CountsFit}
use Rattle.frames.specs.Frames.{FrameOf}
use Rattle.frames.specs.declared.Frame.{Frame}
use Rattle.frames.specs.declared.Frame.TheVariants.{Declared, ConceptRule, ConceptExclusion, RoleStep, TestStep, Final, Allowance, Expression, Salvage, ListedMark}
use Rattle.frames.specs.declared.Misread.{Misread}
use Rattle.frames.specs.Written.{byte, FitsLine}
use Rattle.frames.proofs.WrittenBack.{read-fits}
use Rattle.reading.specs.declared.File.{File}
use Rattle.reading.specs.declared.Refusal.{Refusal}
use Rattle.reading.specs.Refusal.{refusal_of}
use Rattle.reading.specs.Tables.{most_lines, declared_by}
use Rattle.reading.specs.File.{file_of, file_with, HasShelfRoom, IsSmall}
use Rattle.reading.specs.Judged.{Judged}
use Rattle.reading.specs.Reading.{unread, refused, taken, Taken}
use Rattle.reading.specs.Reads.{IsRead}
use Rattle.reading.specs.Turns.{FrameJudged, ExpressionJudged, refused as turned, taken as turned_on, TakesLine}
use Rattle.reading.proofs.Passed.{Passed, passed, taken-keeps}
use Rattle.reading.proofs.Bounds.{within-lines}
use Rattle.reading.proofs.Kept.{declared-later, declared-first, file_with-file_of}
use Rattle.reading.proofs.Judging.{first, judged_refused, judged_last}

-- line 1's counts fit
abbrev pub Fitting : List Frame → Type 0
Fitting fs = fs ≢ [] → CountsFit (declared_by fs)

fitting-later : (before : List Frame) (f : Frame) → Fitting before → before ≢ [] → CountsFit (declared_by (before ++ f ∷ []))
fitting-later before f h n = rw (declared-later before f n) (h n)

fitting-more : (before : List Frame) (f : Frame) → Taken before → Passed before f → Fitting before → Fitting (before ++ f ∷ [])
fitting-more before (Declared c) t p h n = rw (declared-first before c p.in_place) p.counts
fitting-more before (Allowance m) t p h n = fitting-later before (Allowance m) h p.in_place.0.begun
fitting-more before (RoleStep s R u) t p h n = fitting-later before (RoleStep s R u) h p.in_place.0.begun
fitting-more before (TestStep s A u) t p h n = fitting-later before (TestStep s A u) h p.in_place.0.begun
fitting-more before (Final s) t p h n = fitting-later before (Final s) h p.in_place.0.begun
fitting-more before (Expression row) t p h n = fitting-later before (Expression row) h p.in_place.0.begun
fitting-more before Salvage t p h n = fitting-later before Salvage h p.in_place.0.begun
fitting-more before (ListedMark m s u B) t p h n = fitting-later before (ListedMark m s u B) h p.in_place
fitting-more before f t p h n = fitting-later before f h p.in_place.begun

pub fitting : (fs : List Frame) → Taken fs → Fitting fs
fitting = taken-keeps Fitting (λ n. absurd (n refl)) fitting-more

-- the numbers of concepts that a line says go into 16 bits
pub small_said : (line : List ℕ) (f : Frame) → FrameOf line (Ok f) → IsSmall f
small_said line f r = by f (read-fits line f r)
  where
    by : (f : Frame) → FitsLine f → IsSmall f
    by (ConceptRule C D) fits =
        let n = fits.numbers in (omega (arith, n 0 (byte 0) (omega arith)), omega (arith, n 1 (byte 0) (omega arith)))
    by (ConceptExclusion C D) fits =
        let n = fits.numbers in (omega (arith, n 0 (byte 0) (omega arith)), omega (arith, n 1 (byte 0) (omega arith)))
    by f fits = tt

-- what was read declares no more states than there may be
few-states : (fs : List Frame) → Taken fs → (declared_by fs).states ≤ most_states
few-states [] t = omega arith
few-states (f ∷ fs) t = (fitting (f ∷ fs) t (λ e. cc)).states

pub few_lines : {file : File} → IsRead file → file.lines ≤ most_lines
few_lines w = let e = ap (λ (f : File). f.lines) w.kept in omega (arith, within-lines w.frames w.taken)

pub room_passed : (file : File) (f : Frame) → FrameJudged file f (Ok tt) → HasShelfRoom file f
room_passed file f j = (first file f j).room

few : {file : File} (before : List Frame) → Taken before → file ≡ file_of before → file.counts.states ≤ most_states
few before t d = rw d (few-states before t)

module _ {file : File} {line : List ℕ} where
  pub turn_unread : {m : Misread} {r : Result (Unit {0}) Refusal} → FrameOf line (Err m) → IsErrAnd r (λ e. e ≡ refusal_of m)
      → TakesLine file line r file
  turn_unread {r = Ok u} h k = absurd k
  turn_unread {m} {r = Err e} h k = record { by = λ before t d. rw (k, d) (turned (refusal_of m) (unread m h)) }

  -- a frame that is refused, and one that is taken
  turn-refused : {f : Frame} {q : Refusal} → FrameOf line (Ok f)
      → ((before : List Frame) → Taken before → file ≡ file_of before → Judged before f (Err q)) → TakesLine file line (Err q) file
  turn-refused {f} {q} h j = record { by = λ before t d. rw d (turned q (refused f q h (j before t d))) }

  turn-taken : {f : Frame} {new : File} → FrameOf line (Ok f)
      → ((before : List Frame) → Taken before → file ≡ file_of before → Judged before f (Ok tt))
      → new ≡ file_with f file → TakesLine file line (Ok tt) new
  turn-taken {f} h j k =
      record {
        by = λ before t d.
            let i = j before t d in
            let e = k ∙ ap (file_with f) d ∙ file_with-file_of before t f (passed before f i) in
            rw e (turned_on f (taken f h i));
      }

  pub turn_refused : {f : Frame} {q : Refusal} {r : Result (Unit {0}) Refusal} → FrameOf line (Ok f) → FrameJudged file f (Err q)
      → IsErrAnd r (λ e. e ≡ q) → TakesLine file line r file
  turn_refused {r = Ok u} h j k = absurd k
  turn_refused {f} {r = Err e} h j k = rw k (turn-refused h (λ before t d. judged_refused file f j before d))

  pub turn_kept : {f : Frame} {r : Result (Unit {0}) Refusal} {new : File} → FrameOf line (Ok f) → FrameJudged file f (Ok tt)
      → (file.counts.states ≤ most_states → ExpressionJudged file.counts f r) → OnOk r (new ≡ file_with f file) → OnErr r (new ≡ file)
      → TakesLine file line r new
  turn_kept {f} {r = Ok u} h j x k n = turn-taken h (λ before t d. judged_last file f j (x (few before t d)) before d) k
  turn_kept {f} {r = Err q} h j x k n = rw n (turn-refused h (λ before t d. judged_last file f j (x (few before t d)) before d))

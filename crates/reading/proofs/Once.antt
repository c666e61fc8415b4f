-- A frame is judged in one way, a line is found to be one thing, and reading comes to one result.
use Rattle.std.specs.Prelude.{ℕ, ◌≡◌, List, Result, Ok, Err}
use Rattle.std.proofs.Common.{refl, sym, ap, ◌∙◌}
use Rattle.laws.specs.First.{first-once}
use Rattle.frames.specs.declared.Frame.{Frame}
use Rattle.frames.proofs.Once.{frame-once}
use Rattle.reading.specs.declared.Fault.{Fault}
use Rattle.reading.specs.declared.File.{File}
use Rattle.reading.specs.declared.Refusal.{Refusal}
use Rattle.reading.specs.File.{file_of}
use Rattle.reading.specs.Judged.{Judged}
use Rattle.reading.specs.Reading.{Finds, unread, refused, taken, Verdict, frames_of, ReadingBy, Reading, empty, whole, stopped, onward}
use Rattle.reading.specs.Reads.{ReadsFile, told_of}

-- THEOREM: a frame is refused for one reason, or taken
pub judged-once : (before : List Frame) (f : Frame) (r q : Result (Unit {0}) Refusal) → Judged before f r → Judged before f q → r ≡ q
judged-once before f =
    first-once (first-once (first-once (first-once (first-once (first-once (first-once (first-once (λ r q h k. h ∙ sym k))))))))

-- THEOREM: a line is found to be one thing
pub finds-once : {before : List Frame} {line : List ℕ} {r q : Result Frame Refusal} → Finds before line r → Finds before line q → r ≡ q
finds-once {line = line} (unread m h) (unread n k) = let e = frame-once line (Err m) (Err n) h k in cc
finds-once {line = line} (unread m h) (refused f r k j) = let e = frame-once line (Err m) (Ok f) h k in absurd cc
finds-once {line = line} (unread m h) (taken f k j) = let e = frame-once line (Err m) (Ok f) h k in absurd cc
finds-once {line = line} (refused f r k j) (unread m h) = let e = frame-once line (Err m) (Ok f) h k in absurd cc
finds-once {line = line} (taken f k j) (unread m h) = let e = frame-once line (Err m) (Ok f) h k in absurd cc
finds-once {before} {line} (refused f r h j) (refused g q k i) =
    let e = frame-once line (Ok f) (Ok g) h k in
    let d : f ≡ g = cc in
    let o = judged-once before g (Err r) (Err q) (rw d at j) i in
    cc
finds-once {before} {line} (refused f r h j) (taken g k i) =
    let e = frame-once line (Ok f) (Ok g) h k in
    let d : f ≡ g = cc in
    let o = judged-once before g (Err r) (Ok tt) (rw d at j) i in
    absurd cc
finds-once {before} {line} (taken g k i) (refused f r h j) =
    let e = frame-once line (Ok f) (Ok g) h k in
    let d : f ≡ g = cc in
    let o = judged-once before g (Err r) (Ok tt) (rw d at j) i in
    absurd cc
finds-once {line = line} (taken f h j) (taken g k i) = let e = frame-once line (Ok f) (Ok g) h k in cc

-- THEOREM: reading comes to one result, wherever a line is found to be one thing
module _ (Found : List Frame → List ℕ → Result Frame Refusal → Type 0)
    (found-once : (before : List Frame) (line : List ℕ) (r q : Result Frame Refusal) → Found before line r → Found before line q → r ≡ q) where
  pub once-by : {before : List Frame} {ls : List (List ℕ)} {v w : Verdict} → ReadingBy Found before ls v → ReadingBy Found before ls w → v ≡ w
  once-by empty empty = refl
  once-by (whole f fs) (whole g gs) = refl
  once-by (stopped before l ls r h) (stopped b m ms q k) = let e = found-once before l _ _ h k in cc
  once-by (stopped before l ls r h) (onward b m ms f w k rest) = let e = found-once before l _ _ h k in absurd cc
  once-by (onward b m ms f w k rest) (stopped before l ls r h) = let e = found-once before l _ _ h k in absurd cc
  once-by (onward before l ls f v h rest) (onward b m ms g w k rest') =
      let e = found-once before l _ _ h k in
      let d : f ≡ g = cc in
      once-by (rw d at rest) rest'

pub reading-once : {before : List Frame} {ls : List (List ℕ)} {v w : Verdict} → Reading before ls v → Reading before ls w → v ≡ w
reading-once = once-by Finds (λ before line r q a b. finds-once a b)

-- THEOREM: two outcomes of reading some lines are equal
pub reads-once : {ls : List (List ℕ)} {r q : Result (Unit {0}) Fault} {x y : File} → ReadsFile ls r x → ReadsFile ls q y → (r ≡ q) × (x ≡ y)
reads-once a b =
    let e = reading-once a.reading b.reading in
    (a.told ∙ ap told_of e ∙ sym b.told, a.kept ∙ ap (λ v. file_of (frames_of v)) e ∙ sym b.kept)

-- What is known of a sound input: each of its lines is read, and its list is accepted.
use Rattle.std.specs.Prelude.{ℕ, ◌≡◌, ◌≢◌, ◌⊎◌, refl, true, false, List, []}
use Rattle.std.proofs.Common.{sym, ◌∙◌, subst, inr, ⊎_elim}
use Rattle.meaning.specs.Model.{Contradiction}
use Rattle.expression.specs.Listed.{Listed}
use Rattle.frames.specs.declared.Frame.{Frame}
use Rattle.reading.specs.Tables.{list_in, salvages}
use Rattle.reading.specs.File.{file_of, IsQuestionOf}
use Rattle.reading.specs.Reading.{Verdict, sound, Reading}
use Rattle.reading.proofs.Questions.{question-once}
use Rattle.intake.specs.Verdicts.{collection_read, IsListing, Accepted, no-list, contradiction, listing, Verdicts, by-line, by-list, accepted}

found : {ls : List (List ℕ)} {v : Verdict} → Verdicts ls v → (fs : List Frame) → v ≡ sound fs → Reading [] ls (sound fs) × Accepted fs
found (by-line before r h) fs e = absurd cc
found (by-list gs k h d) fs e = absurd cc
found (accepted gs h a) fs e = let d : gs ≡ fs = cc in (rw d at h, rw d at a)

module _ {ls : List (List ℕ)} {fs : List Frame} (s : Verdicts ls (sound fs)) where
  pub sound-read : Reading [] ls (sound fs)
  sound-read = (found s fs refl).0

  pub sound-accepted : Accepted fs
  sound-accepted = (found s fs refl).1

-- an accepted list, where there is one and it is looked at, is that of the sheet
module _ (fs : List Frame) (q : Listed) (is : IsQuestionOf fs q) where
  pub looked-listing : Accepted fs → list_in fs ≢ [] → (salvages fs ≡ true) ⊎ (Contradiction (collection_read fs q) → ⊥)
      → IsListing (collection_read fs q) (list_in fs)
  looked-listing (no-list e) given looked = absurd (given e)
  looked-listing (contradiction r h p c) given looked =
      absurd (⊎_elim (λ e. let x : true ≡ false = sym e ∙ p in cc)
      (λ n. n (subst (λ (p : Listed). Contradiction (collection_read fs p)) (question-once (file_of fs) r q h is) c)) looked)
  looked-listing (listing r h l) given looked =
      subst (λ (p : Listed). IsListing (collection_read fs p) (list_in fs)) (question-once (file_of fs) r q h is) l

  pub its-listing : Accepted fs → list_in fs ≢ [] → (Contradiction (collection_read fs q) → ⊥) → IsListing (collection_read fs q) (list_in fs)
  its-listing a given sane = looked-listing a given (inr sane)

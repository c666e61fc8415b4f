-- The lines of a list, as its rounds are told.
use Rattle.std.specs.Prelude.{ℕ, suc, ◌≡◌, refl, List, [], ◌∷◌, ◌++◌, map}
use Rattle.std.proofs.Common.{sym, ap, ap₂, ◌∙◌}
use Rattle.std.proofs.lemmas.List.{map-append}
use Rattle.kinds.specs.declared.State.{State}
use Rattle.kinds.specs.declared.Concept.{Concept}
use Rattle.sheet.specs.declared.round_marks.RoundMarks.{RoundMarks}
use Rattle.frames.specs.declared.Frame.{Frame}
use Rattle.frames.specs.declared.Frame.TheVariants.{ListedMark}
use Rattle.meaning.specs.Collection.{Collection}
use Rattle.meaning.specs.Listing.{numbered_lite}
use Rattle.theory.specs.Listing.{entries_from}
use Rattle.reading.specs.Tables.{frame_of}
use Rattle.sheet.specs.Told.{Told, Failed, none, next}
use Rattle.file.proofs.Listening.{texts}
use Rattle.fair_copy.specs.Copy.{frames_text}
use Rattle.fair_copy.proofs.Putting.{text-append, text_none}
use Rattle.listing.specs.Held.{round_frames}

-- what is told by one account is told by another that follows from it
module _ {S : Type 0} {H K : S → ℕ → RoundMarks → S → Type 0}
    (so : (a : S) (n : ℕ) (m : RoundMarks) (b : S) → H a n m b → K a n m b) where
  pub told-so : {from to : S} {rounds : List RoundMarks} → Told H from rounds to → Told K from rounds to
  told-so none = none
  told-so (next t h) = next (told-so t) (so _ _ _ _ h)

  pub failed-so : {E : Type 0} {F G : S → ℕ → RoundMarks → E → S → Type 0}
      → ((a : S) (n : ℕ) (m : RoundMarks) (e : E) (b : S) → F a n m e b → G a n m e b)
      → {from to : S} {rounds : List RoundMarks} {e : E} → Failed H F from rounds e to → Failed K G from rounds e to
  failed-so fails w =
      record { before = w.before; last = w.last; all = w.all; at = w.at; told = told-so w.told; failed = fails _ _ _ _ _ w.failed }

module _ (𝓒 : Collection) where
  round-entries : (n : ℕ) (marks : RoundMarks)
      → map frame_of (map (λ (m : State × State × Concept). (n, m.0, m.1, m.2)) marks) ≡ round_frames n marks
  round-entries n [] = refl
  round-entries n (m ∷ marks) = ap (λ (fs : List Frame). ListedMark n m.0 m.1 m.2 ∷ fs) (round-entries n marks)

  -- THEOREM: the lines of the marks of each round, one round after another, are those of the rounds' entries
  pub texts-entries : (n : ℕ) (rounds : List RoundMarks) → texts (λ n marks. frames_text (round_frames n marks)) n rounds
      ≡ frames_text (map frame_of (entries_from (numbered_lite 𝓒) n rounds))
  texts-entries n [] = sym text_none
  texts-entries n (marks ∷ rounds) =
      let first = map (λ (m : State × State × Concept). (n, m.0, m.1, m.2)) marks in
      let on = entries_from (numbered_lite 𝓒) (suc n) rounds in
      ap₂ (λ (x y : List ℕ). x ++ y) (ap frames_text (sym (round-entries n marks))) (texts-entries (suc n) rounds)
      ∙ sym (ap frames_text (map-append _ first on) ∙ text-append (map frame_of first) (map frame_of on))

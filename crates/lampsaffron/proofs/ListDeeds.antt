-- With tables that differ only in deed numbers the list of the closed sheet is the same, and so is where another departs from it.
use Rattle.std.specs.Prelude.{◌≡◌, List, ℕ}
use Rattle.std.proofs.Common.{subst}
use Rattle.kinds.specs.declared.Counts.{Counts}
use Rattle.laws.specs.First.{fails, holds}
use Rattle.meaning.specs.Collection.{NumbersDeclared}
use Rattle.meaning.specs.Deeds.{SameButDeeds}
use Rattle.meaning.specs.Lent.{Tables, collection, NumbersFit}
use Rattle.meaning.specs.Listing.{numbered_lite}
use Rattle.meaning.specs.Model.{Contradiction}
use Rattle.meaning.proofs.DeedLaws.{one-collection, turned, shapes_kept}
use Rattle.theory.specs.Listing.{Listing}
use Rattle.lampsaffron.specs.Listing.{Left, ListingNumber, TellsListing}
use Rattle.lampsaffron.specs.Departs.{list_entries, HeldNumber, DepartsNumber, TellsDeparture}

module _ (c : Counts) (t u : Tables) (s : SameButDeeds t u) where
  one : collection c t ≡ collection c u
  one = one-collection c t u s

  numbers-to : NumbersFit c t → NumbersFit c u
  numbers-to f = record { declared = subst NumbersDeclared one f.declared; step-kinds = rw (← s.steps) f.step-kinds }

module _ (c : Counts) (t u : Tables) (s : SameButDeeds t u) where
  same : collection c t ≡ collection c u
  same = one c t u s

  back : SameButDeeds u t
  back = turned s

  listing-number : {room n : ℕ} → ListingNumber c t room n → ListingNumber c u room n
  listing-number (fails n) = fails n
  listing-number (holds a (fails n)) = holds a (fails n)
  listing-number (holds a (holds b (fails n))) = holds a (holds b (fails (λ h. n (shapes_kept back h))))
  listing-number (holds a (holds b (holds h (fails n)))) =
      holds a (holds b (holds (shapes_kept s h) (fails (λ f. n (numbers-to c u t back f)))))
  listing-number (holds a (holds b (holds h (holds n (fails k))))) =
      holds a (holds b (holds (shapes_kept s h) (holds (numbers-to c t u s n) (fails (subst (λ 𝓒. (Contradiction 𝓒 → ⊥) → ⊥) same k)))))
  listing-number (holds a (holds b (holds h (holds n (holds k q))))) =
      holds a (holds b (holds (shapes_kept s h) (holds (numbers-to c t u s n) (holds (subst (λ 𝓒. Contradiction 𝓒 → ⊥) same k) q))))

  -- THEOREM: the same number, and the same list
  pub listing-deeds : {old new : Left} {number : ℕ} → TellsListing c t old number new → TellsListing c u old number new
  listing-deeds m = record {
    number_is = listing-number m.number_is;
    told = λ e. let w = m.told e in (w.0, subst (λ 𝓒. Listing (numbered_lite 𝓒) w.0) same w.1, w.2);
    kept = m.kept;
  }

  held-number : (list : List ℕ) {n : ℕ} → HeldNumber c t list n → HeldNumber c u list n
  held-number list (fails k) = fails (subst (λ 𝓒. (Contradiction 𝓒 → ⊥) → ⊥) same k)
  held-number list (holds k (fails n)) =
      holds (subst (λ 𝓒. Contradiction 𝓒 → ⊥) same k) (fails (subst (λ 𝓒. Listing (numbered_lite 𝓒) (list_entries list) → ⊥) same n))
  held-number list (holds k (holds h q)) =
      holds (subst (λ 𝓒. Contradiction 𝓒 → ⊥) same k) (holds (subst (λ 𝓒. Listing (numbered_lite 𝓒) (list_entries list)) same h) q)

  departs-number : (list : List ℕ) {n : ℕ} → DepartsNumber c t list n → DepartsNumber c u list n
  departs-number list (fails n) = fails n
  departs-number list (holds a (fails n)) = holds a (fails n)
  departs-number list (holds a (holds w (fails n))) = holds a (holds w (fails (λ h. n (shapes_kept back h))))
  departs-number list (holds a (holds w (holds h (fails n)))) =
      holds a (holds w (holds (shapes_kept s h) (fails (λ f. n (numbers-to c u t back f)))))
  departs-number list (holds a (holds w (holds h (holds n (fails d))))) =
      holds a (holds w (holds (shapes_kept s h) (holds (numbers-to c t u s n) (fails d))))
  departs-number list (holds a (holds w (holds h (holds n (holds d k))))) =
      holds a (holds w (holds (shapes_kept s h) (holds (numbers-to c t u s n) (holds d (held-number list k)))))

  -- THEOREM: the same number, and the same place
  pub departs-deeds : {list : List ℕ} {old number new : ℕ} → TellsDeparture c t list old number new → TellsDeparture c u list old number new
  departs-deeds {list} m = record {
    number_is = departs-number list m.number_is;
    departs = λ e. let w = m.departs e in (w.0, subst (λ 𝓒. Listing (numbered_lite 𝓒) w.0) same w.1, w.2);
    kept = m.kept;
  }

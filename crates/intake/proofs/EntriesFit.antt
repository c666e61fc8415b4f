-- The entries of the listing of a file's sheet: each is one that a line can say and a file takes, and there is room for all.
use Rattle.std.specs.Prelude.{ℕ, ◌*◌, ◌^◌, ◌≤◌, ◌<◌, List, length}
use Rattle.std.proofs.Common.{arith}
use Rattle.std.proofs.lemmas.List.Elements.{All-from_recursion}
use Rattle.laws.specs.Member.{◌∈◌}
use Rattle.kinds.specs.declared.Counts.{Counts}
use Rattle.kinds.specs.declared.State.{State}
use Rattle.kinds.specs.declared.Concept.{Concept}
use Rattle.kinds.specs.declared.Concept.TheVariants.{Name, Exists}
use Rattle.kinds.specs.Kinds.{number_of, concept-number, CountsFit, StateDeclared, ConceptDeclared}
use Rattle.meaning.specs.Collection.{Collection, WellFormed}
use Rattle.meaning.specs.Demands.{most_rounds}
use Rattle.meaning.proofs.ListingLaws.{most-entries, entry-fits, lite-length}
use Rattle.meaning.proofs.Demands.{most-rounds}
use Rattle.frames.specs.Written.{Field, fields, frame_bytes, FitsLine}
use Rattle.reading.specs.Tables.{Entry, frame_of, most_listed}
use Rattle.intake.specs.Verdicts.{IsListing}
use Rattle.intake.proofs.EndingLaws.{IsEntry}

abbrev Fits : Field → Type 0
Fits x = x.number < 2 ^ (8 * x.width)

module _ (c : Counts) (fit : CountsFit c) where
  number-small : (B : Concept) → ConceptDeclared c B → number_of B < 2 ^ 8
  unfolding number_of
  number-small (Name A) h = omega (arith, fit.names)
  number-small (Exists R) h = omega (arith, fit.roles)

  -- an entry whose mark is declared, of a round that may be needed
  fits_line : (n : ℕ) (s t : State) (B : Concept) → n ≤ most_rounds c → StateDeclared c s → StateDeclared c t → ConceptDeclared c B
      → FitsLine (frame_of (n, s, t, B))
  unfolding frame_bytes
  fits_line n s t B h i j k = record {
    numbers =
        All-from_recursion Fits (fields (frame_of (n, s, t, B)))
        (omega (arith, most-rounds c fit), (omega (arith, fit.states), (omega (arith, fit.states), (number-small B k, tt))));
    concepts = concept-number c fit.names B k;
    short = omega arith;
  }

module _ (𝓒 : Collection) (ok : WellFormed 𝓒) (its : List Entry) (lists : IsListing 𝓒 its) where
  -- THEOREM: the entries of the listing are of declared numbers, and a line can say each
  pub are-entries : (e : Entry) → e ∈ its → IsEntry 𝓒.counts e
  are-entries (n, s, t, B) m =
      let f = entry-fits 𝓒 ok its lists n s t B m in
      let v = f.valid in
      record {
        declared = (v.from, v.to, v.of);
        fits = fits_line 𝓒.counts ok.counts n s t B f.round v.from v.to v.of;
      }

  -- THEOREM: and they are no more than a list may have
  pub few-entries : length its ≤ most_listed
  few-entries = let a = lite-length 𝓒 ok its lists in let b = most-entries 𝓒.counts ok.counts in omega arith

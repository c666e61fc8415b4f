-- A collection has one list, of which each entry fits a line.
use Rattle.std.specs.Prelude.{◌*◌, ◌^◌, ◌<◌, ◌≤◌, ◌≡◌, refl, Bool, true, false, List, [], ◌∷◌, length}
use Rattle.std.proofs.Common.{arith}
use Rattle.std.proofs.lemmas.List.Elements.{All-nil, All-cons}
use mathlib.Core.List.Memᴰ
use Rattle.laws.specs.Member.{◌∈◌}
use Rattle.kinds.specs.declared.Concept.{Concept}
use Rattle.kinds.specs.declared.Concept.TheVariants.{Name, Exists}
use Rattle.kinds.specs.declared.Counts.{Counts}
use Rattle.kinds.specs.Kinds.{number_of, concept-number, CountsFit, ConceptDeclared}
use Rattle.meaning.specs.Collection.{Collection, WellFormed}
use Rattle.meaning.specs.LawsOfListing.{EntryFits}
use Rattle.meaning.specs.Listing.{numbered_lite}
use Rattle.meaning.proofs.ClashLaws.{clash-is}
use Rattle.meaning.proofs.Demands.{most-rounds}
use Rattle.meaning.proofs.ListingLaws.{most-entries, lite-listing, entry-fits, lite-length}
use Rattle.meaning.proofs.Reply.{clash}
use Rattle.theory.proofs.ListingLaws.{listing-once}
use Rattle.frames.specs.Written.{Field, byte, rounds, FitsLine, frame_bytes}
use Rattle.reading.specs.Tables.{Entry, frame_of}
use Rattle.listing.specs.Lists.{IsListOf, no-sheet, of-sheet}

-- the number of a declared concept goes into a byte
concept-small : (c : Counts) → CountsFit c → (B : Concept) → ConceptDeclared c B → number_of B < 2 ^ 8
unfolding number_of
concept-small c fit (Name A) d = omega (arith, fit.names, d)
concept-small c fit (Exists R) d = omega (arith, fit.roles, d)

module _ (𝓒 : Collection) where
  -- THEOREM: one list at most,
  pub list-once : {x y : List Entry} → IsListOf 𝓒 x → IsListOf 𝓒 y → x ≡ y
  list-once (no-sheet c) (no-sheet d) = refl
  list-once (no-sheet c) (of-sheet sane l) = absurd (sane c)
  list-once (of-sheet sane l) (no-sheet c) = absurd (sane c)
  list-once (of-sheet {list = x} s l) (of-sheet {list = y} t m) = listing-once (numbered_lite 𝓒) x y l m

  module _ (ok : WellFormed 𝓒) where
    -- THEOREM: and there is one,
    pub list-there : (list : List Entry) × IsListOf 𝓒 list
    list-there = by (clash 𝓒) refl
      where
        by : (b : Bool) → clash 𝓒 ≡ b → (list : List Entry) × IsListOf 𝓒 list
        by true e = ([], no-sheet ((clash-is 𝓒 ok).0 e))
        by false e = let l = lite-listing 𝓒 ok in (l.0, of-sheet (λ c. let d = (clash-is 𝓒 ok).1 c in cc) l.1)

    -- THEOREM: of at most 131,072 entries,
    pub list-few : {list : List Entry} → IsListOf 𝓒 list → length list ≤ 131072
    list-few (no-sheet c) = omega arith
    list-few (of-sheet {list = list} sane l) = omega (arith, lite-length 𝓒 ok list l, most-entries 𝓒.counts ok.counts)

    pub list-fits : {list : List Entry} → IsListOf 𝓒 list → (e : Entry) → e ∈ list → EntryFits 𝓒 e.0 e.1 e.2 e.3
    list-fits (no-sheet c) e m = absurd (Memᴰ.not-nil m)
    list-fits (of-sheet {list = list} sane l) e m = entry-fits 𝓒 ok list l e.0 e.1 e.2 e.3 m

    -- THEOREM: each of which fits a line
    pub entry-lined : {list : List Entry} → IsListOf 𝓒 list → (e : Entry) → e ∈ list → FitsLine (frame_of e)
    unfolding frame_bytes
    entry-lined l e m =
        let w = list-fits l e m in
        let v = w.valid in
        let InField : Field → Type 0 = λ x. x.number < 2 ^ (8 * x.width) in
        let B = byte (number_of e.3) ∷ [] in
        let tB = byte e.2.0 ∷ B in
        record {
          numbers =
              All-cons InField (rounds e.0) (byte e.1.0 ∷ tB) (omega (arith, w.round, most-rounds 𝓒.counts ok.counts))
              (All-cons InField (byte e.1.0) tB (omega (arith, v.from, ok.counts.states))
              (All-cons InField (byte e.2.0) B (omega (arith, v.to, ok.counts.states))
              (All-cons InField (byte (number_of e.3)) [] (concept-small 𝓒.counts ok.counts e.3 v.of) (All-nil InField))));
          concepts = concept-number 𝓒.counts ok.counts.names e.3 v.of;
          short = omega arith;
        }

-- Two files that are the same collection have the same list.
use Rattle.std.specs.Prelude.{ℕ, List}
use Rattle.std.proofs.Common.{sym, subst}
use Rattle.kinds.specs.declared.Counts.{Counts}
use Rattle.kinds.specs.declared.State.{State}
use Rattle.kinds.specs.declared.Concept.{Concept}
use Rattle.meaning.specs.Collection.{WellFormed}
use Rattle.meaning.specs.Demands.{Larger}
use Rattle.meaning.specs.Lent.{Tables, collection}
use Rattle.meaning.specs.Listing.{numbered_lite}
use Rattle.meaning.specs.SameSets.{SameSets}
use Rattle.meaning.proofs.Larger.{contradiction-grows}
use Rattle.theory.specs.Listing.{FirstIn, Listing}
use Rattle.sorted.proofs.SetLaws.{same-to-the-library}
use Rattle.expression.specs.Listed.{Listed}
use Rattle.frames.specs.declared.Frame.{Frame}
use Rattle.reading.specs.Tables.{Entry, declared_by}
use Rattle.reading.specs.File.{tables_of, asked}
use Rattle.intake.specs.Verdicts.{collection_read}
use Rattle.fair_copy.specs.Laws.{SameCollection}
use Rattle.fair_copy.proofs.Answering.{its-shapes, its-form}
use Rattle.fair_copy.proofs.Rounds.{marks}
use Rattle.fair_copy.proofs.Stands.{AreWhole}
use Rattle.listing.specs.Lists.{IsListOf, no-sheet, of-sheet}

module _ (c : Counts) (t u : Tables) (more : Larger (collection c t) (collection c u))
    (fewer : Larger (collection c u) (collection c t)) where
  first-kept : (n : ℕ) (s v : State) (B : Concept) → FirstIn (numbered_lite (collection c t)) n s v B
      → FirstIn (numbered_lite (collection c u)) n s v B
  first-kept n s v B f = record {
    stands = (marks c t u more fewer n s v B).0 f.stands;
    no_sooner = λ m h k. f.no_sooner m h ((marks c t u more fewer m s v B).1 k);
  }

  first-back : (n : ℕ) (s v : State) (B : Concept) → FirstIn (numbered_lite (collection c u)) n s v B
      → FirstIn (numbered_lite (collection c t)) n s v B
  first-back n s v B f = record {
    stands = (marks c t u more fewer n s v B).1 f.stands;
    no_sooner = λ m h k. f.no_sooner m h ((marks c t u more fewer m s v B).0 k);
  }

  listing-kept : (list : List Entry) → Listing (numbered_lite (collection c t)) list → Listing (numbered_lite (collection c u)) list
  listing-kept list l = record {
    sorted = l.sorted;
    are = λ n s v B. (λ m. first-kept n s v B ((l.are n s v B).0 m), λ f. (l.are n s v B).1 (first-back n s v B f));
  }

  -- THEOREM: two collections with the same counts, each larger than the other, have the same list
  pub list-kept : WellFormed (collection c t) → WellFormed (collection c u) → {list : List Entry} → IsListOf (collection c t) list
      → IsListOf (collection c u) list
  list-kept a b (no-sheet h) = no-sheet (contradiction-grows more a b h)
  list-kept a b (of-sheet {list = list} sane l) = of-sheet (λ h. sane (contradiction-grows fewer b a h)) (listing-kept list l)

module _ (fs : List Frame) (q : Listed) (w : AreWhole fs q) (gs : List Frame) (r : Listed) (v : AreWhole gs r)
    (s : SameCollection fs q gs r) where
  sets : SameSets (asked fs q 0) (tables_of gs r)
  sets = same-to-the-library (asked fs q 0) (tables_of gs r) (its-shapes w) (its-shapes v) s.records

  -- THEOREM: so that files of the same collection have the same
  pub list-same : {list : List Entry} → IsListOf (collection_read fs q) list → IsListOf (collection_read gs r) list
  list-same {list} l =
      let formed = subst (λ (c : Counts). WellFormed (collection c (tables_of gs r))) (sym s.declared) (its-form v) in
      subst (λ (c : Counts). IsListOf (collection c (tables_of gs r)) list) s.declared
      (list-kept (declared_by fs) (tables_of fs q) (tables_of gs r) sets.more sets.fewer (its-form w) formed l)

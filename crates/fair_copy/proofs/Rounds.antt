-- Two collections with the same counts, each larger than the other, have the same marks after every round, need the same rounds, and each
-- of these adds as many marks; and both are contradictions, or neither is.
use Rattle.std.specs.Prelude.{◌↔◌, ℕ, suc, List, slice_index}
use Rattle.kinds.specs.declared.Counts.{Counts}
use Rattle.kinds.specs.declared.State.{State}
use Rattle.kinds.specs.declared.Concept.{Concept}
use Rattle.laws.specs.Rounds.{least-same}
use Rattle.meaning.specs.Demands.{Larger}
use Rattle.meaning.specs.Lent.{Tables, collection}
use Rattle.meaning.specs.Lite.{lite}
use Rattle.meaning.proofs.Larger.{lite-grows}
use Rattle.theory.specs.Sheet.{Mark, Unchanged, Needed}
use Rattle.theory.specs.Marks.{Added, Adds, RoundCounts}
use Rattle.theory.proofs.MarksGrow.{mark-grows}

module _ (c : Counts) where
  marks-kept : (t u : Tables) → Larger (collection c t) (collection c u) → (n : ℕ) (s v : State) (B : Concept)
      → Mark (lite (collection c t)) n s v B → Mark (lite (collection c u)) n s v B
  marks-kept t u more = mark-grows (lite-grows more) (λ s t B m. record { from = m.from; to = m.to; of = m.of })

  module _ (t u : Tables) (more : Larger (collection c t) (collection c u)) (fewer : Larger (collection c u) (collection c t)) where
    pub marks : (n : ℕ) (s v : State) (B : Concept) → Mark (lite (collection c t)) n s v B ↔ Mark (lite (collection c u)) n s v B
    marks n s v B = (marks-kept t u more n s v B, marks-kept u t fewer n s v B)

    pub needed-same : (n : ℕ) → Needed (lite (collection c t)) n → Needed (lite (collection c u)) n
    needed-same =
        least-same (Unchanged (lite (collection c t))) (Unchanged (lite (collection c u)))
        (λ n still a b B m. (marks n a b B).0 (still a b B ((marks (suc n) a b B).1 m)))
        (λ n still a b B m. (marks n a b B).1 (still a b B ((marks (suc n) a b B).0 m)))

    added-same : (n : ℕ) (s v : State) (B : Concept) → Added (lite (collection c t)) n s v B → Added (lite (collection c u)) n s v B
    added-same n s v B a = record { then = (marks (suc n) s v B).0 a.then; before = λ m. a.before ((marks n s v B).1 m) }

    added-back : (n : ℕ) (s v : State) (B : Concept) → Added (lite (collection c u)) n s v B → Added (lite (collection c t)) n s v B
    added-back n s v B a = record { then = (marks (suc n) s v B).1 a.then; before = λ m. a.before ((marks n s v B).0 m) }

    adds-same : (n m : ℕ) → Adds (lite (collection c t)) n m → Adds (lite (collection c u)) n m
    adds-same n m a = record {
      marks = a.marks;
      once = a.once;
      are = λ s v B. (λ i. added-same n s v B ((a.are s v B).0 i), λ i. (a.are s v B).1 (added-back n s v B i));
      many = a.many;
    }

    pub counts-same : (n : ℕ) (counts : List ℕ) → RoundCounts (lite (collection c t)) n counts
        → RoundCounts (lite (collection c u)) n counts
    counts-same n counts r = record { long = r.long; each = λ k h. adds-same k (slice_index counts k) (r.each k h) }

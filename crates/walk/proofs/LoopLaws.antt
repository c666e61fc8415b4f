-- The tables of loops, as they are made.
use Rattle.std.specs.Prelude.{ℕ, List, [], ◌≡◌, ◌↔◌, ◌+◌, ◌^◌, ◌<◌, ◌≤◌, Bool, IsTrue, length, get_or, set, replicate}
use Rattle.std.proofs.Common.{sym, ap, ◌∙◌, arith, length-set, get_or-set_same, get_or-set_other, below_more, ext_get_or}
use Rattle.std.proofs.lemmas.List.{length-replicate, get_or-replicate}
use Rattle.kinds.specs.Kinds.{most_individuals, most_states}
use Rattle.sets.proofs.Laws.{past}
use Rattle.sets.specs.Bits.{Has, Meets, IsEmpty, IsSetOf, concept_width}
use Rattle.sets.specs.declared.states.StateSet.{StateSet}
use Rattle.sets.specs.declared.concepts.ConceptSet.{ConceptSet}
use Rattle.sets.specs.Relations.{concepts_at, pair, states_at, relation_at}
use Rattle.sets.specs.Rows.{no_states}
use Rattle.walk.specs.Loops.{LoopTo, IsLoopRow, AreLoops}
use Rattle.walk.proofs.SetLaws.{none_has, same_sets, states_at-set_same, states_at-set_other}

-- by the code's test
pub loop_test : (sheet : List ConceptSet) (concepts s t : ℕ) (on : Bool) → concepts < 2 ^ concept_width → t < most_states
    → IsTrue on ↔ Meets (concepts_at sheet (pair s t)) concepts → IsTrue on ↔ LoopTo sheet concepts s t
loop_test sheet concepts s t on fits h w = (
  λ e. let m = w.0 e in record { state = h; concept = m.0; low = past concept_width concepts m.0 fits m.2; marked = m.1; has = m.2 },
  λ l. w.1 (l.concept, l.marked, l.has),
)

-- the sets of the states below i are made
pub record RowMade (sheet : List ConceptSet) (concepts i : ℕ) (row : List StateSet) : Type 0 where
  pub long : length row ≡ most_states
  pub at : (s t : ℕ) → s < i → Has (states_at row s) t ↔ LoopTo sheet concepts s t

-- the rows of the individuals below i are made
pub record LoopsMade (individuals : List ConceptSet) (sheet : List ConceptSet) (i : ℕ) (rows : List (List StateSet)) : Type 0 where
  pub long : length rows ≡ most_individuals
  pub each : (a : ℕ) → a < i → length (relation_at rows a) ≡ most_states
  pub at : (a s t : ℕ) → a < i → s < most_states → Has (states_at (relation_at rows a) s) t ↔ LoopTo sheet (concepts_at individuals a) s t

abbrev pub no_row : List StateSet
no_row = replicate most_states no_states

module _ (sheet : List ConceptSet) (concepts : ℕ) where
  pub row_none : RowMade sheet concepts 0 no_row
  row_none = record { long = length-replicate {A = StateSet} most_states no_states; at = λ s t h. absurd (omega arith) }

  pub row_more : (i : ℕ) (row : List StateSet) (v : StateSet) → RowMade sheet concepts i row → i < most_states
      → IsSetOf (LoopTo sheet concepts i) v.0 → RowMade sheet concepts (i + 1) (set row i v)
  row_more i row v w h g = record {
    long = length-set row i v ∙ w.long;
    at = λ s t k.
        below_more (λ s. Has (states_at (set row i v) s) t ↔ LoopTo sheet concepts s t) i
        (λ s l. rw (states_at-set_other row i s v (λ e. omega arith)) (w.at s t l))
        (rw (states_at-set_same row i v (omega (arith, w.long))) (g.member t)) s k;
  }

  pub row_all : (i : ℕ) (row : List StateSet) → RowMade sheet concepts i row → most_states ≤ i → IsLoopRow sheet concepts row
  row_all i row w h = record { long = w.long; at = λ s t k. w.at s t (omega arith) }

  -- with no concept there is no loop
  pub row_empty : IsEmpty concepts → IsLoopRow sheet concepts no_row
  row_empty none = record {
    long = length-replicate {A = StateSet} most_states no_states;
    at = λ s t h. (
      λ p. absurd (none_has t (rw (ap (λ (x : StateSet). x.0) (get_or-replicate {A = StateSet} most_states s no_states no_states h)) at p)),
      λ w. absurd (none w.concept w.has),
    );
  }

module _ (individuals : List ConceptSet) (sheet : List ConceptSet) where
  pub loops_none : (rows : List (List StateSet)) → length rows ≡ most_individuals → LoopsMade individuals sheet 0 rows
  loops_none rows l = record { long = l; each = λ a h. absurd (omega arith); at = λ a s t h. absurd (omega arith) }

  pub loops_more : (i : ℕ) (rows : List (List StateSet)) (v : List StateSet) → LoopsMade individuals sheet i rows → i < most_individuals
      → IsLoopRow sheet (concepts_at individuals i) v → LoopsMade individuals sheet (i + 1) (set rows i v)
  loops_more i rows v w h g = record {
    long = length-set rows i v ∙ w.long;
    each = below_more (λ a. length (relation_at (set rows i v) a) ≡ most_states) i
        (λ a l. rw (get_or-set_other rows i a v [] (λ e. omega arith)) (w.each a l))
        (rw (get_or-set_same rows i v [] (omega (arith, w.long))) g.long);
    at = λ a s t k hs.
        below_more (λ a. Has (states_at (relation_at (set rows i v) a) s) t ↔ LoopTo sheet (concepts_at individuals a) s t) i
        (λ a l. rw (get_or-set_other rows i a v [] (λ e. omega arith)) (w.at a s t l hs))
        (rw (get_or-set_same rows i v [] (omega (arith, w.long))) (g.at s t hs)) a k;
  }

  pub loops_all : (i : ℕ) (rows : List (List StateSet)) → LoopsMade individuals sheet i rows → most_individuals ≤ i
      → AreLoops individuals sheet rows
  loops_all i rows w h = record { long = w.long; each = λ a k. w.each a (omega arith); at = λ a s t k. w.at a s t (omega arith) }

-- THEOREM: the contract of the loops leaves one table
pub loops-once : (individuals sheet : List ConceptSet) (r q : List (List StateSet)) → AreLoops individuals sheet r
    → AreLoops individuals sheet q → r ≡ q
loops-once individuals sheet r q v w = ext_get_or [] r q (v.long ∙ sym w.long) (λ a h. row a (let l = v.long in omega arith))
  where
    row : (a : ℕ) → a < most_individuals → relation_at r a ≡ relation_at q a
    row a h = ext_get_or no_states (relation_at r a) (relation_at q a) (v.each a h ∙ sym (w.each a h))
        (λ s k. set s (let l = v.each a h in omega arith))
      where
        set : (s : ℕ) → s < most_states → get_or (relation_at r a) s no_states ≡ get_or (relation_at q a) s no_states
        set s k = ap (λ (n : ℕ). record { 0 = n }) (same_sets (states_at (relation_at r a) s) (states_at (relation_at q a) s)
            (λ t. (λ x. (w.at a s t h k).1 ((v.at a s t h k).0 x), λ x. (v.at a s t h k).1 ((w.at a s t h k).0 x))))

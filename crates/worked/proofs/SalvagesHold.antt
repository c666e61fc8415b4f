-- The rows of facts that clash hold: the checker computes the marks of each, by a test of contradiction for each fact.
use Rattle.std.specs.Prelude.{◌≡◌, refl, Bool, true, false, List, [], ◌∷◌, T}
use Rattle.std.proofs.Common.{ap₂}
use Rattle.kinds.specs.Kinds.{individual, inverse, number_of, concept_of}
use Rattle.laws.specs.Member.{◌∈◌}
use Rattle.laws.specs.Search.{and, and_left, and_right, any, every, every-out, passes}
use Rattle.laws.specs.Same.{both}
use Rattle.laws.specs.Pairs.{pairs}
use Rattle.laws.specs.Numbers.{upto, numbered}
use Rattle.laws.specs.Fixpoint.{memo, fixpoint, stays, new}
use Rattle.laws.specs.Chain.{via, compose, tab, closing}
use Rattle.meaning.specs.Collection.{WellFormed}
use Rattle.meaning.specs.Lite.{signed_roles, valid_concepts, declared_states}
use Rattle.kinds.specs.declared.Ask.TheVariants.{From}
use Rattle.meaning.specs.Lent.{Call, records}
use Rattle.meaning.proofs.LiteTests.{role_base, role_le, concept_base, concept_le}
use Rattle.meaning.proofs.Reply.{declared_individuals, fact_types, end_types, is_typed, typed_to, individual_has, joins_by, fact_edge, follows, alive_by, alive_at, alive, clash_at, clash_under, concept_clash, clash_between, clash_below, role_clash, clash}
use Rattle.meaning.proofs.Calculate.{counts_fit, concepts_declared, roles_declared, concept_fact_declared, role_fact_declared, numbers_declared, numbers_ok}
use Rattle.meaning.proofs.CalculateLaws.{counts-test, numbers-test}
use Rattle.salvage.specs.Facts.{concept_facts_in, role_facts_in, entries_of}
use Rattle.salvage.proofs.Calculated.{clashes, marks_after, computed}
use Rattle.salvage.proofs.EntryLaws.{collection_declared}
use Rattle.worked.specs.Clashing.{SalvageCase, meant_by, salvage_cases, Salvaged}

abbrev same_mark : Bool → Bool → Bool
same_mark true true = true
same_mark true false = false
same_mark false true = false
same_mark false false = true

unfoldable same_marks : List Bool → List Bool → Bool
same_marks [] [] = true
same_marks [] (b ∷ bs) = false
same_marks (a ∷ rest) [] = false
same_marks (a ∷ rest) (b ∷ bs) = let r = same_marks rest bs in and (same_mark a b) r

unfoldable row_ok : SalvageCase → Bool
row_ok k =
    let b = same_marks (marks_after (meant_by k) (entries_of (meant_by k) k.order) []) k.marks in
    let a = and (numbers_ok k.counts k.tables) b in
    and (counts_fit k.counts) a

rows_compute : every salvage_cases row_ok ≡ true
unfolding every salvage_cases row_ok same_marks clashes marks_after concept_facts_in role_facts_in counts_fit concepts_declared roles_declared concept_fact_declared role_fact_declared numbers_declared numbers_ok records concept_of number_of inverse any upto numbered pairs memo fixpoint stays new via compose tab closing both signed_roles valid_concepts declared_states role_base role_le concept_base concept_le declared_individuals fact_types end_types is_typed typed_to individual_has joins_by fact_edge follows alive_by alive_at alive clash_at clash_under concept_clash clash_between clash_below role_clash clash
rows_compute = refl

marks_same : (l m : List Bool) → T (same_marks l m) → l ≡ m
unfolding same_marks
marks_same [] [] h = refl
marks_same [] (b ∷ bs) h = absurd h
marks_same (a ∷ rest) [] h = absurd h
marks_same (a ∷ rest) (b ∷ bs) h =
    ap₂ (λ (x : Bool) (l : List Bool). x ∷ l) (one a b (and_left (same_mark a b) (same_marks rest bs) h))
    (marks_same rest bs (and_right (same_mark a b) (same_marks rest bs) h))
  where
    one : (x y : Bool) → T (same_mark x y) → x ≡ y
    one true true t = refl
    one true false t = absurd t
    one false true t = absurd t
    one false false t = refl

-- tests of counts and numbers speak of a call
abbrev asked : SalvageCase → Call
asked k = record { counts = k.counts; tables = k.tables; ask = From (individual 0); allowance = 0; area = []; spare = [] }

row_formed : (k : SalvageCase) → T (counts_fit k.counts) → T (numbers_ok k.counts k.tables) → WellFormed (meant_by k)
row_formed k a b = record {
  counts = (counts-test k.counts).0 (passes (counts_fit k.counts) a);
  numbers = ((numbers-test (asked k)).0 (passes (numbers_ok k.counts k.tables) b)).declared;
}

row_holds : (k : SalvageCase) → T (row_ok k) → Salvaged k
unfolding row_ok
row_holds k h =
    let l = entries_of (meant_by k) k.order in
    let b = same_marks (marks_after (meant_by k) l []) k.marks in
    let a = and (numbers_ok k.counts k.tables) b in
    let rest = and_right (counts_fit k.counts) a h in
    let ok = row_formed k (and_left (counts_fit k.counts) a h) (and_left (numbers_ok k.counts k.tables) b rest) in
    let e = marks_same (marks_after (meant_by k) l []) k.marks (and_right (numbers_ok k.counts k.tables) b rest) in
    rw e at (computed (meant_by k) ok l (collection_declared (meant_by k) ok k.order))

pub salvages_hold : (k : SalvageCase) → k ∈ salvage_cases → Salvaged k
salvages_hold k m = row_holds k (every-out salvage_cases row_ok (rw rows_compute tt) m)

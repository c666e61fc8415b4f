-- The laws of the maker of rows: one turn more, and what the last makes.
use Rattle.std.specs.Prelude.{◌≡◌, refl, ◌⊎◌, List, ℕ, ◌+◌, ◌<◌, ◌≤◌, length, get_or, set, replicate, slice_index_or}
use Rattle.std.proofs.Common.{ap, sym, ◌∙◌, inl, inr, ⊎_elim, arith, rules, Bor, ext_get_or}
use Rattle.std.proofs.Math.Decide.{ℕ_discrete}
use Rattle.std.proofs.lemmas.List.{length-replicate}
use Rattle.kinds.specs.declared.SignedRole.{SignedRole}
use Rattle.kinds.specs.Kinds.{base, flip, inverse, state, concept_name}
use Rattle.laws.specs.Fill.{filled_with}
use Rattle.laws.specs.Loops.{nothing_added, add_first, add_same, add_then}
use Rattle.laws.specs.Numbers.{numbered}
use Rattle.meaning.specs.Collection.{Step, step, test}
use Rattle.meaning.specs.Lent.{step_at}
use Rattle.sets.specs.Bits.{Has, IsEmpty, IsOnly, IsUnion, Inserts}
use Rattle.sets.proofs.Laws.{none_has, is_empty}
use Rattle.sets.specs.declared.concepts.ConceptSet.{ConceptSet}
use Rattle.sets.specs.declared.roles.RoleSet.{RoleSet}
use Rattle.sets.specs.declared.states.StateSet.{StateSet}
use Rattle.sets.specs.Rows.{no_concepts, no_roles}
use Rattle.rules.specs.Rows.{most_edges, Gets}
use Rattle.rules.specs.Steps.{Just, Among}
use Rattle.rules.specs.Made.{Passes, AreTests, IsEdgesTo, AreEdgesTo, IsEdge, InsertsIf}
use Rattle.sets.specs.Relations.{relation_at}
use Rattle.rules.proofs.StepLaws.{Reading, reading_start, none_among, among_more, more_among}

-- ---- tests

pub gets_none : (P : ℕ → ℕ → Type 0) (l : List ConceptSet) → ((q k : ℕ) → P q k → ⊥) → Gets P l l
gets_none P l never = record { long = refl; at = λ q k. nothing_added (never q k) }

pub gets_same : {P Q : ℕ → ℕ → Type 0} {l m : List ConceptSet} → ((q k : ℕ) → P q k → Q q k) → ((q k : ℕ) → Q q k → P q k)
    → Gets P l m → Gets Q l m
gets_same to from a = record { long = a.long; at = λ q k. add_same (to q k) (from q k) (a.at q k) }

pub gets_then : {P Q : ℕ → ℕ → Type 0} {l m n : List ConceptSet} → Gets P l m → Gets Q m n → Gets (λ q k. P q k ⊎ Q q k) l n
gets_then a b = record { long = b.long ∙ a.long; at = λ q k. add_then (a.at q k) (b.at q k) }

pub tests_start : (below l : List ConceptSet) (numbers table : Bor (List ℕ)) → table ≡ numbers
    → Reading (λ Is. Gets (Passes Is below) l l) numbers table 0
tests_start below l numbers table e = reading_start e (gets_none _ l (λ q k p. none_among (step_at numbers.now) p.made))

pub tests_more : (f : ℕ → Step) (k : ℕ) (one : Step) (below : List ConceptSet) {l m n : List ConceptSet} → one ≡ f k
    → Gets (Passes (Among (numbered f k)) below) l m → Gets (Passes (Just one) below) m n
    → Gets (Passes (Among (numbered f (k + 1))) below) l n
tests_more f k one below e a b =
    gets_same (λ q B. ⊎_elim (λ x. with q B x (among_more f k one e (inl x.made))) (λ x. with q B x (among_more f k one e (inr x.made))))
    (λ q B x. ⊎_elim (λ y. inl (with q B x y)) (λ y. inr (with q B x y)) (more_among f k one e x.made)) (gets_then a b)
  where
    with : {Is As : Step → Type 0} (q B : ℕ) (p : Passes Is below q B)
        → As (step (state p.s) (test (concept_name p.name)) (state p.t)) → Passes As below q B
    with q B p m = record {
      s = p.s;
      t = p.t;
      name = p.name;
      from_low = p.from_low;
      to_low = p.to_low;
      name_low = p.name_low;
      there = p.there;
      made = m;
      follows = p.follows;
    }

-- a table of so many rows that was filled with the set of no concept
pub all_blank : (n long : ℕ) (new : List ConceptSet) → long ≡ n → new ≡ replicate long no_concepts → new ≡ replicate n no_concepts
all_blank n long new e h = rw e at h

-- all has what the first n rows have
abbrev pub Unites : List ConceptSet → ℕ → ℕ → Type 0
Unites tests n all = (q B : ℕ) → q < n → Has (slice_index_or tests q no_concepts).0 B → Has all B

pub unites_more : (tests : List ConceptSet) (n all more : ℕ) → Unites tests n all
    → IsUnion all (slice_index_or tests n no_concepts).0 more → Unites tests (n + 1) more
unites_more tests n all more w u q B h p = elim (ℕ_discrete q n) [
  | yes e ↦ (u.member B).1 (inr (rw e at p))
  | no ne ↦ (u.member B).1 (inl (w q B (omega arith) p))
]

-- where that is nothing, each row is the set of no concept
pub unites_none : (tests : List ConceptSet) (n long all : ℕ) → length tests ≡ long → long ≤ n → Unites tests n all → IsEmpty all
    → tests ≡ replicate long no_concepts
unites_none tests n long all e few w none =
    ext_get_or no_concepts tests (replicate long no_concepts) (e ∙ sym (length-replicate {A = ConceptSet} long no_concepts)) (λ i h. at i h ∙ sym (filled_with no_concepts long i))
  where
    at : (i : ℕ) → i < length tests → get_or tests i no_concepts ≡ no_concepts
    at i h =
        let z = (is_empty (get_or tests i no_concepts).0).1 (λ B p. none B (w i B (omega (arith, h, e, few)) p)) in
        let z0 : (get_or tests i no_concepts).0 ≡ 0 = search rules in
        ap (λ (n : ℕ). let set : ConceptSet = record { 0 = n } in set) z0

pub tests_are : (steps : List Step) (below tests : List ConceptSet) (n : ℕ)
    → Gets (Passes (Among steps) below) (replicate n no_concepts) tests → AreTests steps below tests
tests_are steps below tests n g = record { at = λ q B. add_first (λ x. none_has B (rw (filled_with no_concepts n q) at x)) (g.at q B) }

-- ---- edges

pub back_is : (R back : SignedRole) → back ≡ inverse R → back.0 ≡ flip R.0
unfolding inverse
back_is R back e = ap (λ (z : SignedRole). z.0) e

abbrev pub EdgesTo : ℕ → RoleSet → Type 0
EdgesTo R set = IsEdgesTo R set.0

pub edges_to_is : (R : SignedRole) (back : SignedRole) (r : ℕ) → R.0 < most_edges → back ≡ inverse R → IsOnly most_edges back.0 r
    → IsEdgesTo R.0 r
edges_to_is R back r h e o = record {
  member = λ i. (
    λ x. let p = (o.member i).0 x in let l = p.1 in let q = p.0 in (omega (arith, back_is R back e, h), omega (arith, back_is R back e, h)),
    λ p. let l = p.0 in let q = p.1 in (o.member i).1 (omega (arith, back_is R back e, h), omega (arith, back_is R back e, h)),
  );
}

pub edges_are : (n : ℕ) (edges : List RoleSet) → ((R : ℕ) → R < most_edges → EdgesTo R (get_or edges R no_roles)) → AreEdgesTo edges
edges_are n edges f = record { at = λ R e h. (f R h).member e }

-- the maker of a set puts in what holds
pub put_in : (P : Type 0) (w k set r : ℕ) → k < w → P → Inserts w set k r → InsertsIf P k set r
put_in P w k set r h p i = record {
  member = λ j. (
    λ x. ⊎_elim (λ y. inl y) (λ y. inr (y.0, p)) ((i.member j).0 x),
    λ x. (i.member j).1 (⊎_elim (λ y. inl y) (λ y. let e = y.0 in inr (e, h)) x),
  );
}

pub edge_is : (below : List ConceptSet) (transitions : List (List StateSet)) (R back : ℕ) → back ≡ flip R
    → IsEdge below transitions R
    (record { parents = get_or below (base + R) no_concepts; down = relation_at transitions R; up = relation_at transitions back })
edge_is below transitions R back e = record { parents = refl; down = refl; up = ap (relation_at transitions) e }

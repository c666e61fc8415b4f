-- Of a fact among facts of both kinds, and of a collection with other facts: more facts clash all the more, whether they
-- clash is known, and without a fact there is no contradiction.
use Rattle.std.specs.Prelude.{◌≡◌, refl, Bool, true, false, ◌↔◌, IsTrue, List, [], ◌∷◌, ℕ}
use Rattle.std.proofs.Common.{sym, ap, ⊎_elim, arith}
use mathlib.Core.List.Memᴰ
use Rattle.kinds.specs.declared.ConceptName.{ConceptName}
use Rattle.kinds.specs.declared.RoleName.{RoleName}
use Rattle.kinds.specs.declared.Individual.{Individual}
use Rattle.kinds.specs.declared.SignedRole.{SignedRole}
use Rattle.kinds.specs.declared.Concept.{Concept}
use Rattle.laws.specs.Member.{◌∈◌, Within}
use Rattle.meaning.specs.Collection.{Collection, Each, WellFormed}
use Rattle.theory.specs.Tree.{root, ◌▹◌}
use Rattle.meaning.specs.Model.{Typed, named, first, second, Belongs, ModelEdge, fact, child, parent, individuals, Element, ahead, behind, Contradiction, at-element, at_pair}
use Rattle.meaning.specs.Demands.{Larger}
use Rattle.meaning.proofs.ModelLaws.{born}
use Rattle.meaning.proofs.Larger.{contradiction-grows}
use Rattle.meaning.proofs.Reply.{clash}
use Rattle.meaning.proofs.ClashLaws.{clash-is}
use Rattle.salvage.specs.Facts.{Fact, of, between, concept_facts_in, role_facts_in, with_facts, FactDeclared}

never : {X : Type 0} (A : ConceptName) (a : Individual) (r : RoleName) (b d : Individual) → of A a ≡ between r b d → X
never A a r b d e = let z : ◌≡◌ {A = ℕ} 0 1 = cc in absurd (omega arith)

same_of : (A B : ConceptName) (a b : Individual) → of A a ≡ of B b → ◌≡◌ {A = ConceptName × Individual} (A, a) (B, b)
same_of A B a b e = let p : A ≡ B = cc in let q : a ≡ b = cc in rw (p, q)

same_between : (r s : RoleName) (a b d e : Individual) → between r a b ≡ between s d e
    → ◌≡◌ {A = RoleName × Individual × Individual} (r, a, b) (s, d, e)
same_between r s a b d e h = let p : r ≡ s = cc in let q : a ≡ d = cc in let v : b ≡ e = cc in rw (p, q, v)

of_same : (A B : ConceptName) (a b : Individual) → ◌≡◌ {A = ConceptName × Individual} (A, a) (B, b) → of A a ≡ of B b
of_same A B a b e = ap (λ (p : ConceptName × Individual). of p.0 p.1) e

between_same : (r s : RoleName) (a b d e : Individual) → ◌≡◌ {A = RoleName × Individual × Individual} (r, a, b) (s, d, e)
    → between r a b ≡ between s d e
between_same r s a b d e h = ap (λ (p : RoleName × Individual × Individual). between p.0 p.1 p.2) h

-- a fact is in the list exactly when it is among the facts of its kind
pub concept_in : (l : List Fact) (A : ConceptName) (a : Individual) → of A a ∈ l → (A, a) ∈ concept_facts_in l
unfolding concept_facts_in
concept_in [] A a m = elim m [ ]
concept_in (of B b ∷ l) A a (Memᴰ.head e) = Memᴰ.head (same_of A B a b e)
concept_in (of B b ∷ l) A a (Memᴰ.tail m) = Memᴰ.tail (concept_in l A a m)
concept_in (between r b d ∷ l) A a (Memᴰ.head e) = never A a r b d e
concept_in (between r b d ∷ l) A a (Memᴰ.tail m) = concept_in l A a m

pub concept_out : (l : List Fact) (A : ConceptName) (a : Individual) → (A, a) ∈ concept_facts_in l → of A a ∈ l
unfolding concept_facts_in
concept_out [] A a m = absurd (Memᴰ.not-nil m)
concept_out (of B b ∷ l) A a m = ⊎_elim (λ e. Memᴰ.head (of_same A B a b e)) (λ k. Memᴰ.tail (concept_out l A a k)) (Memᴰ.cases_cons m)
concept_out (between r b d ∷ l) A a m = Memᴰ.tail (concept_out l A a m)

pub role_in : (l : List Fact) (r : RoleName) (a b : Individual) → between r a b ∈ l → (r, a, b) ∈ role_facts_in l
unfolding role_facts_in
role_in [] r a b m = elim m [ ]
role_in (of B d ∷ l) r a b (Memᴰ.head e) = never B d r a b (sym e)
role_in (of B d ∷ l) r a b (Memᴰ.tail m) = role_in l r a b m
role_in (between s d e ∷ l) r a b (Memᴰ.head h) = Memᴰ.head (same_between r s a b d e h)
role_in (between s d e ∷ l) r a b (Memᴰ.tail m) = Memᴰ.tail (role_in l r a b m)

pub role_out : (l : List Fact) (r : RoleName) (a b : Individual) → (r, a, b) ∈ role_facts_in l → between r a b ∈ l
unfolding role_facts_in
role_out [] r a b m = absurd (Memᴰ.not-nil m)
role_out (of B d ∷ l) r a b m = Memᴰ.tail (role_out l r a b m)
role_out (between s d e ∷ l) r a b m =
    ⊎_elim (λ h. Memᴰ.head (between_same r s a b d e h)) (λ k. Memᴰ.tail (role_out l r a b k)) (Memᴰ.cases_cons m)

module _ (𝓒 : Collection) (ok : WellFormed 𝓒) where
  pub with_facts_formed : (l : List Fact) → Each l (FactDeclared 𝓒.counts) → WellFormed (with_facts 𝓒 l)
  with_facts_formed l g = record {
    counts = ok.counts;
    numbers = record {
      concept-rules = ok.numbers.concept-rules;
      concept-exclusions = ok.numbers.concept-exclusions;
      role-rules = ok.numbers.role-rules;
      role-exclusions = ok.numbers.role-exclusions;
      concept-facts = λ f m. g (of f.0 f.1) (concept_out l f.0 f.1 m);
      role-facts = λ f m. g (between f.0 f.1 f.2) (role_out l f.0 f.1 f.2 m);
      steps = ok.numbers.steps;
      finals = ok.numbers.finals;
    };
  }

with_more : (𝓒 : Collection) (l m : List Fact) → Within l m → Larger (with_facts 𝓒 l) (with_facts 𝓒 m)
with_more 𝓒 l m h = record {
  start = refl;
  concept-rules = λ x k. k;
  concept-exclusions = λ x k. k;
  role-rules = λ x k. k;
  role-exclusions = λ x k. k;
  concept-facts = λ f k. concept_in m f.0 f.1 (h (of f.0 f.1) (concept_out l f.0 f.1 k));
  role-facts = λ f k. role_in m f.0 f.1 f.2 (h (between f.0 f.1 f.2) (role_out l f.0 f.1 f.2 k));
  steps = λ x k. k;
  finals = λ x k. k;
}

module _ (𝓒 : Collection) (ok : WellFormed 𝓒) where
  pub clash_grows : (l m : List Fact) → Each m (FactDeclared 𝓒.counts) → Within l m → Contradiction (with_facts 𝓒 l)
      → Contradiction (with_facts 𝓒 m)
  clash_grows l m g w =
      contradiction-grows (with_more 𝓒 l m w) (with_facts_formed 𝓒 ok l (λ x i. g x (w x i))) (with_facts_formed 𝓒 ok m g)

  pub clash_known : (l : List Fact) → Each l (FactDeclared 𝓒.counts) → Dec (Contradiction (with_facts 𝓒 l))
  clash_known l g = side (clash (with_facts 𝓒 l)) (clash-is (with_facts 𝓒 l) (with_facts_formed 𝓒 ok l g))
    where
      side : (b : Bool) → (IsTrue b ↔ Contradiction (with_facts 𝓒 l)) → Dec (Contradiction (with_facts 𝓒 l))
      side true e = yes (e.0 refl)
      side false e = no (λ c. let f : false ≡ true = e.1 c in cc)

-- without a fact nothing has a concept
module _ (𝓒 : Collection) where
  bare_typed : (a : Individual) (C : Concept) → Typed (with_facts 𝓒 []) a C → ⊥
  unfolding concept_facts_in role_facts_in
  bare_typed a C (named m) = Memᴰ.not-nil m
  bare_typed a C (first m) = Memᴰ.not-nil m
  bare_typed a C (second m) = Memᴰ.not-nil m

  bare_child : (x : Element (with_facts 𝓒 [])) (R : SignedRole) → Belongs (with_facts 𝓒 []) (individuals (with_facts 𝓒 [])) (x ▹ R) → ⊥
  bare_child (root a) R b = let h = (born (with_facts 𝓒 []) (individuals (with_facts 𝓒 [])) b).1 in bare_typed a h.0 h.1
  bare_child (x ▹ Q) R b = bare_child x Q (born (with_facts 𝓒 []) (individuals (with_facts 𝓒 [])) b).0

  bare_edge : {x y : Element (with_facts 𝓒 [])} {S : SignedRole} → ModelEdge (with_facts 𝓒 []) (individuals (with_facts 𝓒 [])) x S y → ⊥
  unfolding role_facts_in
  bare_edge (fact (ahead m l)) = Memᴰ.not-nil m
  bare_edge (fact (behind m l)) = Memᴰ.not-nil m
  bare_edge (child {x = x} {R = R} b l) = bare_child x R b
  bare_edge (parent {x = x} {R = R} b l) = bare_child x R b

  pub nothing_clashes : Contradiction (with_facts 𝓒 []) → ⊥
  nothing_clashes (at-element (root a) C D m b h k) = bare_typed a h.0 h.1
  nothing_clashes (at-element (x ▹ R) C D m b h k) = bare_child x R b
  nothing_clashes (at_pair x y R S m g h) = bare_edge g

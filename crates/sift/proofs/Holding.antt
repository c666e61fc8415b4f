-- Rows that hold what the facts kept so far type: then the tests on rows are those of single facts, and what is kept is put in.
use Rattle.std.specs.Prelude.{◌≡◌, refl, ◌↔◌, ◌⊎◌, Bool, true, false, ℕ, ◌+◌, ◌*◌, ◌<◌, ◌≤◌, List, [], length, replicate, nat_le, if◌then◌else◌, slice_index}
use Rattle.std.specs.List.Sorted.{IsStrictlyIncreasing}
use Rattle.std.proofs.Common.{sym, ap, ◌∙◌, inl, inr, ⊎_elim, arith, le-leb, leb-true, lt-ltb}
use Rattle.std.proofs.Math.Decide.{dec_lt}
use mathlib.Core.List.Memᴰ
use Rattle.kinds.specs.declared.ConceptName.{ConceptName}
use Rattle.kinds.specs.declared.Individual.{Individual}
use Rattle.kinds.specs.declared.SignedRole.{SignedRole}
use Rattle.kinds.specs.declared.Concept.{Concept}
use Rattle.kinds.specs.declared.Concept.TheVariants.{Name, Exists}
use Rattle.kinds.specs.Kinds.{forward, backward, signed, individual, inverse, inverse-forward, inverse-backward, number_of, concept_of, number-concept, concept-number, role-concept, NameDeclared, RoleDeclared, SignedDeclared, ConceptDeclared}
use Rattle.laws.specs.Fill.{filled_with}
use Rattle.meaning.specs.Collection.{Collection, WellFormed, Each}
use Rattle.meaning.specs.Model.{named, first, second}
use Rattle.meaning.proofs.Clash.{typed-valid}
use Rattle.salvage.specs.Salvages.{◌◂◌}
use Rattle.salvage.specs.Facts.{Fact, of, between, FactDeclared, with_facts, concept_facts_in, role_facts_in}
use Rattle.salvage.specs.Excluded.{rules_of, Apart, Conflict, Barred}
use Rattle.salvage.specs.Local.{onward, back}
use Rattle.salvage.specs.Touching.{Gives, name, start, end, GivesRole, ahead, behind, Held, HeldRole, NameTest, barred, apart, RoleTest, barred_start, barred_end, at_start, at_end, at_both, at_pair, at_loop}
use Rattle.salvage.proofs.ExcludedLaws.{conflict_turned}
use Rattle.salvage.proofs.FactLaws.{with_facts_formed, role_out}
use Rattle.salvage.proofs.TouchingLaws.{typed_split, role_split, gives_name_out, gives_out, gives_role_out}
use Rattle.sets.specs.Bits.{Has, Meets}
use Rattle.sets.specs.Rows.{no_concepts, no_roles}
use Rattle.sets.specs.Relations.{concepts_at}
use Rattle.sets.specs.declared.concepts.ConceptSet.{ConceptSet}
use Rattle.sets.specs.declared.roles.RoleSet.{RoleSet}
use Rattle.sets.proofs.Laws.{none_has}
use Rattle.tables.specs.declared.records.ConceptFact.{ConceptFact}
use Rattle.tables.specs.declared.records.RoleFact.{RoleFact}
use Rattle.sift.specs.declared.excluded.Excluded.{Excluded}
use Rattle.sift.specs.declared.steps.HeldRows.{HeldRows}
use Rattle.sift.specs.Excludes.{Excludes}
use Rattle.sift.specs.Pairs.{pair_number}
use Rattle.sift.specs.Steps.{roles_at, toward, ConceptClashes, RoleClashes, Ends, Joins, PutsConcept, PutsRole}
use Rattle.sift.proofs.PairLaws.{one-place}

-- the pair at a place, its lesser individual first
pub record IsPair (pairs : List ℕ) (p : ℕ) (a b : Individual) : Type 0 where
  pub inside : p < length pairs
  pub number : slice_index pairs p ≡ 256 * a.0 + b.0
  pub lesser : a.0 ≤ b.0
  pub small : b.0 < 256

-- the rows hold what the facts l type
pub record Holds (𝓒 : Collection) (pairs : List ℕ) (l : List Fact) (held : HeldRows) : Type 0 where
  pub concepts : (a : Individual) (i : ℕ) → Has (concepts_at held.concepts a.0) i ↔ Held 𝓒 l a (concept_of i)
  pub roles : (p : ℕ) (a b : Individual) → IsPair pairs p a b → (S : SignedRole) → Has (roles_at held.roles p) S.0 ↔ HeldRole 𝓒 l a S b

same_individual : (a b : Individual) → a.0 ≡ b.0 → a ≡ b
same_individual a b e = ap individual e

-- the place of the pair of a role fact
pub record HasPlace (pairs : List ℕ) (p : ℕ) (f : RoleFact) : Type 0 where
  pub inside : p < length pairs
  pub number : slice_index pairs p ≡ pair_number f.first.0 f.second.0
  pub first : f.first.0 < 256
  pub second : f.second.0 < 256

module _ {pairs : List ℕ} {p : ℕ} {f : RoleFact} (h : HasPlace pairs p f) where
  onward_pair : f.first.0 ≤ f.second.0 → IsPair pairs p f.first f.second
  onward_pair l = record { inside = h.inside; number = omega (arith, h.number); lesser = l; small = h.second }

  turned_pair : f.second.0 ≤ f.first.0 → IsPair pairs p f.second f.first
  turned_pair l = record { inside = h.inside; number = omega (arith, h.number); lesser = l; small = h.first }

toward_onward : (f : RoleFact) → f.first.0 ≤ f.second.0 → toward f ≡ forward f.role
toward_onward f l = rw (le-leb f.first.0 f.second.0 l) refl

toward_back : (f : RoleFact) → f.second.0 < f.first.0 → toward f ≡ backward f.role
toward_back f l = by (nat_le f.first.0 f.second.0) refl
  where
    by : (b : Bool) → nat_le f.first.0 f.second.0 ≡ b → (if b then forward f.role else backward f.role) ≡ backward f.role
    by true e = let k = leb-true f.first.0 f.second.0 e in absurd (omega arith)
    by false e = refl

module _ (𝓒 : Collection) (ok : WellFormed 𝓒) (l : List Fact) (g : Each l (FactDeclared 𝓒.counts)) where
  typed_declared : {a : Individual} {C : Concept} → Held 𝓒 l a C → ConceptDeclared 𝓒.counts C
  typed_declared t = typed-valid (with_facts 𝓒 l) (with_facts_formed 𝓒 ok l g).numbers t

  role_declared : {a b : Individual} {S : SignedRole} → HeldRole 𝓒 l a S b → SignedDeclared 𝓒.counts S
  role_declared (onward {r = r} {a = a} {b = b} m) = let k = (g (between r a b) (role_out l r a b m)).0 in omega arith
  role_declared (back {r = r} {a = a} {b = b} m) = let k = (g (between r a b) (role_out l r a b m)).0 in omega arith

  turned_over : {a b : Individual} {S : SignedRole} → HeldRole 𝓒 l b S a → HeldRole 𝓒 l a (inverse S) b
  turned_over (onward {r = r} m) = rw (inverse-forward r) (back m)
  turned_over (back {r = r} m) = rw (inverse-backward r) (onward m)

  module _ (x : Excluded) (tables : Excludes 𝓒 x) (pairs : List ℕ) (held : HeldRows) (h : Holds 𝓒 pairs l held) where
    BesideApart : Individual → Concept → Type 0
    BesideApart a C = (D : Concept) × Held 𝓒 l a D × Apart (rules_of 𝓒) C D

    concept_out : (a : Individual) (C : Concept) → ConceptDeclared 𝓒.counts C → ConceptClashes x held.concepts a C
        → Barred (rules_of 𝓒) C ⊎ BesideApart a C
    unfolding BesideApart
    concept_out a C d (inl b) = inl ((tables.barred C d).0 b)
    concept_out a C d (inr (i, m, n)) =
        let t = (h.concepts a i).0 n in
        inr (concept_of i, t, (tables.apart C (concept_of i) d (typed_declared t)).0 (rw (number-concept i) m))

    concept_in : (a : Individual) (C : Concept) → ConceptDeclared 𝓒.counts C → Barred (rules_of 𝓒) C ⊎ BesideApart a C
        → ConceptClashes x held.concepts a C
    unfolding BesideApart
    concept_in a C d (inl b) = inl ((tables.barred C d).1 b)
    concept_in a C d (inr (D, t, k)) =
        let v = typed_declared t in
        inr (number_of D, (tables.apart C D d v).1 k, (h.concepts a (number_of D)).1 (rw (concept-number 𝓒.counts ok.counts.names D v) t))

    -- the test of a concept fact
    pub name_means : (f : ConceptFact) → NameDeclared 𝓒.counts f.name
        → ConceptClashes x held.concepts f.individual (Name f.name) ↔ NameTest 𝓒 l f.name f.individual
    unfolding BesideApart
    name_means f d = (
      λ k. ⊎_elim (λ b. barred b) (λ w. apart w.0 w.1 w.2) (concept_out f.individual (Name f.name) d k),
      λ k. concept_in f.individual (Name f.name) d (back_to k),
    )
      where
        back_to : NameTest 𝓒 l f.name f.individual
            → Barred (rules_of 𝓒) (Name f.name) ⊎ ((D : Concept) × Held 𝓒 l f.individual D × Apart (rules_of 𝓒) (Name f.name) D)
        back_to (barred b) = inl b
        back_to (apart D t k) = inr (D, t, k)

    module _ (f : RoleFact) (p : ℕ) (d : RoleDeclared 𝓒.counts f.role) (place : HasPlace pairs p f) where
      onward_declared : SignedDeclared 𝓒.counts (forward f.role)
      onward_declared = omega arith

      back_declared : SignedDeclared 𝓒.counts (backward f.role)
      back_declared = omega arith

      pair_out : Dec (f.second.0 < f.first.0) → Meets (roles_at x.conflicts (toward f).0) (roles_at held.roles p)
          → RoleTest 𝓒 l f.role f.first f.second
      pair_out (no n) (i, m, k) =
          let less : f.first.0 ≤ f.second.0 = omega (arith, n) in
          let t = (h.roles p f.first f.second (onward_pair place less) (signed i)).0 k in
          let c = (tables.conflicts (forward f.role) (signed i) onward_declared (role_declared t)).0 (rw (toward_onward f less) at m) in
          at_pair (signed i) t c
      pair_out (yes n) (i, m, k) =
          let less : f.second.0 ≤ f.first.0 = omega arith in
          let t = (h.roles p f.second f.first (turned_pair place less) (signed i)).0 k in
          let c = (tables.conflicts (backward f.role) (signed i) back_declared (role_declared t)).0 (rw (toward_back f n) at m) in
          at_pair (inverse (signed i)) (turned_over t) (rw (inverse-backward f.role) at (conflict_turned (rules_of 𝓒) c))

      pair_in : Dec (f.second.0 < f.first.0) → (S : SignedRole) → HeldRole 𝓒 l f.first S f.second → Conflict (rules_of 𝓒) (forward f.role) S
          → Meets (roles_at x.conflicts (toward f).0) (roles_at held.roles p)
      pair_in (no n) S t c =
          let less : f.first.0 ≤ f.second.0 = omega (arith, n) in
          rw (toward_onward f less) (
            S.0,
            (tables.conflicts (forward f.role) S onward_declared (role_declared t)).1 c,
            (h.roles p f.first f.second (onward_pair place less) S).1 t,
          )
      pair_in (yes n) S t c =
          let less : f.second.0 ≤ f.first.0 = omega arith in
          let u = turned_over t in
          let v = rw (inverse-forward f.role) at (conflict_turned (rules_of 𝓒) c) in
          rw (toward_back f n) (
            (inverse S).0,
            (tables.conflicts (backward f.role) (inverse S) back_declared (role_declared u)).1 v,
            (h.roles p f.second f.first (turned_pair place less) (inverse S)).1 u,
          )

      test_out : RoleClashes x held f p → RoleTest 𝓒 l f.role f.first f.second
      unfolding BesideApart
      test_out (inl (inl c)) =
          ⊎_elim (λ b. barred_start b) (λ w. at_start w.0 w.1 w.2) (concept_out f.first (Exists (forward f.role)) onward_declared c)
      test_out (inl (inr c)) =
          ⊎_elim (λ b. barred_end b) (λ w. at_end w.0 w.1 w.2) (concept_out f.second (Exists (backward f.role)) back_declared c)
      test_out (inr (inl m)) = pair_out (dec_lt f.second.0 f.first.0) m
      test_out (inr (inr (e, inl k))) = at_both e
          ((tables.apart (Exists (forward f.role)) (Exists (backward f.role)) onward_declared back_declared).0 k)
      test_out (inr (inr (e, inr k))) = at_loop e ((tables.conflicts (forward f.role) (backward f.role) onward_declared back_declared).0 k)

      test_in : RoleTest 𝓒 l f.role f.first f.second → RoleClashes x held f p
      unfolding BesideApart
      test_in (barred_start b) = inl (inl (concept_in f.first (Exists (forward f.role)) onward_declared (inl b)))
      test_in (barred_end b) = inl (inr (concept_in f.second (Exists (backward f.role)) back_declared (inl b)))
      test_in (at_start D t k) = inl (inl (concept_in f.first (Exists (forward f.role)) onward_declared (inr (D, t, k))))
      test_in (at_end D t k) = inl (inr (concept_in f.second (Exists (backward f.role)) back_declared (inr (D, t, k))))
      test_in (at_both e k) = inr
          (inr (e, inl ((tables.apart (Exists (forward f.role)) (Exists (backward f.role)) onward_declared back_declared).1 k)))
      test_in (at_pair S t c) = inr (inl (pair_in (dec_lt f.second.0 f.first.0) S t c))
      test_in (at_loop e k) = inr (inr (e, inr ((tables.conflicts (forward f.role) (backward f.role) onward_declared back_declared).1 k)))

      -- the test of a role fact
      pub role_means : RoleClashes x held f p ↔ RoleTest 𝓒 l f.role f.first f.second
      role_means = (test_out, test_in)

-- ---- what is kept is put in

no_role_given : (A : ConceptName) (a : Individual) {b d : Individual} {S : SignedRole} → GivesRole (of A a) b S d → ⊥
no_role_given A a g = elim g [ ]

name_own : (A : ConceptName) → A.0 < 64 → concept_of A.0 ≡ Name A
unfolding concept_of
name_own A few = rw (lt-ltb A.0 64 few) refl

name_gives : (A : ConceptName) (b a : Individual) (i : ℕ) → A.0 < 64 → a.0 ≡ b.0 → i ≡ number_of (Name A) → Gives (of A b) a (concept_of i)
unfolding number_of
name_gives A b a i few e k =
    let p = same_individual a b e in
    let q : concept_of i ≡ Name A = ap concept_of k ∙ name_own A few in
    rw (p, q) name

own_number : (i : ℕ) (C : Concept) → concept_of i ≡ C → i ≡ number_of C
own_number i C e = sym (number-concept i) ∙ ap number_of e

exists_own : (R : SignedRole) → concept_of (number_of (Exists R)) ≡ Exists R
unfolding number_of
exists_own R = role-concept R.0

module _ (𝓒 : Collection) (pairs : List ℕ) (l : List Fact) (held new : HeldRows) (h : Holds 𝓒 pairs l held) where
  pub concept_kept : (f : ConceptFact) → f.name.0 < 64 → PutsConcept held f new → Holds 𝓒 pairs (l ◂ of f.name f.individual) new
  concept_kept f few u = record {
    concepts = λ a i. (
      λ k. (typed_split 𝓒 l x a (concept_of i)).1
          (⊎_elim (λ o. inl ((h.concepts a i).0 o)) (λ e. inr (name_gives f.name f.individual a i few e.0 e.1))
          ((u.concepts.at a.0 i).0 k)),
      λ t.
          (u.concepts.at a.0 i).1
          (⊎_elim (λ o. inl ((h.concepts a i).1 o)) (λ v. inr (given a i (gives_name_out 𝓒 l f.name f.individual v)))
          ((typed_split 𝓒 l x a (concept_of i)).0 t)),
    );
    roles = λ p a b q S. (
      λ k. (role_split 𝓒 l x a S b).1 (inl ((h.roles p a b q S).0 (rw u.roles at k))),
      λ t. rw u.roles (⊎_elim (λ o. (h.roles p a b q S).1 o) (λ v. absurd (no_role_given f.name f.individual v))
          ((role_split 𝓒 l x a S b).0 t)),
    );
  }
    where
      x : Fact
      x = of f.name f.individual

      given : (a : Individual) (i : ℕ) → (a ≡ f.individual) × (concept_of i ≡ Name f.name)
          → (a.0 ≡ f.individual.0) × (i ≡ number_of (Name f.name))
      given a i w = (ap (λ (d : Individual). d.0) w.0, own_number i (Name f.name) w.1)

  module _ (rises : IsStrictlyIncreasing pairs) (f : RoleFact) (p : ℕ) (place : HasPlace pairs p f) where
    ends_give : (a : Individual) (i : ℕ) → Ends f a.0 i → Gives (between f.role f.first f.second) a (concept_of i)
    ends_give a i (inl (e, k)) =
        let u = same_individual a f.first e in
        let v : concept_of i ≡ Exists (forward f.role) = ap concept_of k ∙ exists_own (forward f.role) in
        rw (u, v) (start {b = f.second})
    ends_give a i (inr (e, k)) =
        let u = same_individual a f.second e in
        let v : concept_of i ≡ Exists (backward f.role) = ap concept_of k ∙ exists_own (backward f.role) in
        rw (u, v) (end {a = f.first})

    ends_given : (a : Individual) (i : ℕ) → Gives (between f.role f.first f.second) a (concept_of i) → Ends f a.0 i
    ends_given a i v = ⊎_elim
        (λ w. inl (ap (λ (d : Individual). d.0) w.0, own_number i (Exists (forward f.role)) w.1))
        (λ w. inr (ap (λ (d : Individual). d.0) w.0, own_number i (Exists (backward f.role)) w.1))
        (gives_out 𝓒 l f.role f.first f.second v)

    ahead_given : (a b : Individual) (S : SignedRole) → a.0 ≡ f.first.0 → b.0 ≡ f.second.0 → S.0 ≡ (forward f.role).0
        → GivesRole (between f.role f.first f.second) a S b
    ahead_given a b S u v w =
        let u' = same_individual a f.first u in
        let v' = same_individual b f.second v in
        let w' : S ≡ forward f.role = ap signed w in
        rw (u', v', w') ahead

    behind_given : (a b : Individual) (S : SignedRole) → a.0 ≡ f.second.0 → b.0 ≡ f.first.0 → S.0 ≡ (backward f.role).0
        → GivesRole (between f.role f.first f.second) a S b
    behind_given a b S u v w =
        let u' = same_individual a f.second u in
        let v' = same_individual b f.first v in
        let w' : S ≡ backward f.role = ap signed w in
        rw (u', v', w') behind

    joins_give : Dec (f.second.0 < f.first.0) → (q : ℕ) (a b : Individual) (S : SignedRole) → IsPair pairs q a b → Joins f p q S.0
        → GivesRole (between f.role f.first f.second) a S b
    joins_give (no n) q a b S is (inl (e, s)) =
        let less : f.first.0 ≤ f.second.0 = omega (arith, n) in
        let s' = rw (toward_onward f less) at s in
        let k = rw e at is.number in
        ahead_given a b S (omega (arith, k, place.number, place.second, is.small))
        (omega (arith, k, place.number, place.second, is.small)) s'
    joins_give (yes n) q a b S is (inl (e, s)) =
        let s' = rw (toward_back f n) at s in
        let k = rw e at is.number in
        behind_given a b S (omega (arith, k, place.number, place.first, is.small))
        (omega (arith, k, place.number, place.first, is.small)) s'
    joins_give d q a b S is (inr (same, (e, s))) =
        let k = rw e at is.number in
        let m : f.first.0 ≡ f.second.0 = ap (λ (i : Individual). i.0) same in
        behind_given a b S (omega (arith, k, place.number, place.first, is.small)) (omega (arith, k, place.number, place.first, is.small)) s

    one : (q : ℕ) (a b : Individual) → IsPair pairs q a b → 256 * a.0 + b.0 ≡ pair_number f.first.0 f.second.0 → q ≡ p
    one q a b is e = one-place pairs rises q p is.inside place.inside (is.number ∙ e ∙ sym place.number)

    joins_given : (q : ℕ) (a b : Individual) (S : SignedRole) → IsPair pairs q a b → GivesRole (between f.role f.first f.second) a S b
        → Joins f p q S.0
    joins_given q a b S is v = side (gives_role_out 𝓒 l f.role f.first f.second v)
      where
        numbers : (c d : Individual) → a ≡ c → b ≡ d → (a.0 ≡ c.0) × (b.0 ≡ d.0)
        numbers c d m n = (ap (λ (i : Individual). i.0) m, ap (λ (i : Individual). i.0) n)

        turned : a.0 ≡ f.second.0 → b.0 ≡ f.first.0 → S.0 ≡ (backward f.role).0 → Dec (f.second.0 < f.first.0) → Joins f p q S.0
        turned m n s (yes less) =
            let at = one q a b is (let k = is.lesser in omega arith) in
            inl (at, rw (toward_back f less) s)
        turned m n s (no not) =
            let k = is.lesser in
            let same = same_individual f.first f.second (omega (arith, not)) in
            inr (same, (one q a b is (omega arith), s))

        side : ((a ≡ f.first) × (S ≡ forward f.role) × (b ≡ f.second)) ⊎ ((a ≡ f.second) × (S ≡ backward f.role) × (b ≡ f.first))
            → Joins f p q S.0
        side (inl w) =
            let n = numbers f.first f.second w.0 w.2 in
            let k = is.lesser in
            let less : f.first.0 ≤ f.second.0 = omega (arith, n.0, n.1) in
            let s : S.0 ≡ (forward f.role).0 = ap (λ (R : SignedRole). R.0) w.1 in
            inl (one q a b is (omega (arith, n.0, n.1)), rw (toward_onward f less) s)
        side (inr w) =
            let n = numbers f.second f.first w.0 w.2 in
            turned n.0 n.1 (ap (λ (R : SignedRole). R.0) w.1) (dec_lt f.second.0 f.first.0)

    pub role_kept : PutsRole held f p new → Holds 𝓒 pairs (l ◂ between f.role f.first f.second) new
    role_kept u = record {
      concepts = λ a i. (
        λ k. (typed_split 𝓒 l x a (concept_of i)).1
            (⊎_elim (λ o. inl ((h.concepts a i).0 o)) (λ e. inr (ends_give a i e)) ((u.concepts.at a.0 i).0 k)),
        λ t. (u.concepts.at a.0 i).1
            (⊎_elim (λ o. inl ((h.concepts a i).1 o)) (λ v. inr (ends_given a i v)) ((typed_split 𝓒 l x a (concept_of i)).0 t)),
      );
      roles = λ q a b is S. (
        λ k. (role_split 𝓒 l x a S b).1
            (⊎_elim (λ o. inl ((h.roles q a b is S).0 o)) (λ e. inr (joins_give (dec_lt f.second.0 f.first.0) q a b S is e))
            ((u.roles.at q S.0).0 k)),
        λ t. (u.roles.at q S.0).1
            (⊎_elim (λ o. inl ((h.roles q a b is S).1 o)) (λ v. inr (joins_given q a b S is v)) ((role_split 𝓒 l x a S b).0 t)),
      );
    }
      where
        x : Fact
        x = between f.role f.first f.second

-- ---- before any fact is kept

module _ (𝓒 : Collection) where
  none_typed : (a : Individual) (C : Concept) → Held 𝓒 [] a C → ⊥
  unfolding concept_facts_in role_facts_in
  none_typed a C (named m) = Memᴰ.not-nil m
  none_typed a C (first m) = Memᴰ.not-nil m
  none_typed a C (second m) = Memᴰ.not-nil m

  none_joined : (a b : Individual) (S : SignedRole) → HeldRole 𝓒 [] a S b → ⊥
  unfolding role_facts_in
  none_joined a b S (onward m) = Memᴰ.not-nil m
  none_joined a b S (back m) = Memᴰ.not-nil m

  concepts_none : (rows : List ConceptSet) (m i : ℕ) → rows ≡ replicate m no_concepts → concepts_at rows i ≡ 0
  concepts_none rows m i e = ap (λ (l : List ConceptSet). concepts_at l i) e ∙ ap (λ (s : ConceptSet). s.0) (filled_with no_concepts m i)

  roles_none : (rows : List RoleSet) (m i : ℕ) → rows ≡ replicate m no_roles → roles_at rows i ≡ 0
  roles_none rows m i e = ap (λ (l : List RoleSet). roles_at l i) e ∙ ap (λ (s : RoleSet). s.0) (filled_with no_roles m i)

  pub holds_none : (pairs : List ℕ) (m n : ℕ) (held : HeldRows) → held.concepts ≡ replicate m no_concepts
      → held.roles ≡ replicate n no_roles
      → Holds 𝓒 pairs [] held
  holds_none pairs m n held e o = record {
    concepts = λ a i. (
      λ k. absurd (none_has i (rw (concepts_none held.concepts m a.0 e) at k)),
      λ t. absurd
          (none_typed a (concept_of i) t),
    );
    roles = λ p a b is S. (λ k. absurd (none_has S.0 (rw (roles_none held.roles n p o) at k)), λ t. absurd (none_joined a b S t));
  }

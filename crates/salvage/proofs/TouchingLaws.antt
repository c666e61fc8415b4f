-- One fact more: given facts that make no contradiction, whether the new one makes one is told by the one or two individuals
-- that it names.
use Rattle.std.specs.Prelude.{◌≡◌, refl, ◌⊎◌, ◌↔◌, List, [], ◌∷◌}
use Rattle.std.proofs.Common.{sym, ◌∙◌, inl, inr, ⊎_elim}
use mathlib.Core.List.Memᴰ
use Rattle.kinds.specs.declared.ConceptName.{ConceptName}
use Rattle.kinds.specs.declared.RoleName.{RoleName}
use Rattle.kinds.specs.declared.Individual.{Individual}
use Rattle.kinds.specs.declared.SignedRole.{SignedRole}
use Rattle.kinds.specs.declared.Concept.{Concept}
use Rattle.kinds.specs.declared.Concept.TheVariants.{Name, Exists}
use Rattle.kinds.specs.Kinds.{inverse, inverse-forward, inverse-backward, forward, backward}
use Rattle.laws.specs.Member.{◌∈◌}
use Rattle.meaning.specs.Collection.{Collection, WellFormed, Each}
use Rattle.meaning.specs.Model.{Typed, named, first, second, Contradiction}
use Rattle.meaning.specs.Orders.{same}
use Rattle.salvage.specs.Salvages.{◌◂◌}
use Rattle.salvage.specs.Facts.{Fact, of, between, with_facts, FactDeclared}
use Rattle.salvage.proofs.FactLaws.{with_facts_formed, concept_in, concept_out, role_in, role_out}
use Rattle.salvage.specs.Excluded.{rules_of, Apart, Conflict, Barred, itself, sinks, crosses}
use Rattle.salvage.proofs.ExcludedLaws.{apart_back, conflict_back, conflict_turned}
use Rattle.salvage.specs.Local.{TypedRole, onward, back, Local, one, two, pair}
use Rattle.salvage.proofs.LocalLaws.{local_is}
use Rattle.salvage.specs.Touching.{Gives, name, start, end, GivesRole, ahead, behind, Held, HeldRole, NameTest, barred, apart, RoleTest, barred_start, barred_end, at_start, at_end, at_both, at_pair, at_loop}

of_gives : (x : Fact) (A : ConceptName) (a : Individual) → of A a ≡ x → Gives x a (Name A)
of_gives x A a e = rw (← e) name

start_gives : (x : Fact) (r : RoleName) (a b : Individual) → between r a b ≡ x → Gives x a (Exists (forward r))
start_gives x r a b e = rw (← e) (start {b = b})

end_gives : (x : Fact) (r : RoleName) (a b : Individual) → between r a b ≡ x → Gives x b (Exists (backward r))
end_gives x r a b e = rw (← e) (end {a = a})

ahead_gives : (x : Fact) (r : RoleName) (a b : Individual) → between r a b ≡ x → GivesRole x a (forward r) b
ahead_gives x r a b e = rw (← e) ahead

behind_gives : (x : Fact) (r : RoleName) (a b : Individual) → between r a b ≡ x → GivesRole x b (backward r) a
behind_gives x r a b e = rw (← e) behind

module _ (𝓒 : Collection) (l : List Fact) where
  module _ (x : Fact) where
    more_out : {y : Fact} → y ∈ (l ◂ x) → (y ∈ l) ⊎ (y ≡ x)
    more_out m = ⊎_elim (λ k. inl k) (λ k. inr (Memᴰ.eq_of_singleton k)) (Memᴰ.append_cases l m)

    typed_out : {a : Individual} {C : Concept} → Typed (with_facts 𝓒 (l ◂ x)) a C → Held 𝓒 l a C ⊎ Gives x a C
    typed_out (named {A = A} {a = a} m) =
        ⊎_elim (λ k. inl (named (concept_in l A a k))) (λ e. inr (of_gives x A a e)) (more_out (concept_out (l ◂ x) A a m))
    typed_out (first {r = r} {a = a} {b = b} m) =
        ⊎_elim (λ k. inl (first (role_in l r a b k))) (λ e. inr (start_gives x r a b e)) (more_out (role_out (l ◂ x) r a b m))
    typed_out (second {r = r} {a = a} {b = b} m) =
        ⊎_elim (λ k. inl (second (role_in l r a b k))) (λ e. inr (end_gives x r a b e)) (more_out (role_out (l ◂ x) r a b m))

    role_typed_out : {a b : Individual} {R : SignedRole} → TypedRole (with_facts 𝓒 (l ◂ x)) a R b → HeldRole 𝓒 l a R b ⊎ GivesRole x a R b
    role_typed_out (onward {r = r} {a = a} {b = b} m) =
        ⊎_elim (λ k. inl (onward (role_in l r a b k))) (λ e. inr (ahead_gives x r a b e)) (more_out (role_out (l ◂ x) r a b m))
    role_typed_out (back {r = r} {a = a} {b = b} m) =
        ⊎_elim (λ k. inl (back (role_in l r a b k))) (λ e. inr (behind_gives x r a b e)) (more_out (role_out (l ◂ x) r a b m))

    typed_old : {a : Individual} {C : Concept} → Held 𝓒 l a C → Typed (with_facts 𝓒 (l ◂ x)) a C
    typed_old (named {A = A} {a = a} m) = named (concept_in (l ◂ x) A a (Memᴰ.append_left (x ∷ []) (concept_out l A a m)))
    typed_old (first {r = r} {a = a} {b = b} m) = first (role_in (l ◂ x) r a b (Memᴰ.append_left (x ∷ []) (role_out l r a b m)))
    typed_old (second {r = r} {a = a} {b = b} m) = second (role_in (l ◂ x) r a b (Memᴰ.append_left (x ∷ []) (role_out l r a b m)))

    role_typed_old : {a b : Individual} {R : SignedRole} → HeldRole 𝓒 l a R b → TypedRole (with_facts 𝓒 (l ◂ x)) a R b
    role_typed_old (onward {r = r} {a = a} {b = b} m) = onward (role_in (l ◂ x) r a b (Memᴰ.append_left (x ∷ []) (role_out l r a b m)))
    role_typed_old (back {r = r} {a = a} {b = b} m) = back (role_in (l ◂ x) r a b (Memᴰ.append_left (x ∷ []) (role_out l r a b m)))

  typed_new : (x : Fact) {a : Individual} {C : Concept} → Gives x a C → Typed (with_facts 𝓒 (l ◂ x)) a C
  typed_new (of A a) name = named (concept_in (l ◂ of A a) A a (Memᴰ.append_right l (Memᴰ.head refl)))
  typed_new (between r a b) start = first (role_in (l ◂ between r a b) r a b (Memᴰ.append_right l (Memᴰ.head refl)))
  typed_new (between r a b) end = second (role_in (l ◂ between r a b) r a b (Memᴰ.append_right l (Memᴰ.head refl)))

  role_typed_new : (x : Fact) {a b : Individual} {R : SignedRole} → GivesRole x a R b → TypedRole (with_facts 𝓒 (l ◂ x)) a R b
  role_typed_new (of A a) g = elim g [ ]
  role_typed_new (between r a b) ahead = onward (role_in (l ◂ between r a b) r a b (Memᴰ.append_right l (Memᴰ.head refl)))
  role_typed_new (between r a b) behind = back (role_in (l ◂ between r a b) r a b (Memᴰ.append_right l (Memᴰ.head refl)))

  -- with one fact more: what was typed before, and what the fact types
  pub typed_split : (x : Fact) (a : Individual) (C : Concept) → Typed (with_facts 𝓒 (l ◂ x)) a C ↔ (Held 𝓒 l a C ⊎ Gives x a C)
  typed_split x a C = (typed_out x, ⊎_elim (λ h. typed_old x h) (λ h. typed_new x h))

  pub role_split : (x : Fact) (a : Individual) (R : SignedRole) (b : Individual)
      → TypedRole (with_facts 𝓒 (l ◂ x)) a R b ↔ (HeldRole 𝓒 l a R b ⊎ GivesRole x a R b)
  role_split x a R b = (role_typed_out x, ⊎_elim (λ h. role_typed_old x h) (λ h. role_typed_new x h))

  module _ (x : Fact) where
    -- the new fact takes part: by itself, with what is typed of its individuals, with what is typed of its ordered pair
    pub data Touches : Type 0 where
      alone : (a : Individual) (C : Concept) → Gives x a C → Barred (rules_of 𝓒) C → Touches
      beside : (a : Individual) (C D : Concept) → Gives x a C → Held 𝓒 l a D ⊎ Gives x a D → Apart (rules_of 𝓒) C D → Touches
      across : (a b : Individual) (R S : SignedRole) → GivesRole x a R b → HeldRole 𝓒 l a S b ⊎ GivesRole x a S b
          → Conflict (rules_of 𝓒) R S → Touches

    told : Local (with_facts 𝓒 (l ◂ x)) → Local (with_facts 𝓒 l) ⊎ Touches
    told (one a C t k) = ⊎_elim (λ h. inl (one a C h k)) (λ g. inr (alone a C g k)) (typed_out x t)
    told (two a C D t u k) = side (typed_out x t) (typed_out x u)
      where
        side : Held 𝓒 l a C ⊎ Gives x a C → Held 𝓒 l a D ⊎ Gives x a D → Local (with_facts 𝓒 l) ⊎ Touches
        side (inl h) (inl i) = inl (two a C D h i k)
        side (inl h) (inr g) = inr (beside a D C g (inl h) (apart_back (rules_of 𝓒) k))
        side (inr g) o = inr (beside a C D g o k)
    told (pair a b R S t u k) = side (role_typed_out x t) (role_typed_out x u)
      where
        side : HeldRole 𝓒 l a R b ⊎ GivesRole x a R b → HeldRole 𝓒 l a S b ⊎ GivesRole x a S b → Local (with_facts 𝓒 l) ⊎ Touches
        side (inl h) (inl i) = inl (pair a b R S h i k)
        side (inl h) (inr g) = inr (across a b S R g (inl h) (conflict_back (rules_of 𝓒) k))
        side (inr g) o = inr (across a b R S g o k)

    touched : Touches → Local (with_facts 𝓒 (l ◂ x))
    touched (alone a C g k) = one a C (typed_new x g) k
    touched (beside a C D g o k) = two a C D (typed_new x g) (⊎_elim (λ h. typed_old x h) (λ h. typed_new x h) o) k
    touched (across a b R S g o k) = pair a b R S (role_typed_new x g) (⊎_elim (λ h. role_typed_old x h) (λ h. role_typed_new x h) o) k

    -- to facts that make no contradiction one more brings one exactly when it takes part in it
    pub touch_is : WellFormed 𝓒 → Each (l ◂ x) (FactDeclared 𝓒.counts) → (Contradiction (with_facts 𝓒 l) → ⊥)
        → Contradiction (with_facts 𝓒 (l ◂ x)) ↔ Touches
    touch_is ok g n =
        let old = with_facts_formed 𝓒 ok l (λ y m. g y (Memᴰ.append_left (x ∷ []) m)) in
        let new = with_facts_formed 𝓒 ok (l ◂ x) g in (
          λ c. ⊎_elim
              (λ h. absurd (n ((local_is (with_facts 𝓒 l) old.numbers).1 h)))
              (λ t. t)
              (told ((local_is (with_facts 𝓒 (l ◂ x)) new.numbers).0 c)),
          λ t. (local_is (with_facts 𝓒 (l ◂ x)) new.numbers).1 (touched t),
        )

  pub gives_name_out : (A : ConceptName) (a : Individual) {d : Individual} {C : Concept} → Gives (of A a) d C → (d ≡ a) × (C ≡ Name A)
  gives_name_out A a name = (refl, refl)

  name_touch : {A : ConceptName} {a : Individual} → Touches (of A a) → NameTest 𝓒 l A a
  name_touch {A} {a} (alone d C g k) = let w = gives_name_out A a g in barred (rw w.1 at k)
  name_touch {A} {a} (beside d C D g (inl h) k) = let w = gives_name_out A a g in apart D (rw w.0 at h) (rw w.1 at k)
  name_touch {A} {a} (beside d C D g (inr i) k) =
      let w = gives_name_out A a g in
      let v = gives_name_out A a i in
      barred (itself (rw (w.1, v.1) at k))
  name_touch {A} {a} (across d e R S g o k) = elim g [ ]

  touch_name : (A : ConceptName) (a : Individual) → NameTest 𝓒 l A a → Touches (of A a)
  touch_name A a (barred k) = alone a (Name A) name k
  touch_name A a (apart D h k) = beside a (Name A) D name (inl h) k

  pub gives_out : (r : RoleName) (a b : Individual) {d : Individual} {C : Concept} → Gives (between r a b) d C
      → ((d ≡ a) × (C ≡ Exists (forward r))) ⊎ ((d ≡ b) × (C ≡ Exists (backward r)))
  gives_out r a b start = inl (refl, refl)
  gives_out r a b end = inr (refl, refl)

  pub gives_role_out : (r : RoleName) (a b : Individual) {d e : Individual} {R : SignedRole} → GivesRole (between r a b) d R e
      → ((d ≡ a) × (R ≡ forward r) × (e ≡ b)) ⊎ ((d ≡ b) × (R ≡ backward r) × (e ≡ a))
  gives_role_out r a b ahead = inl (refl, refl, refl)
  gives_role_out r a b behind = inr (refl, refl, refl)

  held_turned : {a b : Individual} {S : SignedRole} → HeldRole 𝓒 l b S a → HeldRole 𝓒 l a (inverse S) b
  held_turned (onward {r = r} m) = rw (inverse-forward r) (back m)
  held_turned (back {r = r} m) = rw (inverse-backward r) (onward m)

  role_touch : (r : RoleName) (a b : Individual) → Touches (between r a b) → RoleTest 𝓒 l r a b
  role_touch r a b (alone d C g k) = side (gives_out r a b g)
    where
      side : ((d ≡ a) × (C ≡ Exists (forward r))) ⊎ ((d ≡ b) × (C ≡ Exists (backward r))) → RoleTest 𝓒 l r a b
      side (inl w) = barred_start (rw w.1 at k)
      side (inr w) = barred_end (rw w.1 at k)
  role_touch r a b (beside d C D g o k) = side (gives_out r a b g) o
    where
      again : ((d ≡ a) × (C ≡ Exists (forward r))) ⊎ ((d ≡ b) × (C ≡ Exists (backward r)))
          → ((d ≡ a) × (D ≡ Exists (forward r))) ⊎ ((d ≡ b) × (D ≡ Exists (backward r))) → RoleTest 𝓒 l r a b
      again (inl w) (inl v) = barred_start (itself (rw (w.1, v.1) at k))
      again (inl w) (inr v) = at_both (sym w.0 ∙ v.0) (rw (w.1, v.1) at k)
      again (inr w) (inl v) = at_both (sym v.0 ∙ w.0) (apart_back (rules_of 𝓒) (rw (w.1, v.1) at k))
      again (inr w) (inr v) = barred_end (itself (rw (w.1, v.1) at k))

      side : ((d ≡ a) × (C ≡ Exists (forward r))) ⊎ ((d ≡ b) × (C ≡ Exists (backward r))) → Held 𝓒 l d D ⊎ Gives (between r a b) d D
          → RoleTest 𝓒 l r a b
      side (inl w) (inl h) = at_start D (rw w.0 at h) (rw w.1 at k)
      side (inr w) (inl h) = at_end D (rw w.0 at h) (rw w.1 at k)
      side w (inr h) = again w (gives_out r a b h)
  role_touch r a b (across d e R S g o k) = side (gives_role_out r a b g) o
    where
      again : ((d ≡ a) × (R ≡ forward r) × (e ≡ b)) ⊎ ((d ≡ b) × (R ≡ backward r) × (e ≡ a))
          → ((d ≡ a) × (S ≡ forward r) × (e ≡ b)) ⊎ ((d ≡ b) × (S ≡ backward r) × (e ≡ a)) → RoleTest 𝓒 l r a b
      again (inl w) (inl v) = barred_start (sinks (forward r) same (crosses (rw (w.1, v.1) at k)))
      again (inl w) (inr v) = at_loop (sym w.0 ∙ v.0) (rw (w.1, v.1) at k)
      again (inr w) (inl v) = at_loop (sym v.0 ∙ w.0) (conflict_back (rules_of 𝓒) (rw (w.1, v.1) at k))
      again (inr w) (inr v) = barred_end (sinks (backward r) same (crosses (rw (w.1, v.1) at k)))

      turned_over : (d ≡ b) × (R ≡ backward r) × (e ≡ a) → HeldRole 𝓒 l d S e → RoleTest 𝓒 l r a b
      turned_over w h =
          let h' : HeldRole 𝓒 l b S a = rw (w.0, w.2) at h in
          let k' : Conflict (rules_of 𝓒) (backward r) S = rw w.1 at k in
          at_pair (inverse S) (held_turned h') (rw (inverse-backward r) at (conflict_turned (rules_of 𝓒) k'))

      side : ((d ≡ a) × (R ≡ forward r) × (e ≡ b)) ⊎ ((d ≡ b) × (R ≡ backward r) × (e ≡ a))
          → HeldRole 𝓒 l d S e ⊎ GivesRole (between r a b) d S e → RoleTest 𝓒 l r a b
      side (inl w) (inl h) = at_pair S (rw (w.0, w.2) at h) (rw w.1 at k)
      side (inr w) (inl h) = turned_over w h
      side w (inr h) = again w (gives_role_out r a b h)

  touch_role : (r : RoleName) (a b : Individual) → RoleTest 𝓒 l r a b → Touches (between r a b)
  touch_role r a b (barred_start k) = alone a (Exists (forward r)) start k
  touch_role r a b (barred_end k) = alone b (Exists (backward r)) end k
  touch_role r a b (at_start D h k) = beside a (Exists (forward r)) D start (inl h) k
  touch_role r a b (at_end D h k) = beside b (Exists (backward r)) D end (inl h) k
  touch_role r a b (at_both e k) = beside a (Exists (forward r)) (Exists (backward r)) start (inr (end_again e)) k
    where
      end_again : a ≡ b → Gives (between r a b) a (Exists (backward r))
      end_again e = loop a b e
        where
          loop : (p q : Individual) → p ≡ q → Gives (between r p q) p (Exists (backward r))
          loop p q i = rw i (end {a = q})
  touch_role r a b (at_pair S h k) = across a b (forward r) S ahead (inl h) k
  touch_role r a b (at_loop e k) = across a b (forward r) (backward r) ahead (inr (behind_again e)) k
    where
      behind_again : a ≡ b → GivesRole (between r a b) a (backward r) b
      behind_again e = loop a b e
        where
          loop : (p q : Individual) → p ≡ q → GivesRole (between r p q) p (backward r) q
          loop p q i = rw i behind

  -- the test of a concept fact, and of a role fact
  module _ (ok : WellFormed 𝓒) (sound : Contradiction (with_facts 𝓒 l) → ⊥) where
    pub name_test_is : (A : ConceptName) (a : Individual) → Each (l ◂ of A a) (FactDeclared 𝓒.counts)
        → Contradiction (with_facts 𝓒 (l ◂ of A a)) ↔ NameTest 𝓒 l A a
    name_test_is A a g = let t = touch_is (of A a) ok g sound in (λ c. name_touch (t.0 c), λ c. t.1 (touch_name A a c))

    pub role_test_is : (r : RoleName) (a b : Individual) → Each (l ◂ between r a b) (FactDeclared 𝓒.counts)
        → Contradiction (with_facts 𝓒 (l ◂ between r a b)) ↔ RoleTest 𝓒 l r a b
    role_test_is r a b g = let t = touch_is (between r a b) ok g sound in (λ c. role_touch r a b (t.0 c), λ c. t.1 (touch_role r a b c))

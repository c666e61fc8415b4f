-- Rows of sets into which a step puts members.
use Rattle.std.specs.Prelude.{◌≡◌, refl, ℕ, ◌<◌, ◌⊎◌, ◌↔◌, List, length, set, get_or}
use Rattle.std.proofs.Common.{inl, inr, ⊎_elim, get_or-set_same, get_or-set_other}
use Rattle.std.proofs.Math.Decide.{ℕ_discrete}
use Rattle.laws.specs.Gains.{Either}
use Rattle.laws.specs.Loops.{add_then, nothing_added}
use Rattle.sets.specs.Bits.{Has, Inserts, concept_width, role_width}
use Rattle.sets.specs.Rows.{no_concepts, no_roles}
use Rattle.sets.specs.Relations.{concepts_at}
use Rattle.sets.specs.declared.concepts.ConceptSet.{ConceptSet}
use Rattle.sets.specs.declared.roles.RoleSet.{RoleSet}
use Rattle.orders.specs.Marks.{Pair}
use Rattle.sift.specs.Steps.{roles_at, Puts}

-- a member put into row a
module _ {A : Type 0} (number : A → ℕ) (none : A) (w : ℕ) where
  one_put : (rows : List A) (a b : ℕ) (x : A) → a < length rows → b < w → Inserts w (number (get_or rows a none)) b (number x)
      → Puts (λ i. number (get_or rows i none)) (Pair a b) (λ i. number (get_or (set rows a x) i none))
  one_put rows a b x h l s = record { at = λ i j. by i j (ℕ_discrete i a) }
    where
      by : (i j : ℕ) → Dec (i ≡ a) → Has (number (get_or (set rows a x) i none)) j ↔ (Has (number (get_or rows i none)) j ⊎ Pair a b i j)
      by i j (yes e) =
          rw (e, get_or-set_same rows a x none h)
          (let u = s.member j in (
            λ p. ⊎_elim (λ q. inl q) (λ q. inr (refl, q.0)) (u.0 p),
            λ p. u.1 (⊎_elim (λ q. inl q) (λ q. inr (q.1, l)) p),
          ))
      by i j (no ne) = rw (get_or-set_other rows a i x none ne) ((λ p. inl p, ⊎_elim (λ p. p) (λ q. absurd (ne q.0))))

pub put_concept : (rows : List ConceptSet) (a b : ℕ) (x : ConceptSet) → a < length rows → b < concept_width
    → Inserts concept_width (get_or rows a no_concepts).0 b x.0 → Puts (concepts_at rows) (Pair a b) (concepts_at (set rows a x))
put_concept = one_put (λ (s : ConceptSet). s.0) no_concepts concept_width

pub put_role : (rows : List RoleSet) (a b : ℕ) (x : RoleSet) → a < length rows → b < role_width
    → Inserts role_width (get_or rows a no_roles).0 b x.0 → Puts (roles_at rows) (Pair a b) (roles_at (set rows a x))
put_role = one_put (λ (s : RoleSet). s.0) no_roles role_width

-- first the members of E, then those of F
pub puts_then : (old : ℕ → ℕ) (E F : ℕ → ℕ → Type 0) (now new : ℕ → ℕ) → Puts old E now → Puts now F new → Puts old (Either E F) new
puts_then old E F now new a b = record { at = λ i j. add_then (a.at i j) (b.at i j) }

-- those of F where P holds, and else nothing
pub puts_where : (old : ℕ → ℕ) (F : ℕ → ℕ → Type 0) (new : ℕ → ℕ) (P : Type 0) → P → Puts old F new → Puts old (λ i j. P × F i j) new
puts_where old F new P p a = record {
  at = λ i j. (
    λ h. ⊎_elim (λ k. inl k) (λ k. inr (p, k)) ((a.at i j).0 h),
    λ h. (a.at i j).1 (⊎_elim (λ k. inl k) (λ k. inr k.1) h),
  );
}

pub puts_not : (old : ℕ → ℕ) (F : ℕ → ℕ → Type 0) (P : Type 0) → (P → ⊥) → Puts old (λ i j. P × F i j) old
puts_not old F P n = record { at = λ i j. nothing_added (λ h. n h.0) }

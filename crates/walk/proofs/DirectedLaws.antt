-- Transitions in the direction of a walk, and the images of sets of states by them, as they are made.
use Rattle.std.specs.Prelude.{ℕ, List, ◌≡◌, refl, ◌↔◌, ◌+◌, ◌<◌, ◌≤◌, length, replicate, set}
use Rattle.std.proofs.Common.{ap, ◌∙◌, inl, inr, ⊎_elim, arith, length-set, below_more}
use Rattle.std.proofs.lemmas.List.{length-replicate}
use Rattle.std.proofs.Math.Decide.{dec_lt, ℕ_discrete}
use Rattle.std.specs.Int.{bit_at}
use Rattle.laws.specs.Fill.{stored, filled_with}
use Rattle.laws.specs.Loops.{Extends}
use Rattle.kinds.specs.Kinds.{most_states}
use Rattle.sets.specs.Bits.{Has, IsOnly, IsUnion, Inserts, role_width, state_width}
use Rattle.sets.specs.declared.states.StateSet.{StateSet}
use Rattle.walk.specs.declared.images.Images.{Images}
use Rattle.sets.specs.Rows.{no_states}
use Rattle.sets.specs.Relations.{states_at, relation_at, Relates, Transposed, IsImage}
use Rattle.sets.proofs.Gathering.{no_row}
use Rattle.walk.specs.Images.{AreImages}
use Rattle.walk.specs.Transposed.{IsTransposed}
use Rattle.walk.proofs.SetLaws.{none_has}

-- out has all to which the states below i lead
abbrev pub Ending : List StateSet → ℕ → ℕ → Type 0
Ending relation i out = (s : ℕ) → s < i → (t : ℕ) → Relates relation s t → Has out t

module _ (relation : List StateSet) where
  pub ending_none : (out : ℕ) → Ending relation 0 out
  ending_none out s h = absurd (omega arith)

  pub ending_more : (i out new : ℕ) → Ending relation i out → IsUnion out (states_at relation i) new → Ending relation (i + 1) new
  ending_more i out new e u =
      below_more (λ s. (t : ℕ) → Relates relation s t → Has new t) i
      (λ s h t p. (u.member t).1 (inl (e s h t p))) (λ t p. (u.member t).1 (inr p))

  pub ending_all : (i out : ℕ) → Ending relation i out → length relation ≤ i → (s t : ℕ) → Relates relation s t → Has out t
  ending_all i out e h s t p = side (dec_lt s i)
    where
      side : Dec (s < i) → Has out t
      side (yes l) = e s l t p
      side (no l) = absurd (none_has t (rw (no_row relation s (omega arith)) at p))

-- r has the states that lead to s
abbrev pub LeadingTo : List StateSet → ℕ → ℕ → Type 0
LeadingTo relation s r = (t : ℕ) → Has r t ↔ Relates relation t s

pub leading_to : (relation : List StateSet) (s only r : ℕ) → s < most_states → IsOnly state_width s only
    → IsImage (Transposed (Relates relation)) only r → LeadingTo relation s r
leading_to relation s only r h o i t = (
  λ p. let l = (i.member t).0 p in let e = ((o.member l.number).0 l.of).0 in let q = l.holds in rw e at q,
  λ p. (i.member t).1 (record { number = s; of = (o.member s).1 (refl, omega arith); holds = p }),
)

-- the sets of the states of D are made, and all others are empty
pub record Turning (relation : List StateSet) (D : ℕ → Type 0) (out : List StateSet) : Type 0 where
  pub long : length out ≡ most_states
  pub done : (s : ℕ) → D s → LeadingTo relation s (states_at out s)
  pub rest : (s : ℕ) → (D s → ⊥) → states_at out s ≡ 0

module _ (relation : List StateSet) where
  pub turning_none : {D : ℕ → Type 0} → ((s : ℕ) → D s → ⊥) → Turning relation D (replicate most_states no_states)
  turning_none none = record {
    long = length-replicate {A = StateSet} most_states no_states;
    done = λ s d. absurd (none s d);
    rest = λ s _. ap (λ (x : StateSet). x.0) (filled_with no_states most_states s);
  }

  pub turning_more : {D F : ℕ → Type 0} {k : ℕ} {out : List StateSet} (x : StateSet) → Extends D k F → k < most_states
      → LeadingTo relation k x.0 → Turning relation D out → Turning relation F (set out k x)
  turning_more {D} {F} {k} {out} x e low is w = record {
    long = length-set out k x ∙ w.long;
    done = stored (λ s (y : StateSet). F s → LeadingTo relation s y.0) out k x no_states (omega (arith, w.long)) (λ _. is)
        (λ s ne f. w.done s (⊎_elim (λ d. d) (λ i. absurd (ne i)) (e.only s f)));
    rest = stored (λ s (y : StateSet). (F s → ⊥) → y.0 ≡ 0) out k x no_states (omega (arith, w.long)) (λ n. absurd (n e.own))
        (λ s ne n. w.rest s (λ d. n (e.keeps s d)));
  }

  -- the states of D are all to which the relation leads
  pub turning_end : {D : ℕ → Type 0} (ends : ℕ) {out : List StateSet} → ((s : ℕ) → D s ↔ Has ends s)
      → ((s t : ℕ) → Relates relation s t → Has ends t) → Turning relation D out → IsTransposed relation out
  turning_end {D} ends {out} same all w = record { long = w.long; at = λ s t _. side s t (ℕ_discrete (bit_at ends s) 1) }
    where
      side : (s t : ℕ) → Dec (bit_at ends s ≡ 1) → Relates out s t ↔ Relates relation t s
      side s t (yes p) = w.done s ((same s).1 p) t
      side s t (no n) = (
        λ r. absurd (none_has t (rw (w.rest s (λ d. n ((same s).0 d))) at r)),
        λ r. absurd (n (all t s r)),
      )

-- no image is made, and one more
abbrev no_images : Images
no_images = record { made = record { 0 = 0 }; sets = replicate role_width no_states }

module _ (transitions : List (List StateSet)) (m : ℕ) where
  pub images_none : AreImages transitions m no_images
  images_none = record { long = length-replicate {A = StateSet} role_width no_states; at = λ R p. absurd (none_has R p) }

  pub images_more : (old new : Images) (R : ℕ) (x : StateSet) → AreImages transitions m old → R < role_width
      → IsImage (Relates (relation_at transitions R)) m x.0
      → Inserts role_width old.made.0 R new.made.0 → new.sets ≡ set old.sets R x → AreImages transitions m new
  images_more old new R x w h i ins e = record { long = rw e (length-set old.sets R x ∙ w.long); at = λ Q. rw e (all Q) }
    where
      all : (Q : ℕ) → Has new.made.0 Q → IsImage (Relates (relation_at transitions Q)) m (states_at (set old.sets R x) Q)
      all = stored (λ Q (y : StateSet). Has new.made.0 Q → IsImage (Relates (relation_at transitions Q)) m y.0) old.sets R x no_states
          (omega (arith, w.long))
          (λ _. i) (λ Q ne p. w.at Q (⊎_elim (λ k. k) (λ k. absurd (ne k.0)) ((ins.member Q).0 p)))

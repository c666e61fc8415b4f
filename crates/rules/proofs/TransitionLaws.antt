-- The laws of the transitions' loops: one turn more, and what the last makes.
use Rattle.std.specs.Prelude.{◌≡◌, refl, ◌↔◌, List, ℕ, zero, suc, ◌+◌, ◌<◌, get_or, replicate}
use Rattle.std.proofs.Common.{◌∙◌, inl, inr, ⊎_elim, Bor}
use Rattle.kinds.specs.Kinds.{most_states, state, signed}
use Rattle.laws.specs.Fill.{filled_with}
use Rattle.laws.specs.Loops.{Witness, Extends, nothing_added, add_first, add_same, add_then, add_more, add_all}
use Rattle.laws.specs.Numbers.{numbered}
use Rattle.meaning.specs.Collection.{Step, step, role}
use Rattle.meaning.specs.Lent.{step_at}
use Rattle.sets.proofs.Laws.{none_has}
use Rattle.sets.specs.declared.roles.RoleSet.{RoleSet}
use Rattle.sets.specs.declared.states.StateSet.{StateSet}
use Rattle.sets.specs.Rows.{no_states, no_roles}
use Rattle.rules.specs.Rows.{most_edges, Relates}
use Rattle.sets.specs.Relations.{relation_at}
use Rattle.rules.specs.Transitions.{StepBy, Transition, AreTransitions, Gains, Below, ByOne, IsJoined, GainsEach}
use Rattle.rules.specs.Steps.{Just, Among}
use Rattle.rules.proofs.StepLaws.{Reading, reading_start, none_among, among_more, more_among}

-- ---- one relation, over the roles of a set

pub gains_none : (P : ℕ → ℕ → Type 0) (l : List StateSet) → ((s t : ℕ) → P s t → ⊥) → Gains P l l
gains_none P l never = record { long = refl; at = λ s t. nothing_added (never s t) }

pub gains_more : {D F : ℕ → Type 0} {k : ℕ} {P : ℕ → ℕ → ℕ → Type 0} {l m n : List StateSet} → Extends D k F
    → Gains (λ s t. Witness D (λ i. P i s t)) l m → Gains (P k) m n → Gains (λ s t. Witness F (λ i. P i s t)) l n
gains_more x a b = record { long = b.long ∙ a.long; at = λ s t. add_more x (a.at s t) (b.at s t) }

pub gains_all : {D F : ℕ → Type 0} {P : ℕ → ℕ → ℕ → Type 0} {l m : List StateSet} → ((i : ℕ) → D i ↔ F i)
    → Gains (λ s t. Witness D (λ i. P i s t)) l m → Gains (λ s t. Witness F (λ i. P i s t)) l m
gains_all same a = record { long = a.long; at = λ s t. add_all same (a.at s t) }

-- ---- a relation for each role, over the steps of a table

step_as : {Is As : Step → Type 0} {S s t : ℕ} (x : StepBy Is S s t) → As (step (state s) (role (signed S)) (state t)) → StepBy As S s t
step_as x made = record { by_low = x.by_low; from_low = x.from_low; to_low = x.to_low; made = made }

pub steps_start : (l : List (List StateSet)) (numbers table : Bor (List ℕ)) → table ≡ numbers
    → Reading (λ Is. GainsEach (StepBy Is) l l) numbers table 0
steps_start l numbers table e =
    reading_start e (record { long = refl; at = λ S s t. nothing_added (λ b. none_among (step_at numbers.now) b.made) })

pub steps_more : (f : ℕ → Step) (k : ℕ) (one : Step) {l m n : List (List StateSet)} → one ≡ f k
    → GainsEach (StepBy (Among (numbered f k))) l m → GainsEach (StepBy (Just one)) m n
    → GainsEach (StepBy (Among (numbered f (k + 1)))) l n
steps_more f k one e a b =
    record {
      long = b.long ∙ a.long;
      at = λ S s t.
          add_same (⊎_elim (λ x. step_as x (among_more f k one e (inl x.made))) (λ x. step_as x (among_more f k one e (inr x.made))))
          (λ x. ⊎_elim (λ y. inl (step_as x y)) (λ y. inr (step_as x y)) (more_among f k one e x.made))
          (add_then (a.at S s t) (b.at S s t));
    }

-- ---- the transitions

pub no_rows : (n s t : ℕ) → Relates (replicate n no_states) s t → ⊥
no_rows n s t h = none_has t (rw (filled_with no_states n s) at h)

no_relation : (m : ℕ) (nowhere : List StateSet) → ((s t : ℕ) → Relates nowhere s t → ⊥) → (S s t : ℕ)
    → Relates (relation_at (replicate m nowhere) S) s t
    → ⊥
no_relation zero nowhere none S s t h = none_has t h
no_relation (suc m) nowhere none zero s t h = none s t h
no_relation (suc m) nowhere none (suc S) s t h = no_relation m nowhere none S s t h

pub joined_is : (own : List (List StateSet)) (roles n : ℕ) (way : List StateSet) → Gains (ByOne own roles) (replicate n no_states) way
    → IsJoined own roles way
joined_is own roles n way g = record { at = λ s t. add_first (no_rows n s t) (g.at s t) }

abbrev pub JoinedOf : List (List StateSet) → List RoleSet → ℕ → List StateSet → Type 0
JoinedOf own above R way = IsJoined own (get_or above R no_roles).0 way

-- THEOREM: so they are the transitions of the steps
pub transitions_are : (steps : List Step) (above : List RoleSet) (m : ℕ) (nowhere : List StateSet)
    (own transitions : List (List StateSet))
    → ((s t : ℕ) → Relates nowhere s t → ⊥) → GainsEach (StepBy (Among steps)) (replicate m nowhere) own
    → ((R : ℕ) → R < most_edges → JoinedOf own above R (relation_at transitions R)) → AreTransitions steps above transitions
transitions_are steps above m nowhere own transitions none o w = record { at = λ R s t h. (to R s t h, from R s t h) }
  where
    is : (S s t : ℕ) → Relates (relation_at own S) s t ↔ StepBy (Among steps) S s t
    is S s t = add_first (no_relation m nowhere none S s t) (o.at S s t)

    to : (R s t : ℕ) → R < most_edges → Relates (relation_at transitions R) s t → Transition steps above R s t
    to R s t h x = let y = ((w R h).at s t).0 x in record { by = y.number; leads = (is y.number s t).0 y.holds.leads; follows = y.of }

    from : (R s t : ℕ) → R < most_edges → Transition steps above R s t → Relates (relation_at transitions R) s t
    from R s t h y =
        let b : Below (relation_at own y.by) most_states s t = record { low = y.leads.from_low; leads = (is y.by s t).1 y.leads } in
        ((w R h).at s t).1 (record { number = y.by; of = y.follows; holds = b })

-- Individuals that lead to each other in the start state reach the same nodes.
use Rattle.std.specs.Prelude.{◌≡◌, ◌↔◌, Bool, true, false, IsTrue, List, ℕ, ◌<◌, length, set, slice_index_or, replicate}
use Rattle.std.proofs.Common.{sym, ◌∙◌, ⊎_elim, arith, get_or-set_same, get_or-set_other}
use Rattle.std.proofs.lemmas.Bool.{false≢true}
use Rattle.std.proofs.lemmas.List.{length-replicate, get_or-replicate}
use Rattle.std.proofs.Math.Decide.{ℕ_discrete, dec_lt}
use Rattle.std.proofs.Math.ListN.{get_or-eq_default}
use Rattle.kinds.specs.declared.Individual.{Individual}
use Rattle.kinds.specs.declared.State.{State}
use Rattle.kinds.specs.Kinds.{most_individuals}
use Rattle.sets.specs.Bits.{Has, IsIntersection}
use Rattle.sets.specs.declared.states.StateSet.{StateSet}
use Rattle.theory.specs.Run as run
use Rattle.walk.specs.declared.components.Component.{Component}
use Rattle.walk.specs.declared.strides.Strides.{Strides}
use Rattle.sets.specs.Relations.{states_at}
use Rattle.walk.specs.Telling.{IsComponent, AreMembers}
use Rattle.walk.specs.Walks.{WalkedBy, LeadToAmong}
use Rattle.walk.proofs.SetLaws.{within_row}

-- THEOREM: what x reaches is what f reaches, where x leads to f and f to x
pub same_walk : (s : Strides) (x f : Individual) (start : State) (ahead behind : List StateSet) → WalkedBy s x start ahead
    → LeadToAmong s ahead x start behind → Has (states_at ahead f.0) start.0
    → Has (states_at behind f.0) start.0 → WalkedBy s f start ahead
same_walk s x f start ahead behind w l forth back =
    record {
      long = w.long;
      at = λ b t. (
        λ p. let q = (w.at b t).0 p in
            record {
              individual = within_row most_individuals ahead f.0 start.0 w.long forth;
              state = q.state;
              strides = run.join (l.leads f.0 start.0 forth back) q.strides;
            },
        λ q. (w.at b t).1
            (let r = (w.at f.0 start.0).0 forth in
            record { individual = r.individual; state = r.state; strides = run.join r.strides q.strides }),
      );
    }

pub none_marked : (n g : ℕ) → slice_index_or (replicate n false) g false ≡ true → ⊥
none_marked n g e = side (dec_lt g n)
  where
    side : Dec (g < n) → ⊥
    side (yes l) = false≢true (sym (get_or-replicate {A = Bool} n g false false l) ∙ e)
    side (no l) =
        false≢true (sym (get_or-eq_default (replicate n false) false {n = g} (omega (arith, length-replicate {A = Bool} n false))) ∙ e)

pub members_none : (s : Strides) (start : State) (ahead : List StateSet) (n : ℕ) → AreMembers s start ahead (replicate n false)
members_none s start ahead n = record { at = λ f e. absurd (none_marked n f.0 e) }

-- the individual n is marked where both sets have it in the start state
pub members_more : (s : Strides) (x : Individual) (start : State) (ahead behind : List StateSet) → WalkedBy s x start ahead
    → LeadToAmong s ahead x start behind → (n both : ℕ) (members : List Bool) (on : Bool)
    → AreMembers s start ahead members → n < length members → IsIntersection (states_at ahead n) (states_at behind n) both
    → IsTrue on ↔ Has both start.0 → AreMembers s start ahead (set members n on)
members_more s x start ahead behind w l n both members on g h meet is = record { at = λ f e. side f e (ℕ_discrete f.0 n) }
  where
    here : slice_index_or (set members n on) n false ≡ on
    here = get_or-set_same members n on false h

    side : (f : Individual) → slice_index_or (set members n on) f.0 false ≡ true → Dec (f.0 ≡ n) → WalkedBy s f start ahead
    side f e (yes q) =
        let m = (meet.member start.0).0 (is.0 (rw (q, here) at e)) in same_walk s x f start ahead behind w l (rw q m.0) (rw q m.1)
    side f e (no ne) = g.at f (rw (get_or-set_other members n f.0 on false ne) at e)

-- the first individual, and the members
pub component : (s : Strides) (start : State) (c : Component) → WalkedBy s c.first start c.reached → AreMembers s start c.reached c.others
    → IsComponent s start c
component s start c w g = record { at = λ f m. ⊎_elim (λ e. own f e) (λ e. g.at f e) m }
  where
    own : (f : Individual) → f.0 ≡ c.first.0 → WalkedBy s f start c.reached
    own f e = record {
      long = w.long;
      at = λ b t. (
        λ p. let q = (w.at b t).0 p in
            record { individual = let i = q.individual in omega arith; state = q.state; strides = let r = q.strides in rw e r },
        λ q. (w.at b t).1
            (record { individual = let i = q.individual in omega arith; state = q.state; strides = let r = q.strides in rw e at r }),
      );
    }

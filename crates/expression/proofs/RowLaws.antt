-- The loop that leads every state of one set to every one of another.
use Rattle.std.specs.Prelude.{◌⊎◌, ◌↔◌, List, ℕ, ◌+◌, ◌<◌, ◌≤◌, slice_index_or, set}
use Rattle.std.proofs.Common.{sym, inl, inr, ⊎_elim, arith, below_more}
use Rattle.laws.specs.Fill.{Filling, one_more, all_done}
use Rattle.kinds.specs.Kinds.{most_states}
use Rattle.sets.specs.Bits.{Has, IsUnion}
use Rattle.sets.specs.Rows.{no_states}
use Rattle.sets.specs.declared.states.StateSet.{StateSet}
use Rattle.expression.specs.Parts.{InRow, Leads}

-- row j as it should be
pub record IsLed (old : List StateSet) (from to : StateSet) (j : ℕ) (v : StateSet) : Type 0 where
  pub at : (k : ℕ) → Has v.0 k ↔ (InRow old j k ⊎ (Has from.0 j × Has to.0 k))

-- the rows below i are done
abbrev pub Leading : List StateSet → StateSet → StateSet → List StateSet → ℕ → Type 0
Leading old from to now i = Filling (IsLed old from to) no_states most_states old now i

module _ (old : List StateSet) (from to : StateSet) (now : List StateSet) (i : ℕ) (w : Leading old from to now i) (h : i < most_states) where
  pub lead_on : Has from.0 i → (v : StateSet) → IsUnion (slice_index_or now i no_states).0 to.0 v.0 → Leading old from to (set now i v) (i + 1)
  lead_on p v u =
      one_more (IsLed old from to) no_states most_states old now i v w h (λ e. record {
        at = λ k.
            let m = u.member k in (
              λ x. ⊎_elim (λ y. inl (rw e at y)) (λ y. inr (p, y)) (m.0 x),
              λ x. m.1 (⊎_elim (λ y. inl (rw (sym e) at y)) (λ y. inr y.1) x),
            );
      })

  pub lead_off : (Has from.0 i → ⊥) → Leading old from to now (i + 1)
  lead_off p =
      record {
        within = omega arith;
        long = w.long;
        done =
            below_more (λ k. IsLed old from to k (slice_index_or now k no_states)) i w.done
            (let e = w.rest i (omega arith) in record { at = λ k. (λ x. inl (rw e at x), ⊎_elim (λ y. rw e y) (λ y. absurd (p y.0))) });
        rest = λ k l. w.rest k (omega arith);
      }

pub lead_end : (old : List StateSet) (from to : StateSet) (now : List StateSet) (i : ℕ) → Leading old from to now i → most_states ≤ i → Leads old from to now
lead_end old from to now i w h = record { long = w.long; at = λ j k l. (all_done (IsLed old from to) no_states most_states old now i w h j l).at k }

-- The walk's start and its end: sets that are closed under strides are those that strides reach.
use Rattle.std.specs.Prelude.{◌≡◌, refl, Bool, true, false, None, List, [], ◌∷◌, ℕ, suc, ◌-◌, ◌*◌, ◌^◌, ◌<◌, ◌≤◌, length, set, replicate}
use Rattle.std.proofs.Common.{ap, ⊎_elim, arith, mul-suc, mul_comm}
use Rattle.std.proofs.lemmas.List.Sums.{sum_by-cons}
use Rattle.std.proofs.lemmas.Bool.{false≢true}
use Rattle.std.proofs.Math.Decide.{ℕ_discrete, dec_lt}
use Rattle.std.proofs.lemmas.List.{length-replicate, get_or-replicate}
use Rattle.kinds.specs.declared.Individual.{Individual}
use Rattle.kinds.specs.declared.State.{State}
use Rattle.kinds.specs.Kinds.{most_individuals, most_states}
use Rattle.sets.specs.Bits.{Has, IsOnly, IsMinus, IsUnion, state_width}
use Rattle.sets.specs.declared.states.StateSet.{StateSet}
use Rattle.theory.specs.Run.{Run, stop, go}
use Rattle.sets.specs.Rows.{no_states}
use Rattle.sets.specs.Relations.{states_at}
use Rattle.walk.specs.Passes.{total, Ready, AllFollowed, AreOutside, IsSound, IsClosed, Visited, Found}
use Rattle.walk.proofs.SetLaws.{none_has, past_end, states_at-set_same, states_at-set_other}
use Rattle.walk.proofs.GrowLaws.{ready-set}

-- no set has a state
abbrev pub no_sets : List StateSet
no_sets = replicate most_individuals no_states

pub long_none : length no_sets ≡ most_individuals
long_none = length-replicate {A = StateSet} most_individuals no_states

empty_at : (b : ℕ) → states_at no_sets b ≡ 0
empty_at b = side (dec_lt b most_individuals)
  where
    side : Dec (b < most_individuals) → states_at no_sets b ≡ 0
    side (yes l) = ap (λ (x : StateSet). x.0) (get_or-replicate {A = StateSet} most_individuals b no_states no_states l)
    side (no l) = past_end no_sets b (omega (arith, long_none))

never : (b t : ℕ) → Has (states_at no_sets b) t → ⊥
never b t h = none_has t (rw (empty_at b) at h)

pub start_ready : (from : ℕ) (v : StateSet) → from < most_individuals → v.0 < 2 ^ state_width → Ready (set no_sets from v)
start_ready from v h fits =
    ready-set no_sets from v (record { long = long_none; small = λ b k. omega (arith, empty_at b) }) fits

-- sets without the nodes of others, one set after another
pub outside_none : (sets : List StateSet) → AreOutside sets no_sets
outside_none sets = record {
  ready = record { long = long_none; small = λ b k. omega (arith, empty_at b) };
  none = λ b t p q. never b t p;
}

pub outside_more : (sets r : List StateSet) (b every : ℕ) (v : StateSet) → AreOutside sets r → b < most_individuals
    → IsMinus every (states_at sets b) v.0 → v.0 < 2 ^ state_width → AreOutside sets (set r b v)
outside_more sets r b every v w h minus fits =
    record { ready = ready-set r b v w.ready fits; none = λ a t p q. side a t p q (ℕ_discrete a b) }
  where
    side : (a t : ℕ) → Has (states_at (set r b v) a) t → Has (states_at sets a) t → Dec (a ≡ b) → ⊥
    side a t p q (yes e) =
        ((minus.member t).0 (rw (e, states_at-set_same r b v (let k = w.ready.long in omega arith)) at p)).1 (rw e at q)
    side a t p q (no ne) = w.none a t (rw (states_at-set_other r b a v ne) at p) q

-- and with the start state of the individual x, which alone is among the others
pub outside_start : (sets r : List StateSet) (x state only : ℕ) (v : StateSet) → AreOutside sets r → x < most_individuals
    → IsOnly state_width state only → IsUnion (states_at r x) only v.0 → (b t : ℕ) → Has (states_at (set r x v) b) t
    → Has (states_at sets b) t → (b ≡ x) × (t ≡ state)
outside_start sets r x state only v w h is u b t p q = side (ℕ_discrete b x)
  where
    side : Dec (b ≡ x) → (b ≡ x) × (t ≡ state)
    side (yes e) =
        ⊎_elim (λ o. absurd (w.none b t (rw e o) q)) (λ o. (e, ((is.member t).0 o).0))
        ((u.member t).0 (rw (e, states_at-set_same r x v (let k = w.ready.long in omega arith)) at p))
    side (no ne) = absurd (w.none b t (rw (states_at-set_other r x b v ne) at p) q)

-- how much the sets may still grow
total_bound : (n : ℕ) (l : List StateSet) → ((i : ℕ) → i < length l → states_at l i ≤ n) → total l ≤ length l * n
total_bound n [] h = omega arith
total_bound n (x ∷ l) h =
    let k : x.0 ≤ n = h 0 (omega arith) in
    let r = total_bound n l (λ i p. h (suc i) (omega arith)) in
    omega (arith, sum_by-cons (λ (s : StateSet). s.0) x l, mul-suc n (length l), mul_comm n (length l), mul_comm n (suc (length l)))

unfoldable pub room : List StateSet → ℕ
room l = most_individuals * 2 ^ state_width - total l

total_most : (l : List StateSet) → Ready l → total l ≤ most_individuals * 2 ^ state_width
total_most l r = let e = r.long in let k = total_bound (2 ^ state_width) l (λ i h. let s = r.small i (omega arith) in omega arith) in
    rw e at k

module _ (M : ℕ → ℕ → ℕ → ℕ → Type 0) where
  -- a sweep after which another is needed leaves less room to grow
  pub room_less : (r f r' f' : List StateSet) (again : Bool) → Visited M 0 most_individuals r f r' f' again → again ≡ true
      → room r' < room r
  unfolding room
  room_less r f r' f' again w e = omega (arith, w.grows e, total_most r' w.ready)

  -- where all was followed, strides lead from reached states to reached states
  module _ (r f : List StateSet) (ready : Ready r) (w : IsClosed M r f) (all : AllFollowed most_individuals r f) where
    followed : (a s : ℕ) → Has (states_at r a) s → Dec (a < most_individuals) → Has (states_at f a) s
    followed a s p (yes l) = rw (all.at a l) p
    followed a s p (no l) = absurd (none_has s (rw (past_end r a (let k = ready.long in omega arith)) at p))

    stays : {a b s t : ℕ} → Run M a s b t → Has (states_at r a) s → Has (states_at r b) t
    stays stop p = p
    stays (go m q) p = stays q (w.strides _ _ _ _ (followed _ _ p (dec_lt _ most_individuals)) m)

  -- before the first sweep, and sweep after sweep
  pub passed_none : (lo : ℕ) (r f : List StateSet) → Ready r → length f ≡ most_individuals → Visited M lo lo r f r f false
  passed_none lo r f ready long = record {
    ready = ready;
    long = long;
    keeps = λ b t p. p;
    sound = λ among from start stays w. w;
    closed = λ w. w;
    most = omega arith;
    grows = λ z. absurd (false≢true z);
    all_followed = λ z all. all;
  }

  pub passed_more : (hi : ℕ) (r f r' f' r'' f'' : List StateSet) (again : Bool) → Visited M 0 0 r f r' f' false
      → Visited M 0 hi r' f' r'' f'' again → Visited M 0 0 r f r'' f'' false
  passed_more hi r f r' f' r'' f'' again v w = record {
    ready = w.ready;
    long = w.long;
    keeps = λ b t p. w.keeps b t (v.keeps b t p);
    sound = λ among from start stays x. w.sound among from start stays (v.sound among from start stays x);
    closed = λ x. w.closed (v.closed x);
    most = omega (arith, v.most, w.most);
    grows = λ z. absurd (false≢true z);
    all_followed = λ z all. record { at = λ k l. absurd (omega arith) };
  }

  -- the last sweep leaves no individual with states to follow
  pub passed_end : (hi : ℕ) (r f r' f' r'' f'' : List StateSet) (again : Bool) → Visited M 0 0 r f r' f' false
      → Visited M 0 hi r' f' r'' f'' again → again ≡ false → Visited M 0 hi r f r'' f'' false
  passed_end hi r f r' f' r'' f'' again v w e =
      let u = passed_more hi r f r' f' r'' f'' again v w in
      record {
        ready = u.ready;
        long = u.long;
        keeps = u.keeps;
        sound = u.sound;
        closed = u.closed;
        most = u.most;
        grows = u.grows;
        all_followed = λ z all. w.all_followed e (record { at = λ k l. absurd (omega arith) });
      }

  -- no walk begins where the first individual or the start state has no row
  pub found_none : (first : Individual) (start : State) → (first.0 < most_individuals → start.0 < most_states → ⊥)
      → Found M first start no_sets
  found_none first start out = record { long = long_none; sound = λ b t x. absurd (never b t x); full = λ b t h k x. absurd (out h k) }

  -- v is the set of the start state alone
  module _ (first : Individual) (start : State) (v : StateSet) (h : first.0 < most_individuals) (k : start.0 < most_states)
      (only : IsOnly state_width start.0 v.0) where
    abbrev pub at_first : List StateSet
    at_first = set no_sets first.0 v

    own : states_at at_first first.0 ≡ v.0
    own = states_at-set_same no_sets first.0 v (omega (arith, long_none))

    sound_start : IsSound M None first.0 start.0 at_first
    sound_start = record { at = λ b t p c. sound b t p (ℕ_discrete b first.0) }
      where
        sound : (b t : ℕ) → Has (states_at at_first b) t → Dec (b ≡ first.0) → Run M first.0 start.0 b t
        sound b t p (yes q) = let x = rw (q, own) at p in let z = ((only.member t).0 x).0 in rw (q, z) stop
        sound b t p (no ne) = absurd (never b t (rw (states_at-set_other no_sets first.0 b v ne) at p))

    closed_start : IsClosed M at_first no_sets
    closed_start = record { within = λ a s p. absurd (never a s p); strides = λ a s b t p. absurd (never a s p) }

    pub found : (r f : List StateSet) → Visited M 0 most_individuals at_first no_sets r f false → Found M first start r
    found r f p =
        let sound = p.sound None first.0 start.0 (record { at = λ a s b t m c. c }) sound_start in
        record {
          long = p.ready.long;
          sound = λ b t x. (h, k, sound.at b t x tt);
          full = λ b t _ _ x. stays r f p.ready (p.closed closed_start) (p.all_followed refl (record { at = λ k l. absurd (omega arith) }))
              x (p.keeps first.0 start.0 (rw own ((only.member start.0).1 (refl, omega arith))));
        }

-- A node is led on, an individual is visited, and sweeps come to an end.
use Rattle.std.specs.Prelude.{◌≡◌, refl, ◌⊎◌, List, ℕ, ◌-◌, ◌^◌, ◌<◌, length, set}
use Rattle.std.proofs.Common.{sym, inl, inr, ⊎_elim, arith}
use Rattle.std.proofs.lemmas.Nat.Bits.{bit_at_ones}
use Rattle.std.proofs.Math.Decide.{ℕ_discrete}
use Rattle.kinds.specs.declared.Individual.{Individual}
use Rattle.kinds.specs.declared.State.{State}
use Rattle.kinds.specs.Kinds.{most_individuals, most_states}
use Rattle.sets.specs.Bits.{Has, IsOnly, IsMinus, state_width}
use Rattle.sets.specs.declared.states.StateSet.{StateSet}
use Rattle.edges.proofs.EdgeLaws.{edge-role}
use Rattle.theory.specs.Run.{Run, stop, go, one}
use Rattle.theory.specs.Run as run
use Rattle.walk.specs.declared.multi.MultiWalk.{MultiWalk}
use Rattle.walk.specs.declared.strides.Strides.{Strides}
use Rattle.sets.specs.Relations.{states_at}
use Rattle.walk.specs.Strides.{along, loop}
use Rattle.walk.specs.Sources.{word_at, Marked, first_at, AreMarked}
use Rattle.walk.specs.Walks.{StrideBy, ReachesBy}
use Rattle.walk.specs.MultiWalks.{left, Ready, Grown, ByStrides, Walking, Kept, Leads, Exhausts, ExhaustsAll, Begun, AreRows}
use Rattle.walk.proofs.SetLaws.{low_member, states_at-set_same, states_at-set_other, as_number}
use Rattle.walk.proofs.WordLaws.{left_less}

pub kept_then : {s : Strides} {a b c : MultiWalk} → Kept s a b → Kept s b c → Kept s a c
kept_then v w = record { ready = w.ready; walks = λ firsts count start g. w.walks firsts count start (v.walks firsts count start g) }

-- ---- one node, of the individual a in t, that was behind: v is what is still behind there
module _ (s : Strides) (old : MultiWalk) (a t only : ℕ) (v : StateSet) (ready : Ready old) (h : a < most_individuals)
    (waits : Has (states_at old.behind a) t) (fits : v.0 < 2 ^ state_width)
    (is : IsOnly state_width t only) (minus : IsMinus (states_at old.behind a) only v.0) where
  abbrev pub popped : MultiWalk
  popped = record { words = old.words; behind = set old.behind a v; full = old.full; all = old.all }

  in_behind : a < length old.behind
  in_behind = let e = ready.many in omega arith

  at_a : states_at popped.behind a ≡ v.0
  at_a = states_at-set_same old.behind a v in_behind

  low : t < most_states
  low = low_member _ t (ready.small a) waits

  -- what was behind is the node, or is so still
  still : (y u : ℕ) → Has (states_at old.behind y) u → Dec (y ≡ a) → Dec (u ≡ t) → ((y ≡ a) × (u ≡ t)) ⊎ Has (states_at popped.behind y) u
  still y u p (yes e) (yes f) = inl (e, f)
  still y u p (yes e) (no n) = inr (rw (e, at_a) ((minus.member u).1 (rw e at p, λ q. n ((is.member u).0 q).0)))
  still y u p (no n) d = inr (rw (states_at-set_other old.behind a y v n) p)

  small : (y : ℕ) → Dec (y ≡ a) → states_at popped.behind y < 2 ^ state_width
  small y (yes e) = rw (e, at_a) fits
  small y (no n) = rw (states_at-set_other old.behind a y v n) (ready.small y)

  popped_less : left popped < left old
  popped_less = left_less old a v in_behind (side (ℕ_discrete v.0 (states_at old.behind a)))
    where
      side : Dec (v.0 ≡ states_at old.behind a) → v.0 < states_at old.behind a
      side (yes e) = absurd (((minus.member t).0 (rw (sym e) at waits)).1 ((is.member t).1 (refl, low)))
      side (no n) = omega (arith, n, as_number v.0 (states_at old.behind a) (λ u p. ((minus.member u).0 p).0))

  module _ (new : MultiWalk) (grown : Grown (ByStrides s a t (word_at old.words a t)) popped new) where
    module _ (firsts : List Individual) (count start : ℕ) (w : Walking s firsts count start old) where
      sound : (k y u : ℕ) → Marked new.words k y u → (k < count) × ReachesBy s (first_at firsts k) start y u
      sound k y u p = ⊎_elim (λ q. w.sound k y u q) (λ q. from q) (grown.comes k y u p)
        where
          from : ByStrides s a t (word_at old.words a t) k y u → (k < count) × ReachesBy s (first_at firsts k) start y u
          from q =
              let r = w.sound k a t q.first in
              (r.0, record { individual = r.1.individual; state = r.1.state; strides = run.join r.1.strides (one q.stride) })

      closed : (k y u c i : ℕ) → i < most_states → StrideBy s y u c i → Marked new.words k y u
          → Marked new.words k c i ⊎ Has (states_at new.behind y) u
      closed k y u c i l m p = ⊎_elim (λ q. before q) (λ q. inr q) (grown.put k y u p)
        where
          own : Marked old.words k y u → (y ≡ a) × (u ≡ t) → Marked new.words k c i
          own q e = grown.has k c i (record { stride = rw (e.0, e.1) at m; low = l; first = rw (e.0, e.1) at q })

          before : Marked old.words k y u → Marked new.words k c i ⊎ Has (states_at new.behind y) u
          before q =
              ⊎_elim (λ r. inl (grown.keeps k c i r))
              (λ r. ⊎_elim (λ e. inl (own q e)) (λ f. inr (grown.waits y u f)) (still y u r (ℕ_discrete y a) (ℕ_discrete u t)))
              (w.closed k y u c i l m q)

    pub led : Leads s old new
    led =
        record {
          kept = record {
            ready = grown.ready;
            walks = λ firsts count start w. record {
              begins = λ k l i j. grown.keeps k (first_at firsts k) start (w.begins k l i j);
              sound = sound firsts count start w;
              closed = closed firsts count start w;
            };
          };
          less = omega (arith, grown.less, popped_less);
        }

-- ---- sweeps

-- the set of every state
pub exhausts_all : (s : Strides) (old now new : MultiWalk) → Kept s old now → Exhausts s (2 ^ state_width - 1) now new
    → ExhaustsAll s old new
exhausts_all s old now new v w = record { kept = kept_then v w.kept; clean = clean }
  where
    clean : (y u : ℕ) → Has (states_at new.behind y) u → ⊥
    clean y u p = w.clean y u p (bit_at_ones most_states u (low_member _ u (w.kept.ready.small y) p))

-- ---- the end

module _ (s : Strides) (firsts : List Individual) (count : ℕ) (start : State) where
  walking_start : (w : MultiWalk) → Begun firsts start.0 count count w → Walking s firsts count start.0 w
  walking_start w g = record { begins = g.begins; sound = sound; closed = λ k y u c t l m p. inr (g.behind k y u p) }
    where
      sound : (k y u : ℕ) → Marked w.words k y u → (k < count) × ReachesBy s (first_at firsts k) start.0 y u
      sound k y u p =
          let q = g.sound k y u p in
          let e = q.1.there in
          let f = q.1.state in
          let l = q.1.row in
          let i = q.1.low in
          (q.0, rw (e, f) (record { individual = rw e at l; state = rw f at i; strides = stop }))

  module _ (w : MultiWalk) (rows : AreRows s) (g : Walking s firsts count start.0 w)
      (clean : (y u : ℕ) → Has (states_at w.behind y) u → ⊥) where
    -- a stride leads to a state that has a word
    landed : {a u c t : ℕ} → StrideBy s a u c t → t < most_states
    landed (along edge l p) = low_member _ _ ((rows.transitions _ (edge-role _ _ edge l)).small _) p
    landed (loop l p) = low_member _ _ ((rows.loops _ l).small _) p

    stays : (k : ℕ) → {a u c t : ℕ} → Run (StrideBy s) a u c t → Marked w.words k a u → Marked w.words k c t
    stays k stop p = p
    stays k (go m r) p = stays k r (⊎_elim (λ q. q) (λ q. absurd (clean _ _ q)) (g.closed k _ _ _ _ (landed m) m p))

    all_marked : AreMarked s firsts count start w.words
    all_marked =
        record { at = λ k c t. (λ p. g.sound k c t p, λ p. let q = p.1 in stays k q.strides (g.begins k p.0 q.individual q.state)) }

  -- THEOREM: where no node is behind, a first is marked at the nodes that it reaches
  pub walked : (old new : MultiWalk) → AreRows s → Begun firsts start.0 count count old → ExhaustsAll s old new
      → AreMarked s firsts count start new.words
  walked old new rows g v = all_marked new rows (v.kept.walks firsts count start.0 (walking_start old g)) v.clean

-- A jump: the firsts that lead to a node are put at all nodes that it reaches.
use Rattle.std.specs.Prelude.{◌≡◌, refl, ◌⊎◌, Bool, true, false, List, ℕ, ◌+◌, ◌^◌, ◌<◌, ◌≤◌}
use Rattle.std.proofs.Common.{◌∙◌, inl, inr, ⊎_elim, arith}
use Rattle.std.proofs.lemmas.Bool.{false≢true}
use Rattle.std.proofs.Math.Decide.{ℕ_discrete}
use Rattle.std.specs.Int.RustNames.{bit_or}
use Rattle.kinds.specs.declared.Individual.{Individual}
use Rattle.kinds.specs.declared.State.{State}
use Rattle.kinds.specs.Kinds.{most_individuals, most_states}
use Rattle.sets.specs.Bits.{Has, IsEmpty, TakesFirst, state_width}
use Rattle.sets.specs.declared.states.StateSet.{StateSet}
use Rattle.sets.specs.Relations.{states_at}
use Rattle.theory.specs.Run.{one}
use Rattle.theory.specs.Run as run
use Rattle.walk.specs.declared.multi.MultiWalk.{MultiWalk}
use Rattle.walk.specs.declared.strides.Strides.{Strides}
use Rattle.walk.specs.Sources.{most_sources, word_at, Marked, first_at, IsIn}
use Rattle.walk.specs.Walks.{StrideBy, ReachesBy, WalkedBy, LeadTo}
use Rattle.walk.specs.MultiWalks.{Within, Ready, At, InStates, InSets, Fills, Walking, Kept, LeadThere, CatchesUp, Stays, Settled}
use Rattle.walk.proofs.SetLaws.{within_row, as_number}
use Rattle.walk.proofs.MarkLaws.{Stores, word, after, union, here, other, place, keeps, own, has, stores_ready}

-- ---- one node

module _ (w : MultiWalk) (b t sources : ℕ) (full behind : List StateSet) (ready : Ready w) (row : b < most_individuals)
    (low : t < most_states) (part : Within sources w.all)
    (inside : bit_or (word_at w.words b t) sources < 2 ^ most_sources)
    (caught_up : Bool) (alone : caught_up ≡ true → bit_or (word_at w.words b t) sources ≡ sources)
    (catches : CatchesUp b t caught_up w.behind behind)
    (on : Bool) (is : on ≡ true → bit_or (word_at w.words b t) sources ≡ w.all) (fills : Fills b t on w.full full) where
  small : (a : ℕ) → states_at behind a < 2 ^ state_width
  small a = let l = ready.small a in let m = as_number (states_at behind a) (states_at w.behind a) (catches.comes a) in omega arith

  pub stores : Stores w b t sources full behind
  stores =
      record {
        ready = ready;
        row = row;
        low = low;
        part = part;
        inside = inside;
        many = catches.many ∙ ready.many;
        small = small;
        on = on;
        is = is;
        fills = fills;
      }

  abbrev stored : MultiWalk
  stored = after w b t sources full behind stores

  -- a node that is behind no longer has no mark but those of the sources
  own_mark : (k : ℕ) → Has (word w b t sources full behind stores) k → (on : Bool) → caught_up ≡ on
      → Has sources k ⊎ (Marked w.words k b t × (Has (states_at w.behind b) t → Has (states_at behind b) t))
  own_mark k p true e = let a = alone e in inl (rw a at p)
  own_mark k p false e =
      ⊎_elim (λ q. inr (q, λ z. ⊎_elim (λ v. v) (λ v. let c = v.2 in absurd (false≢true (rw e at c))) (catches.stays b t z)))
      (λ q. inl q) (((union w b t sources full behind stores).member k).0 p)

  others : (k y u : ℕ) → Marked stored.words k y u → Dec ((y ≡ b) × (u ≡ t)) → At b t sources k y u ⊎ Stays w stored k y u
  others k y u p (yes e) =
      ⊎_elim (λ q. inl (own w b t sources full behind stores k e q))
      (λ q. inr (record { marked = rw (e.0, e.1) q.0; behind = rw (e.0, e.1) q.1 }))
      (own_mark k (rw (e.0, e.1, here w b t sources full behind stores) at p) caught_up refl)
  others k y u p (no ne) =
      inr (record {
        marked = rw (other w b t sources full behind stores y u ne) at p;
        behind = λ z. ⊎_elim (λ q. q) (λ q. absurd (ne (q.0, q.1))) (catches.stays y u z);
      })

  pub settled_one : Settled (At b t sources) w stored
  settled_one =
      record {
        ready = stores_ready w b t sources full behind stores;
        all = refl;
        keeps = keeps w b t sources full behind stores;
        has = has w b t sources full behind stores;
        others = λ k y u p. others k y u p (place w b t sources full behind stores y u);
      }

-- ---- one node after another

pub settled_none : {P : ℕ → ℕ → ℕ → Type 0} (w : MultiWalk) → Ready w → ((k y u : ℕ) → P k y u → ⊥) → Settled P w w
settled_none w r none =
    record {
      ready = r;
      all = refl;
      keeps = λ k y u p. p;
      has = λ k y u p. absurd (none k y u p);
      others = λ k y u p. inr (record { marked = p; behind = λ z. z });
    }

pub settled_then : {P Q R : ℕ → ℕ → ℕ → Type 0} {a b c : MultiWalk} → Settled P a b → Settled Q b c
    → ((k y u : ℕ) → P k y u ⊎ Q k y u → R k y u) → ((k y u : ℕ) → R k y u → P k y u ⊎ Q k y u) → Settled R a c
settled_then v w to from =
    record {
      ready = w.ready;
      all = w.all ∙ v.all;
      keeps = λ k y u p. w.keeps k y u (v.keeps k y u p);
      has = λ k y u p. ⊎_elim (λ q. w.keeps k y u (v.has k y u q)) (λ q. w.has k y u q) (from k y u p);
      others =
          λ k y u p. ⊎_elim (λ q. inl (to k y u (inr q)))
          (λ q. ⊎_elim (λ r. inl (to k y u (inl r))) (λ r. inr (record { marked = r.marked; behind = λ z. q.behind (r.behind z) }))
          (v.others k y u q.marked)) (w.others k y u p);
    }

pub settled_same : {P Q : ℕ → ℕ → ℕ → Type 0} {old new : MultiWalk} → ((k y u : ℕ) → P k y u → Q k y u)
    → ((k y u : ℕ) → Q k y u → P k y u) → Settled P old new → Settled Q old new
settled_same to from w =
    record {
      ready = w.ready;
      all = w.all;
      keeps = w.keeps;
      has = λ k y u q. w.has k y u (from k y u q);
      others = λ k y u p. ⊎_elim (λ q. inl (to k y u q)) (λ q. inr q) (w.others k y u p);
    }

-- of the states of all those in rest are still to come
pub record PastStates (b all rest sources k y u : ℕ) : Type 0 where
  pub here : InStates b all sources k y u
  pub past : Has rest u → ⊥

pub record Settling (b all rest sources : ℕ) (old now : MultiWalk) : Type 0 where
  pub part : (s : ℕ) → Has rest s → Has all s
  pub settled : Settled (PastStates b all rest sources) old now

module _ (b all sources : ℕ) where
  pub settling_none : (w : MultiWalk) → Ready w → Settling b all all sources w w
  settling_none w r = record { part = λ s p. p; settled = settled_none w r (λ k y u p. p.past p.here.in_set) }

  pub settling_more : (w t rest after : ℕ) (old now new : MultiWalk) → Settling b all rest sources old now → TakesFirst w rest t after
      → Settled (At b t sources) now new
      → Settling b all after sources old new
  settling_more w t rest after old now new g first n =
      record { part = λ s p. g.part s ((first.rest.member s).0 p).0; settled = settled_then g.settled n to from }
    where
      to : (k y u : ℕ) → PastStates b all rest sources k y u ⊎ At b t sources k y u → PastStates b all after sources k y u
      to k y u (inl p) = record { here = p.here; past = λ q. p.past ((first.rest.member u).0 q).0 }
      to k y u (inr p) =
          let e = p.state in
          record {
            here = record { there = p.there; low = p.low; in_set = rw e (g.part t first.member); first = p.first };
            past = λ f. ((first.rest.member u).0 f).1 e;
          }

      from : (k y u : ℕ) → PastStates b all after sources k y u → PastStates b all rest sources k y u ⊎ At b t sources k y u
      from k y u p = side (ℕ_discrete u t)
        where
          side : Dec (u ≡ t) → PastStates b all rest sources k y u ⊎ At b t sources k y u
          side (yes e) = inr (record { there = p.here.there; state = e; low = p.here.low; first = p.here.first })
          side (no ne) = inl (record { here = p.here; past = λ q. p.past ((first.rest.member u).1 (q, ne)) })

  pub settling_end : (rest : ℕ) (old new : MultiWalk) → Settling b all rest sources old new → IsEmpty rest
      → Settled (InStates b all sources) old new
  settling_end rest old new g none = settled_same (λ k y u p. p.here) (λ k y u p. record { here = p; past = none u }) g.settled

module _ (sets : List StateSet) (sources : ℕ) where
  pub sets_none : (w : MultiWalk) → Ready w → Settled (InSets sets 0 sources) w w
  sets_none w r = settled_none w r (λ k y u p. let l = p.there in absurd (omega arith))

  pub sets_more : (n : ℕ) (old now new : MultiWalk) → Settled (InSets sets n sources) old now
      → Settled (InStates n (states_at sets n) sources) now new
      → Settled (InSets sets (n + 1) sources) old new
  sets_more n old now new g w = settled_then g w to from
    where
      to : (k y u : ℕ) → InSets sets n sources k y u ⊎ InStates n (states_at sets n) sources k y u → InSets sets (n + 1) sources k y u
      to k y u (inl p) = let l = p.there in record { there = omega arith; low = p.low; in_set = p.in_set; first = p.first }
      to k y u (inr p) =
          let e = p.there in let q = p.in_set in record { there = omega arith; low = p.low; in_set = rw e q; first = p.first }

      from : (k y u : ℕ) → InSets sets (n + 1) sources k y u → InSets sets n sources k y u ⊎ InStates n (states_at sets n) sources k y u
      from k y u p = side (ℕ_discrete y n)
        where
          side : Dec (y ≡ n) → InSets sets n sources k y u ⊎ InStates n (states_at sets n) sources k y u
          side (yes e) = let q = p.in_set in inr (record { there = e; low = p.low; in_set = rw e at q; first = p.first })
          side (no ne) = let l = p.there in inl (record { there = omega arith; low = p.low; in_set = p.in_set; first = p.first })

  pub sets_end : (n : ℕ) (old new : MultiWalk) → Settled (InSets sets n sources) old new → most_individuals ≤ n → n ≤ most_individuals
      → Settled (InSets sets most_individuals sources) old new
  sets_end n old new g h k = let e : n ≡ most_individuals = omega arith in rw e at g

-- ---- the jump to the node of b in t

module _ (s : Strides) (b : Individual) (t : State) where
  -- what the walk backward gave, and the firsts that are marked there
  pub led_there : (words : List (List ℕ)) (back : List StateSet) (sources : ℕ) → LeadTo s b t back
      → IsIn words back most_individuals sources
      → LeadThere s b.0 t.0 words sources
  led_there words back sources l g =
      record {
        each = λ k p.
            let q = (g.at k).0 p in
            record {
              individual = q.to;
              state = q.in_state.state;
              marked = q.in_state.first;
              leads = l.leads q.to q.in_state.state q.in_state.has;
            };
      }

  pub led_within : (w : MultiWalk) (sources : ℕ) → Ready w → LeadThere s b.0 t.0 w.words sources → Within sources w.all
  led_within w sources r l = λ k p. let q = l.each k p in r.within k q.individual q.state q.marked

  module _ (old new : MultiWalk) (sources : ℕ) (reached : List StateSet) (there : LeadThere s b.0 t.0 old.words sources)
      (walked : WalkedBy s b t reached) (g : Settled (InSets reached most_individuals sources) old new) where
    module _ (firsts : List Individual) (count start : ℕ) (w : Walking s firsts count start old) where
      sound : (k y u : ℕ) → Marked new.words k y u → (k < count) × ReachesBy s (first_at firsts k) start y u
      sound k y u p = ⊎_elim (λ q. from q) (λ q. w.sound k y u q.marked) (g.others k y u p)
        where
          from : InSets reached most_individuals sources k y u → (k < count) × ReachesBy s (first_at firsts k) start y u
          from q =
              let m = there.each k q.first in
              let r = (walked.at y u).0 q.in_set in
              let v = w.sound k m.individual m.state m.marked in (
                v.0,
                record { individual = v.1.individual; state = v.1.state; strides = run.join v.1.strides (run.join m.leads r.strides) },
              )

      closed : (k y u c i : ℕ) → i < most_states → StrideBy s y u c i → Marked new.words k y u
          → Marked new.words k c i ⊎ Has (states_at new.behind y) u
      closed k y u c i l m p =
          ⊎_elim (λ q. inl (onward q))
          (λ q. ⊎_elim (λ r. inl (g.keeps k c i r)) (λ r. inr (q.behind r)) (w.closed k y u c i l m q.marked)) (g.others k y u p)
        where
          onward : InSets reached most_individuals sources k y u → Marked new.words k c i
          onward q =
              let r = (walked.at y u).0 q.in_set in
              let v = (walked.at c i).1 (record { individual = r.individual; state = r.state; strides = run.join r.strides (one m) }) in
              g.has k c i (record { there = within_row most_individuals reached c i walked.long v; low = l; in_set = v; first = q.first })

    -- THEOREM: walks go on
    pub jumped : Kept s old new
    jumped =
        record {
          ready = g.ready;
          walks = λ firsts count start w. record {
            begins = λ k l i j. g.keeps k (first_at firsts k) start (w.begins k l i j);
            sound = sound firsts count start w;
            closed = closed firsts count start w;
          };
        }

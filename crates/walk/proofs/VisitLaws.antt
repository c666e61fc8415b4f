-- A visit: what is in an individual's set and was not followed yet is followed.
use Rattle.std.specs.Prelude.{◌≡◌, refl, Bool, false, Option, List, ℕ, ◌+◌, ◌^◌, ◌<◌, ◌≤◌, length, set}
use Rattle.std.proofs.Common.{sym, ◌∙◌, ⊎_elim, arith, length-set}
use Rattle.std.proofs.lemmas.Bool.{false≢true}
use Rattle.std.proofs.Math.Decide.{ℕ_discrete}
use Rattle.std.specs.Int.{bit_at}
use Rattle.kinds.specs.Kinds.{most_individuals}
use Rattle.sets.specs.Bits.{Has, IsMinus, state_width}
use Rattle.sets.specs.declared.states.StateSet.{StateSet}
use Rattle.theory.specs.Run.{Run, stop, go, one}
use Rattle.theory.specs.Run as run
use Rattle.walk.specs.declared.walk.Guide.{Guide}
use Rattle.sets.specs.Relations.{states_at, relation_at}
use Rattle.walk.specs.Directions.{Led, along, loop}
use Rattle.walk.specs.Walks.{EdgeOf}
use Rattle.walk.specs.Passes.{MoveOf, Ready, Grows, ByEdges, Looped, none, more, IsWithLoops, AllFollowed, Counts, StaysAmong, IsSound, IsClosed, Visited}
use Rattle.walk.proofs.SetLaws.{states_at-set_same, states_at-set_other, as_number}
use Rattle.walk.proofs.GrowLaws.{total-set, ready-set, raised_most}

-- no run leads from another node to one that counts
pub stays_back : (M : ℕ → ℕ → ℕ → ℕ → Type 0) (among : Option (List StateSet)) → StaysAmong M among
    → {a s b t : ℕ} → Run M a s b t → Counts among b t → Counts among a s
stays_back M among stays stop c = c
stays_back M among stays (go m p) c = stays.at _ _ _ _ m (stays_back M among stays p c)

module _ (g : Guide) where
  -- loops are strides
  looped-run : (a s t : ℕ) → a < most_individuals → Looped (Led g.directed.now.direction (relation_at g.strides.loops.now.rows a)) s t
      → Run (MoveOf g) a s a t
  looped-run a s t h none = stop
  looped-run a s t h (more l p) = run.join (looped-run a s _ h l) (one (loop h p))

  -- nothing is left to follow
  pub visited_none : (a : ℕ) (r f : List StateSet) → Ready r → length f ≡ most_individuals → states_at r a ≡ states_at f a
      → Visited (MoveOf g) a (a + 1) r f r f false
  visited_none a r f ready long e = record {
    ready = ready;
    long = long;
    keeps = λ b t p. p;
    sound = λ among from start stays w. w;
    closed = λ w. w;
    most = omega arith;
    grows = λ z. absurd (false≢true z);
    all_followed = λ z before. record { at = λ k p. side before k p (ℕ_discrete k a) };
  }
    where
      side : AllFollowed a r f → (k : ℕ) → k < a + 1 → Dec (k ≡ a) → states_at f k ≡ states_at r k
      side before k p (yes q) = rw q (sym e)
      side before k p (no ne) = before.at k (omega arith)

  -- all is what a's loops reach from its set
  module _ (a : ℕ) (r f : List StateSet) (all : StateSet) (ready : Ready r) (long : length f ≡ most_individuals) (h : a < most_individuals)
      (own : IsWithLoops g a (states_at r a) all.0) (fits : all.0 < 2 ^ state_width) where
    in_r : a < length r
    in_r = let k = ready.long in omega arith

    at_a : states_at (set r a all) a ≡ all.0
    at_a = states_at-set_same r a all in_r

    followed-at : states_at (set f a all) a ≡ all.0
    followed-at = states_at-set_same f a all (omega arith)

    keeps-own : (b t : ℕ) → Has (states_at r b) t → Dec (b ≡ a) → Has (states_at (set r a all) b) t
    keeps-own b t p (yes e) = rw (e, at_a) (own.keeps t (rw e at p))
    keeps-own b t p (no ne) = rw (states_at-set_other r a b all ne) p

    -- new is what of it was not followed yet
    module _ (new : ℕ) (r' : List StateSet) (grew : Bool) (is-new : IsMinus all.0 (states_at f a) new)
        (hops : Grows (ByEdges g (EdgeOf g.strides a) new) (set r a all) r' grew) where
      keeps : (b t : ℕ) → Has (states_at r b) t → Has (states_at r' b) t
      keeps b t p = hops.raised.keeps b t (keeps-own b t p (ℕ_discrete b a))

      has-own : (t : ℕ) → Has all.0 t → Has (states_at r' a) t
      has-own t p = hops.raised.keeps a t (rw at_a p)

      module _ (among : Option (List StateSet)) (from start : ℕ) (stays : StaysAmong (MoveOf g) among)
          (w : IsSound (MoveOf g) among from start r) where
        sound-all : (t : ℕ) → Has all.0 t → Counts among a t → Run (MoveOf g) from start a t
        sound-all t p c =
            let q = own.sound t p in
            let loops = looped-run a q.number t h q.holds in
            run.join (w.at a q.number q.of (stays_back (MoveOf g) among stays loops c)) loops

        sound-own : (b t : ℕ) → Has (states_at (set r a all) b) t → Counts among b t → Dec (b ≡ a) → Run (MoveOf g) from start b t
        sound-own b t p c (yes e) = let q = rw (e, at_a) at p in let d = rw e at c in rw e (sound-all t q d)
        sound-own b t p c (no ne) = w.at b t (rw (states_at-set_other r a b all ne) at p) c

        sound-hops : (b t : ℕ) → ByEdges g (EdgeOf g.strides a) new b t → Counts among b t → Run (MoveOf g) from start b t
        sound-hops b t p c =
            let e = p.there in
            let l = p.led in
            let s = ((is-new.member l.number).0 l.of).0 in
            let m : MoveOf g a l.number b t = rw e (along p.edge p.among l.holds) in
            run.join (sound-all l.number s (stays.at a l.number b t m c)) (one m)

        sound : IsSound (MoveOf g) among from start r'
        sound = record { at = λ b t p c. ⊎_elim (λ q. sound-own b t q c (ℕ_discrete b a)) (λ q. sound-hops b t q c) (hops.comes b t p) }

      module _ (w : IsClosed (MoveOf g) r f) where
        closed_all : (s b t : ℕ) → Has all.0 s → Dec (bit_at (states_at f a) s ≡ 1) → MoveOf g a s b t → Has (states_at r' b) t
        closed_all s b t p (yes q) m = keeps b t (w.strides a s b t q m)
        closed_all s b t p (no q) (along k l m) =
            hops.has _ t (record {
              edge = k;
              among = l;
              there = refl;
              led = record { number = s; of = (is-new.member s).1 (p, q); holds = m };
            })
        closed_all s b t p (no q) (loop l m) = has-own t (own.closed s t p m)

        closed : (x s b t : ℕ) → Has (states_at (set f a all) x) s → MoveOf g x s b t → Dec (x ≡ a) → Has (states_at r' b) t
        closed x s b t p m (yes e) = closed_all s b t (rw (e, followed-at) at p) (ℕ_discrete (bit_at (states_at f a) s) 1) (rw e at m)
        closed x s b t p m (no ne) = keeps b t (w.strides x s b t (rw (states_at-set_other f a x all ne) at p) m)

        within : (x s : ℕ) → Has (states_at (set f a all) x) s → Dec (x ≡ a) → Has (states_at r' x) s
        within x s p (yes e) = rw e (has-own s (rw (e, followed-at) at p))
        within x s p (no ne) = keeps x s (w.within x s (rw (states_at-set_other f a x all ne) at p))

        is_closed : IsClosed (MoveOf g) r' (set f a all)
        is_closed = record {
          within = λ x s p. within x s p (ℕ_discrete x a);
          strides = λ x s b t p m. closed x s b t p m (ℕ_discrete x a);
        }

      -- where no other set grew, the individuals below a are as they were, and a's states have been followed
      followed-to : grew ≡ false → AllFollowed a r f → (k : ℕ) → k < a + 1 → Dec (k ≡ a) → states_at (set f a all) k ≡ states_at r' k
      followed-to z before k p (yes e) = rw (e, followed-at, hops.raised.still z, at_a) refl
      followed-to z before k p (no ne) = rw (states_at-set_other f a k all ne, hops.raised.still z, states_at-set_other r a k all ne)
          (before.at k (omega arith))

      pub visited : Visited (MoveOf g) a (a + 1) r f r' (set f a all) grew
      visited =
          let q = total-set r a all in_r in
          record {
            ready = hops.raised.ready (ready-set r a all ready fits);
            long = length-set f a all ∙ long;
            keeps = keeps;
            sound = sound;
            closed = is_closed;
            most = omega (arith, raised_most hops.raised, kept);
            grows = λ e. omega (arith, hops.raised.grows e, kept);
            all_followed = λ z before. record { at = λ k p. followed-to z before k p (ℕ_discrete k a) };
          }
        where
          kept : states_at r a ≤ all.0
          kept = as_number (states_at r a) all.0 own.keeps

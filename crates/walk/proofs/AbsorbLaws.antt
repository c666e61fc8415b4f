-- What a known individual reaches, taken as reached and as followed, keeps what the walk knows of its sets.
use Rattle.std.specs.Prelude.{◌≡◌, refl, false, Option, List, ℕ, ◌+◌, ◌^◌, ◌<◌, length, set}
use Rattle.std.proofs.Common.{sym, ◌∙◌, inl, inr, ⊎_elim, arith, length-set, below_more}
use Rattle.std.proofs.lemmas.Bool.{false≢true}
use Rattle.std.proofs.Math.Decide.{dec_lt}
use Rattle.kinds.specs.Kinds.{most_individuals}
use Rattle.sets.specs.Bits.{Has, IsUnion, state_width}
use Rattle.sets.specs.Relations.{states_at}
use Rattle.sets.specs.declared.states.StateSet.{StateSet}
use Rattle.theory.specs.Run.{Run}
use Rattle.theory.specs.Run as run
use Rattle.walk.specs.declared.walk.Walk.{Walk}
use Rattle.walk.specs.Passes.{Ready, StaysAmong, IsSound, IsClosed, Visited, AreAhead, JoinedBelow, Absorbs}
use Rattle.walk.proofs.SetLaws.{same_sets, union_more, within_row, states_at-set_same, states_at-set_other}
use Rattle.walk.proofs.GrowLaws.{total-set, ready-set}
use Rattle.walk.proofs.VisitLaws.{stays_back}

-- the sets of one individual after another
module _ (ahead : List StateSet) where
  joined_none : (l : List StateSet) → JoinedBelow ahead 0 l l
  joined_none l = record { long = refl; here = λ b h. absurd (omega arith); rest = λ b h. refl }

  pub absorbs_none : (w : Walk) → Ready w.reached → length w.followed ≡ most_individuals → Absorbs ahead 0 w w
  absorbs_none w r l =
      record { reached = joined_none w.reached; followed = joined_none w.followed; ready = r; long = l; most = omega arith }

  joined_more : (n : ℕ) (v : StateSet) (old now : List StateSet) → JoinedBelow ahead n old now → n < length old
      → IsUnion (states_at now n) (states_at ahead n) v.0 → JoinedBelow ahead (n + 1) old (set now n v)
  joined_more n v old now w h u =
      record {
        long = length-set now n v ∙ w.long;
        here =
            below_more (λ b. IsUnion (states_at old b) (states_at ahead b) (states_at (set now n v) b)) n
            (λ b l. rw (states_at-set_other now n b v (λ q. omega arith)) (w.here b l))
            (rw (states_at-set_same now n v (omega (arith, w.long))) (let e = w.rest n (omega arith) in rw e at u));
        rest = λ b l. states_at-set_other now n b v (λ q. omega arith) ∙ w.rest b (omega arith);
      }

  pub absorbs_more : (n : ℕ) (v u : StateSet) (old now new : Walk) → length old.reached ≡ most_individuals
      → length old.followed ≡ most_individuals → Absorbs ahead n old now → n < most_individuals
      → IsUnion (states_at now.reached n) (states_at ahead n) v.0 → IsUnion (states_at now.followed n) (states_at ahead n) u.0
      → v.0 < 2 ^ state_width → new.reached ≡ set now.reached n v → new.followed ≡ set now.followed n u → Absorbs ahead (n + 1) old new
  absorbs_more n v u old now new lr lf w h ev eu s er ef =
      let k : n < length now.reached = let l = w.ready.long in omega arith in
      record {
        reached = rw er (joined_more n v old.reached now.reached w.reached (omega arith) ev);
        followed = rw ef (joined_more n u old.followed now.followed w.followed (omega arith) eu);
        ready = rw er (ready-set now.reached n v w.ready s);
        long = rw ef (length-set now.followed n u ∙ w.long);
        most = rw er (omega (arith, total-set now.reached n v k, union_more _ _ _ ev, w.most));
      }

-- what a joined list has
module _ {ahead old new : List StateSet} (w : JoinedBelow ahead most_individuals old new) where
  keeps : (b t : ℕ) → Has (states_at old b) t → Has (states_at new b) t
  keeps b t p = side (dec_lt b most_individuals)
    where
      side : Dec (b < most_individuals) → Has (states_at new b) t
      side (yes l) = ((w.here b l).member t).1 (inl p)
      side (no l) = rw (w.rest b (omega arith)) p

  gains : (b t : ℕ) → b < most_individuals → Has (states_at ahead b) t → Has (states_at new b) t
  gains b t l p = ((w.here b l).member t).1 (inr p)

  -- a state in it was there, or comes from the other sets
  comes : {P : Type 0} (b t : ℕ) → Has (states_at new b) t → (Has (states_at old b) t → P) → (Has (states_at ahead b) t → P) → P
  comes {P} b t p x y = side (dec_lt b most_individuals)
    where
      side : Dec (b < most_individuals) → P
      side (yes l) = ⊎_elim x y (((w.here b l).member t).0 p)
      side (no l) = x (rw (w.rest b (omega arith)) at p)

module _ (M : ℕ → ℕ → ℕ → ℕ → Type 0) (a s : ℕ) (ahead : List StateSet) (known : AreAhead M a s ahead) (old new : Walk)
    (w : Absorbs ahead most_individuals old new) (met : Has (states_at old.reached a) s) where
  gain : (b t : ℕ) → Has (states_at ahead b) t → Has (states_at new.reached b) t
  gain b t y = gains w.reached b t (within_row most_individuals ahead b t known.long y) y

  -- what is reached from a reached node is reached
  sound : (among : Option (List StateSet)) (from start : ℕ) → StaysAmong M among → IsSound M among from start old.reached
      → IsSound M among from start new.reached
  sound among from start stays v =
      record { at = λ b t p c. comes w.reached b t p (λ x. v.at b t x c) (λ x. let r = known.sound b t x in run.join (v.at a s met (stays_back M among stays r c)) r) }

  closed : IsClosed M old.reached old.followed → IsClosed M new.reached new.followed
  closed v =
      record {
        within = λ x u p. comes w.followed x u p (λ y. keeps w.reached x u (v.within x u y)) (λ y. gain x u y);
        strides = λ x u b t p m. comes w.followed x u p (λ y. keeps w.reached b t (v.strides x u b t y m)) (λ y. gain b t (known.closed x u b t y m));
      }

  -- where an individual's states were all followed, they still are
  still : (k : ℕ) → states_at old.followed k ≡ states_at old.reached k → Dec (k < most_individuals)
      → states_at new.followed k ≡ states_at new.reached k
  still k e (yes l) =
      let f = w.followed.here k l in
      let r = w.reached.here k l in
      same_sets (states_at new.followed k) (states_at new.reached k) (λ i. (
        λ x. (r.member i).1 (⊎_elim (λ y. inl (rw e at y)) (λ y. inr y) ((f.member i).0 x)),
        λ x. (f.member i).1 (⊎_elim (λ y. inl (rw e y)) (λ y. inr y) ((r.member i).0 x)),
      ))
  still k e (no l) = w.followed.rest k (omega arith) ∙ e ∙ sym (w.reached.rest k (omega arith))

  -- THEOREM: so it is a pass over no individual
  pub absorbed : (lo : ℕ) → Visited M lo lo old.reached old.followed new.reached new.followed false
  absorbed lo =
      record {
        ready = w.ready;
        long = w.long;
        keeps = λ b t p. keeps w.reached b t p;
        sound = sound;
        closed = closed;
        most = w.most;
        grows = λ z. absurd (false≢true z);
        all_followed = λ z all. record { at = λ k l. still k (all.at k l) (dec_lt k most_individuals) };
      }

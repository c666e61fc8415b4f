-- The accepting states of individuals, as they are made.
use Rattle.std.specs.Prelude.{◌≡◌, refl, ◌↔◌, ◌⊎◌, Bool, true, false, not, IsTrue, ℕ, ◌^◌, ◌<◌, ◌≤◌, List}
use Rattle.std.proofs.Common.{sym, ap, ◌∙◌, inl, inr, ⊎_elim, ext_get_or, arith}
use Rattle.std.proofs.Math.Decide.{ℕ_discrete}
use Rattle.std.proofs.lemmas.Bool.{false≢true}
use Rattle.std.specs.Int.{bit_at}
use Rattle.laws.specs.Fill.{Filling, all_done}
use Rattle.laws.specs.Loops.{Witness}
use Rattle.kinds.specs.Kinds.{most_individuals, most_states}
use Rattle.sets.specs.Bits.{Has, Meets, IsSetOf, InsertsIf, concept_width}
use Rattle.sets.specs.Rows.{no_states}
use Rattle.sets.specs.Relations.{states_at, concepts_at}
use Rattle.sets.specs.declared.states.StateSet.{StateSet}
use Rattle.sets.specs.declared.concepts.ConceptSet.{ConceptSet}
use Rattle.sets.proofs.Laws.{past}
use Rattle.walk.specs.declared.coreachable.PathsBelow.{PathsBelow}
use Rattle.walk.specs.CoReachable.{Goes, AreCoReachable}
use Rattle.walk.specs.LoopParts.{AreShared}
use Rattle.walk.specs.Accepting.{Accepts, AreAccepting, AcceptsBy, AcceptsNumber, IsOpen, IsAcceptingOf}
use Rattle.walk.proofs.SetLaws.{none_has, same_sets}

-- by the code's tests
pub accepts_test : (finals : ℕ) (rows : List ConceptSet) (concepts s : ℕ) (on : Bool) → concepts < 2 ^ concept_width → s < most_states
    → IsTrue on ↔ AcceptsBy finals rows concepts s → IsTrue on ↔ AcceptsNumber finals rows concepts s
accepts_test finals rows concepts s on fits h w = (
  λ e. record { state = h; by = ⊎_elim (λ f. inl f) (λ m. inr (m.0, past concept_width concepts m.0 fits m.2, m.1, m.2)) (w.0 e) },
  λ x. w.1 (⊎_elim (λ f. inl f) (λ m. inr (m.0, m.2, m.3)) x.by),
)

pub open_test : (set s : ℕ) (has : Bool) → s < most_states → IsTrue has ↔ Has set s → IsTrue (not has) ↔ IsOpen set s
open_test set s true h w = (λ e. absurd (false≢true e), λ o. absurd (o.out (w.0 refl)))
open_test set s false h w = (λ e. record { state = h; out = λ p. false≢true (w.1 p) }, λ o. refl)

-- one state more is tested
abbrev pub OpenBy : List ConceptSet → ℕ → ℕ → ℕ → Type 0
OpenBy rows concepts t s = (t ≡ s) × Meets (concepts_at rows s) concepts

pub open_step : (rows : List ConceptSet) (concepts w out s new : ℕ) (on : Bool) → s < w → InsertsIf w out s on new
    → IsTrue on ↔ Meets (concepts_at rows s) concepts
    → (t : ℕ) → Has new t ↔ (Has out t ⊎ OpenBy rows concepts t s)
open_step rows concepts w out s new on h ins test t = (
  λ p. ⊎_elim (λ q. inl q) (λ q. inr (q.0, test.0 q.2)) ((ins.member t).0 p),
  λ p. (ins.member t).1 (⊎_elim (λ q. inl q) (λ q. inr (q.0, h, test.1 q.1)) p),
)

pub open_all : (shared : ℕ) (rows : List ConceptSet) (concepts left r : ℕ) → IsSetOf (IsOpen shared) left
    → IsSetOf (λ t. Has shared t ⊎ Witness (Has left) (OpenBy rows concepts t)) r
    → (s : ℕ) → Has r s ↔ (Has shared s ⊎ (IsOpen shared s × Meets (concepts_at rows s) concepts))
open_all shared rows concepts left r o v s = (
  λ p.
      ⊎_elim (λ q. inl q) (λ w. let e = w.holds.0 in inr (rw e ((o.member w.number).0 w.of, w.holds.1))) ((v.member s).0 p),
  λ p. (v.member s).1 (⊎_elim (λ q. inl q) (λ q. inr (record { number = s; of = (o.member s).1 q.0; holds = (refl, q.1) })) p),
)

-- so made, the set of an individual has its accepting states
pub accepting_is : (finals : ℕ) (rows individuals : List ConceptSet) (m least shared a r : ℕ) → AreShared individuals m
    → IsSetOf (AcceptsNumber finals rows 0) least
    → IsSetOf (AcceptsNumber finals rows m) shared → a < most_individuals → IsAcceptingOf least shared rows (concepts_at individuals a) r
    → IsSetOf (AcceptsNumber finals rows (concepts_at individuals a)) r
accepting_is finals rows individuals m least shared a r have l v h (inl none) = rw none.1 (record { member = λ s. (to s, from s) })
  where
    to : (s : ℕ) → Has least s → AcceptsNumber finals rows (concepts_at individuals a) s
    to s p = let x = (l.member s).0 p in record { state = x.state; by = ⊎_elim (λ f. inl f) (λ w. absurd (none_has w.0 w.3)) x.by }

    from : (s : ℕ) → AcceptsNumber finals rows (concepts_at individuals a) s → Has least s
    from s x = (l.member s).1 (record { state = x.state; by = ⊎_elim (λ f. inl f) (λ w. absurd (none.0 w.0 w.3)) x.by })
accepting_is finals rows individuals m least shared a r have l v h (inr some) = record { member = λ s. (to s, from s) }
  where
    to : (s : ℕ) → Has r s → AcceptsNumber finals rows (concepts_at individuals a) s
    to s p =
        ⊎_elim (λ q. let x = (v.member s).0 q in
        record { state = x.state; by = ⊎_elim (λ f. inl f) (λ w. inr (w.0, w.1, w.2, have a h some.0 w.0 w.3)) x.by })
        (λ q. let k = q.1 in record {
          state = q.0.state;
          by = inr (k.0, past concept_width (concepts_at individuals a) k.0 some.1 k.2, k.1, k.2);
        }) ((some.2 s).0 p)

    from : (s : ℕ) → AcceptsNumber finals rows (concepts_at individuals a) s → Has r s
    from s x = (some.2 s).1 (side (ℕ_discrete (bit_at shared s) 1))
      where
        side : Dec (bit_at shared s ≡ 1) → Has shared s ⊎ (IsOpen shared s × Meets (concepts_at rows s) (concepts_at individuals a))
        side (yes p) = inl p
        side (no p) =
            ⊎_elim (λ f. inl ((v.member s).1 (record { state = x.state; by = inl f })))
            (λ w. inr (record { state = x.state; out = p }, (w.0, w.2, w.3))) x.by

module _ (paths : PathsBelow) (rows : List ConceptSet) (on : AreCoReachable paths rows) (concepts s : ℕ) where
  out_of : AcceptsNumber paths.finals.0 rows concepts s → Accepts paths concepts s
  out_of x = record { state = x.state; out = ⊎_elim (λ f. inl f) (λ m. inr (m.0, m.1, m.3, (on.at s m.0 x.state).0 (inr m.2))) x.by }

  accepting_by : Accepts paths concepts s → AcceptsNumber paths.finals.0 rows concepts s
  accepting_by x = record { state = x.state; by = ⊎_elim (λ f. inl f) (λ m. by m.0 m.1 m.2 ((on.at s m.0 x.state).1 m.3)) x.out }
    where
      by : (B : ℕ) → B < concept_width → Has concepts B → Goes paths.finals.0 rows s B
          → Has paths.finals.0 s ⊎ ((B : ℕ) × (B < concept_width) × Has (concepts_at rows s) B × Has concepts B)
      by B l p (inl f) = inl f
      by B l p (inr q) = inr (B, l, q, p)

pub accepting_all : (individuals : List ConceptSet) (paths : PathsBelow) (rows : List ConceptSet) (old now : List StateSet) (i : ℕ)
    → AreCoReachable paths rows
    → Filling (λ a (x : StateSet). IsSetOf (AcceptsNumber paths.finals.0 rows
    (concepts_at individuals a)) x.0) no_states most_individuals old now i → most_individuals ≤ i
    → AreAccepting individuals paths now
accepting_all individuals paths rows old now i on w h =
    let all = all_done _ no_states most_individuals old now i w h in
    record {
      long = w.long;
      at = λ a s k. (
        λ p. out_of paths rows on (concepts_at individuals a) s (((all a k).member s).0 p),
        λ x. ((all a k).member s).1 (accepting_by paths rows on (concepts_at individuals a) s x),
      );
    }

-- THEOREM: the contract of the accepting states leaves one table
pub accepting-once : (individuals : List ConceptSet) (paths : PathsBelow) (r q : List StateSet) → AreAccepting individuals paths r
    → AreAccepting individuals paths q → r ≡ q
accepting-once individuals paths r q v w =
    ext_get_or no_states r q (v.long ∙ sym w.long)
    (λ a h. ap (λ (n : ℕ). record { 0 = n }) (same_sets (states_at r a) (states_at q a)
    (λ s. let l = v.long in let k : a < most_individuals = omega arith in
    (λ x. (w.at a s k).1 ((v.at a s k).0 x), λ x. (v.at a s k).1 ((w.at a s k).0 x)))))

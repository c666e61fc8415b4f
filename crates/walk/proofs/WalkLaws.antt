-- A walk forward is the walk of the contract, and there is one.
use Rattle.std.specs.Prelude.{◌≡◌, List, ℕ}
use Rattle.std.proofs.Common.{sym, ap, ◌∙◌, ext_get_or}
use Rattle.kinds.specs.declared.Individual.{Individual}
use Rattle.kinds.specs.declared.State.{State}
use Rattle.sets.specs.declared.states.StateSet.{StateSet}
use Rattle.edges.proofs.EdgeLaws.{edge-role}
use Rattle.theory.specs.Run.{Run, stop, go, one}
use Rattle.theory.specs.Run as run
use Rattle.walk.specs.declared.direction.Direction.TheVariants.{Forward}
use Rattle.walk.specs.declared.directed.Directed.{Directed}
use Rattle.sets.specs.Rows.{no_states}
use Rattle.sets.specs.Relations.{states_at}
use Rattle.walk.specs.Strides.{TableStride, Walked}
use Rattle.walk.specs.Strides as strides
use Rattle.walk.specs.Covers.{Covers}
use Rattle.walk.specs.Directions.{Move, along, loop}
use Rattle.walk.specs.Guides.{IsForward}
use Rattle.walk.specs.Passes.{Found, AreAhead}
use Rattle.walk.proofs.SetLaws.{same_sets}

-- an edge that leads anywhere is listed
module _ (loops transitions : List (List StateSet)) (facts : List ℕ) (roles : ℕ) (covers : Covers transitions roles) where
  abbrev Forth : ℕ → ℕ → ℕ → ℕ → Type 0
  Forth = Move Forward loops transitions facts roles

  move→stride : {a s b t : ℕ} → Forth a s b t → TableStride loops transitions facts a s b t
  move→stride (along edge l p) = strides.along edge l.is p
  move→stride (loop h p) = strides.loop h p

  stride→move : {a s b t : ℕ} → TableStride loops transitions facts a s b t → Forth a s b t
  stride→move (strides.along edge l p) =
      along edge (record { is = l; member = covers.at edge.role.0 _ _ (edge-role facts _ edge l) p }) p
  stride→move (strides.loop h p) = loop h p

  run-to : {a s b t : ℕ} → Run Forth a s b t → Run (TableStride loops transitions facts) a s b t
  run-to stop = stop
  run-to (go m p) = go (move→stride m) (run-to p)

  run-from : {a s b t : ℕ} → Run (TableStride loops transitions facts) a s b t → Run Forth a s b t
  run-from stop = stop
  run-from (go m p) = go (stride→move m) (run-from p)

  found_walked : (first : Individual) (start : State) (r : List StateSet) → Found Forth first start r
      → Walked loops transitions facts first start r
  found_walked first start r w = record {
    long = w.long;
    at = λ b t. (
      λ p. let q = w.sound b t p in record { individual = q.0; state = q.1; strides = run-to q.2 },
      λ p. w.full b t p.individual p.state (run-from p.strides),
    );
  }

  pub walked_forward : (d : Directed) (first : Individual) (start : State) (r : List StateSet) → IsForward transitions d
      → Found (Move d.direction loops d.transitions.now facts roles) first start r → Walked loops transitions facts first start r
  walked_forward d first start r f w = found_walked first start r (rw (f.direction, f.same) at w)

  -- what the walk from an individual reaches is ahead of it
  pub ahead_of : (d : Directed) (first : Individual) (start : State) (r : List StateSet) → IsForward transitions d
      → Walked loops transitions facts first start r
      → AreAhead (Move d.direction loops d.transitions.now facts roles) first.0 start.0 r
  ahead_of d first start r f w =
      rw (f.direction, f.same)
      (record {
        long = w.long;
        sound = λ b t p. run-from ((w.at b t).0 p).strides;
        closed = λ b t c u p m. (w.at c u).1
            (let q = (w.at b t).0 p in
            record { individual = q.individual; state = q.state; strides = run.join q.strides (one (move→stride m)) });
      })

module _ (loops transitions : List (List StateSet)) (facts : List ℕ) where
  -- THEOREM: the contract of a walk leaves one row of sets
  pub found-once : (first : Individual) (start : State) (r q : List StateSet) → Walked loops transitions facts first start r
      → Walked loops transitions facts first start q → r ≡ q
  found-once first start r q v w = ext_get_or no_states r q (v.long ∙ sym w.long) (λ i h. ap (λ (n : ℕ). record { 0 = n }) (same i))
    where
      same : (b : ℕ) → states_at r b ≡ states_at q b
      same b = same_sets (states_at r b) (states_at q b) (λ t. (λ x. (w.at b t).1 ((v.at b t).0 x), λ x. (v.at b t).1 ((w.at b t).0 x)))

-- A stride backward is a stride forward against it, so a walk backward from a node finds nodes that lead to it.
use Rattle.std.specs.Prelude.{◌≡◌, refl, Bool, Some, List, ℕ}
use Rattle.kinds.specs.declared.Individual.{Individual}
use Rattle.kinds.specs.declared.State.{State}
use Rattle.kinds.specs.Kinds.{most_states, individual, inverse, inverse-forward, inverse-backward}
use Rattle.sets.specs.declared.states.StateSet.{StateSet}
use Rattle.edges.specs.declared.FactEdge.{FactEdge}
use Rattle.edges.specs.Edges.{MakesEdge, at_first, at_second, IsFactEdge}
use Rattle.edges.proofs.EdgeLaws.{edge-role}
use Rattle.tables.specs.Records.{read_role_fact}
use Rattle.theory.specs.Run.{Run, stop, go, one}
use Rattle.theory.specs.Run as run
use Rattle.walk.specs.declared.direction.Direction.TheVariants.{Backward}
use Rattle.walk.specs.declared.directed.Directed.{Directed}
use Rattle.walk.specs.declared.strides.Strides.{Strides}
use Rattle.sets.specs.Bits.{Has}
use Rattle.sets.specs.Relations.{states_at, relation_at}
use Rattle.walk.specs.Strides as strides
use Rattle.walk.specs.Directions.{Move, along, loop}
use Rattle.walk.specs.Guides.{IsBackward}
use Rattle.walk.specs.Passes.{AreOutside, StaysAmong, IsSound, Visited, Found}
use Rattle.walk.specs.Walks.{StrideBy, WalkedBy, LeadTo, LeadToAmong}
use Rattle.walk.proofs.SetLaws.{within_row}

-- the edge that the same fact makes at the other end
reversed : (facts : List ℕ) (a : ℕ) (edge : FactEdge) → IsFactEdge facts a edge
    → IsFactEdge facts edge.to.0 (record { role = inverse edge.role; to = individual a })
reversed facts a edge h = record { fact = h.fact; read = h.read; rows = h.rows; makes = by h.makes }
  where
    by : MakesEdge (read_role_fact facts h.fact) a edge
        → MakesEdge (read_role_fact facts h.fact) edge.to.0 (record { role = inverse edge.role; to = individual a })
    by (at_first p q) = rw q (at_second refl (rw (inverse-forward (read_role_fact facts h.fact).role, p) refl))
    by (at_second p q) = rw q (at_first refl (rw (inverse-backward (read_role_fact facts h.fact).role, p) refl))

module _ (s : Strides) (d : Directed) (back : IsBackward s.transitions.now d) where
  abbrev Back : ℕ → ℕ → ℕ → ℕ → Type 0
  Back = Move Backward s.loops.now.rows d.transitions.now s.edges.now.facts.numbers.now s.edges.now.roles.0

  -- THEOREM: a stride backward goes against a stride forward
  move-back : {a u b t : ℕ} → Back a u b t → StrideBy s b t a u
  unfolding inverse
  move-back (along {a = a} {s = u} {t = t} edge l p) =
      let facts = s.edges.now.facts.numbers.now in
      let turned = back.transposed.at edge.role.0 (edge-role facts a edge l.is) in
      let q = (turned.at u t (within_row most_states (relation_at d.transitions.now edge.role.0) u t turned.long p)).0 p in
      strides.along (record { role = inverse edge.role; to = individual a }) (reversed facts a edge l.is) q
  move-back (loop h p) = strides.loop h p

  -- THEOREM: and so do all
  run-back : {a u b t : ℕ} → Run Back a u b t → Run (StrideBy s) b t a u
  run-back stop = stop
  run-back (go m p) = run.join (run-back p) (one (move-back m))

  -- the strides as the guide takes them
  abbrev Steps : ℕ → ℕ → ℕ → ℕ → Type 0
  Steps = Move d.direction s.loops.now.rows d.transitions.now s.edges.now.facts.numbers.now s.edges.now.roles.0

  -- no stride backward leads from another node to one that is ahead of x in a state
  pub stays_ahead : (x : Individual) (state : State) (ahead : List StateSet) → WalkedBy s x state ahead
      → StaysAmong Steps (Some ahead)
  stays_ahead x state ahead w =
      rw back.direction
      (record {
        at = λ a u b t m p. (w.at a u).1
            (let q = (w.at b t).0 p in
            record { individual = q.individual; state = q.state; strides = run.join q.strides (one (move-back m)) });
      })

  -- so a walk backward that begins with x in the state, and with nodes that are not ahead of it, finds nodes that lead to it
  pub lead_to_among : (x : Individual) (state : State) (ahead r f r' f' : List StateSet) (lo hi : ℕ) (again : Bool)
      → WalkedBy s x state ahead → ((b t : ℕ) → Has (states_at r b) t → Has (states_at ahead b) t → (b ≡ x.0) × (t ≡ state.0))
      → Visited Steps lo hi r f r' f' again
      → LeadToAmong s ahead x state r'
  lead_to_among x state ahead r f r' f' lo hi again w own v =
      let among = stays_ahead x state ahead w in
      let start : IsSound Steps (Some ahead) x.0 state.0 r = record { at = λ b t p c. let e = own b t p c in rw (e.0, e.1) stop } in
      let found = rw back.direction at (v.sound (Some ahead) x.0 state.0 among start) in
      record { leads = λ a u c p. run-back (found.at a u p c) }

  -- and nodes that are not ahead of it are none that lead to it
  pub among_none : (x : Individual) (state : State) (ahead r : List StateSet) → AreOutside ahead r → LeadToAmong s ahead x state r
  among_none x state ahead r w = record { leads = λ a u p q. absurd (w.none a u q p) }

  pub walked_backward : (last : Individual) (state : State) (r : List StateSet)
      → Found (Move d.direction s.loops.now.rows d.transitions.now s.edges.now.facts.numbers.now s.edges.now.roles.0) last state r
      → LeadTo s last state r
  walked_backward last state r w = let f = rw back.direction at w in record { long = f.long; leads = λ a u p. run-back (f.sound a u p).2 }

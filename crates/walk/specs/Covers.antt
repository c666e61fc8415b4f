-- The roles whose edges are listed for walks.
use Rattle.std.specs.Prelude.{ℕ, List, ◌<◌}
use Rattle.sets.specs.Bits.{Has, role_width}
use Rattle.sets.specs.declared.states.StateSet.{StateSet}
use Rattle.sets.specs.Relations.{states_at, relation_at}

-- each role that has a transition is in the set: no edge by another role leads anywhere
pub record Covers (transitions : List (List StateSet)) (roles : ℕ) : Type 0 where
  pub at : (R s t : ℕ) → R < role_width → Has (states_at (relation_at transitions R) s) t
      → Has roles R

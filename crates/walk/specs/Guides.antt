-- What a guide forward and one backward go by.
use Rattle.std.specs.Prelude.{List, ◌≡◌}
use Rattle.sets.specs.declared.states.StateSet.{StateSet}
use Rattle.walk.specs.declared.direction.Direction.TheVariants.{Forward, Backward}
use Rattle.walk.specs.declared.directed.Directed.{Directed}
use Rattle.walk.specs.Transposed.{AreTransposed}

pub record IsForward (transitions : List (List StateSet)) (d : Directed) : Type 0 where
  pub direction : d.direction ≡ Forward
  pub same : d.transitions.now ≡ transitions

pub record IsBackward (transitions : List (List StateSet)) (d : Directed) : Type 0 where
  pub direction : d.direction ≡ Backward
  pub transposed : AreTransposed transitions d.transitions.now

-- The images of a set of states by transitions, as far as they are made.
use Rattle.std.specs.Prelude.{ℕ, List, ◌≡◌, length}
use Rattle.sets.specs.Bits.{Has, role_width}
use Rattle.sets.specs.declared.states.StateSet.{StateSet}
use Rattle.sets.specs.Relations.{states_at, relation_at, Relates, IsImage}
use Rattle.walk.specs.declared.images.Images.{Images}

-- for each role that is made, the image of m by its transitions
pub record AreImages (transitions : List (List StateSet)) (m : ℕ) (images : Images) : Type 0 where
  pub long : length images.sets ≡ role_width
  pub at : (R : ℕ) → Has images.made.0 R
      → IsImage (Relates (relation_at transitions R)) m (states_at images.sets R)

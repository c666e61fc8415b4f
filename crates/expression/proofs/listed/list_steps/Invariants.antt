use Rattle.std.proofs.Common.{◌≡◌, ◌≤◌, ◌*◌, take, flat_map}
use Rattle.expression.specs.Listed.{step_numbers}
use Rattle.expression.specs.Listing.{steps_below}
use Rattle.expression.proofs.listed.list_steps.Given as goal

abbrev pub invariant-loop-place : goal.invariant-loop-place
invariant-loop-place l = record {
  within : l.used ≤ 4 * l.place;
  listed : take l.used l.steps ≡ flat_map step_numbers (steps_below l.rows l.letters l.place);
}

use Rattle.std.proofs.Common.{◌≡◌, ◌*◌, take}
use Rattle.std.specs.List.{flat_map}
use Rattle.frames.specs.Text.{characters}
use Rattle.frames.proofs.text.spell.Given as goal

abbrev pub invariant-loop-i : goal.invariant-loop-i
invariant-loop-i l = take (2 * l.i) l.line ≡ flat_map characters (take l.i l.bytes)

-- `some_meets`: no member that is past has a row that meets the set.
use Rattle.clash.specs.Conflicts.{MeetsRow}
use Rattle.clash.proofs.SeekLaws.{Seeking}
use Rattle.clash.proofs.concepts.some_meets.Given as goal

abbrev pub invariant-loop-member : goal.invariant-loop-member
invariant-loop-member l = Seeking (MeetsRow l.rows l.set.0) l.fn.members.0 l.member-iterator.rest.0

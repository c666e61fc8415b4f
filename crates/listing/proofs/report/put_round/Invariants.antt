use Rattle.listing.proofs.Marks.{ArePut}
use Rattle.listing.proofs.report.put_round.Given as goal

abbrev pub invariant-loop-from : goal.invariant-loop-from
invariant-loop-from g l = ArePut l.round g.T.Taker.takes g.T.Taker.fails l.fn.to l.marks l.to l.from-iterator

-- `pick`: ask k is the first that was picked.
use Rattle.walk.specs.Telling.{Picks}
use Rattle.walk.proofs.asks.pick.Given as goal

abbrev pub invariant-loop-j : goal.invariant-loop-j
invariant-loop-j l = Picks l.asking l.k l.picked

-- What is to come is what was; with each turn there are fewer states to go from, or as many and fewer to go to.
use Rattle.std.specs.Prelude.{◌≡◌, ◌<◌}
use Rattle.kinds.specs.Kinds.{most_states}
use Rattle.sheet.specs.ToCome.{to_come}
use Rattle.sheet.proofs.ListedLaws.{turns_left}
use Rattle.sheet.proofs.round_marks.MarksToComeIterator.next.Given as goal

abbrev pub invariant-loop-concept : goal.invariant-loop-concept
invariant-loop-concept l = record {
  same : to_come l.self-inside ≡ to_come l.initial.self-inside;
  low : l.self-inside.first.0 < most_states;
}

abbrev pub decreases-loop-concept : goal.decreases-loop-concept
decreases-loop-concept l = turns_left l.self-inside.from.0 l.self-inside.to.0

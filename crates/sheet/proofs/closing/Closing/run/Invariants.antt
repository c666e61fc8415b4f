-- At the head of a turn the rounds are those of n, each round before changed the sheet, and the listener was told of each.
use Rattle.std.specs.Prelude.{List, ◌-◌}
use Rattle.sheet.specs.declared.round_marks.RoundMarks.{RoundMarks}
use Rattle.sheet.specs.Sheets.{IsRound}
use Rattle.sheet.specs.Ends.{Going}
use Rattle.sheet.specs.Telling.{ToldUpTo}
use Rattle.sheet.specs.Told.{Told}
use Rattle.sheet.proofs.closing.Closing.run.Given as goal

abbrev pub invariant-loop-loops : goal.invariant-loop-loops
invariant-loop-loops g l = record {
  going : Going l.rows l.allowance l.n;
  round : IsRound l.rows l.n l.self;
  rounds : List RoundMarks;
  are : ToldUpTo l.rows l.n rounds;
  told : Told g.L.RoundListener.hears l.fn.listener rounds l.listener;
}

abbrev pub decreases-loop-loops : goal.decreases-loop-loops
decreases-loop-loops g l = l.allowance - l.n

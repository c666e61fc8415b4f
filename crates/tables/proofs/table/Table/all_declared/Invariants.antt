-- `all_declared`: every record read so far is declared.
use Rattle.tables.proofs.Walked.{Walked}
use Rattle.tables.proofs.table.Table.all_declared.Given as goal

abbrev pub invariant-loop-record : goal.invariant-loop-record
invariant-loop-record g l =
    Walked g.R.Fields.read (g.R.Record.Declared l.counts) l.fn.self.numbers l.record-iterator.table.numbers l.record-iterator.next

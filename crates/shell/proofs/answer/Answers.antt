use Rattle.std.proofs.Common.{◌≡◌, rules}
use Rattle.std.proofs.lemmas.Grind.{common_steps}
use Rattle.std.proofs.lemmas.Option.{IfSome_then}
use Rattle.shell.proofs.Reporting.{copied, no-room}
use Rattle.shell.proofs.answer.Goals as goal

pub returns-clause-written : goal.returns-clause-written
returns-clause-written g c =
    let whole : c.new.result ≡ c.args.input.now = search (rules, common_steps) in
    IfSome_then c.copy.result c.copy.ensures.written
    (copied g.R.Report.says _ _ c.args.input.now c.copy.new.text (rw whole at c.in-Ok.ensures.found))

pub returns-clause-no_room : goal.returns-clause-no_room
returns-clause-no_room g c =
    let whole : c.new.result ≡ c.args.input.now = search (rules, common_steps) in
    no-room g.R.Report.says _ _ c.args.input.now c.args.text.now (rw whole at c.in-Ok.ensures.found) c.copy.result c.copy.ensures.no_room

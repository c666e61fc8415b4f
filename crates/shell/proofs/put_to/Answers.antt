use Rattle.std.proofs.Common.{rules}
use Rattle.std.proofs.lemmas.Result.{on_err_weaker}
use Rattle.shell.proofs.Reporting.{tells_so, ended-early}
use Rattle.shell.proofs.put_to.Goals as goal

pub returns-clause-err : goal.returns-clause-err
returns-clause-err g c =
    let empty = c.new-gathered.ensures.empty in
    let put = tells_so g.R.Report.says c.args.found c.args.file.now _ _ (λ x w. w.1) c.in_ok-put_found.ensures.ok in
    let end = ended-early g.R.Report.says c.args.found c.args.file.now _ _ _ _ _ empty put in
    let early = on_err_weaker c.finish.result end c.finish.ensures.err in
    let err = rw c.new-gathered.ensures.sink at early in
    search rules

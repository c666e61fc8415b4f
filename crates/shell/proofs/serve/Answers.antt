use Rattle.shell.proofs.Reporting.{of-known}
use Rattle.shell.proofs.serve.Goals as goal

pub returns-in-Ok-put_to-clause-written : goal.returns-in-Ok-put_to-clause-written
returns-in-Ok-put_to-clause-written g c = of-known g.R.Report.says _ _ _ _ c.in-Ok.ensures.found c.in-Ok-put_to.ensures.ok

pub returns-in-Err-put_to-clause-started : goal.returns-in-Err-put_to-clause-started
returns-in-Err-put_to-clause-started g c = λ e told. of-known g.R.Report.says _ _ _ _ c.in-Ok.ensures.found c.in-Err-put_to.ensures.err

use Rattle.fair_copy.proofs.Reported.{told_ok, told_err}
use Rattle.fair_copy.proofs.report.FairCopyReport.put.Goals as goal

pub returns-clause-ok : goal.returns-clause-ok
returns-clause-ok g c = told_ok _ _ c.put_copy.ensures.ready c.requires.begun c.put_copy.result _ c.put_copy.ensures.ok

pub returns-clause-err : goal.returns-clause-err
returns-clause-err g c = told_err _ _ c.put_copy.ensures.ready c.requires.begun c.put_copy.result _ c.put_copy.ensures.err

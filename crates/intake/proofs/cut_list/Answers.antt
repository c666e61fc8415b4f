-- Both counts fall by as many entries as are more.
use Rattle.intake.proofs.CutLaws.{cuts-list}
use Rattle.intake.proofs.cut_list.Goals as goal

pub returns : goal.returns
returns c = rw (c.saturating_sub-file.ensures, c.saturating_sub-more.ensures) (cuts-list c.args.count c.args.file.now)

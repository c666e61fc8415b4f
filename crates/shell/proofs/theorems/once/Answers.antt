use Rattle.shell.proofs.WritesLaws.{writes-once, written-once, served-once}
use Rattle.shell.proofs.theorems.once.Goals as goal

pub returns : goal.returns
returns g c = record {
  text = writes-once g.A.AnySaying.says;
  written = written-once g.A.AnySaying.says;
  served = served-once g.A.AnySaying.says;
}

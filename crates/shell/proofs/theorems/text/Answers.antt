use Rattle.shell.proofs.WritesLaws.{faults-near, fault-written, said-written, start-writes}
use Rattle.shell.proofs.theorems.text.Goals as goal

pub returns : goal.returns
returns g c = record {
  near = faults-near;
  fault = fault-written g.A.AnySaying.says;
  said = said-written g.A.AnySaying.says;
  start = start-writes g.A.AnySaying.says;
}

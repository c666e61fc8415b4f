use Rattle.file.proofs.Default.{default-suffices, never-spent, default-model, default-rounds}
use Rattle.file.proofs.theorems.default.Goals as goal

pub returns : goal.returns
returns c = record {
  suffices = default-suffices;
  never_spent = never-spent;
  model = default-model;
  rounds = default-rounds;
}

use Rattle.file.proofs.Demanded.{lines-say-as-model, lines-say-of-expression, lines-grow, lines-return, rounds-enough}
use Rattle.file.proofs.theorems.demands.Goals as goal

pub returns : goal.returns
returns c = record {
  model = lines-say-as-model;
  expression = lines-say-of-expression;
  grows = lines-grow;
  returns = lines-return;
  enough = rounds-enough;
}

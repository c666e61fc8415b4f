-- The demands, of one collection.
use Rattle.meaning.proofs.Demands as theorem
use Rattle.meaning.proofs.calls.demands.Goals as goal

pub returns : goal.returns
returns c = record {
  model = λ d r x y s e o. theorem.says-what-the-model-says d s e o;
  enough = theorem.most-enough;
  returns = λ d n h r x y o l. theorem.returns d n h o l;
}

-- `Picked::new`: every place is the first.
use Rattle.std.proofs.lemmas.List.{get_or-replicate}
use Rattle.walk.proofs.asks.Picked.new.Goals as goal

pub returns-clause-places : goal.returns-clause-places
returns-clause-places c = λ k h. get_or-replicate _ k _ _ h

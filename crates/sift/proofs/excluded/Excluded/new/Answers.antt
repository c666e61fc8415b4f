-- `new` meets its contract: where both tables of exclusions are empty, nothing is excluded.
use Rattle.tables.specs.Lists.{lists}
use Rattle.sift.proofs.ExcludedMean.{nothing-mean}
use Rattle.sift.proofs.excluded.Excluded.new.Goals as goal

pub returns-then-is_empty-2 : goal.returns-then-is_empty-2
returns-then-is_empty-2 c =
    nothing-mean c.args.collection.now.counts (lists c.args.collection.now) c.requires.counts c.requires.numbers
    (c.is_empty.ensures.0 c.if-is_empty.true) (c.is_empty-then-is_empty.ensures.0 c.if-is_empty-2.true)

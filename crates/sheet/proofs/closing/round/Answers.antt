-- The parts of a round.
use Rattle.sheet.proofs.closing.round.Goals as goal

pub returns-clause-round : goal.returns-clause-round
returns-clause-round c =
    record {
      blank = _;
      one = _;
      two = _;
      puts = c.add.ensures;
      none = c.requires;
      joins = c.joins.ensures;
      through = c.through_children.ensures;
      new = c.refill.ensures.new;
    }

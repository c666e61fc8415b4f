-- The parts of round 0.
use Rattle.std.proofs.Common.{refl}
use Rattle.sheet.proofs.closing.begin.Goals as goal

pub returns-clause-first : goal.returns-clause-first
returns-clause-first c =
    record {
      empty = _;
      first = c.put_own.new.sheet;
      blank = _;
      zero = _;
      one = _;
      two = _;
      bare = c.clear.ensures;
      own = c.put_own.ensures;
      same = refl;
      none = c.requires;
      tests = c.put_rows.ensures;
      joins = c.joins.ensures;
      through = c.through_children.ensures;
      new = c.refill.ensures.new;
    }

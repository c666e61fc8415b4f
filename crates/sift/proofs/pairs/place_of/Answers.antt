use Rattle.sift.proofs.PairLaws.{found}
use Rattle.sift.proofs.pairs.place_of.Goals as goal

pub returns-in-Err : goal.returns-in-Err
returns-in-Err c = absurd (found _ c.requires.rises _ _ c.requires.has c.in-Err.ensures.position)

-- Paths that leave an individual: the words that they spell, the empty one, a pair, and the individuals' walk.
use Rattle.meaning.proofs.LeavingLaws.{leaves↔word, empty-leaves, yes-leaves, leaves↔walk}
use Rattle.meaning.proofs.model.leaving.Goals as goal

pub returns : goal.returns
returns c = record { word = leaves↔word; empty_path = empty-leaves; pair = yes-leaves; walk = leaves↔walk }

use Rattle.std.proofs.Common.{refl}
use Rattle.expression.proofs.ReaderLaws.{atom-letter}
use Rattle.expression.proofs.reader.Reader.letter.Goals as goal

pub returns-clause-read : goal.returns-clause-read
returns-clause-read c =
    λ d. atom-letter _ _ _ _ _ _ _ d c.requires.few c.requires.first c.requires.small c.alone-set.ensures c.note.ensures refl refl refl

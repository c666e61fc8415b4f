-- `Images::by`: an image that is made, or one more.
use Rattle.std.proofs.Common.{refl}
use Rattle.walk.proofs.DirectedLaws.{images_more}
use Rattle.walk.proofs.images.Images.by.Goals as goal

pub returns-then-contains-clause-image : goal.returns-then-contains-clause-image
returns-then-contains-clause-image c = c.requires.made.at c.args.role.0 (c.contains.ensures.0 c.if-contains.true)

pub returns-clause-made : goal.returns-clause-made
returns-clause-made c = images_more _ _ _ _ _ _ c.requires.made c.requires.role c.image-set.ensures c.insert.ensures refl

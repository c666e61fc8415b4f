-- The concept of a number has that number.
use Rattle.kinds.specs.Kinds.{number-concept}
use Rattle.rules.specs.Rows.{most_concepts}
use Rattle.rules.proofs.MadeLaws.{put_in}
use Rattle.rules.proofs.made.with_concept.Goals as goal

pub returns-then-declared : goal.returns-then-declared
returns-then-declared c =
    let e = c.read-concept.ensures in
    let i = c.insert.ensures in
    let d = c.declared.ensures.0 c.if-declared.true in
    put_in _ most_concepts _ _ _ c.requires (rw e at d) (rw (e, number-concept c.args.k) at i)

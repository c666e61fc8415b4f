-- `put`: the bit of first k alone is marked.
use Rattle.sets.proofs.Laws.{is_only_128}
use Rattle.walk.proofs.StartLaws.{put_some}
use Rattle.walk.proofs.multi.MultiWalk.put.Goals as goal

pub mark-requires-clause-part : goal.mark-requires-clause-part
mark-requires-clause-part c = λ k p. let e = ((is_only_128 c.args.k c.requires.place).member k).0 p in let f = e.0 in rw f c.requires.part

pub returns : goal.returns
returns c = put_some _ _ _ _ _ _ (is_only_128 c.args.k c.requires.place) c.requires.place c.if-a-ge-MOST.false c.mark.ensures

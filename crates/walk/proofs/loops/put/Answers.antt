-- `put`: none, one concept more, all.
use Rattle.sets.proofs.Gathering.{over_start, over_more, over_end}
use Rattle.walk.proofs.LoopPartLaws.{put_ready, put_at, puts_none, puts_more, puts_as}
use Rattle.walk.proofs.loops.put.Goals as goal

pub loop-concept-init : goal.loop-concept-init
loop-concept-init c =
    rw (c.into_iter-concept-iterator.ensures.into_iter_gives, c.iter-concept-items.ensures)
    (over_start (λ none. (c.requires.ready, puts_none none)))

pub loop-concept-preserved : goal.loop-concept-preserved
loop-concept-preserved c =
    over_more c.loop-concept.invariant c.in-Some.ensures.steps
    (λ x v.
    let low = c.in-Some.ensures.steps.within in
    let e = c.number.ensures in
    let i = rw e at c.insert.ensures in
    rw e (
      put_ready _ _ _ _ _ v.0 low c.requires.from c.requires.to i,
      puts_more x v.1 (put_at _ _ _ _ _ v.0 low c.requires.from c.requires.to i),
    ))

pub returns-clause-ready : goal.returns-clause-ready
returns-clause-ready c = c.loop-concept.invariant.did.0

pub returns-clause-put : goal.returns-clause-put
returns-clause-put c = over_end c.loop-concept.invariant c.in-None.ensures.steps.0 (λ same v. puts_as same v.1)

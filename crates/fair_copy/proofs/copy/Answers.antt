use Rattle.std.proofs.Common.{arith}
use Rattle.fair_copy.proofs.Inputs.{input-once, input-fits}
use Rattle.fair_copy.proofs.Keeping.{kept}
use Rattle.fair_copy.proofs.copy.Goals as goal

pub unreachable-requires : goal.unreachable-requires
unreachable-requires c = let o = c.in-None.ensures.no_room in omega (arith, o.so, input-fits o.is, c.told-text)

pub returns-clause-only : goal.returns-clause-only
returns-clause-only c = λ out w. input-once _ out _ w c.in-Some.ensures.written

pub returns-clause-faulty : goal.returns-clause-faulty
returns-clause-faulty c = (kept c.in-Some.ensures.written).faulty

pub returns-clause-reads : goal.returns-clause-reads
returns-clause-reads c = (kept c.in-Some.ensures.written).reads

pub returns-clause-again : goal.returns-clause-again
returns-clause-again c = (kept c.in-Some.ensures.written).again

pub returns-clause-same : goal.returns-clause-same
returns-clause-same c = (kept c.in-Some.ensures.written).same

pub returns-clause-answered : goal.returns-clause-answered
returns-clause-answered c = (kept c.in-Some.ensures.written).answered

use Rattle.std.proofs.Common.{arith}
use Rattle.listing.proofs.Inputs.{input-listed-once, input-listed-fits}
use Rattle.listing.proofs.Keeping.{kept}
use Rattle.listing.proofs.list.Goals as goal

pub unreachable-requires : goal.unreachable-requires
unreachable-requires c = let o = c.in-None.ensures.no_room in omega (arith, o.so, input-listed-fits o.is, c.told-text)

pub returns-clause-only : goal.returns-clause-only
returns-clause-only c = λ out w. input-listed-once _ out _ w c.in-Some.ensures.written

pub returns-clause-faulty : goal.returns-clause-faulty
returns-clause-faulty c = (kept c.in-Some.ensures.written).faulty

pub returns-clause-reads : goal.returns-clause-reads
returns-clause-reads c = (kept c.in-Some.ensures.written).reads

pub returns-clause-copied : goal.returns-clause-copied
returns-clause-copied c = (kept c.in-Some.ensures.written).copied

pub returns-clause-again : goal.returns-clause-again
returns-clause-again c = (kept c.in-Some.ensures.written).again

pub returns-clause-its_list : goal.returns-clause-its_list
returns-clause-its_list c = (kept c.in-Some.ensures.written).its_list

pub returns-clause-answered : goal.returns-clause-answered
returns-clause-answered c = (kept c.in-Some.ensures.written).answered

-- `loops_of`: no loop where there is no concept, else what the useful ones give.
use Rattle.std.proofs.Common.{refl, inl, inr, rules}
use Rattle.walk.proofs.CoReachableLaws.{refuted}
use Rattle.walk.proofs.LoopPartLaws.{gives_as}
use Rattle.walk.proofs.loops.loops_of.Goals as goal

pub returns-then-is_empty : goal.returns-then-is_empty
returns-then-is_empty c = inl (c.is_empty.ensures.0 c.if-is_empty.true, refl)

pub returns : goal.returns
returns c = inr (
  refuted c.is_empty.ensures c.if-is_empty.false,
  search rules,
  gives_as c.intersection-useful.ensures.member c.joined.ensures,
)

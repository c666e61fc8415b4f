-- `break_by_facts`: past the last fact no pair has both sides of an exclusion.
use Rattle.std.proofs.Common.{arith}
use Rattle.std.proofs.lemmas.Bool.{OnFalse_at}
use Rattle.clash.proofs.SeekLaws.{not_shown}
use Rattle.clash.proofs.PastLaws.{facts_start, facts_end}
use Rattle.clash.proofs.roles.RoleConflicts.break_by_facts.Goals as goal

pub loop-k-init : goal.loop-k-init
loop-k-init c = facts_start _ _ _ _ _

pub loop-k-preserved : goal.loop-k-preserved
loop-k-preserved c = OnFalse_at c.if-join_fact.false c.join_fact.ensures.tried

pub returns : goal.returns
returns c = not_shown (facts_end _ _ _ _ _ c.loop-k.k _ (omega arith) c.loop-k.invariant)

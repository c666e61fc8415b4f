-- `break_at_any_pair`: where the list has the edges of all facts, what it says is said of all facts.
use Rattle.clash.proofs.PastLaws.{by_list}
use Rattle.clash.proofs.roles.RoleConflicts.break_at_any_pair.Goals as goal

pub returns-then-has_all : goal.returns-then-has_all
returns-then-has_all c = by_list _ _ _ _ _ _ (c.has_all.ensures.0 c.if-has_all.true) c.break_at_pairs.ensures

-- `reached` meets its contract: a turn follows one role, and either the set grows, or one fewer is waiting.
use Rattle.std.proofs.Common.{rules}
use Rattle.sets.specs.Rows.{concept_marks}
use Rattle.elements.proofs.ReachLaws.{reaching_same, reaching_more, more_generating, union_more, union_same}
use Rattle.elements.proofs.generating.reached.Goals as goal

pub loop-role-smaller-then-ne : goal.loop-role-smaller-then-ne
loop-role-smaller-then-ne c =
    more_generating c.loop-role.generating.0 c.union-grown.result.0 c.loop-role.waiting.0 c.union-waiting.result.0
    (union_more _ _ _ c.union-grown.ensures (λ e. search (rules, e))) (search rules) (search rules)

pub loop-role-preserved-then-ne : goal.loop-role-preserved-then-ne
loop-role-preserved-then-ne c =
    reaching_more c.args.seeds.0
    (concept_marks c.args.order.now.above) c.loop-role.generating.0 c.loop-role.waiting.0 c.in-Some.role.0 c.pop_first.new.self.0
    c.children-reached.result.0 c.loop-role.invariant c.in-Some.ensures c.children-reached.ensures c.union-grown.result.0
    c.minus.result.0 c.union-waiting.result.0
    c.union-grown.ensures c.minus.ensures c.union-waiting.ensures

pub loop-role-preserved : goal.loop-role-preserved
loop-role-preserved c =
    reaching_same c.args.seeds.0
    (concept_marks c.args.order.now.above) c.loop-role.generating.0 c.loop-role.waiting.0 c.in-Some.role.0 c.pop_first.new.self.0
    c.children-reached.result.0 c.loop-role.invariant c.in-Some.ensures c.children-reached.ensures
    (union_same _ _ _ c.union-grown.ensures (search rules))

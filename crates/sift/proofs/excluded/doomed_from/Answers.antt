-- `doomed_from` meets its contract: each turn puts in the roles that lead to the set.
use Rattle.std.proofs.Common.{rules}
use Rattle.sets.specs.Rows.{concept_marks}
use Rattle.sift.proofs.DoomedLaws.{growing_less, growing_more, growing_end}
use Rattle.sift.proofs.excluded.doomed_from.Goals as goal

pub loop-more-smaller : goal.loop-more-smaller
loop-more-smaller c =
    growing_less c.loop-more.doomed.0 c.leading.result.0 c.union-more.result.0 c.union-more.ensures (λ e. search (rules, e)) (search rules)

pub loop-more-preserved : goal.loop-more-preserved
loop-more-preserved c =
    growing_more (concept_marks c.args.order.now.above) c.args.breaking.0 c.loop-more.doomed.0 c.leading.result.0 c.union-more.result.0
    c.loop-more.invariant c.leading.ensures c.union-more.ensures

pub returns-then-eq : goal.returns-then-eq
returns-then-eq c =
    growing_end (concept_marks c.args.order.now.above) c.args.breaking.0 c.loop-more.doomed.0 c.leading.result.0 c.union-more.result.0
    c.loop-more.invariant c.leading.ensures c.union-more.ensures (search rules)

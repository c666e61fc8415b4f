-- `worked_out` meets its contract: what is worked out one after the other means what the rules exclude.
use Rattle.tables.specs.Lists.{lists}
use Rattle.sets.specs.Rows.{concept_marks, role_marks}
use Rattle.sift.proofs.ExcludedMean.{tables-mean}
use Rattle.sift.proofs.excluded.Excluded.worked_out.Goals as goal

pub returns : goal.returns
returns c =
    tables-mean c.args.collection.now.counts (lists c.args.collection.now) c.requires.counts c.requires.numbers
    (role_marks c.new-roles.result.above) (concept_marks c.new-order.result.above) c.new-roles.ensures
    (c.new-order.ensures.order c.args.collection.now.role_rules.numbers.now c.new-roles.ensures) _ c.breaking.result.0
    c.doomed_from-doomed.result.0 c.apart_by-apart.ensures c.conflicts_by-conflicts.ensures c.breaking.ensures
    c.doomed_from-doomed.ensures c.barred_by-barred.ensures

-- `new` meets its contract: the roles are widened, the rules are marked among them, and all is closed.
use Rattle.sets.specs.Rows.{role_marks, concept_marks}
use Rattle.orders.specs.Marks.{Wide, Listed}
use Rattle.sets.specs.Bits.{concept_width}
use Rattle.orders.proofs.MarkLaws.{adds_shows}
use Rattle.orders.proofs.Follow.{concept-closed, closed-over}
use Rattle.orders.proofs.concepts.ConceptOrder.new.Goals as goal

pub returns-clause-closed : goal.returns-clause-closed
returns-clause-closed c =
    let from = role_marks c.args.roles.now.above in
    let rules = c.args.rules.numbers.now in
    closed-over rules from (concept_marks c.mark_pairs.new.rows) (concept_marks c.close.new.rows)
    (adds_shows concept_width (concept_marks c.widen-above.result) (Wide from) (Listed rules)
    (concept_marks c.mark_pairs.new.rows) c.widen-above.ensures c.mark_pairs.ensures)
    c.close.ensures

pub returns-clause-order : goal.returns-clause-order
returns-clause-order c = λ table o.
    let from = role_marks c.args.roles.now.above in
    let rules = c.args.rules.numbers.now in
    concept-closed rules table from o (concept_marks c.mark_pairs.new.rows)
    (adds_shows concept_width (concept_marks c.widen-above.result) (Wide from) (Listed rules)
    (concept_marks c.mark_pairs.new.rows) c.widen-above.ensures c.mark_pairs.ensures)
    (concept_marks c.close.new.rows) c.close.ensures

-- `break_at_unnamed`: no unnamed element that ends by a role that is past has both sides of an exclusion.
use Rattle.sets.specs.Rows.{concept_marks}
use Rattle.clash.specs.Clashes.{UnnamedClashes}
use Rattle.clash.proofs.SeekLaws.{Seeking}
use Rattle.clash.proofs.concepts.ConceptConflicts.break_at_unnamed.Given as goal

abbrev pub invariant-loop-role : goal.invariant-loop-role
invariant-loop-role l = Seeking
    (UnnamedClashes l.self.exclusions.numbers.now (concept_marks l.order.above)) l.fn.generating.0 l.role-iterator.rest.0

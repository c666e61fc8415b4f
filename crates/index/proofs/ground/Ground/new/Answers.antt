-- `Ground::new`: what each crate made, and of what.
use Rattle.index.proofs.ground.Ground.new.Goals as goal

pub invariant_of-result : goal.invariant_of-result
invariant_of-result c = record {
  passes = c.requires;
  role_order = c.new-roles.ensures;
  concept_order = c.new-order.ensures.order _ c.new-roles.ensures;
  individuals = c.fill.ensures.individuals;
  generating = c.fill.ensures.generating;
}

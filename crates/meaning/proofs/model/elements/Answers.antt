-- The model's elements and edges, by their constructors. One that goes straight back is folded to its parent's parent.
use Rattle.std.proofs.Common.{ap}
use Rattle.meaning.specs.Model.{bare, grown, fact, child, parent, ahead, behind}
use Rattle.meaning.proofs.Clash.{last}
use Rattle.meaning.proofs.ModelLaws.{born, bare-declared, row-of, self-edges}
use Rattle.meaning.proofs.StraightBack.{straight-back-contradiction, straight-back-yes, straight-back-leaves}
use Rattle.meaning.specs.Model.{individuals}
use Rattle.meaning.proofs.model.elements.Goals as goal

pub returns : goal.returns
returns c = record {
  rows = row-of;
  bare = λ 𝓒 a. (λ b. bare-declared 𝓒 b, λ d. bare d);
  longer = λ 𝓒 x R. (λ b. born 𝓒 (individuals 𝓒) b, λ w. grown w.0 w.1);
  unnamed = λ 𝓒 x R D. (λ h. h, λ h. h);
  facts = λ 𝓒 r a b m S l. (fact (ahead m l), fact (behind m l));
  self_edge = λ 𝓒 r a m. self-edges 𝓒 m;
  children = λ 𝓒 x R b S l. (child b l, parent b l);
  neighbours_differ = λ 𝓒 x R S n e. n (ap (last 𝓒) e);
  lean_contradiction = straight-back-contradiction;
  lean_yes = straight-back-yes;
  lean_leaves = straight-back-leaves;
}

-- `new` meets its contract: each table is filled with one thing.
use Rattle.std.specs.Prelude.{◌≡◌, refl, ◌*◌, replicate}
use Rattle.std.specs.List.{All}
use Rattle.std.proofs.lemmas.List.Elements.{All-replicate}
use Rattle.kinds.specs.Kinds.{most_individuals, most_states}
use Rattle.meaning.specs.Lent.{most_role_facts}
use Rattle.sets.specs.Bits.{role_width}
use Rattle.sets.specs.Rows.{no_states}
use Rattle.sets.specs.declared.states.StateSet.{StateSet}
use Rattle.edges.specs.declared.packed.PackedEdge.{PackedEdge}
use Rattle.index.proofs.routes.Routes.new.Goals as goal

abbrev IsNone : StateSet → Type 0
IsNone states = states ≡ no_states

no-state : All IsNone (replicate most_states no_states)
no-state = All-replicate IsNone most_states no_states refl

pub returns : goal.returns
returns c = record {
  list = All-replicate (λ (edge : PackedEdge). edge.0 ≡ 0) (2 * most_role_facts) (record { 0 = 0 }) refl;
  loops = All-replicate (All IsNone) most_individuals (replicate most_states no_states) no-state;
  transitions = All-replicate (All IsNone) role_width (replicate most_states no_states) no-state;
  accepting = All-replicate IsNone most_individuals no_states refl;
}

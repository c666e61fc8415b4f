-- The question with one named end in the canonical model: as words, as a walk, and of a larger collection.
use Rattle.std.specs.Prelude.{◌↔◌}
use Rattle.kinds.specs.declared.Individual.{Individual}
use Rattle.kinds.specs.declared.State.{State}
use Rattle.kinds.specs.declared.SignedRole.{SignedRole}
use Rattle.kinds.specs.Kinds.{IndividualDeclared}
use Rattle.laws.specs.Member.{◌∈◌}
use Rattle.meaning.specs.Collection.{Collection, WellFormed}
use Rattle.theory.specs.Run.{stop, one, carry}
use Rattle.theory.specs.Tree.{Elem, root}
use Rattle.meaning.specs.Model.{Roots, bare, grown_from, individuals, canonical}
use Rattle.meaning.specs.Question.{PathIn, Yes}
use Rattle.meaning.specs.Leaving.{Leaves, SpellsFrom}
use Rattle.meaning.specs.Lite.{lite}
use Rattle.theory.specs.Onward.{WalksOut}
use Rattle.meaning.specs.Walk.{Near, IndividualsWalkOut}
use Rattle.meaning.proofs.QuestionLaws.{path→word, word→path}
use Rattle.meaning.proofs.ModelMoves.{to-move}
use Rattle.meaning.proofs.ModelPaths.{RootsKeep, from-moves}
use Rattle.meaning.proofs.ModelWalk.{individuals-keep}
use Rattle.theory.proofs.Onward.{out↔path}

-- THEOREM: a path leaves an individual exactly when some path from it spells a word of the question
pub leaves↔word : (𝓒 : Collection) (a : Individual) → Leaves 𝓒 a ↔ SpellsFrom 𝓒 a
leaves↔word 𝓒 a = (
  λ l. let r = path→word 𝓒 (canonical 𝓒) l.3 in (r.0, (l.0, l.1, r.1), l.2, r.2),
  λ w. (w.1.0, w.1.1, w.2, word→path 𝓒 (canonical 𝓒) w.3 w.1.2),
)

-- the empty path counts; and the first of a pair that is yes is left
pub empty-leaves : (𝓒 : Collection) (a : Individual) → 𝓒.counts.start ∈ 𝓒.finals → Leaves 𝓒 a
empty-leaves 𝓒 a m = (𝓒.counts.start, m, root a, stop)

pub yes-leaves : (𝓒 : Collection) (a b : Individual) → Yes 𝓒 a b → Leaves 𝓒 a
yes-leaves 𝓒 a b y = (y.0, y.1, root b, y.2)

-- a path leads from a root that belongs to any element exactly when the walk by the sheet's rules leads out
module _ (𝓒 : Collection) (𝓡 : Roots) (keep : RootsKeep 𝓒 𝓡) (final : State → Type 0) where
  path↔out : (a : 𝓡.Root) (s : State) → 𝓡.belongs a
      → ((t : State) × final t × (x : Elem 𝓡.Root SignedRole) × PathIn 𝓒 (grown_from 𝓒 𝓡) (root a) s x t) ↔ WalksOut (lite 𝓒) 𝓡.has (Near 𝓒 𝓡) final a s
  path↔out a s h =
      let w = out↔path (lite 𝓒) final 𝓡.has (Near 𝓒 𝓡) a s in (
        λ p. w.1 (p.2, p.0, p.1, carry (λ x. x) (λ x y s t m. one (to-move 𝓒 𝓡 m)) p.3),
        λ o. let r = w.0 o in (r.1, r.2, r.0, from-moves 𝓒 𝓡 keep r.3 (bare h)),
      )

-- THEOREM: a path leaves an individual exactly when the individuals' walk leads out
pub leaves↔walk : (𝓒 : Collection) → WellFormed 𝓒 → (a : Individual) → IndividualDeclared 𝓒.counts a → Leaves 𝓒 a ↔ IndividualsWalkOut 𝓒 a 𝓒.counts.start
leaves↔walk 𝓒 ok a h = path↔out 𝓒 (individuals 𝓒) (individuals-keep 𝓒 ok) (λ t. t ∈ 𝓒.finals) a 𝓒.counts.start h

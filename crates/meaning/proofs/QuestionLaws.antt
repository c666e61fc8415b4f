-- A pair is yes exactly when a path of the model spells a word of the question.
use Rattle.std.specs.Prelude.{◌↔◌, List, [], ◌∷◌}
use Rattle.kinds.specs.declared.Individual.{Individual}
use Rattle.kinds.specs.declared.State.{State}
use Rattle.meaning.specs.Collection.{Collection, Letter, role, test}
use Rattle.theory.specs.Run.{stop, go}
use Rattle.meaning.specs.Model.{Structure, canonical}
use Rattle.meaning.specs.Question.{Spells, by-role, by_name, along-role, at_name, PathIn, Yes, Reads, letter, SpellsWord}

module _ (𝓒 : Collection) (𝓢 : Structure) where
  -- a path spells a word that the automaton reads
  pub path→word : {x y : 𝓢.Thing} {s t : State} → PathIn 𝓒 𝓢 x s y t → (w : List Letter) × Reads 𝓒 s w t × Spells 𝓢 x w y
  path→word stop = ([], Reads.nothing, Spells.nothing)
  path→word (go (along-role S e h) p) = let r = path→word p in (role S ∷ r.0, letter e r.1, by-role h r.2)
  path→word (go (at_name A e h) p) = let r = path→word p in (test A ∷ r.0, letter e r.1, by_name h r.2)

  -- a word that the automaton reads and some path spells puts elements and states in step
  pub word→path : {x y : 𝓢.Thing} {s t : State} {w : List Letter} → Spells 𝓢 x w y → Reads 𝓒 s w t → PathIn 𝓒 𝓢 x s y t
  word→path Spells.nothing Reads.nothing = stop
  word→path (by-role {S = S} h p) (letter e r) = go (along-role S e h) (word→path p r)
  word→path (by_name {A = A} h p) (letter e r) = go (at_name A e h) (word→path p r)

-- THEOREM: elements and states in step, and words spelled and read, are the same
pub yes↔word : (𝓒 : Collection) (a b : Individual) → Yes 𝓒 a b ↔ SpellsWord 𝓒 a b
yes↔word 𝓒 a b = (
  λ y. let r = path→word 𝓒 (canonical 𝓒) y.2 in (r.0, (y.0, y.1, r.1), r.2),
  λ w. (w.1.0, w.1.1, word→path 𝓒 (canonical 𝓒) w.2 w.1.2),
)

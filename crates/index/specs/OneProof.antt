-- That a collection passes its tests has one proof at most, as the ghost field of `Checked` needs.
use Rattle.std.specs.Coded.{le_prop}
use Rattle.std.proofs.Props.{props}
use Rattle.kinds.specs.declared.Counts.{Counts}
use Rattle.kinds.specs.declared.Concept.{Concept}
use Rattle.kinds.specs.declared.Concept.TheVariants.{Name, Exists}
use Rattle.kinds.specs.Kinds.{ConceptDeclared}
use Rattle.meaning.specs.Collection.{Letter, role, test, Step, step, LetterDeclared, StepDeclared}
use Rattle.tables.specs.declared.collection.Collection.{Collection}
use Rattle.index.specs.Works.{Passes}

concept-once : (c : Counts) (C : Concept) → IsProp (ConceptDeclared c C)
concept-once c (Name A) = le_prop
concept-once c (Exists R) = le_prop

letter-once : (c : Counts) (l : Letter) → IsProp (LetterDeclared c l)
letter-once c (role S) = le_prop
letter-once c (test A) = le_prop

step-once : (c : Counts) (s : Step) → IsProp (StepDeclared c s)
step-once c (step s l t) = Prim.hlevel (letter-once, props)

pub passes-once : (c : Collection) → IsProp (Passes c)
passes-once c = Prim.hlevel (concept-once, step-once, props)

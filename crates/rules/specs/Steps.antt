-- The steps of the question as a collection has them, and words for one of them and for some.
use Rattle.std.specs.Prelude.{◌≡◌, ℕ, List}
use Rattle.laws.specs.Member.{◌∈◌}
use Rattle.meaning.specs.Collection as collection
use Rattle.meaning.specs.Lent.{records, step_width, step_at}
use Rattle.tables.specs.declared.records.Letter.{Letter}
use Rattle.tables.specs.declared.records.Letter.TheVariants.{Role, Test}
use Rattle.tables.specs.declared.records.Step.{Step}

abbrev pub letter_meant : Letter → collection.Letter
letter_meant (Role by) = collection.role by
letter_meant (Test by) = collection.test by

abbrev pub step_of : Step → collection.Step
step_of one = collection.step one.from (letter_meant one.letter) one.to

abbrev pub Just : collection.Step → collection.Step → Type 0
Just one e = e ≡ one

-- the steps of a table
abbrev pub steps_of : List ℕ → List collection.Step
steps_of t = records step_width step_at t

abbrev pub Among : List collection.Step → collection.Step → Type 0
Among steps e = e ∈ steps

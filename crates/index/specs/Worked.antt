-- What was worked out of a collection is so.
use Rattle.std.specs.Prelude.{ℕ, Result, Ok, Err}
use Rattle.tables.specs.declared.collection.Refusal.{Refusal}
use Rattle.tables.specs.Tests.{IsChecked}
use Rattle.index.specs.declared.lent.Lent.{Lent}
use Rattle.index.specs.declared.work.Found.{Found}
use Rattle.index.specs.Works.{Passes, HasAreas, IsFound}

-- refused by the first test that fails
abbrev pub IsRefused : Lent → ℕ → ℕ → Refusal → Type 0
IsRefused l area spare e = IsChecked l.collection area spare (Err e)

-- past the tests, found
pub record IsSettled (l : Lent) (long long' : ℕ) (f : Found) : Type 0 where
  pub passes : Passes l.collection
  pub areas : HasAreas long long'
  pub found : IsFound l f

abbrev pub IsWorked : Lent → ℕ → ℕ → Result Found Refusal → Type 0
IsWorked l area spare (Err e) = IsRefused l area spare e
IsWorked l area spare (Ok f) = IsSettled l area spare f

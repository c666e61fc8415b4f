-- The tests 4, 5 and 6 of docs/RULES.md (section 7) on a lent collection and areas of these lengths.
use Rattle.std.specs.Prelude.{ℕ, Result}
use Rattle.kinds.specs.Kinds.{CountsFit}
use Rattle.meaning.specs.Lent.{TablesFit, NumbersFit}
use Rattle.tables.specs.declared.collection.Collection.{Collection}
use Rattle.tables.specs.declared.collection.Refusal.{Refusal}
use Rattle.tables.specs.Lists.{lists}
use Rattle.tables.specs.Order.{AllPass, SecondFails, ThirdFails, InOrder}

module _ (c : Collection) (area spare : ℕ) where
  abbrev CountsHold : Type 0
  CountsHold = CountsFit c.counts

  abbrev TablesHold : Type 0
  TablesHold = TablesFit (lists c) area spare

  abbrev NumbersHold : Type 0
  NumbersHold = NumbersFit c.counts (lists c)

  abbrev pub PassesTests : Type 0
  PassesTests = AllPass CountsHold TablesHold NumbersHold

  -- the first test that fails is of the tables, or of the numbers
  abbrev pub StopsAtTables : Type 0
  StopsAtTables = SecondFails CountsHold TablesHold

  abbrev pub StopsAtNumbers : Type 0
  StopsAtNumbers = ThirdFails CountsHold TablesHold NumbersHold

  -- the contract of `check`
  abbrev pub IsChecked : Result (Unit {0}) Refusal → Type 0
  IsChecked = InOrder CountsHold TablesHold NumbersHold

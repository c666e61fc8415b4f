-- What a shelf holds: records of one width at its front, for which it has a place.
use Rattle.std.specs.Prelude.{ℕ, ◌≤◌, List, take}
use Rattle.sorted.specs.Rows.{AreWide, HasPlace}

pub record HoldsRecords (width most used : ℕ) (records : List (List ℕ)) : Type 0 where
  pub place : HasPlace width most
  pub few : used ≤ most
  pub wide : AreWide width (take used records)

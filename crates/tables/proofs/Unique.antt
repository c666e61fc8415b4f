-- The contract of `check` leaves one answer.
use Rattle.std.specs.Prelude.{◌≡◌, refl, ℕ, Result, Ok, Err}
use Rattle.std.proofs.Common.{sym}
use Rattle.std.proofs.lemmas.Bool.{false≢true}
use Rattle.tables.specs.declared.collection.Collection.{Collection}
use Rattle.tables.specs.declared.collection.Refusal.{Refusal}
use Rattle.tables.specs.declared.collection.Refusal.TheVariants.{BadCount, BadTable, BadNumber}
use Rattle.tables.specs.Order.{InOrder}
use Rattle.tables.specs.Tests.{IsChecked}

module _ (A B C : Type 0) where
  same : (r q : Result (Unit {0}) Refusal) → InOrder A B C r → InOrder A B C q → r ≡ q
  same (Ok u) (Ok v) x y = refl
  same (Ok u) (Err e) x y = absurd (false≢true (y.ok.1 (x.ok.0 refl)))
  same (Err BadCount) q x y = sym (y.bad_count.1 (x.bad_count.0 refl))
  same (Err BadTable) q x y = sym (y.bad_table.1 (x.bad_table.0 refl))
  same (Err BadNumber) q x y = sym (y.bad_number.1 (x.bad_number.0 refl))

module _ (c : Collection) (area spare : ℕ) where
  -- THEOREM: two answers that satisfy the contract are equal
  pub checks-unique : (r q : Result (Unit {0}) Refusal) → IsChecked c area spare r → IsChecked c area spare q → r ≡ q
  checks-unique = same _ _ _

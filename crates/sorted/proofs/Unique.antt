-- The contract of `have_same_records` leaves one answer.
use Rattle.std.specs.Prelude.{◌≡◌, refl, Bool, true, false, Result, Ok, Err}
use Rattle.std.proofs.Common.{sym}
use Rattle.tables.specs.declared.collection.Collection.{Collection}
use Rattle.tables.specs.declared.collection.Refusal.{Refusal}
use Rattle.sorted.specs.Same.{Compares}

-- THEOREM: two answers that satisfy the contract are equal
pub compares-once : (c d : Collection) (r q : Result Bool Refusal) → Compares c d r → Compares c d q → r ≡ q
compares-once c d (Ok true) q x y = sym (y.same.1 (x.same.0 refl))
compares-once c d (Ok false) q x y = sym (y.others.1 (x.others.0 refl))
compares-once c d (Err why) q x y = sym ((y.refused why).1 ((x.refused why).0 refl))

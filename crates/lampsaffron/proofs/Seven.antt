-- No number of a row that was asked in turn is 7, which no answer has.
use Rattle.std.specs.Prelude.{◌≡◌, ◌≢◌, List, ℕ, ◌<◌, Option, Some, unwrap_or, length, slice_get}
use Rattle.std.proofs.Common.{ap, sym, ◌∙◌, arith}
use Rattle.std.proofs.Math.Decide.{ℕ_discrete}
use Rattle.std.proofs.lemmas.Option.{slice_get_within}
use Rattle.kinds.specs.Answer.{seven-never}
use Rattle.index.specs.Preparation.{Preparation}
use Rattle.kinds.specs.declared.Ask.{Ask}
use Rattle.index.specs.Row.{InTurn, none, next}
use Rattle.lampsaffron.specs.Boundary.{Tells}

module _ (p : Preparation) (ask : ℕ → Ask) (area spare numbers counts : List ℕ) where
  none-is : {n : ℕ} {x y : List ℕ} → InTurn p ask (Tells numbers counts) area spare n x y → (k : ℕ) → k < n → slice_get numbers k ≢ Some 7
  none-is none k h e = omega arith
  none-is (next {n = n} r before tells o) k h e = side (ℕ_discrete k n) (λ l. none-is before k l e)
    where
      side : Dec (k ≡ n) → (k < n → ⊥) → ⊥
      side (yes q) f = seven-never r (ap (λ (o : Option ℕ). unwrap_or o 0) (sym tells.number ∙ (rw q at e)))
      side (no q) f = f (omega arith)

  -- THEOREM: where each ask of the row has its number
  pub row-never : (n : ℕ) (x y : List ℕ) → length numbers ≡ n → InTurn p ask (Tells numbers counts) area spare n x y
      → (k : ℕ) → slice_get numbers k ≢ Some 7
  row-never n x y long turns k e = let h = slice_get_within numbers k 7 e in none-is turns k (omega (arith, h, long)) e

-- The final states of a table, as a set.
use Rattle.std.specs.Prelude.{◌≡◌, List, ℕ, ◌/◌, ◌<◌, length}
use Rattle.sets.specs.Bits.{IsSetOf, state_width}
use Rattle.meaning.specs.Lent.{final_width, final_at}

-- u is one of the first n states of the table, and has a place in a set
pub record IsFinalBelow (t : List ℕ) (n u : ℕ) : Type 0 where
  pub place : ℕ
  pub below : place < n
  pub is : (final_at t place).0 ≡ u
  pub low : u < state_width

abbrev pub AreFinals : List ℕ → ℕ → Type 0
AreFinals t = IsSetOf (IsFinalBelow t (length t / final_width))

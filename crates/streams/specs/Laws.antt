-- The law of reading an input line by line.
use Rattle.std.specs.Prelude.{◌≡◌, ℕ, List, Some}
use Rattle.streams.specs.declared.lines.Next.{Next}
use Rattle.streams.specs.Gives.{Gives, ConsumesNext}

-- what may come next of known bytes, and what is then left of them
pub record Comes (bytes left : List ℕ) (next : Next) : Type 0 where
  pub gives : Gives (Some bytes) (Some left) next
  pub consumes : ConsumesNext (Some bytes) (Some left) next

-- one thing comes next of known bytes, and one rest is left
abbrev pub NextOnce : Type 0
NextOnce = (bytes left other : List ℕ) (n m : Next)
    → Comes bytes left n → Comes bytes other m → (n ≡ m) × (left ≡ other)

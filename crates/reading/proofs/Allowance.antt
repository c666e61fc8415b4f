-- The allowance of a file: a product that stops at a largest number is the whole product, stopped there; and of what was read it stops nowhere.
use Rattle.std.specs.Prelude.{ℕ, zero, suc, ◌+◌, ◌*◌, ◌-◌, ◌≤◌, ◌<◌, ◌≡◌, List, [], ◌∷◌, min}
use Rattle.std.proofs.Common.{refl, arith}
use Rattle.std.proofs.Math.Decide.{dec_lt}
use Rattle.std.proofs.Math.Nat.{le_of_lt, mul-le-mul_right, le-mul_of_pos_right}
use Rattle.kinds.specs.declared.Counts.{Counts}
use Rattle.meaning.specs.Demands.{most_rounds}
use Rattle.meaning.proofs.Demands.{most-rounds}
use Rattle.frames.specs.declared.Frame.{Frame}
use Rattle.reading.specs.declared.File.{File}
use Rattle.reading.specs.Tables.{declared_by}
use Rattle.reading.specs.Reading.{Taken}
use Rattle.reading.specs.Reads.{IsRead}
use Rattle.reading.proofs.Turns.{fitting}

capped-mul : (a b m : ℕ) → min (min a m * b) m ≡ min (a * b) m
capped-mul a b m = by (dec_lt m a)
  where
    over : (b : ℕ) → m < a → min (m * b) m ≡ min (a * b) m
    over zero h = omega arith
    over (suc b) h = omega (arith, h, le-mul_of_pos_right {m = suc b} m (omega arith), mul-le-mul_right (suc b) (le_of_lt h))

    by : Dec (m < a) → min (min a m * b) m ≡ min (a * b) m
    by (yes h) = let e : min a m ≡ m = omega (arith, h) in rw e (over b h)
    by (no n) = let e : min a m ≡ a = omega (arith, n) in rw e refl

-- names + 2 × roles, times states, times one fewer, stopped at each turn
pub stopped : (c : Counts) (m : ℕ)
    → min (min (min (c.names + min (c.roles * 2) m) m * c.states) m * (c.states - 1)) m ≡ min (most_rounds c) m
stopped c m =
    let e : min (c.names + min (c.roles * 2) m) m ≡ min (c.names + 2 * c.roles) m = omega arith in
    let f = capped-mul (c.names + 2 * c.roles) c.states m in
    rw (e, f) (capped-mul ((c.names + 2 * c.roles) * c.states) (c.states - 1) m)

-- what some frames declare has no more rounds than any collection
most-declared : (fs : List Frame) → Taken fs → most_rounds (declared_by fs) ≤ 126976
most-declared [] t = omega arith
most-declared (f ∷ fs) t = most-rounds (declared_by (f ∷ fs)) (fitting (f ∷ fs) t (λ e. cc))

pub most-read : (file : File) → IsRead file → most_rounds file.counts ≤ 126976
most-read file read = rw read.kept (most-declared read.frames read.taken)

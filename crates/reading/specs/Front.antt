-- Lines taken where they stand, at the front of the bytes that are held.
use Rattle.std.specs.Prelude.{ℕ, ◌≡◌, ◌==◌, ◌+◌, ◌-◌, ◌<◌, List, Some, Ok, length, take, drop, position}
use Rattle.streams.specs.declared.TheConstants.{LINE}
use Rattle.reading.specs.declared.File.{File}
use Rattle.reading.specs.File.{HoldsOpen}
use Rattle.reading.specs.Room.{room_left}
use Rattle.reading.specs.Turns.{TakesLine}

-- the first n of the held bytes are a line, and it is taken, behind line 1 and before any list; the
-- end behind it is the first
pub record TakesFirst (old : File) (held : List ℕ) (n : ℕ) (new : File) : Type 0 where
  pub within : n < length held
  pub first : position (λ b. b == 0x0A) (take (LINE + 1) held) ≡ Some n
  pub taken : TakesLine old (take n held) (Ok tt) new
  pub is_open : HoldsOpen new
  pub room : room_left new < room_left old

-- of n bytes the last is the line's end; where there are none, nothing changes
pub record TakesFront (old : File) (held : List ℕ) (n : ℕ) (new : File) : Type 0 where
  pub none : n ≡ 0 → new ≡ old
  pub some : 0 < n → TakesFirst old held (n - 1) new

-- lines taken one after the other, with how many bytes they are
pub data TakesLines (old : File) (held : List ℕ) : ℕ → File → Type 0 where
  none : TakesLines old held 0 old
  more : (at n : ℕ) (mid new : File) → TakesLines old held at mid
      → TakesFirst mid (drop at held) n new → TakesLines old held (at + (n + 1)) new

-- What an input wrote while there were at most 16 states (docs/RULES.md, section 8): by what its lines
-- were found to be then, and with each count in two bytes.
use Rattle.std.specs.Prelude.{ℕ, ◌≡◌, ◌↔◌, ◌⊎◌, List, []}
use Rattle.frames.specs.declared.Frame.{Frame}
use Rattle.streams.specs.Lines.{lines}
use Rattle.reading.specs.Reading.{sound}
use Rattle.reading.specs.Former.{FormerReading}
use Rattle.shell.specs.Faults.{fault_line}
use Rattle.shell.specs.Writes.{WritesBy}
use Rattle.file.specs.Writes.{RepliesTo, Writes}

-- what an input wrote
abbrev pub FormerWrites : List ℕ → List ℕ → Type 0
FormerWrites = WritesBy (FormerReading []) (RepliesTo (λ fs. 2))

-- it was read whole, as these frames
abbrev pub WasSound : List ℕ → List Frame → Type 0
WasSound input fs = FormerReading [] (lines input) (sound fs)

-- an input that was read whole writes what it wrote
abbrev pub WritesAsItDid : Type 0
WritesAsItDid = (input : List ℕ) (fs : List Frame) → WasSound input fs
    → (text : List ℕ) → Writes input text ↔ FormerWrites input text

-- a text is the line of a fault with 4, 5, 9 or 10
pub record TellsFormerFault (text : List ℕ) : Type 0 where
  pub line : ℕ
  pub number : ℕ
  pub told : text ≡ fault_line line number
  pub one : (number ≡ 4) ⊎ (number ≡ 5) ⊎ (number ≡ 9) ⊎ (number ≡ 10)

-- and what any input wrote it writes, or it was such a line
abbrev pub WroteAsItDoes : Type 0
WroteAsItDoes = (input text : List ℕ) → FormerWrites input text
    → Writes input text ⊎ TellsFormerFault text

-- an input wrote one text at most,
abbrev pub FormerWritesOnce : Type 0
FormerWritesOnce = (input text out : List ℕ) → FormerWrites input text → FormerWrites input out
    → text ≡ out

-- and, where it writes anything, it wrote something
abbrev pub FormerWritesSome : Type 0
FormerWritesSome = (input text : List ℕ) → Writes input text
    → (out : List ℕ) × FormerWrites input out

-- What holds of the lines of a file that gives no allowance (docs/RULES.md, section 8).
use Rattle.std.specs.Prelude.{ℕ, ◌<◌, ◌≡◌, List, None}
use Rattle.meaning.specs.Model.{Contradiction}
use Rattle.theory.specs.Sheet.{Needed}
use Rattle.meaning.specs.Lite.{lite}
use Rattle.meaning.specs.Demands.{Enough, Spelled}
use Rattle.expression.specs.Listed.{Listed}
use Rattle.frames.specs.declared.Frame.{Frame}
use Rattle.reading.specs.Tables.{asks, entries, allowance_given}
use Rattle.reading.specs.File.{asked}
use Rattle.shell.specs.Writes.{IsSound}
use Rattle.intake.specs.Verdicts.{collection_read}
use Rattle.file.specs.Writes.{IsAsking, Writes}
use Rattle.file.specs.Told.{line_at, IsUnspent}
use Rattle.file.specs.Laws.{TellsRounds}
use Rattle.file.specs.Demands.{IsAsModelSays}

-- the rounds needed are allowed,
abbrev pub DefaultSuffices : Type 0
DefaultSuffices = (input : List ℕ) (fs : List Frame) (q : Listed) → IsAsking input fs q
    → allowance_given fs ≡ None → (k : ℕ) → k < entries asks fs → Enough (asked fs q k)

-- so that no line of an answer has number 3,
abbrev pub NeverSpent : Type 0
NeverSpent = (input text : List ℕ) → Writes input text
    → (fs : List Frame) → IsSound input fs → allowance_given fs ≡ None
    → IsUnspent (entries asks fs) text

-- each is as the canonical model says,
abbrev pub DefaultSaysAsModel : Type 0
DefaultSaysAsModel = (input text : List ℕ) → Writes input text
    → (fs : List Frame) (q : Listed) → IsAsking input fs q → allowance_given fs ≡ None
    → (k : ℕ) → k < entries asks fs
    → IsAsModelSays (asked fs q k) (Spelled (asked fs q k)) (line_at (entries asks fs) text k)

-- and the rounds that are told of are those needed
abbrev pub DefaultTellsAll : Type 0
DefaultTellsAll = (input text : List ℕ) → Writes input text
    → (fs : List Frame) (q : Listed) → IsAsking input fs q → allowance_given fs ≡ None
    → 0 < entries asks fs → (Contradiction (collection_read fs q) → ⊥)
    → (n : ℕ) → Needed (lite (collection_read fs q)) n
    → TellsRounds fs (collection_read fs q) n text

-- What an accepted list says of the lines that are written (docs/RULES.md, section 12).
use Rattle.std.specs.Prelude.{ℕ, ◌+◌, ◌<◌, ◌≡◌, ◌≢◌, ◌==◌, List, [], min, count_by}
use Rattle.meaning.specs.Demands.{Enough}
use Rattle.meaning.specs.Listing.{numbered_lite, IsYesBy}
use Rattle.meaning.specs.Model.{Contradiction}
use Rattle.theory.specs.Listing.{last_round}
use Rattle.expression.specs.Listed.{Listed}
use Rattle.frames.specs.declared.Frame.{Frame}
use Rattle.reading.specs.Tables.{asks, entries, Entry, list_in, rounds_allowed}
use Rattle.reading.specs.File.{asked}
use Rattle.intake.specs.Verdicts.{collection_read}
use Rattle.file.specs.Writes.{IsAsking, frames_width, Writes}
use Rattle.file.specs.Told.{rounds_in, round_at, line_at, IsRoundLine}
use Rattle.file.specs.Demands.{IsAsModelSays}

-- with enough rounds each line is yes exactly where a walk by fact edges and by the marks of the list
-- leads to what is asked for
abbrev pub LinesSayByList : Type 0
LinesSayByList = (input text : List ℕ) → Writes input text
    → (fs : List Frame) (q : Listed) → IsAsking input fs q → list_in fs ≢ []
    → (k : ℕ) → k < entries asks fs → Enough (asked fs q k)
    → IsAsModelSays (asked fs q k)
    (IsYesBy (collection_read fs q) (list_in fs) (asked fs q k).ask)
    (line_at (entries asks fs) text k)

-- how many entries of a list have a round
abbrev pub entries_in : List Entry → ℕ → ℕ
entries_in list n = count_by (λ x. x.0 == n) list

-- the rounds needed are the last round of the list
abbrev pub rounds_listed : List Frame → Listed → ℕ
rounds_listed fs q = last_round (numbered_lite (collection_read fs q)) (list_in fs)

-- a text tells of each round up to that one, as far as rounds are allowed, and says of a round as
-- many marks as the list has entries with its number
pub record TellsByList (fs : List Frame) (q : Listed) (text : List ℕ) : Type 0 where
  pub many : rounds_in (entries asks fs) text ≡ min (rounds_listed fs q) (rounds_allowed fs)
  pub each : (k : ℕ) → k < min (rounds_listed fs q) (rounds_allowed fs)
      → IsRoundLine (frames_width fs) (k + 1) (entries_in (list_in fs) (k + 1)) (round_at text k)

abbrev pub RoundsToldByList : Type 0
RoundsToldByList = (input text : List ℕ) → Writes input text
    → (fs : List Frame) (q : Listed) → IsAsking input fs q → list_in fs ≢ []
    → 0 < entries asks fs → (Contradiction (collection_read fs q) → ⊥)
    → TellsByList fs q text

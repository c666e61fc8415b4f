-- What holds of the facts that salvage drops and of those that it keeps, and of what is written of
-- them (docs/RULES.md, section 13).
use Rattle.std.specs.Prelude.{ℕ, ◌+◌, ◌<◌, ◌≡◌, ◌≢◌, ◌↔◌, true, false, not, Some, List, [], ◌∷◌, ◌++◌, IsSome, IsSomeAnd, length, slice_get, slice_index}
use Rattle.std.specs.List.{filter}
use Rattle.laws.specs.Member.{◌∈◌}
use Rattle.salvage.specs.Facts.{Fact}
use Rattle.meaning.specs.Model.{Contradiction}
use Rattle.expression.specs.Listed.{Listed}
use Rattle.frames.specs.declared.Frame.{Frame}
use Rattle.reading.specs.File.{IsQuestionOf}
use Rattle.reading.specs.Salvage.{fact_in}
use Rattle.reading.specs.Tables.{asks, entries, salvages, is_salvage}
use Rattle.intake.specs.Verdicts.{collection_read}
use Rattle.shell.specs.Writes.{IsSound}
use Rattle.file.specs.Text.{dropped_text}
use Rattle.file.specs.Writes.{IsAsking, Writes}
use Rattle.file.specs.Told.{line_in, line_at, dropped_in, number_on, IsDroppedLine}

-- an input is answered over one row of frames, asks one question, and has one row of dropped facts
pub record SameAsking {input : List ℕ} {fs gs : List Frame} {q r : Listed}
    (s : IsAsking input fs q) (t : IsAsking input gs r) : Type 0 where
  pub read : s.read ≡ t.read
  pub dropped : s.dropped ≡ t.dropped
  pub over : fs ≡ gs
  pub question : q ≡ r

abbrev pub AskingOnce : Type 0
AskingOnce = (input : List ℕ) (fs gs : List Frame) (q r : Listed)
    → (s : IsAsking input fs q) (t : IsAsking input gs r) → SameAsking s t

-- one that is read whole and asks a question is answered over some frames
abbrev pub AskingSome : Type 0
AskingSome = (input : List ℕ) (fs : List Frame) (q : Listed) → IsSound input fs
    → IsQuestionOf fs q → (gs : List Frame) × IsAsking input gs q

-- ---- the lines

-- the first lines of a text, and no others, tell of facts that are dropped, a line for each
pub record TellsDropped (dropped text : List ℕ) : Type 0 where
  pub many : dropped_in text ≡ length dropped
  pub each : (k : ℕ) → k < length dropped
      → IsDroppedLine (slice_index dropped k) (line_in text k)

abbrev pub DroppedAreTold : Type 0
DroppedAreTold = (input text : List ℕ) → Writes input text
    → (fs : List Frame) (q : Listed) → (s : IsAsking input fs q) → TellsDropped s.dropped text

-- each is the number of a line that types a fact, from 1, and the later one is the greater
pub record AreFactLines (fs : List Frame) (dropped : List ℕ) : Type 0 where
  pub fact : (n : ℕ) → n ∈ dropped
      → (m : ℕ) × (n ≡ m + 1) × IsSomeAnd (slice_get fs m) (λ f. IsSome (fact_in f))
  pub rising : (j k : ℕ) → j < k → k < length dropped
      → slice_index dropped j < slice_index dropped k

abbrev pub DroppedAreFacts : Type 0
DroppedAreFacts = (input : List ℕ) (fs : List Frame) (q : Listed) → (s : IsAsking input fs q)
    → AreFactLines s.read s.dropped

-- they are told without an ask too, and then alone
abbrev pub DroppedToldAlone : Type 0
DroppedToldAlone = (input text : List ℕ) → Writes input text
    → (fs : List Frame) (q : Listed) → (s : IsAsking input fs q)
    → entries asks fs ≡ 0 → text ≡ dropped_text s.dropped

-- a file that does not choose salvage drops nothing,
abbrev pub PlainDropsNone : Type 0
PlainDropsNone = (input text : List ℕ) → Writes input text
    → (fs : List Frame) → IsSound input fs → salvages fs ≡ false → dropped_in text ≡ 0

-- and is answered over all its frames
abbrev pub PlainAnswersAll : Type 0
PlainAnswersAll = (input : List ℕ) (fs gs : List Frame) (q : Listed) → IsSound input fs
    → salvages fs ≡ false → IsAsking input gs q → gs ≡ fs

-- of one that does, no answer has number 2
abbrev pub NeverContradiction : Type 0
NeverContradiction = (input text : List ℕ) → Writes input text
    → (fs : List Frame) → IsSound input fs → salvages fs ≡ true
    → (k : ℕ) → k < entries asks fs → number_on (line_at (entries asks fs) text k) ≢ 2

-- the frames without those that choose salvage
abbrev pub unchosen : List Frame → List Frame
unchosen fs = filter (λ f. not (is_salvage f)) fs

-- and behind its dropped facts it writes what an input writes that is read as its frames without
-- these facts, and does not choose salvage
abbrev pub WritesWithoutDropped : Type 0
WritesWithoutDropped = (input other text out : List ℕ)
    → (fs : List Frame) (q : Listed) → (s : IsAsking input fs q)
    → IsSound other (unchosen fs) → Writes other out
    → Writes input text ↔ (text ≡ dropped_text s.dropped ++ out)

-- ---- the facts

-- the kept facts make no contradiction
abbrev pub KeptAreSane : Type 0
KeptAreSane = (input : List ℕ) (fs : List Frame) (q : Listed) → (s : IsAsking input fs q)
    → salvages s.read ≡ true → ¬ Contradiction (collection_read fs q)

-- any one dropped fact, put back among all that are kept, brings one
abbrev pub DroppedClash : Type 0
DroppedClash = (input : List ℕ) (fs : List Frame) (q : Listed) → (s : IsAsking input fs q)
    → (n : ℕ) → n + 1 ∈ s.dropped
    → IsSomeAnd (slice_get s.read n) (λ f. Contradiction (collection_read (fs ++ f ∷ []) q))

-- where the facts as they are typed make none, none is dropped
abbrev pub SaneLosesNothing : Type 0
SaneLosesNothing = (input : List ℕ) (fs : List Frame) (q : Listed) → (s : IsAsking input fs q)
    → ¬ Contradiction (collection_read s.read q) → s.dropped ≡ []

-- lines m and n, counted from 0, type the same fact, whatever their deed numbers are
pub record SameFactTyped (fs : List Frame) (m n : ℕ) : Type 0 where
  pub fact : Fact
  pub first : IsSomeAnd (slice_get fs m) (λ f. fact_in f ≡ Some fact)
  pub second : IsSomeAnd (slice_get fs n) (λ f. fact_in f ≡ Some fact)

-- a fact that is typed again is kept where it was kept, and dropped where it was dropped
abbrev pub RepeatsAlike : Type 0
RepeatsAlike = (input : List ℕ) (fs : List Frame) (q : Listed) → (s : IsAsking input fs q)
    → (m n : ℕ) → SameFactTyped s.read m n → (m + 1 ∈ s.dropped) ↔ (n + 1 ∈ s.dropped)

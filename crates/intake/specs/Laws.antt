-- Laws of what an input is found to be.
use Rattle.std.specs.Prelude.{ℕ, ◌≤◌, ◌≡◌, ◌↔◌, List, [], take, ⊤}
use Rattle.streams.specs.Lines.{lines}
use Rattle.frames.specs.declared.Frame.{Frame}
use Rattle.expression.specs.Listed.{Listed}
use Rattle.reading.specs.File.{IsQuestionOf}
use Rattle.reading.specs.Salvage.{Decides}
use Rattle.reading.specs.Tables.{Entry}
use Rattle.reading.specs.Reading.{Verdict, faulty, sound, frames_of, Reading, Taken}
use Rattle.intake.specs.Verdicts.{collection_read, IsListing, Verdicts}

-- some lines are found to be one thing
abbrev pub VerdictOnce : Type 0
VerdictOnce = (ls : List (List ℕ)) (v w : Verdict) → Verdicts ls v → Verdicts ls w → v ≡ w

-- where lines without a fault ask a question
abbrev pub IsAsked : Verdict → Type 0
IsAsked (faulty before r) = ⊤
IsAsked (sound fs) = (q : Listed) × IsQuestionOf fs q

-- lines of which each is found to be something are found to be something
abbrev pub VerdictFound : Type 0
VerdictFound = (ls : List (List ℕ)) (v : Verdict) → Reading [] ls v → IsAsked v
    → (w : Verdict) × Verdicts ls w

-- the frames before a fault, and those that are sound, were taken one after the other
abbrev pub VerdictTaken : Type 0
VerdictTaken = (ls : List (List ℕ)) (v : Verdict) → Verdicts ls v → Taken (frames_of v)

-- the first 3,239,020 bytes of an input, or more of them, are found to be what the whole is
abbrev pub StartDecides : Type 0
StartDecides = (input : List ℕ) (n : ℕ) → 3239020 ≤ n → (v : Verdict)
    → Verdicts (lines (take n input)) v ↔ Verdicts (lines input) v

-- the frames over which a file is answered have the listing of those that are read
abbrev pub ListingOfKept : Type 0
ListingOfKept = (fs : List Frame) → Taken fs
    → (gs : List Frame) (q : Listed) (dropped : List ℕ) → Decides fs q dropped gs
    → (list : List Entry)
    → IsListing (collection_read gs q) list ↔ IsListing (collection_read fs q) list

-- Laws of the fair copy of an input (docs/RULES.md, sections 11 and 13).
use Rattle.std.specs.Prelude.{ℕ, ◌+◌, ◌*◌, ◌≤◌, ◌≡◌, ◌↔◌, false, List, ◌++◌, length, take}
use Rattle.sorted.specs.Same.{SameTables}
use Rattle.expression.specs.Listed.{Listed}
use Rattle.frames.specs.declared.Frame.{Frame}
use Rattle.frames.specs.declared.kind.Kind.TheVariants.{Declared, ConceptRule, RoleRule, ConceptFact, RoleFact, RoleStep, Final, Allowance}
use Rattle.frames.specs.Kinds.{frame_length}
use Rattle.reading.specs.declared.Refusal.{Refusal}
use Rattle.reading.specs.Tables.{concept_rules, concept_exclusions, role_rules, role_exclusions, concept_facts, role_facts, steps, finals, most, declared_by, allowance_given, salvages}
use Rattle.reading.specs.File.{IsQuestionOf, tables_of}
use Rattle.shell.specs.Writes.{IsSound, IsFaulty}
use Rattle.file.specs.Writes.{Writes}
use Rattle.fair_copy.specs.Copy.{IsReadAs, IsCopyOf, frames_text, WritesCopy}
use Rattle.fair_copy.specs.Asking.{asks_of}

-- frames that ask a question have one copy,
abbrev pub OneCopy : Type 0
OneCopy = (fs : List Frame) (q : Listed) (copy other : List Frame)
    → IsCopyOf fs q copy → IsCopyOf fs q other → copy ≡ other

-- and an input has one
abbrev pub CopyOnce : Type 0
CopyOnce = (input text out : List ℕ) → WritesCopy input text → WritesCopy input out → text ≡ out

-- the first 3,239,020 bytes of an input, or more of them, have the copy of the whole
abbrev pub StartCopied : Type 0
StartCopied = (input : List ℕ) (n : ℕ) → 3239020 ≤ n → (text : List ℕ)
    → WritesCopy (take n input) text ↔ WritesCopy input text

-- the characters of a line of so many bytes, with its end
abbrev pub characters_of : ℕ → ℕ
characters_of bytes = 2 * bytes + 1

-- those of the longest copy, 82,872: line 1, an allowance of four bytes, and the most records of
-- each table, facts with a deed number of two bytes
abbrev pub most_copy : ℕ
most_copy =
    characters_of (frame_length Declared) + characters_of (frame_length Allowance + 2)
    + (most concept_rules + most concept_exclusions) * characters_of (frame_length ConceptRule)
    + (most role_rules + most role_exclusions) * characters_of (frame_length RoleRule)
    + most concept_facts * characters_of (frame_length ConceptFact + 2)
    + most role_facts * characters_of (frame_length RoleFact + 2)
    + most steps * characters_of (frame_length RoleStep)
    + most finals * characters_of (frame_length Final)

-- no copy is longer
abbrev pub CopyFits : Type 0
CopyFits = (input text : List ℕ) → WritesCopy input text → length text ≤ most_copy

-- two files are the same collection: they have the same line 1, the same allowance or none, and in
-- each table the same records, a fact with its deed number
pub record SameCollection
    (fs : List Frame) (q : Listed) (gs : List Frame) (r : Listed) : Type 0 where
  pub declared : declared_by fs ≡ declared_by gs
  pub allowance : allowance_given fs ≡ allowance_given gs
  pub records : SameTables (tables_of fs q) (tables_of gs r)

-- the copy of a sound input is itself sound, chooses no salvage, and is the same collection
pub record ReadsAsCopy (fs : List Frame) (q : Listed) (out : List ℕ) : Type 0 where
  pub copy : List Frame
  pub fair : IsCopyOf fs q copy
  pub sound : IsSound out copy
  pub plain : salvages copy ≡ false
  pub question : Listed
  pub asks : IsQuestionOf copy question
  pub same : SameCollection fs q copy question

abbrev pub CopyIsRead : Type 0
CopyIsRead = (input out : List ℕ) → WritesCopy input out
    → (fs : List Frame) (q : Listed) → IsReadAs input fs q → ReadsAsCopy fs q out

-- its copy is the copy itself
abbrev pub CopyAgain : Type 0
CopyAgain = (input out : List ℕ) → WritesCopy input out
    → (fs : List Frame) → IsSound input fs → WritesCopy out out

-- two sound inputs have the same copy exactly when they are the same collection
abbrev pub SameCopy : Type 0
SameCopy = (input out other text : List ℕ) → WritesCopy input out → WritesCopy other text
    → (fs : List Frame) (q : Listed) → IsReadAs input fs q
    → (gs : List Frame) (r : Listed) → IsReadAs other gs r
    → (out ≡ text) ↔ SameCollection fs q gs r

-- of the copy, with the asks of the file behind it, the desk writes what it writes of the file, where
-- that chooses no salvage
abbrev pub CopyAnswers : Type 0
CopyAnswers = (input out : List ℕ) → WritesCopy input out
    → (fs : List Frame) → IsSound input fs → salvages fs ≡ false
    → (text : List ℕ) → Writes (out ++ frames_text (asks_of fs)) text ↔ Writes input text

-- of a faulty input the copyist writes what the desk writes
abbrev pub FaultyAlike : Type 0
FaultyAlike = (input : List ℕ) (before : List Frame) (r : Refusal) → IsFaulty input before r
    → (text : List ℕ) → WritesCopy input text ↔ Writes input text

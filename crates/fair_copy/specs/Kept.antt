-- What holds of the fair copy of an input, all together.
use Rattle.std.specs.Prelude.{ℕ, ◌≡◌, ◌↔◌, false, List, ◌++◌}
use Rattle.expression.specs.Listed.{Listed}
use Rattle.frames.specs.declared.Frame.{Frame}
use Rattle.reading.specs.declared.Refusal.{Refusal}
use Rattle.reading.specs.Tables.{salvages}
use Rattle.shell.specs.Writes.{IsSound, IsFaulty}
use Rattle.file.specs.Writes.{Writes}
use Rattle.fair_copy.specs.Asking.{asks_of}
use Rattle.fair_copy.specs.Copy.{IsReadAs, frames_text, WritesCopy}
use Rattle.fair_copy.specs.Laws.{SameCollection, ReadsAsCopy}

pub record IsFairCopy (input text : List ℕ) : Type 0 where
  pub written : WritesCopy input text
  -- of a faulty input the desk writes the same
  pub faulty : (before : List Frame) (r : Refusal) → IsFaulty input before r → Writes input text
  -- that of a sound input is sound and the same collection, and its copy is itself
  pub reads : (fs : List Frame) (q : Listed) → IsReadAs input fs q → ReadsAsCopy fs q text
  pub again : (fs : List Frame) → IsSound input fs → WritesCopy text text
  -- another sound input has the same copy exactly when it is the same collection
  pub same : (fs : List Frame) (q : Listed) → IsReadAs input fs q
      → (other out : List ℕ) → WritesCopy other out
      → (gs : List Frame) (r : Listed) → IsReadAs other gs r
      → (text ≡ out) ↔ SameCollection fs q gs r
  -- the desk answers it, with the asks of the input behind it, as it answers the input, where that
  -- chooses no salvage
  pub answered : (fs : List Frame) → IsSound input fs → salvages fs ≡ false → (answers : List ℕ)
      → Writes (text ++ frames_text (asks_of fs)) answers ↔ Writes input answers

-- What holds of what the lister writes of an input, all together.
use Rattle.std.specs.Prelude.{ℕ, ◌≡◌, ◌↔◌, false, List}
use Rattle.expression.specs.Listed.{Listed}
use Rattle.frames.specs.declared.Frame.{Frame}
use Rattle.reading.specs.declared.Refusal.{Refusal}
use Rattle.reading.specs.Tables.{salvages}
use Rattle.shell.specs.Writes.{IsSound, IsFaulty}
use Rattle.file.specs.Writes.{Writes}
use Rattle.fair_copy.specs.Copy.{IsReadAs, WritesCopy}
use Rattle.listing.specs.Lists.{WritesListing}
use Rattle.listing.specs.Laws.{ReadsAsListed, HasItsList, AnswersBetween}

pub record IsItsListing (input text : List ℕ) : Type 0 where
  pub written : WritesListing input text
  -- of a faulty input the desk writes the same
  pub faulty : (before : List Frame) (r : Refusal) → IsFaulty input before r → Writes input text
  -- that of a sound input is sound, has its copy, and is written again as it is
  pub reads : (fs : List Frame) (q : Listed) → IsReadAs input fs q → ReadsAsListed fs q text
  pub copied : (fs : List Frame) → IsSound input fs → (copy : List ℕ)
      → WritesCopy text copy ↔ WritesCopy input copy
  pub again : (fs : List Frame) → IsSound input fs → WritesListing text text
  -- the list of a sound input that has one, and is no contradiction, as its facts are typed, stands
  -- behind the copy
  pub its_list : (fs : List Frame) (q : Listed) → IsReadAs input fs q → HasItsList input fs q text
  -- the desk answers it, with the asks of the input between copy and list, as it answers the input,
  -- where that chooses no salvage
  pub answered : (fs : List Frame) → IsSound input fs → salvages fs ≡ false
      → AnswersBetween input fs text

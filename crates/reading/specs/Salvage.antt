-- Salvage of a file (docs/RULES.md, section 13): which lines are dropped, and over which frames it
-- is answered.
use Rattle.std.specs.Prelude.{ℕ, ◌≡◌, Bool, true, false, List, [], Option, None, Some, IsSome, All, map, length}
use Rattle.std.specs.List.{range_with_len}
use Rattle.meaning.specs.Lent.{collection}
use Rattle.salvage.specs.Facts.{Fact, of, between, IsSalvage}
use Rattle.salvage.specs.Salvages.{marked}
use Rattle.expression.specs.Listed.{Listed}
use Rattle.frames.specs.declared.Frame.{Frame}
use Rattle.frames.specs.declared.Frame.TheVariants.{ConceptFact, RoleFact}
use Rattle.reading.specs.Tables.{declared_by, salvages}
use Rattle.reading.specs.File.{tables_of}

-- the fact that a frame is, without its deed number, if it is one
abbrev pub fact_in : Frame → Option Fact
fact_in (ConceptFact A a n) = Some (of A a)
fact_in (RoleFact r a b n) = Some (between r a b)
fact_in f = None

-- the frames whose mark says so, and those beyond the marks
abbrev pub kept_frames : List Frame → List Bool → List Frame
kept_frames fs marks = marked true fs marks

-- the numbers, from 1, of the lines whose mark says that they are dropped
abbrev pub dropped_lines : List Frame → List Bool → List ℕ
dropped_lines fs marks = marked false (range_with_len 1 (length fs)) marks

-- nothing but facts is dropped
abbrev pub DropsFacts : List Frame → List Bool → Type 0
DropsFacts fs marks = All (λ f. IsSome (fact_in f)) (marked false fs marks)

-- what a file with this question drops, line by line, and the frames over which it is answered: all
-- of them, or where it chooses salvage those that are kept
pub data Decides (fs : List Frame) (q : Listed) : List ℕ → List Frame → Type 0 where
  plain : salvages fs ≡ false → Decides fs q [] fs
  sifted : (marks : List Bool) → salvages fs ≡ true
      → IsSalvage (collection (declared_by fs) (tables_of fs q)) (map fact_in fs) marks
      → Decides fs q (dropped_lines fs marks) (kept_frames fs marks)

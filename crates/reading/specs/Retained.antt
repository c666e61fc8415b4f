-- What is held without the facts that are dropped: what each of its lines types says which records
-- leave.
use Rattle.std.specs.Prelude.{◌≡◌, ◌-◌, Bool, true, false, List, length}
use Rattle.meaning.specs.Lent.{concept_fact_width, role_fact_width}
use Rattle.salvage.specs.Salvages.{marked}
use Rattle.salvage.specs.declared.Typed.TheVariants.{ConceptFact, RoleFact}
use Rattle.frames.specs.declared.Frame.{Frame}
use Rattle.reading.specs.declared.File.{File}
use Rattle.reading.specs.File.{file_of}
use Rattle.reading.specs.Reading.{Taken}
use Rattle.reading.specs.Records.{is_typed, marks_of, kept_records}
use Rattle.reading.specs.Salvage.{kept_frames, DropsFacts}

-- the facts of the lines that are dropped are held no more, nor are the lines
abbrev pub retained : File → List Bool → File
retained file marks = record file {
  concept_facts =
      kept_records concept_fact_width file.concept_facts
      (marks_of (is_typed ConceptFact) file.typed marks);
  role_facts =
      kept_records role_fact_width file.role_facts
      (marks_of (is_typed RoleFact) file.typed marks);
  lines = file.lines - length (marked false file.typed marks);
  typed = marked true file.typed marks;
}

-- where nothing but facts is dropped, what is held is that of the frames that are kept
pub record KeepsMarked (old : File) (marks : List Bool) (new : File) : Type 0 where
  pub by : (fs : List Frame) → Taken fs → old ≡ file_of fs → DropsFacts fs marks
      → new ≡ file_of (kept_frames fs marks)

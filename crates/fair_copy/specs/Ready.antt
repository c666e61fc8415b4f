-- What is held made ready for its fair copy.
use Rattle.reading.specs.declared.File.{File}
use Rattle.reading.specs.Tidy.{SpellsOut, TidiesTables}

-- its question is spelled out, and then its tables are put in order
pub record IsMadeReady (old new : File) : Type 0 where
  pub spelled : File
  pub spells : SpellsOut old spelled
  pub tidies : TidiesTables spelled new

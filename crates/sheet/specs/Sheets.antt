-- What a closing holds: the sheet of round n, and what one more round adds to it.
use Rattle.std.specs.Prelude.{◌≡◌, ◌↔◌, List, ℕ, ◌+◌, ◌*◌, ◌<◌, length}
use Rattle.kinds.specs.Kinds.{most_states}
use Rattle.theory.specs.Marks.{Added}
use Rattle.theory.specs.Sheet.{Mark}
use Rattle.sets.specs.declared.concepts.ConceptSet.{ConceptSet}
use Rattle.rules.specs.declared.rows.Rows.{Rows}
use Rattle.rules.specs.Rows.{most_concepts, pair, At, kind_of}
use Rattle.sheet.specs.declared.closing.Closing.{Closing}

-- rows hold a set of marks
pub record Holds (f : ℕ → ℕ → ℕ → Type 0) (rows : List ConceptSet) : Type 0 where
  pub long : length rows ≡ most_states * most_states
  pub at : (s t B : ℕ) → s < most_states → t < most_states → B < most_concepts
      → At rows (pair s t) B ↔ f s t B

-- the sheet after n rounds, and what round n + 1 adds
pub record IsRound (rows : Rows) (n : ℕ) (r : Closing) : Type 0 where
  pub sheet : Holds (Mark (kind_of rows) n) r.sheet.rows
  pub delta : Holds (Added (kind_of rows) n) r.delta.marks.rows

-- the number of a mark: concepts fastest, then the second state, then the first
abbrev pub place : ℕ → ℕ → ℕ → ℕ
place s t B = pair s t * most_concepts + B

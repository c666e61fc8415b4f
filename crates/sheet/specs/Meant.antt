-- What rounds leave, and what the sheet of rows says of a collection (docs/RULES.md, section 6).
use Rattle.std.specs.Prelude.{◌≡◌, ◌↔◌, ◌⊎◌, List, ℕ, suc, ◌*◌}
use Rattle.kinds.specs.Kinds.{most_states}
use Rattle.meaning.specs.Collection.{Collection}
use Rattle.theory.specs.Kind.{Kind}
use Rattle.meaning.specs.Layout.{Lays, zeros}
use Rattle.meaning.specs.Lite.{lite}
use Rattle.theory.specs.Sheet.{Markable, Mark}
use Rattle.theory.specs.Sheet as sheet
use Rattle.sets.specs.Rows.{ConceptRows}
use Rattle.sets.specs.declared.concepts.ConceptSet.{ConceptSet}
use Rattle.rules.specs.declared.rows.Rows.{Rows}
use Rattle.rules.specs.Rows.{kind_of}
use Rattle.sheet.specs.declared.allowed.Ran.{Ran}
use Rattle.sheet.specs.declared.closing.Closing.{Closing}
use Rattle.sheet.specs.declared.round_marks.RoundMarks.{RoundMarks}
use Rattle.sheet.specs.Areas.{LaysMarks}
use Rattle.sheet.specs.Ends.{Ended, rounds_made}
use Rattle.theory.specs.Marks.{Added, RoundCounts}
use Rattle.theory.specs.Listing.{MarksByRound}
use Rattle.meaning.specs.Listing.{numbered_lite}
use Rattle.sheet.specs.Sheets.{IsRound}
use Rattle.sheet.specs.Telling.{ToldUpTo}

-- ---- one outcome

-- rows of a sheet as their type has them
abbrev pub IsSheet : List ConceptSet → Type 0
IsSheet = ConceptRows (most_states * most_states)

-- a closing after n rounds
pub record HasRound (rows : Rows) (n : ℕ) (v : Closing) : Type 0 where
  pub round : IsRound rows n v
  pub sheet : IsSheet v.sheet.rows
  pub delta : IsSheet v.delta.marks.rows

-- the same marks in the sheet, and in the delta
pub record SameRound (v w : Closing) : Type 0 where
  pub sheet : v.sheet.rows ≡ w.sheet.rows
  pub delta : v.delta.marks.rows ≡ w.delta.marks.rows

-- what rounds answer, and what they leave in both areas
pub record Closes (rows : Rows) (allowance : ℕ) (r : Ran) (first second : List ℕ) : Type 0 where
  pub ended : Ended rows allowance r
  pub sheet : LaysMarks (Mark (kind_of rows) (rounds_made allowance r)) first
  pub cleared : second ≡ zeros

-- ---- any rules' kind

module _ (𝓚 : Kind) where
  open 𝓚 use {Concept, State, Edge, end, child, down, up}

  -- a mark by two marks that meet, or through a child, that uses a mark of g; where two marks meet
  -- the other is of f
  pub data Uses (f g : State → State → Concept → Type 0) (s t : State) (B : Concept) : Type 0
    where
      first : {u : State} → g s u B → f u t B → Uses f g s t B
      second : {u : State} → f s u B → g u t B → Uses f g s t B
      child_of : {R : Edge} {u v : State} → child B R → down R s u → g u v (end R) → up R v t
          → Uses f g s t B

  -- it is known of each mark whether n rounds make it
  abbrev pub IsKnown : ℕ → Type 0
  IsKnown n = (s t : State) (B : Concept) → Markable 𝓚 s t B → Dec (Mark 𝓚 n s t B)

  -- what the round after next adds uses a mark that the next round adds
  abbrev pub AddsByNew : ℕ → Type 0
  AddsByNew n =
      (s t : State) (B : Concept) → Mark 𝓚 (suc (suc n)) s t B
      → Mark 𝓚 (suc n) s t B ⊎ Uses (Mark 𝓚 (suc n)) (Added 𝓚 n) s t B

-- ---- rows that say what a collection says

module _ (𝓒 : Collection) (rows : Rows) where
  -- need the same rounds
  abbrev pub NeededMeans : Type 0
  NeededMeans = (n : ℕ) → sheet.Needed (kind_of rows) n ↔ sheet.Needed (lite 𝓒) n

  -- and an area that has their marks has the collection's sheet
  abbrev pub AreaMeans : Type 0
  AreaMeans =
      (n : ℕ) (area : List ℕ) → LaysMarks (Mark (kind_of rows) n) area
      → Lays (Mark (lite 𝓒) n) area

  -- and rounds add the same numbers of marks
  abbrev pub CountsMean : Type 0
  CountsMean =
      (n : ℕ) (counts : List ℕ) → RoundCounts (kind_of rows) n counts
      → RoundCounts (lite 𝓒) n counts

  -- and what is told of rounds has the collection's marks
  abbrev pub MarksMean : Type 0
  MarksMean =
      (n : ℕ) (rounds : List RoundMarks) → ToldUpTo rows n rounds
      → MarksByRound (numbered_lite 𝓒) n rounds

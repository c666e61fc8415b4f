-- What the rooms find of a collection that passed its tests, in the words of the rules.
use Rattle.std.specs.Prelude.{◌≡◌, ◌↔◌, List, [], ◌++◌, ℕ, ◌≤◌, ◌<◌, min}
use Rattle.kinds.specs.Kinds.{CountsFit}
use Rattle.meaning.specs.Collection.{Collection}
use Rattle.meaning.specs.Lent.{collection, ShapesOk, NumbersFit}
use Rattle.meaning.specs.Model.{Contradiction}
use Rattle.meaning.specs.Asks.{IsYes}
use Rattle.theory.specs.Listing.{MarksByRound}
use Rattle.theory.specs.Sheet.{Mark}
use Rattle.theory.specs.Sheet as sheet
use Rattle.meaning.specs.Lite.{lite}
use Rattle.meaning.specs.Listing.{numbered_lite}
use Rattle.meaning.specs.Layout.{area_length, Lays, zeros}
use Rattle.kinds.specs.declared.Ask.{Ask}
use Rattle.tables.specs.declared.collection.Collection as code
use Rattle.kinds.specs.Asks.{AskDeclared}
use Rattle.tables.specs.Lists.{lists}
use Rattle.edges.specs.declared.list.FactEdges.{FactEdges}
use Rattle.rules.specs.RowsOf.{LeadDown}
use Rattle.walk.specs.Asks.{Asked}
use Rattle.walk.specs.Covers.{Covers}
use Rattle.walk.specs.Meant.{SheetOf}
use Rattle.sets.specs.declared.concepts.ConceptSet.{ConceptSet}
use Rattle.sets.specs.declared.states.StateSet.{StateSet}
use Rattle.sheet.specs.declared.round_marks.RoundMarks.{RoundMarks}
use Rattle.index.specs.declared.lent.Lent.{Lent}
use Rattle.index.specs.declared.routes.Paths.{Paths}
use Rattle.index.specs.declared.work.Found.{Found}
use Rattle.index.specs.declared.work.Found.TheVariants as found

-- the collection that lent tables mean
abbrev pub meant : code.Collection → Collection
meant c = collection c.counts (lists c)

-- the tests 4, 5 and 6, but for the lengths of the areas
pub record Passes (c : code.Collection) : Type 0 where
  pub counts : CountsFit c.counts
  pub tables : ShapesOk (lists c)
  pub numbers : NumbersFit c.counts (lists c)

pub record HasAreas (long long' : ℕ) : Type 0 where
  pub area : long ≡ area_length
  pub spare : long' ≡ area_length

module _ (𝓒 : Collection) where
  abbrev pub Needs : ℕ → Type 0
  Needs = sheet.Needed (lite 𝓒)

  abbrev pub Holds : ℕ → List ℕ → Type 0
  Holds n = Lays (Mark (lite 𝓒) n)

  -- the marks that first stand in each of rounds 0 to n
  abbrev pub ByRound : ℕ → List RoundMarks → Type 0
  ByRound = MarksByRound (numbered_lite 𝓒)

-- the transitions lead where steps down do; the edges are those of the role facts, by each role that
-- leads anywhere
pub record AreFactEdges (c : code.Collection) (transitions : List (List StateSet)) (edges : FactEdges)
    : Type 0 where
  pub led : LeadDown (meant c) transitions
  pub facts : edges.facts.numbers.now ≡ (lists c).role-facts
  pub covers : Covers transitions edges.roles.0

-- the closed sheet, as rows hold it: that of the rounds needed
pub record IsClosedSheet (𝓒 : Collection) (rows : List ConceptSet) : Type 0 where
  pub rounds : ℕ
  pub needed : Needs 𝓒 rounds
  pub sheet : SheetOf 𝓒 rounds rows

-- strides lead from the first individual of an ask in the start state to what it asks for
abbrev pub StridesLead : Paths → Ask → Type 0
StridesLead r = Asked r.loops.now.rows r.transitions.now r.edges.facts.numbers.now r.question

-- so of each declared ask they tell whether it is yes
pub record AreRight (c : code.Collection) (r : Paths) : Type 0 where
  pub each : (ask : Ask) → AskDeclared c.counts ask → StridesLead r ask ↔ IsYes (meant c) ask

-- the rounds needed are n, more than are allowed
pub record NeedsMore (l : Lent) (n : ℕ) : Type 0 where
  pub sane : Contradiction (meant l.collection) → ⊥
  pub needed : Needs (meant l.collection) n
  pub more : l.allowance < n

-- the rounds needed are n, and allowed; walks may be made
pub record NeedsOnly (l : Lent) (n : ℕ) (r : Paths) : Type 0 where
  pub sane : Contradiction (meant l.collection) → ⊥
  pub needed : Needs (meant l.collection) n
  pub allowed : n ≤ l.allowance
  pub paths : AreRight l.collection r

-- what was found is so
abbrev pub IsFound : Lent → Found → Type 0
IsFound l found.Contradiction = Contradiction (meant l.collection)
IsFound l found.Spent = (n : ℕ) × NeedsMore l n
IsFound l (found.Needed n r) = NeedsOnly l n r

-- the first area after it: untouched, or the sheet
abbrev pub LeavesFirst : Lent → Found → List ℕ → List ℕ → Type 0
LeavesFirst l found.Contradiction area x = x ≡ area
LeavesFirst l found.Spent area x = Holds (meant l.collection) l.allowance x
LeavesFirst l (found.Needed n r) area x = Holds (meant l.collection) n x

-- the second: untouched, or zeros
abbrev pub LeavesSecond : Found → List ℕ → List ℕ → Type 0
LeavesSecond found.Contradiction spare y = y ≡ spare
LeavesSecond found.Spent spare y = y ≡ zeros
LeavesSecond (found.Needed n r) spare y = y ≡ zeros

-- the marks of the rounds that were made for it, round 0 among them
abbrev pub RoundsOf : Lent → Found → List RoundMarks → Type 0
RoundsOf l found.Contradiction rounds = rounds ≡ []
RoundsOf l found.Spent rounds = ByRound (meant l.collection) l.allowance rounds
RoundsOf l (found.Needed n r) rounds = ByRound (meant l.collection) n rounds

-- the marks of all rounds that are made, up to those needed or allowed, begin so
pub record BeginsRounds (l : Lent) (rounds : List RoundMarks) : Type 0 where
  pub sane : Contradiction (meant l.collection) → ⊥
  pub n : ℕ
  pub needed : Needs (meant l.collection) n
  pub rest : List RoundMarks
  pub all : ByRound (meant l.collection) (min n l.allowance) (rounds ++ rest)

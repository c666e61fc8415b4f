-- Laws of the list of a collection's closed sheet (docs/RULES.md, section 12): there is one, and
-- who has it has the sheet after every round, the rounds needed and every answer.
use Rattle.std.specs.Prelude.{◌≡◌, ◌↔◌, List, ℕ, ◌+◌, ◌*◌, ◌≤◌, length, count_by, nat_le}
use Rattle.kinds.specs.declared.State.{State}
use Rattle.kinds.specs.declared.Concept.{Concept}
use Rattle.kinds.specs.declared.Counts.{Counts}
use Rattle.kinds.specs.declared.Individual.{Individual}
use Rattle.kinds.specs.declared.Ask.{Ask}
use Rattle.kinds.specs.Asks.{AskDeclared}
use Rattle.kinds.specs.Kinds.{CountsFit, StateDeclared, IndividualDeclared}
use Rattle.laws.specs.Member.{◌∈◌}
use Rattle.theory.specs.Tree.{root}
use Rattle.theory.specs.Sheet.{Needed}
use Rattle.theory.specs.Listing.{MarksByRound, Listing, Lists, ListsUpTo, last_round}
use Rattle.theory.specs.LawsOfListing.{AreToldApart}
use Rattle.meaning.specs.Collection.{Collection, WellFormed}
use Rattle.meaning.specs.Model.{canonical}
use Rattle.meaning.specs.Question.{PathIn}
use Rattle.meaning.specs.Asks.{IsYes}
use Rattle.meaning.specs.Lite.{lite}
use Rattle.meaning.specs.Listing.{numbered_lite, ListWalk, IsYesBy}
use Rattle.meaning.specs.Layout.{place_count, Lays, Standing}
use Rattle.meaning.specs.Demands.{most_rounds}
use Rattle.meaning.specs.LawsOfSheet.{Marked, Valid}

-- the numbers tell declared states, and valid concepts, apart
abbrev pub CollectionToldApart : Type 0
CollectionToldApart = (𝓒 : Collection) → WellFormed 𝓒 → AreToldApart (numbered_lite 𝓒)

-- so there are lists of the marks that first stand in each round, and the list of the closed sheet
abbrev pub CollectionByRound : Type 0
CollectionByRound = (𝓒 : Collection) → WellFormed 𝓒 → (n : ℕ)
    → (rounds : List (List (State × State × Concept))) × MarksByRound (numbered_lite 𝓒) n rounds

abbrev pub CollectionListing : Type 0
CollectionListing = (𝓒 : Collection) → WellFormed 𝓒
    → (list : List (ℕ × State × State × Concept)) × Listing (numbered_lite 𝓒) list

module _ (𝓒 : Collection) (n : ℕ) where
  -- the mark of an entry is declared, and its round no later than the most that are needed
  pub record EntryFits (s t : State) (B : Concept) : Type 0 where
    pub valid : Valid 𝓒 s t B
    pub round : n ≤ most_rounds 𝓒.counts

abbrev pub EntriesFit : Type 0
EntriesFit = (𝓒 : Collection) → WellFormed 𝓒
    → (list : List (ℕ × State × State × Concept)) → Listing (numbered_lite 𝓒) list
    → (n : ℕ) (s t : State) (B : Concept) → (n, s, t, B) ∈ list → EntryFits 𝓒 n s t B

-- it has no more entries than there are concepts × states × states,
abbrev pub CollectionLength : Type 0
CollectionLength = (𝓒 : Collection) → WellFormed 𝓒
    → (list : List (ℕ × State × State × Concept)) → Listing (numbered_lite 𝓒) list
    → length list ≤ (𝓒.counts.names + 2 * 𝓒.counts.roles) * 𝓒.counts.states * 𝓒.counts.states

-- so at most 131,072
abbrev pub MostEntries : Type 0
MostEntries = (c : Counts) → CountsFit c
    → (c.names + 2 * c.roles) * c.states * c.states ≤ place_count

-- who has the list has the sheet after n rounds,
abbrev pub SheetFromList : Type 0
SheetFromList = (𝓒 : Collection) → WellFormed 𝓒
    → (list : List (ℕ × State × State × Concept)) → Listing (numbered_lite 𝓒) list
    → (n : ℕ) (s t : State) (B : Concept)
    → Marked 𝓒 n s t B ↔ ListsUpTo (numbered_lite 𝓒) list n s t B

-- and the closed sheet,
abbrev pub ClosedFromList : Type 0
ClosedFromList = (𝓒 : Collection) → WellFormed 𝓒
    → (list : List (ℕ × State × State × Concept)) → Listing (numbered_lite 𝓒) list
    → (n : ℕ) → Needed (lite 𝓒) n → (s t : State) (B : Concept)
    → Marked 𝓒 n s t B ↔ Lists (numbered_lite 𝓒) list s t B

-- the rounds needed,
abbrev pub RoundsFromList : Type 0
RoundsFromList = (𝓒 : Collection) → WellFormed 𝓒
    → (list : List (ℕ × State × State × Concept)) → Listing (numbered_lite 𝓒) list
    → (n : ℕ) → Needed (lite 𝓒) n ↔ (n ≡ last_round (numbered_lite 𝓒) list)

-- the area after n rounds, and how many marks stand in it,
abbrev pub AreaFromList : Type 0
AreaFromList = (𝓒 : Collection) → WellFormed 𝓒
    → (list : List (ℕ × State × State × Concept)) → Listing (numbered_lite 𝓒) list
    → (n : ℕ) (area : List ℕ)
    → Lays (Marked 𝓒 n) area ↔ Lays (ListsUpTo (numbered_lite 𝓒) list n) area

abbrev pub StandingFromList : Type 0
StandingFromList = (𝓒 : Collection) → WellFormed 𝓒
    → (list : List (ℕ × State × State × Concept)) → Listing (numbered_lite 𝓒) list
    → (n : ℕ) (area : List ℕ) → Lays (Marked 𝓒 n) area
    → Standing area (count_by (λ x. nat_le x.0 n) list)

-- where paths lead from individual to individual,
abbrev pub PathFromList : Type 0
PathFromList = (𝓒 : Collection) → WellFormed 𝓒
    → (list : List (ℕ × State × State × Concept)) → Listing (numbered_lite 𝓒) list
    → (a b : Individual) (s t : State)
    → IndividualDeclared 𝓒.counts a → StateDeclared 𝓒.counts s
    → PathIn 𝓒 (canonical 𝓒) (root a) s (root b) t ↔ ListWalk 𝓒 list a s b t

-- and each answer
abbrev pub AnswerFromList : Type 0
AnswerFromList = (𝓒 : Collection) → WellFormed 𝓒
    → (list : List (ℕ × State × State × Concept)) → Listing (numbered_lite 𝓒) list
    → (ask : Ask) → AskDeclared 𝓒.counts ask → IsYes 𝓒 ask ↔ IsYesBy 𝓒 list ask

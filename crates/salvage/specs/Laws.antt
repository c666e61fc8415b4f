-- Laws of the salvage of a collection's facts.
use Rattle.std.specs.Prelude.{◌≡◌, ◌↔◌, Bool, true, false, Option, None, Some, ℕ, List, [], ◌++◌, map, length, take, slice_get}
use Rattle.kinds.specs.declared.State.{State}
use Rattle.kinds.specs.declared.Concept.{Concept}
use Rattle.laws.specs.Member.{◌∈◌, Within}
use Rattle.theory.specs.Listing.{Listing}
use Rattle.meaning.specs.Collection.{Collection, WellFormed, NumbersDeclared, Each}
use Rattle.meaning.specs.Model.{Contradiction}
use Rattle.meaning.specs.Listing.{numbered_lite}
use Rattle.meaning.specs.LawsOfSheet.{Marked}
use Rattle.salvage.specs.declared.Typed.{Typed}
use Rattle.salvage.specs.Salvages.{◌◂◌, marked}
use Rattle.salvage.specs.Facts.{Fact, facts_among, FactDeclared, EntryDeclared, with_facts, Clashing, IsSalvage, salvaged, NamesAll, entries_of}
use Rattle.salvage.specs.Local.{Local}
use Rattle.salvage.specs.Tests.{Fails, Tested}

-- a row of declared entries of a well-formed collection, and its salvage
pub record Salvaging (𝓒 : Collection) (l : List (Option Fact)) (marks : List Bool) : Type 0 where
  pub formed : WellFormed 𝓒
  pub declared : Each l (EntryDeclared 𝓒.counts)
  pub salvage : IsSalvage 𝓒 l marks

-- there is one,
abbrev pub SalvageThere : Type 0
SalvageThere = (𝓒 : Collection) (l : List (Option Fact)) → WellFormed 𝓒
    → Each l (EntryDeclared 𝓒.counts) → (marks : List Bool) × IsSalvage 𝓒 l marks

-- and only one,
abbrev pub SalvageOnce : Type 0
SalvageOnce = (𝓒 : Collection) (l : List (Option Fact)) (marks others : List Bool)
    → IsSalvage 𝓒 l marks → IsSalvage 𝓒 l others → marks ≡ others

-- with a mark for each entry
abbrev pub MarksEach : Type 0
MarksEach = (𝓒 : Collection) (l : List (Option Fact)) (marks : List Bool) → IsSalvage 𝓒 l marks
    → length marks ≡ length l

-- an entry is kept exactly where it does not clash with those kept before it, and else dropped
abbrev pub KeptWhereSane : Type 0
KeptWhereSane = (𝓒 : Collection) (l : List (Option Fact)) (marks : List Bool)
    → IsSalvage 𝓒 l marks → (i : ℕ) (x : Option Fact) → slice_get l i ≡ Some x
    → (slice_get marks i ≡ Some true) ↔ ¬ Clashing 𝓒 (marked true (take i l) (take i marks) ◂ x)

abbrev pub DroppedWhereClashing : Type 0
DroppedWhereClashing = (𝓒 : Collection) (l : List (Option Fact)) (marks : List Bool)
    → IsSalvage 𝓒 l marks → (i : ℕ) (x : Option Fact) → slice_get l i ≡ Some x
    → (slice_get marks i ≡ Some false) ↔ Clashing 𝓒 (marked true (take i l) (take i marks) ◂ x)

-- what comes later changes no mark
abbrev pub LaterChangesNone : Type 0
LaterChangesNone = (𝓒 : Collection) (l m : List (Option Fact)) (marks : List Bool)
    → IsSalvage 𝓒 (l ++ m) marks → IsSalvage 𝓒 l (take (length l) marks)

-- the kept facts are declared, and make no contradiction
abbrev pub SalvagedFormed : Type 0
SalvagedFormed = (𝓒 : Collection) (l : List (Option Fact)) (marks : List Bool)
    → Salvaging 𝓒 l marks → WellFormed (salvaged 𝓒 l marks)

abbrev pub SalvagedSane : Type 0
SalvagedSane = (𝓒 : Collection) (l : List (Option Fact)) (marks : List Bool)
    → IsSalvage 𝓒 l marks → ¬ Contradiction (salvaged 𝓒 l marks)

-- any dropped fact, put back among all the kept ones, brings one
abbrev pub DroppedPutBack : Type 0
DroppedPutBack = (𝓒 : Collection) (l : List (Option Fact)) (marks : List Bool)
    → Salvaging 𝓒 l marks → (x : Fact) → Some x ∈ marked false l marks
    → Contradiction (with_facts 𝓒 (facts_among (marked true l marks) ◂ x))

-- and at any place, beside whatever other facts
abbrev pub KeptAreMost : Type 0
KeptAreMost = (𝓒 : Collection) (l : List (Option Fact)) (marks : List Bool)
    → Salvaging 𝓒 l marks → (x : Fact) → Some x ∈ marked false l marks
    → (m : List Fact) → Each m (FactDeclared 𝓒.counts)
    → Within (facts_among (marked true l marks)) m → x ∈ m
    → Contradiction (with_facts 𝓒 m)

-- where the facts make no contradiction, each is kept
abbrev pub SaneKept : Type 0
SaneKept = (𝓒 : Collection) (l : List (Option Fact)) (marks : List Bool) → Salvaging 𝓒 l marks
    → ¬ Clashing 𝓒 l → Each marks (λ kept. kept ≡ true)

abbrev pub SaneWhole : Type 0
SaneWhole = (𝓒 : Collection) (l : List (Option Fact)) (marks : List Bool) → Salvaging 𝓒 l marks
    → ¬ Clashing 𝓒 l → marked true l marks ≡ l

-- what is typed again is kept where it was kept, and dropped where it was dropped
abbrev pub EqualMarkedAlike : Type 0
EqualMarkedAlike = (𝓒 : Collection) (l : List (Option Fact)) (marks : List Bool)
    → Salvaging 𝓒 l marks → (i j : ℕ) → slice_get l i ≡ slice_get l j
    → slice_get marks i ≡ slice_get marks j

-- an entry that is no fact is kept
abbrev pub OthersKept : Type 0
OthersKept = (𝓒 : Collection) (l : List (Option Fact)) (marks : List Bool)
    → IsSalvage 𝓒 l marks → (i : ℕ) → slice_get l i ≡ Some None
    → slice_get marks i ≡ Some true

-- and where entries that are no facts stand at the end, their marks stand there
abbrev pub OthersAfter : Type 0
OthersAfter = (𝓒 : Collection) (l m : List (Option Fact)) (marks : List Bool)
    → Each m (λ x. x ≡ None) → IsSalvage 𝓒 l marks
    → IsSalvage 𝓒 (l ++ m) (marks ++ map (λ x. true) m)

-- without a fact there is no contradiction
abbrev pub NothingClashes : Type 0
NothingClashes = (𝓒 : Collection) → ¬ Contradiction (with_facts 𝓒 [])

-- facts do not change the sheet, after any round, nor its list
abbrev pub FactsChangeNoMark : Type 0
FactsChangeNoMark = (𝓒 : Collection) (l : List Fact) (n : ℕ) (s t : State) (B : Concept)
    → Marked (with_facts 𝓒 l) n s t B ↔ Marked 𝓒 n s t B

abbrev pub FactsChangeNoList : Type 0
FactsChangeNoList = (𝓒 : Collection) (l : List Fact) (list : List (ℕ × State × State × Concept))
    → Listing (numbered_lite (with_facts 𝓒 l)) list ↔ Listing (numbered_lite 𝓒) list

-- the entries of a well-formed collection by any order are declared, and one for each of the order;
abbrev pub EntriesDeclared : Type 0
EntriesDeclared = (𝓒 : Collection) (order : List Typed) → WellFormed 𝓒
    → Each (entries_of 𝓒 order) (EntryDeclared 𝓒.counts)

abbrev pub EntriesEach : Type 0
EntriesEach = (𝓒 : Collection) (order : List Typed)
    → length (entries_of 𝓒 order) ≡ length order

-- where it names all, they are the facts of the collection
abbrev pub AllNamed : Type 0
AllNamed = (𝓒 : Collection) (order : List Typed)
    → NamesAll order 𝓒.concept-facts 𝓒.role-facts
    → with_facts 𝓒 (facts_among (entries_of 𝓒 order)) ≡ 𝓒

-- so a collection without contradiction is its own salvage
abbrev pub SaneCollectionWhole : Type 0
SaneCollectionWhole = (𝓒 : Collection) (order : List Typed) (marks : List Bool)
    → NamesAll order 𝓒.concept-facts 𝓒.role-facts → Salvaging 𝓒 (entries_of 𝓒 order) marks
    → ¬ Contradiction 𝓒 → salvaged 𝓒 (entries_of 𝓒 order) marks ≡ 𝓒

-- a contradiction is local: found at one individual, or at one ordered pair of individuals
abbrev pub ContradictionLocal : Type 0
ContradictionLocal = (𝓒 : Collection) → NumbersDeclared 𝓒 → Contradiction 𝓒 ↔ Local 𝓒

-- to facts that make none, a fact brings one exactly where its test fails
abbrev pub TestSays : Type 0
TestSays = (𝓒 : Collection) (l : List Fact) (x : Fact) → WellFormed 𝓒
    → Each (l ◂ x) (FactDeclared 𝓒.counts) → ¬ Contradiction (with_facts 𝓒 l)
    → Contradiction (with_facts 𝓒 (l ◂ x)) ↔ Fails 𝓒 l x

-- so the tests, one entry after the other, make the salvage
abbrev pub TestsSalvage : Type 0
TestsSalvage = (𝓒 : Collection) (l : List (Option Fact)) (marks : List Bool) → WellFormed 𝓒
    → Each l (EntryDeclared 𝓒.counts) → Tested 𝓒 [] l marks ↔ IsSalvage 𝓒 l marks

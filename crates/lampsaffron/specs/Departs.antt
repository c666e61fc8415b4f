-- What the call that tells where a list departs from the sheet's gives (docs/RULES.md, sections 10
-- and 12).
use Rattle.std.specs.Prelude.{◌≡◌, ◌≢◌, ◌↔◌, List, ℕ, suc, ◌+◌, ◌*◌, ◌/◌, ◌<◌, [], ◌∷◌, ◌++◌, length, take, ⊤}
use Rattle.kinds.specs.declared.Counts.{Counts}
use Rattle.kinds.specs.Kinds.{state, number_of, concept_of, CountsFit, StateDeclared, ConceptDeclared}
use Rattle.laws.specs.Departs.{DepartsAt}
use Rattle.laws.specs.First.{FirstOf, ◌else◌}
use Rattle.theory.specs.Listing.{Listing}
use Rattle.meaning.specs.Lent.{Tables, Whole, field, records, collection, ShapesOk, NumbersFit}
use Rattle.meaning.specs.Listing.{numbered_lite}
use Rattle.meaning.specs.Model.{Contradiction}
use Rattle.lampsaffron.specs.Listing.{Entry, entry_width, most_entries, Left, TellsListing}

-- ---- a list of numbers, four to an entry

abbrev pub entry_count : List ℕ → ℕ
entry_count list = length list / entry_width

abbrev pub entry_at : List ℕ → ℕ → Entry
entry_at list k = (
  field entry_width list 0 k,
  state (field entry_width list 1 k),
  state (field entry_width list 2 k),
  concept_of (field entry_width list 3 k),
)

abbrev pub list_entries : List ℕ → List Entry
list_entries = records entry_width entry_at

-- both states and the concept of an entry are declared
pub record EntryDeclared (c : Counts) (e : Entry) : Type 0 where
  pub from : StateDeclared c e.1
  pub to : StateDeclared c e.2
  pub of : ConceptDeclared c e.3

pub record EntriesDeclared (c : Counts) (list : List ℕ) : Type 0 where
  pub each : (k : ℕ) → k < entry_count list → EntryDeclared c (entry_at list k)

-- ---- what is given

module _ (c : Counts) (t : Tables) (list : List ℕ) where
  -- the number of a list that passed all tests: 2 in a contradiction, 15 where it is not the list of
  -- the closed sheet, and else 0
  abbrev pub HeldNumber : ℕ → Type 0
  HeldNumber =
      FirstOf ((Contradiction (collection c t) → ⊥) else 2
      ∷ Listing (numbered_lite (collection c t)) (list_entries list) else 15 ∷ [])
      (λ number. number ≡ 0)

  -- and of any: that of the first test that fails, before it is held against the sheet
  abbrev pub DepartsNumber : ℕ → Type 0
  DepartsNumber =
      FirstOf (CountsFit c else 4
      ∷ Whole entry_width most_entries list else 5
      ∷ ShapesOk t else 5
      ∷ NumbersFit c t else 6
      ∷ EntriesDeclared c list else 6 ∷ [])
      HeldNumber

  -- the list departs there from that of the closed sheet
  abbrev pub DepartsFromSheet : ℕ → Type 0
  DepartsFromSheet entry =
      (other : List Entry) × Listing (numbered_lite (collection c t)) other
      × DepartsAt (list_entries list) other entry

  -- all that the call gives and leaves
  pub record TellsDeparture (old number new : ℕ) : Type 0 where
    pub number_is : DepartsNumber number
    pub departs : number ≡ 15 → DepartsFromSheet new
    pub kept : number ≢ 15 → new ≡ old

-- ---- a law

-- a list is accepted exactly where it is what the other call gives
abbrev pub AcceptedIsGiven : Type 0
AcceptedIsGiven =
    (c : Counts) (t : Tables) (old new : Left) → TellsListing c t old 0 new → (list : List ℕ)
    → DepartsNumber c t list 0 ↔ (list ≡ take (entry_width * new.entries) new.list)

-- ---- how it is held

-- entry k of a list is this
pub record HasEntry (list : List ℕ) (k : ℕ) (e : Entry) : Type 0 where
  pub within : k < entry_count list
  pub round : field entry_width list 0 k ≡ e.0
  pub from : field entry_width list 1 k ≡ e.1.0
  pub to : field entry_width list 2 k ≡ e.2.0
  pub of : field entry_width list 3 k ≡ number_of e.3

-- and those from k on are these
abbrev pub HasEntries : List ℕ → ℕ → List Entry → Type 0
HasEntries list k [] = ⊤
HasEntries list k (e ∷ es) = HasEntry list k e × HasEntries list (suc k) es

-- these entries were met, and then the entry is another
pub record Meets (list : List ℕ) (before : ℕ) (es : List Entry) (after : ℕ) : Type 0 where
  pub met : HasEntries list before es
  pub more : after ≡ before + length es

-- some of these were met, and the next was not
pub record Departs (list : List ℕ) (before : ℕ) (es : List Entry) (after : ℕ) : Type 0 where
  pub front : List Entry
  pub next : Entry
  pub rest : List Entry
  pub all : es ≡ front ++ next ∷ rest
  pub met : Meets list before front after
  pub other : HasEntry list after next → ⊥

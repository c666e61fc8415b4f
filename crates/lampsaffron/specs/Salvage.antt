-- What the call that tells which facts salvage keeps gives (docs/RULES.md, sections 10 and 13).
use Rattle.std.specs.Prelude.{◌≡◌, ◌≢◌, Bool, true, false, Option, List, ℕ, zero, suc, ◌+◌, ◌≤◌, [], ◌∷◌}
use Rattle.std.specs.Prelude.{nat_eq, All, length, map, take, drop}
use Rattle.kinds.specs.declared.Counts.{Counts}
use Rattle.kinds.specs.Kinds.{CountsFit}
use Rattle.laws.specs.First.{FirstOf, ◌else◌}
use Rattle.meaning.specs.Lent.{Tables, collection, most_concept_facts, most_role_facts, ShapesOk, NumbersFit}
use Rattle.salvage.specs.declared.Typed.{Typed}
use Rattle.salvage.specs.declared.Typed.TheVariants.{ConceptFact, RoleFact, Other}
use Rattle.salvage.specs.Facts.{Fact, NamesAll, IsSalvage, entries_of}

-- ---- an order and marks, as they are passed

-- a number of an order types a concept fact or a role fact
abbrev pub typed_of : ℕ → Typed
typed_of zero = ConceptFact
typed_of (suc zero) = RoleFact
typed_of (suc (suc n)) = Other

abbrev pub order_in : List ℕ → List Typed
order_in = map typed_of

-- a mark as a byte: 1 where the fact is kept, and 0 where it is dropped
abbrev pub mark_byte : Bool → ℕ
mark_byte true = 1
mark_byte false = 0

-- so many marks at the front of a row
abbrev pub marks_in : ℕ → List ℕ → List Bool
marks_in count row = map (nat_eq 1) (take count row)

-- an order of 0s and 1s, no more of them than a collection may have facts, and a row with a place for
-- each
pub record IsReadable (order : List ℕ) (places : ℕ) : Type 0 where
  pub numbers : All (λ number. number ≤ 1) order
  pub few : length order ≤ most_concept_facts + most_role_facts
  pub room : length order ≤ places

-- ---- what is given

module _ (c : Counts) (t : Tables) (order : List ℕ) where
  -- the facts of the collection in the order typed
  abbrev pub entries : List (Option Fact)
  entries = entries_of (collection c t) (order_in order)

  -- test 5: the tables are whole, the order is of 0s and 1s and types every fact, and the row has a
  -- place for each
  pub record OrderFits (places : ℕ) : Type 0 where
    pub tables : ShapesOk t
    pub numbers : All (λ number. number ≤ 1) order
    pub names : NamesAll (order_in order) (collection c t).concept-facts
        (collection c t).role-facts
    pub room : length order ≤ places

  -- the number given: of the first of these that fails
  abbrev pub SalvageNumber : ℕ → ℕ → Type 0
  SalvageNumber places =
      FirstOf (CountsFit c else 4
      ∷ OrderFits places else 5
      ∷ NumbersFit c t else 6 ∷ [])
      (λ number. number ≡ 0)

  -- the marks of the salvage stand at the front of a row
  abbrev pub marks_of : List ℕ → List Bool
  marks_of row = marks_in (length order) row

  pub record MarksKept (row : List ℕ) : Type 0 where
    pub marks : IsSalvage (collection c t) entries (marks_of row)
    pub bytes : All (λ byte. byte ≤ 1) (take (length order) row)

  -- all that the call gives and leaves
  pub record TellsSalvage (old : List ℕ) (number : ℕ) (new : List ℕ) : Type 0 where
    pub number_is : SalvageNumber (length old) number
    pub marked : number ≡ 0 → MarksKept new
    pub rest : drop (length order) new ≡ drop (length order) old
    pub kept : number ≢ 0 → new ≡ old

-- What the salvage of a lent collection gives (docs/RULES.md, sections 10 and 13).
use Rattle.std.specs.Prelude.{◌≡◌, Bool, true, false, ℕ, Option, Some, Result, List, length, slice_get, OnOk, OnErr}
use Rattle.kinds.specs.Kinds.{CountsFit}
use Rattle.laws.specs.Member.{◌∈◌}
use Rattle.meaning.specs.Collection.{Each}
use Rattle.meaning.specs.Model.{Contradiction}
use Rattle.meaning.specs.Lent.{Tables, ShapesOk, NumbersFit, collection}
use Rattle.meaning.specs.Deeds.{SameButDeeds}
use Rattle.salvage.specs.declared.Typed.{Typed}
use Rattle.salvage.specs.declared.Typed.TheVariants.{ConceptFact, RoleFact, Other}
use Rattle.salvage.specs.Salvages.{◌◂◌, marked}
use Rattle.salvage.specs.Facts.{Fact, facts_among, with_facts, IsSalvage, salvaged, is_concept_fact, is_role_fact, NamesAll, entries_of}
use Rattle.tables.specs.declared.collection.Collection as code
use Rattle.tables.specs.declared.collection.Refusal.{Refusal}
use Rattle.tables.specs.Lists.{lists}
use Rattle.tables.specs.Order.{AllPass, SecondFails, ThirdFails, InOrder}
use Rattle.sift.specs.Excludes.{meant}

-- the two are of one kind; of the kinds of facts these are the tests by which an order is counted
abbrev pub is_kind : Typed → Typed → Bool
is_kind ConceptFact t = is_concept_fact t
is_kind RoleFact t = is_role_fact t
is_kind Other ConceptFact = false
is_kind Other RoleFact = false
is_kind Other Other = true

module _ (c : code.Collection) (order : List Typed) where
  -- the order names each fact once, and there is a mark for each of its entries
  pub record OrderFits (marks : ℕ) : Type 0 where
    pub names : NamesAll order (meant c).concept-facts (meant c).role-facts
    pub long : length order ≡ marks

  -- the second test, of the tables, the order and the row of marks
  pub record TablesHold (marks : ℕ) : Type 0 where
    pub tables : ShapesOk (lists c)
    pub fits : OrderFits marks

  -- the tests 4, 5 and 6; the first that fails is of the tables, or of the numbers
  abbrev pub Passes : ℕ → Type 0
  Passes marks = AllPass (CountsFit c.counts) (TablesHold marks) (NumbersFit c.counts (lists c))

  abbrev pub StopsAtTables : ℕ → Type 0
  StopsAtTables marks = SecondFails (CountsFit c.counts) (TablesHold marks)

  abbrev pub StopsAtNumbers : ℕ → Type 0
  StopsAtNumbers marks =
      ThirdFails (CountsFit c.counts) (TablesHold marks) (NumbersFit c.counts (lists c))

  -- the entries that the order makes of the facts
  abbrev pub entries : List (Option Fact)
  entries = entries_of (meant c) order

  module _ (marks : List Bool) where
    -- the marks are their salvage
    abbrev pub Marks : Type 0
    Marks = IsSalvage (meant c) entries marks

    -- the kept facts make no contradiction
    abbrev pub AreSane : Type 0
    AreSane = ¬ Contradiction (salvaged (meant c) entries marks)

    -- any one dropped fact, put back among them, brings one
    abbrev pub ArePutBack : Type 0
    ArePutBack = (x : Fact) → Some x ∈ marked false entries marks
        → Contradiction (with_facts (meant c) (facts_among (marked true entries marks) ◂ x))

    -- what is typed again is marked as it was
    abbrev pub AreAlike : Type 0
    AreAlike = (i j : ℕ) → slice_get entries i ≡ slice_get entries j
        → slice_get marks i ≡ slice_get marks j

    -- they are the salvage of every collection that differs only in deed numbers
    abbrev pub MarksWhateverDeeds : Type 0
    MarksWhateverDeeds = (t : Tables) → SameButDeeds (lists c) t
        → IsSalvage (collection c.counts t) (entries_of (collection c.counts t) order) marks

-- where the facts make no contradiction all are kept
abbrev pub AreWhole : code.Collection → List Bool → Type 0
AreWhole c marks = ¬ Contradiction (meant c) → Each marks (λ kept. kept ≡ true)

-- the contract of `salvage`: what it gives, and the row of marks that it leaves
pub record Salvages (c : code.Collection) (order : List Typed) (old : List Bool)
    (r : Result (Unit {0}) Refusal) (new : List Bool) : Type 0 where
  pub tests : InOrder (CountsFit c.counts) (TablesHold c order (length old))
      (NumbersFit c.counts (lists c)) r
  pub salvage : OnOk r (Marks c order new)
  pub refused : OnErr r (new ≡ old)

-- two outcomes are equal
abbrev pub SalvagesOnce : code.Collection → List Typed → List Bool → Type 0
SalvagesOnce c order old = (r q : Result (Unit {0}) Refusal) (x y : List Bool)
    → Salvages c order old r x → Salvages c order old q y → (r ≡ q) × (x ≡ y)

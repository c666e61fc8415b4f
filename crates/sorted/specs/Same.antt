-- Two collections that are the same as sets: order and repeats mean nothing, and of facts the deed
-- numbers count.
use Rattle.std.specs.Prelude.{◌≡◌, ◌↔◌, ◌⊎◌, Bool, true, false, Result, Ok, Err}
use Rattle.kinds.specs.declared.Counts.{Counts}
use Rattle.kinds.specs.Kinds.{CountsFit}
use Rattle.meaning.specs.Lent.{Tables, ShapesOk, NumbersFit, rule_width, concept_fact_width, role_fact_width, step_width, final_width}
use Rattle.tables.specs.declared.collection.Collection.{Collection}
use Rattle.tables.specs.declared.collection.Refusal.{Refusal}
use Rattle.tables.specs.declared.collection.Refusal.TheVariants.{BadCount, BadTable, BadNumber}
use Rattle.tables.specs.Lists.{lists}
use Rattle.tables.specs.Order.{AllPass, SecondFails, ThirdFails}
use Rattle.sorted.specs.Rows.{SameRecords}

-- each table has the same records
pub record SameTables (t u : Tables) : Type 0 where
  pub concept-rules : SameRecords rule_width t.concept-rules u.concept-rules
  pub concept-exclusions : SameRecords rule_width t.concept-exclusions u.concept-exclusions
  pub role-rules : SameRecords rule_width t.role-rules u.role-rules
  pub role-exclusions : SameRecords rule_width t.role-exclusions u.role-exclusions
  pub concept-facts : SameRecords concept_fact_width t.concept-facts u.concept-facts
  pub role-facts : SameRecords role_fact_width t.role-facts u.role-facts
  pub steps : SameRecords step_width t.steps u.steps
  pub finals : SameRecords final_width t.finals u.finals

-- and the same counts are declared, the start state among them
pub record SameCollections (c : Counts) (t : Tables) (d : Counts) (u : Tables) : Type 0 where
  pub counts : c ≡ d
  pub tables : SameTables t u

module _ (c : Counts) (t : Tables) where
  -- the tests 4, 5 and 6 of a collection that no area is lent with
  abbrev pub Passes : Type 0
  Passes = AllPass (CountsFit c) (ShapesOk t) (NumbersFit c t)

  -- why it is refused: the first of them that fails
  abbrev pub IsRefusedFor : Refusal → Type 0
  IsRefusedFor BadCount = ¬ CountsFit c
  IsRefusedFor BadTable = SecondFails (CountsFit c) (ShapesOk t)
  IsRefusedFor BadNumber = ThirdFails (CountsFit c) (ShapesOk t) (NumbersFit c t)

module _ (c : Counts) (t : Tables) (d : Counts) (u : Tables) where
  -- the first of two is refused, or else the second
  abbrev pub RefusedFor : Refusal → Type 0
  RefusedFor why = IsRefusedFor c t why ⊎ (Passes c t × IsRefusedFor d u why)

  -- both pass, and are the same, or are not
  pub record PassAsSame : Type 0 where
    pub first : Passes c t
    pub second : Passes d u
    pub same : SameCollections c t d u

  pub record PassAsOthers : Type 0 where
    pub first : Passes c t
    pub second : Passes d u
    pub others : ¬ SameCollections c t d u

-- the contract of `have_same_records`
pub record Compares (one other : Collection) (r : Result Bool Refusal) : Type 0 where
  pub refused : (why : Refusal)
      → (r ≡ Err why) ↔ RefusedFor one.counts (lists one) other.counts (lists other) why
  pub same : (r ≡ Ok true) ↔ PassAsSame one.counts (lists one) other.counts (lists other)
  pub others : (r ≡ Ok false) ↔ PassAsOthers one.counts (lists one) other.counts (lists other)

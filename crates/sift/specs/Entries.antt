-- The entries that an order makes of two tables of facts, one after another.
use Rattle.std.specs.Prelude.{◌≡◌, ℕ, ◌-◌, ◌/◌, Option, None, Some, List, ◌∷◌, length, map}
use Rattle.kinds.specs.declared.ConceptName.{ConceptName}
use Rattle.kinds.specs.declared.RoleName.{RoleName}
use Rattle.kinds.specs.declared.Individual.{Individual}
use Rattle.laws.specs.Numbers.{upto}
use Rattle.meaning.specs.Lent.{concept_fact_width, role_fact_width, concept_fact, role_fact}
use Rattle.salvage.specs.declared.Typed.{Typed}
use Rattle.salvage.specs.Facts.{Fact, of, between, entries_by}
use Rattle.sift.specs.declared.entries.TypedFact.{TypedFact}
use Rattle.sift.specs.declared.entries.TypedFact.TheVariants.{Concept, Role}
use Rattle.sift.specs.declared.entries.FactsLeft.{FactsLeft}

-- a fact that was read, as an entry
abbrev pub fact_of : TypedFact → Fact
fact_of (Concept f) = of f.name f.individual
fact_of (Role f) = between f.role f.first f.second

abbrev pub entry_of : Option TypedFact → Option Fact
entry_of None = None
entry_of (Some f) = Some (fact_of f)

-- the records of a table from record k on
abbrev pub records_from : {A : Type 0} → ℕ → (List ℕ → ℕ → A) → List ℕ → ℕ → List A
records_from width read t k = map (read t) (upto (length t / width - k) k)

-- the facts of each kind that are left
abbrev pub concepts_left : FactsLeft → List (ConceptName × Individual)
concepts_left f =
    records_from concept_fact_width concept_fact f.concepts.table.numbers.now f.concepts.next

abbrev pub roles_left : FactsLeft → List (RoleName × Individual × Individual)
roles_left f = records_from role_fact_width role_fact f.roles.table.numbers.now f.roles.next

-- of the facts that are left an order that begins so makes this entry, and goes on with the others
pub record GivesEntry (typed : Typed) (old : FactsLeft) (entry : Option TypedFact) (new : FactsLeft)
    : Type 0 where
  pub goes : (order : List Typed) → entries_by (typed ∷ order) (concepts_left old) (roles_left old)
      ≡ entry_of entry ∷ entries_by order (concepts_left new) (roles_left new)

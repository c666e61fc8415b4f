-- One fact against what those that are kept type, as rows of sets.
use Rattle.std.specs.Prelude.{◌≡◌, ◌⊎◌, ◌↔◌, Bool, true, false, ℕ, ◌<◌, List, nat_le, if◌then◌else◌, Option, None, Some, slice_get, slice_index_or}
use Rattle.std.specs.List.{Contains}
use Rattle.kinds.specs.declared.Individual.{Individual}
use Rattle.kinds.specs.declared.RoleName.{RoleName}
use Rattle.kinds.specs.declared.SignedRole.{SignedRole}
use Rattle.kinds.specs.declared.Concept.{Concept}
use Rattle.kinds.specs.declared.Concept.TheVariants.{Name, Exists}
use Rattle.kinds.specs.Kinds.{most_names, most_individuals, number_of, forward, backward}
use Rattle.sets.specs.Bits.{Has, Meets}
use Rattle.sets.specs.Rows.{no_roles}
use Rattle.sets.specs.Relations.{concepts_at}
use Rattle.sets.specs.declared.concepts.ConceptSet.{ConceptSet}
use Rattle.sets.specs.declared.roles.RoleSet.{RoleSet}
use Rattle.orders.specs.Marks.{Pair}
use Rattle.laws.specs.Gains.{Either}
use Rattle.tables.specs.declared.records.ConceptFact.{ConceptFact}
use Rattle.tables.specs.declared.records.RoleFact.{RoleFact}
use Rattle.sift.specs.declared.excluded.Excluded.{Excluded}
use Rattle.sift.specs.declared.steps.HeldRows.{HeldRows}
use Rattle.sift.specs.declared.entries.TypedFact.{TypedFact}
use Rattle.sift.specs.declared.entries.TypedFact.TheVariants as typed
use Rattle.sift.specs.Pairs.{pair_number, HasRows}

-- set k of a list, as a number
abbrev pub roles_at : List RoleSet → ℕ → ℕ
roles_at sets k = (slice_index_or sets k no_roles).0

-- the new rows have what the old ones have, and the members of E
pub record Puts (old : ℕ → ℕ) (E : ℕ → ℕ → Type 0) (new : ℕ → ℕ) : Type 0 where
  pub at : (i j : ℕ) → Has (new i) j ↔ (Has (old i) j ⊎ E i j)

-- the numbers of a concept fact have rows
pub record HasConceptRows (f : ConceptFact) : Type 0 where
  pub name : f.name.0 < most_names
  pub individual : f.individual.0 < most_individuals

-- the role by which a fact leads from the lesser of its ends to the greater
abbrev pub toward : RoleFact → SignedRole
toward f = if nat_le f.first.0 f.second.0 then forward f.role else backward f.role

-- nobody may have the concept, or the individual has one apart from it
abbrev pub ConceptClashes : Excluded → List ConceptSet → Individual → Concept → Type 0
ConceptClashes x held a C =
    Has x.barred.0 (number_of C) ⊎ Meets (concepts_at x.apart (number_of C)) (concepts_at held a.0)

-- no individual may have both ends of the role, or be joined to itself by it
abbrev pub RingClashes : Excluded → RoleName → Type 0
RingClashes x r =
    Has (concepts_at x.apart (number_of (Exists (forward r)))) (number_of (Exists (backward r)))
    ⊎ Has (roles_at x.conflicts (forward r).0) (backward r).0

abbrev pub LoopClashes : Excluded → RoleFact → Type 0
LoopClashes x f = (f.first ≡ f.second) × RingClashes x f.role

-- a role fact clashes at one of its ends
abbrev pub EndsClash : Excluded → HeldRows → RoleFact → Type 0
EndsClash x held f =
    ConceptClashes x held.concepts f.first (Exists (forward f.role))
    ⊎ ConceptClashes x held.concepts f.second (Exists (backward f.role))

-- or at its pair, or where its ends are equal at itself
abbrev pub PairClashes : Excluded → HeldRows → RoleFact → ℕ → Type 0
PairClashes x held f p =
    Meets (roles_at x.conflicts (toward f).0) (roles_at held.roles p) ⊎ LoopClashes x f

abbrev pub RoleClashes : Excluded → HeldRows → RoleFact → ℕ → Type 0
RoleClashes x held f p = EndsClash x held f ⊎ PairClashes x held f p

-- what a role fact types of its two ends, and of its pair at the place p
abbrev pub Ends : RoleFact → ℕ → ℕ → Type 0
Ends f = Either (Pair f.first.0 (number_of (Exists (forward f.role))))
    (Pair f.second.0 (number_of (Exists (backward f.role))))

abbrev pub Back : RoleFact → ℕ → ℕ → ℕ → Type 0
Back f p i j = (f.first ≡ f.second) × Pair p (backward f.role).0 i j

abbrev pub Joins : RoleFact → ℕ → ℕ → ℕ → Type 0
Joins f p = Either (Pair p (toward f).0) (Back f p)

-- a fact is dropped where it clashes, and then the rows stay, and else kept: its mark, and the rows
-- behind it
pub data Stepped (Clashes : Type 0) (old : HeldRows) (Kept : HeldRows → Type 0)
    : Bool → HeldRows → Type 0 where
  dropped : Clashes → Stepped Clashes old Kept false old
  kept : {new : HeldRows} → ¬ Clashes → Kept new → Stepped Clashes old Kept true new

-- the rows have what a fact of either kind types
pub record PutsConcept (old : HeldRows) (f : ConceptFact) (new : HeldRows) : Type 0 where
  pub concepts : Puts (concepts_at old.concepts) (Pair f.individual.0 (number_of (Name f.name)))
      (concepts_at new.concepts)
  pub roles : new.roles ≡ old.roles

pub record PutsRole (old : HeldRows) (f : RoleFact) (p : ℕ) (new : HeldRows) : Type 0 where
  pub concepts : Puts (concepts_at old.concepts) (Ends f) (concepts_at new.concepts)
  pub roles : Puts (roles_at old.roles) (Joins f p) (roles_at new.roles)

abbrev pub ConceptStepped : Excluded → HeldRows → ConceptFact → Bool → HeldRows → Type 0
ConceptStepped x old f =
    Stepped (ConceptClashes x old.concepts f.individual (Name f.name)) old (PutsConcept old f)

abbrev pub RoleStepped : Excluded → HeldRows → RoleFact → ℕ → Bool → HeldRows → Type 0
RoleStepped x old f p = Stepped (RoleClashes x old f p) old (PutsRole old f p)

-- a role fact whose pair has a place
pub record JoinedStepped (x : Excluded) (pairs : List ℕ) (old : HeldRows) (f : RoleFact) (b : Bool)
    (new : HeldRows) : Type 0 where
  pub place : ℕ
  pub found : slice_get pairs place ≡ Some (pair_number f.first.0 f.second.0)
  pub stepped : RoleStepped x old f place b new

-- an entry: one that is no fact is kept, and changes nothing
abbrev pub EntryStepped : Excluded → List ℕ → HeldRows → Option TypedFact → Bool → HeldRows → Type 0
EntryStepped x pairs old None b new = (b ≡ true) × (new ≡ old)
EntryStepped x pairs old (Some (typed.Concept f)) b new = ConceptStepped x old f b new
EntryStepped x pairs old (Some (typed.Role f)) b new = JoinedStepped x pairs old f b new

-- the numbers of an entry have rows, and its pair has a place
pub record JoinedHasRows (pairs : List ℕ) (f : RoleFact) : Type 0 where
  pub rows : HasRows f
  pub has : Contains pairs (pair_number f.first.0 f.second.0)

abbrev pub EntryHasRows : List ℕ → Option TypedFact → Type 0
EntryHasRows pairs None = Unit {0}
EntryHasRows pairs (Some (typed.Concept f)) = HasConceptRows f
EntryHasRows pairs (Some (typed.Role f)) = JoinedHasRows pairs f

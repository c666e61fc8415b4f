-- What loops are made of: those that individuals share, and those that each concept gives besides.
use Rattle.std.specs.Prelude.{ℕ, List, ◌≡◌, ◌↔◌, ◌⊎◌, ◌*◌, ◌/◌, ◌%◌, ◌^◌, ◌<◌, length, replicate}
use Rattle.kinds.specs.Kinds.{most_individuals, most_states}
use Rattle.laws.specs.Loops.{Witness}
use Rattle.sets.specs.Bits.{Has, IsEmpty, IsUnion, concept_width}
use Rattle.sets.specs.Rows.{no_states}
use Rattle.sets.specs.Relations.{states_at, concepts_at, relation_at, Relates}
use Rattle.sets.specs.declared.states.StateSet.{StateSet}
use Rattle.sets.specs.declared.concepts.ConceptSet.{ConceptSet}
use Rattle.walk.specs.declared.loops.ByConcept.{ByConcept}

-- m has no number that n has not
abbrev pub Within : ℕ → ℕ → Type 0
Within m n = (k : ℕ) → Has m k → Has n k

-- each individual that has a concept has all of m
abbrev pub AreShared : List ConceptSet → ℕ → Type 0
AreShared individuals m =
    (a : ℕ) → a < most_individuals → (IsEmpty (concepts_at individuals a) → ⊥)
    → Within m (concepts_at individuals a)

-- the sheet marks pair q at B, and the shared relation does not relate it
pub record IsLeft (sheet : List ConceptSet) (shared : List StateSet) (q B : ℕ) : Type 0 where
  pub marked : Has (concepts_at sheet q) B
  pub free : Relates shared (q / most_states) (q % most_states) → ⊥

-- a relation for each concept
pub record AreRelations (rows : List (List StateSet)) : Type 0 where
  pub long : length rows ≡ concept_width
  pub each : (B : ℕ) → B < concept_width → length (relation_at rows B) ≡ most_states

-- the concepts of D relate s to t, too
pub record Puts (D : ℕ → Type 0) (s t : ℕ) (old new : List (List StateSet)) : Type 0 where
  pub at : (B u v : ℕ) → Relates (relation_at new B) u v
      ↔ (Relates (relation_at old B) u v ⊎ (D B × (u ≡ s) × (v ≡ t)))

-- one of the first n pairs, which is left at B, is that of s and t
abbrev pub FromLeft : List ConceptSet → List StateSet → ℕ → ℕ → ℕ → ℕ → Type 0
FromLeft sheet shared n B s t =
    Witness (λ q. q < n)
    (λ q. IsLeft sheet shared q B × (s ≡ q / most_states) × (t ≡ q % most_states))

-- no concept relates anything
pub record GivesNone (by : ByConcept) : Type 0 where
  pub rows : by.rows ≡ replicate concept_width (replicate most_states no_states)
  pub useful : by.useful.0 ≡ 0

-- B relates s to t where the pair is left at it, and is then among the useful concepts
pub record AreByConcept (sheet : List ConceptSet) (shared : List StateSet) (by : ByConcept) : Type 0
  where
    pub at : (B s t : ℕ) → Relates (relation_at by.rows B) s t
        ↔ FromLeft sheet shared (most_states * most_states) B s t
    pub useful : (q B : ℕ) → q < most_states * most_states → IsLeft sheet shared q B
        → Has by.useful.0 B

-- new has the pairs of old and those of more
pub record Joined (old more new : List StateSet) : Type 0 where
  pub long : length new ≡ most_states
  pub at : (s : ℕ) → s < most_states
      → IsUnion (states_at old s) (states_at more s) (states_at new s)

-- a row has what is shared, and what the concepts of D give
pub record Gives (D : ℕ → Type 0) (shared : List StateSet) (by : ByConcept) (row : List StateSet)
    : Type 0 where
  pub long : length row ≡ most_states
  pub at : (s t : ℕ) → s < most_states → Relates row s t
      ↔ (Relates shared s t ⊎ Witness D (λ B. Relates (relation_at by.rows B) s t))

-- the row of an individual that has the concepts: none, or what its useful ones give
abbrev pub IsRowOf : List StateSet → ByConcept → ℕ → List StateSet → Type 0
IsRowOf shared by concepts row =
    (IsEmpty concepts × (row ≡ replicate most_states no_states))
    ⊎ ((IsEmpty concepts → ⊥) × (concepts < 2 ^ concept_width)
    × Gives (λ B. Has concepts B × Has by.useful.0 B) shared by row)

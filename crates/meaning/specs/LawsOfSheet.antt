-- Laws of a collection's loop sheet, and of the area that holds it.
use Rattle.std.specs.Prelude.{◌≡◌, ◌↔◌, List, ℕ, suc, ◌+◌, ◌*◌, ◌≤◌, length}
use Rattle.kinds.specs.declared.ConceptName.{ConceptName}
use Rattle.kinds.specs.declared.State.{State}
use Rattle.kinds.specs.declared.SignedRole.{SignedRole}
use Rattle.kinds.specs.declared.Concept.{Concept}
use Rattle.kinds.specs.declared.Concept.TheVariants.{Name, Exists}
use Rattle.kinds.specs.declared.Counts.{Counts}
use Rattle.kinds.specs.Kinds.{inverse, CountsFit, StateDeclared, ConceptDeclared}
use Rattle.meaning.specs.Collection.{Collection, RoleStep, TestStep, WellFormed}
use Rattle.meaning.specs.Orders.{RoleLe, ConceptLe}
use Rattle.theory.specs.Tree.{root}
use Rattle.meaning.specs.Model.{tree_of}
use Rattle.meaning.specs.Question.{PathIn}
use Rattle.theory.specs.Sheet.{Mark, Needed}
use Rattle.meaning.specs.Lite.{valid_concepts, lite}
use Rattle.meaning.specs.Layout.{place, bit_in, Lays}
use Rattle.meaning.specs.Demands.{most_rounds}

-- the sheet of a collection after n rounds
abbrev pub Marked : Collection → ℕ → State → State → Concept → Type 0
Marked 𝓒 = Mark (lite 𝓒)

-- declared states and a valid concept
pub record Valid (𝓒 : Collection) (s t : State) (B : Concept) : Type 0 where
  pub from : StateDeclared 𝓒.counts s
  pub to : StateDeclared 𝓒.counts t
  pub of : ConceptDeclared 𝓒.counts B

-- only declared states and valid concepts are marked
abbrev pub OnlyValidMarked : Type 0
OnlyValidMarked = (𝓒 : Collection) (n : ℕ) (s t : State) (B : Concept) → Marked 𝓒 n s t B
    → Valid 𝓒 s t B

-- round 0 has (s, s, B) for every state and concept, and no other mark
abbrev pub RoundZero : Type 0
RoundZero = (𝓒 : Collection) (s t : State) (B : Concept) → Valid 𝓒 s t B
    → Marked 𝓒 0 s t B ↔ (s ≡ t)

-- each further round keeps all marks of the round before,
abbrev pub RoundKeeps : Type 0
RoundKeeps = (𝓒 : Collection) (n : ℕ) (s t : State) (B : Concept) → Marked 𝓒 n s t B
    → Marked 𝓒 (suc n) s t B

-- 1. there is a test step from s to t on A, and B ≤ A
abbrev pub ByTest : Collection → State → State → Concept → Type 0
ByTest 𝓒 s t B = (A : ConceptName) × TestStep 𝓒 s A t × ConceptLe 𝓒 B (Name A)

-- 2. (s, t, B) and (t, u, B) stand
abbrev pub ByMeeting : Collection → ℕ → State → State → Concept → Type 0
ByMeeting 𝓒 n s u B = (t : State) × Marked 𝓒 n s t B × Marked 𝓒 n t u B

-- 3. B ≤ ∃R, a role step S leads s to t with R ≤ S, (t, u, ∃(inverse of R)) stands, and a role step
-- to v from u carries the inverse of some T with R ≤ T
pub record ByChild (𝓒 : Collection) (n : ℕ) (s v : State) (B : Concept) : Type 0 where
  pub R : SignedRole
  pub S : SignedRole
  pub T : SignedRole
  pub t : State
  pub u : State
  pub child : ConceptLe 𝓒 B (Exists R)
  pub down : RoleStep 𝓒 s S t
  pub along-down : RoleLe 𝓒 R S
  pub loop : Marked 𝓒 n t u (Exists (inverse R))
  pub up : RoleStep 𝓒 u (inverse T) v
  pub along-up : RoleLe 𝓒 R T

-- it adds a mark by each of the three,
abbrev pub RoundTests : Type 0
RoundTests = (𝓒 : Collection) (n : ℕ) (s t : State) (B : Concept) → Valid 𝓒 s t B
    → ByTest 𝓒 s t B → Marked 𝓒 (suc n) s t B

abbrev pub RoundMeets : Type 0
RoundMeets = (𝓒 : Collection) (n : ℕ) (s u : State) (B : Concept) → Valid 𝓒 s u B
    → ByMeeting 𝓒 n s u B → Marked 𝓒 (suc n) s u B

abbrev pub RoundHangs : Type 0
RoundHangs = (𝓒 : Collection) (n : ℕ) (s v : State) (B : Concept) → Valid 𝓒 s v B
    → ByChild 𝓒 n s v B → Marked 𝓒 (suc n) s v B

-- where a mark of the next round comes from
pub data Before (𝓒 : Collection) (n : ℕ) (s t : State) (B : Concept) : Type 0 where
  stood : Marked 𝓒 n s t B → Before 𝓒 n s t B
  by-test : ByTest 𝓒 s t B → Before 𝓒 n s t B
  by-meeting : ByMeeting 𝓒 n s t B → Before 𝓒 n s t B
  by-child : ByChild 𝓒 n s t B → Before 𝓒 n s t B

-- and no other: it reads only the sheet of the round before
abbrev pub RoundAdds : Type 0
RoundAdds = (𝓒 : Collection) (n : ℕ) (s t : State) (B : Concept) → Marked 𝓒 (suc n) s t B
    → Before 𝓒 n s t B

-- in the closed sheet a mark says that in the tree grown from one element whose only concept is B,
-- and what follows from B, a path leads from that element in state s back to it in state t
abbrev pub MarkMeans : Type 0
MarkMeans = (𝓒 : Collection) → WellFormed 𝓒 → (n : ℕ) → Needed (lite 𝓒) n
    → (s t : State) (B : Concept) → StateDeclared 𝓒.counts s → ConceptDeclared 𝓒.counts B
    → Marked 𝓒 n s t B ↔ PathIn 𝓒 (tree_of 𝓒 B) (root tt) s (root tt) t

-- rounds needed there are, and never more than concepts × states × (states − 1),
abbrev pub RoundsSuffice : Type 0
RoundsSuffice = (𝓒 : Collection) → WellFormed 𝓒
    → (n : ℕ) × (n ≤ most_rounds 𝓒.counts) × Needed (lite 𝓒) n

abbrev pub RoundsAtMost : Type 0
RoundsAtMost = (𝓒 : Collection) → WellFormed 𝓒 → (n : ℕ) → Needed (lite 𝓒) n
    → n ≤ most_rounds 𝓒.counts

-- so at most 126,976
abbrev pub MostRounds : Type 0
MostRounds = (c : Counts) → CountsFit c → most_rounds c ≤ 126976

-- "concepts", as a count, means names + 2 × roles
abbrev pub ConceptsCounted : Type 0
ConceptsCounted = (c : Counts) → length (valid_concepts c) ≡ c.names + 2 * c.roles

-- at the place of a mark, s × 4,096 + t × 128 + B, an area that holds the sheet has 1, and where
-- there is none 0
abbrev pub MarkIsOne : Type 0
MarkIsOne = (𝓒 : Collection) → WellFormed 𝓒 → (n : ℕ) (area : List ℕ) → Lays (Marked 𝓒 n) area
    → (s t : State) (B : Concept) → Valid 𝓒 s t B
    → (bit_in area (place s t B) ≡ 1) ↔ Marked 𝓒 n s t B

-- there is such an area, and only one
abbrev pub AreaThere : Type 0
AreaThere = (𝓒 : Collection) → WellFormed 𝓒 → (n : ℕ)
    → (area : List ℕ) × Lays (Marked 𝓒 n) area

abbrev pub AreaOnce : Type 0
AreaOnce = (𝓒 : Collection) (n : ℕ) (x y : List ℕ) → Lays (Marked 𝓒 n) x → Lays (Marked 𝓒 n) y
    → x ≡ y

-- From where the way leads on below an element, by the tables that are lent. Concepts, signed roles
-- and states are numbers here.
use Rattle.std.specs.Prelude.{ℕ, List, [], ◌≡◌, ◌↔◌, ◌⊎◌, ◌+◌, ◌^◌, ◌<◌, length}
use Rattle.kinds.specs.Kinds.{most_states, base, flip}
use Rattle.theory.specs.Kind.{Kind}
use Rattle.theory.specs.Onward as meaning
use Rattle.sets.specs.Bits.{Has, concept_width, role_width}
use Rattle.sets.specs.declared.states.StateSet.{StateSet}
use Rattle.sets.specs.declared.concepts.ConceptSet.{ConceptSet}
use Rattle.walk.specs.declared.coreachable.PathsBelow.{PathsBelow}
use Rattle.laws.specs.Loops.{Witness}
use Rattle.sets.specs.Relations.{concepts_at, relation_at, Relates, pair}

-- B has a child by R; the transitions of R lead from s to t; the sheet marks (s, t, B)
pub record Child (below : List ConceptSet) (B R : ℕ) : Type 0 where
  pub role : R < role_width
  pub has : Has (concepts_at below (base + R)) B

pub record Down (transitions : List (List StateSet)) (R s t : ℕ) : Type 0 where
  pub from : s < most_states
  pub to : t < most_states
  pub leads : Relates (relation_at transitions R) s t

pub record Marked (sheet : List ConceptSet) (s t B : ℕ) : Type 0 where
  pub from : s < most_states
  pub to : t < most_states
  pub has : Has (concepts_at sheet (pair s t)) B

-- a rules' kind whose edges are signed roles. Tests and steps up are in the sheet
abbrev pub grown_by : List ConceptSet → List (List StateSet) → Kind
grown_by below transitions = record {
  Concept = ℕ;
  State = ℕ;
  Edge = ℕ;
  concepts = [];
  states = [];
  end = λ R. base + flip R;
  child = Child below;
  test = λ B s t. ⊥;
  down = Down transitions;
  up = λ R s t. ⊥;
}

-- from which states and concepts the way leads on to a final state
abbrev pub LeadsOn : PathsBelow → ℕ → ℕ → Type 0
LeadsOn paths =
    meaning.Onward (grown_by paths.below.now paths.transitions.now) (Marked paths.sheet.now)
    (Has paths.finals.0)

-- ---- what the functions make of rows, which say from where a step down leads on

-- from c in t at once, or by the rows
abbrev pub Goes : ℕ → List ConceptSet → ℕ → ℕ → Type 0
Goes finals rows t c = Has finals t ⊎ Has (concepts_at rows t) c

pub record IsLive (finals : ℕ) (rows : List ConceptSet) (c t : ℕ) : Type 0 where
  pub low : t < most_states
  pub goes : Goes finals rows t c

-- the set has each final state, and of the states below n each from which the rows lead on
pub record AreAlive (finals : ℕ) (rows : List ConceptSet) (n set : ℕ) : Type 0 where
  pub final : (t : ℕ) → Has finals t → Has set t
  pub onward : (t c : ℕ) → t < n → Has (concepts_at rows t) c → Has set t

-- there is a mark from s to t, and the way leads on in t
pub record Along (sheet : List ConceptSet) (finals : ℕ) (rows : List ConceptSet) (s t B : ℕ) : Type 0
  where
    pub marked : Marked sheet s t B
    pub goes : Goes finals rows t B

-- to a state of D
abbrev pub ByMark : List ConceptSet → ℕ → List ConceptSet → ℕ → (ℕ → Type 0) → ℕ → Type 0
ByMark sheet finals rows s D B = Witness D (λ t. Along sheet finals rows s t B)

-- to any state
abbrev pub ByMarks : PathsBelow → List ConceptSet → ℕ → ℕ → Type 0
ByMarks paths rows s = ByMark paths.sheet.now paths.finals.0 rows s (λ t. t < most_states)

-- B has a child by R, from which the way leads on in t, where the transitions of R lead from s
pub record StepBy (paths : PathsBelow) (rows : List ConceptSet) (R s B : ℕ) : Type 0 where
  pub to : ℕ
  pub child : Child paths.below.now B R
  pub down : Down paths.transitions.now R s to
  pub goes : Goes paths.finals.0 rows to (base + flip R)

-- what one mark or one step down adds
abbrev pub Further : PathsBelow → List ConceptSet → ℕ → ℕ → Type 0
Further paths rows s B = ByMarks paths rows s B ⊎ ((R : ℕ) × StepBy paths rows R s B)

-- the concepts at one state, and at each of some
abbrev pub PutAt : ℕ → ℕ → ℕ → ℕ → Type 0
PutAt concepts s u B = (u ≡ s) × Has concepts B

abbrev pub PutEach : (ℕ → Type 0) → ℕ → ℕ → ℕ → Type 0
PutEach D concepts u B = Witness D (λ s. PutAt concepts s u B)

-- no set has a number past its width
abbrev pub Small : List ConceptSet → Type 0
Small rows = (s : ℕ) → s < most_states → concepts_at rows s < 2 ^ concept_width

-- new has what old has, and P
pub record Adds (P : ℕ → ℕ → Type 0) (old new : List ConceptSet) : Type 0 where
  pub long : length new ≡ length old
  pub small : Small old → Small new
  pub at : (s B : ℕ) → s < most_states
      → Has (concepts_at new s) B ↔ (Has (concepts_at old s) B ⊎ P s B)

-- all from which a step down leads on
pub record AreCoReachable (paths : PathsBelow) (rows : List ConceptSet) : Type 0 where
  pub long : length rows ≡ most_states
  pub at : (s B : ℕ) → s < most_states → Goes paths.finals.0 rows s B ↔ LeadsOn paths s B

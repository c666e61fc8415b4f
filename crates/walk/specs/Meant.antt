-- What the tables of a walk, and the answers to asks, say of a collection (docs/RULES.md,
-- section 6).
use Rattle.std.specs.Prelude.{◌≡◌, ◌↔◌, ◌⊎◌, Bool, Option, None, List, ℕ, ◌+◌, ◌*◌, ◌<◌, ◌≤◌, length, slice_index_or}
use Rattle.kinds.specs.declared.Individual.{Individual}
use Rattle.kinds.specs.declared.State.{State}
use Rattle.kinds.specs.declared.Concept.{Concept}
use Rattle.kinds.specs.declared.Concept.TheVariants.{Exists}
use Rattle.kinds.specs.declared.Counts.{Counts}
use Rattle.kinds.specs.Kinds.{most_individuals, most_states, most_roles, base, individual, signed, state, number_of, concept_of, IndividualDeclared, StateDeclared, ConceptDeclared}
use Rattle.laws.specs.Member.{◌∈◌}
use Rattle.meaning.specs.Collection.{Collection}
use Rattle.meaning.specs.Lent.{Tables, collection}
use Rattle.meaning.specs.Lite.{lite, StepDown}
use Rattle.theory.specs.Onward.{LeadsOn}
use Rattle.meaning.specs.Orders.{ConceptLe}
use Rattle.meaning.specs.Model.{IndividualHas}
use Rattle.meaning.specs.Asks.{IsYes}
use Rattle.theory.specs.Sheet.{Mark, Needed}
use Rattle.meaning.specs.Walk.{IndividualsWalk}
use Rattle.sets.specs.Bits.{Has, concept_width, role_width}
use Rattle.sets.specs.declared.states.StateSet.{StateSet}
use Rattle.sets.specs.declared.concepts.ConceptSet.{ConceptSet}
use Rattle.kinds.specs.declared.Ask.{Ask}
use Rattle.kinds.specs.Asks.{AskDeclared}
use Rattle.walk.specs.declared.coreachable.PathsBelow.{PathsBelow}
use Rattle.walk.specs.Accepting.{AreAccepting}
use Rattle.walk.specs.declared.batch.Batch.{Batch}
use Rattle.walk.specs.declared.question.Question.{Question}
use Rattle.walk.specs.declared.strides.Strides.{Strides}
use Rattle.walk.specs.Asks.{YesBy, IsAnswer}
use Rattle.walk.specs.Finals.{AreFinals}
use Rattle.walk.specs.Loops.{AreLoops}
use Rattle.walk.specs.Batches.{size_of, ask_in}
use Rattle.sets.specs.Relations.{concepts_at, pair, states_at, relation_at}
use Rattle.walk.specs.Strides.{Reaches}

-- r has the answers to the asks of a batch, and no more: n entries
pub record AreAnswers (s : Strides) (question : Question) (batch : Batch) (n : ℕ)
    (r : List (Option Bool)) : Type 0 where
  pub long : length r ≡ n
  pub each : (k : ℕ) → k < size_of batch
      → IsAnswer s question (ask_in batch k) (slice_index_or r k None)
  pub rest : (k : ℕ) → size_of batch ≤ k → slice_index_or r k None ≡ None

-- ---- tables of a collection

-- from s to u at a: a has some B with (s, u, B) on the sheet after n rounds
abbrev pub LoopOf : Collection → ℕ → Individual → State → State → Type 0
LoopOf 𝓒 n a s u = (B : Concept) × IndividualHas 𝓒 a B × Mark (lite 𝓒) n s u B

-- loops, and transitions, as tables hold them
abbrev pub LoopsOf : Collection → ℕ → List (List StateSet) → Type 0
LoopsOf 𝓒 n loops =
    (a s u : ℕ) → a < most_individuals → s < most_states
    → Has (states_at (relation_at loops a) s) u ↔ LoopOf 𝓒 n (individual a) (state s) (state u)

abbrev pub TransitionsOf : Collection → List (List StateSet) → Type 0
TransitionsOf 𝓒 transitions =
    (R s u : ℕ) → R < 2 * most_roles
    → Has (states_at (relation_at transitions R) s) u ↔ StepDown 𝓒 (signed R) (state s) (state u)

-- the tables of a collection, with its sheet after n rounds
pub record TablesOf (𝓒 : Collection) (n : ℕ) (loops transitions : List (List StateSet))
    : Type 0 where
  pub loop_at : LoopsOf 𝓒 n loops
  pub loop_low : (a s u : ℕ) → a < most_individuals → Has (states_at (relation_at loops a) s) u
      → s < most_states
  pub transition_at : TransitionsOf 𝓒 transitions

-- s is an accepting state of a: it is final, or for some B that a has the way leads on from it
-- below a
abbrev pub AcceptsIn : Collection → Individual → State → Type 0
AcceptsIn 𝓒 a s =
    (s ∈ 𝓒.finals)
    ⊎ ((B : Concept) × IndividualHas 𝓒 a B × LeadsOn (lite 𝓒) (λ t. t ∈ 𝓒.finals) s B)

-- accepting states as tables hold them; a state that is not declared is none
pub record AcceptingOf (𝓒 : Collection) (accepting : List StateSet) : Type 0 where
  pub to : (a s : ℕ) → a < most_individuals → Has (states_at accepting a) s
      → AcceptsIn 𝓒 (individual a) (state s)
  pub from : (a s : ℕ) → a < most_individuals → StateDeclared 𝓒.counts (state s)
      → AcceptsIn 𝓒 (individual a) (state s) → Has (states_at accepting a) s

-- the concepts below "has a neighbour" by each signed role, as rows hold them
abbrev pub BelowOf : Collection → List ConceptSet → Type 0
BelowOf 𝓒 below =
    (R B : ℕ) → R < role_width → B < concept_width
    → Has (concepts_at below (base + R)) B ↔ ConceptLe 𝓒 (concept_of B) (Exists (signed R))

-- the question of a collection
pub record QuestionOf (𝓒 : Collection) (q : Question) : Type 0 where
  pub start : q.start ≡ 𝓒.counts.start
  pub final : (u : State) → Has q.finals.0 u.0 ↔ (u ∈ 𝓒.finals)
  pub accepting : AcceptingOf 𝓒 q.accepting.now.rows

-- the concepts of the individuals of a collection, and its sheet after n rounds, as rows hold them
pub record ConceptsOf (𝓒 : Collection) (individuals : List ConceptSet) : Type 0 where
  pub at : (a : ℕ) (B : Concept) → a < most_individuals → ConceptDeclared 𝓒.counts B
      → Has (concepts_at individuals a) (number_of B) ↔ IndividualHas 𝓒 (individual a) B

pub record SheetOf (𝓒 : Collection) (n : ℕ) (sheet : List ConceptSet) : Type 0 where
  pub at : (s u B : ℕ) → s < most_states → u < most_states → B < concept_width
      → Has (concepts_at sheet (pair s u)) B ↔ Mark (lite 𝓒) n (state s) (state u) (concept_of B)

-- ---- what they mean

module _ (c : Counts) (t : Tables) where
  -- loops made from the rows of a collection are the collection's
  abbrev pub LoopsMean : Type 0
  LoopsMean =
      (n : ℕ) (individuals sheet : List ConceptSet) → ConceptsOf (collection c t) individuals
      → SheetOf (collection c t) n sheet
      → (loops : List (List StateSet)) → AreLoops individuals sheet loops
      → LoopsOf (collection c t) n loops

  -- with the transitions of its question they are its tables
  abbrev pub TablesMean : Type 0
  TablesMean =
      (n : ℕ) (individuals sheet : List ConceptSet) → ConceptsOf (collection c t) individuals
      → SheetOf (collection c t) n sheet
      → (loops transitions : List (List StateSet)) → AreLoops individuals sheet loops
      → TransitionsOf (collection c t) transitions → TablesOf (collection c t) n loops transitions

  -- accepting states made from its rows, with its closed sheet, are the collection's
  abbrev pub AcceptingMeans : Type 0
  AcceptingMeans =
      (n : ℕ) → Needed (lite (collection c t)) n
      → (individuals : List ConceptSet) → ConceptsOf (collection c t) individuals
      → (paths : PathsBelow) → BelowOf (collection c t) paths.below.now
      → TransitionsOf (collection c t) paths.transitions.now
      → SheetOf (collection c t) n paths.sheet.now
      → AreFinals t.finals paths.finals.0
      → (accepting : List StateSet) → AreAccepting individuals paths accepting
      → AcceptingOf (collection c t) accepting

  -- a question made from the table of finals and such accepting states is the collection's
  abbrev pub QuestionMeans : Type 0
  QuestionMeans =
      (q : Question) → q.start ≡ c.start → AreFinals t.finals q.finals.0
      → AcceptingOf (collection c t) q.accepting.now.rows → QuestionOf (collection c t) q

  -- by such tables, with the closed sheet, strides lead exactly where the individuals' walk does
  abbrev pub WalkMeans : Type 0
  WalkMeans =
      (n : ℕ) → Needed (lite (collection c t)) n
      → (loops transitions : List (List StateSet)) → TablesOf (collection c t) n loops transitions
      → (a b : Individual) (s u : State) → IndividualDeclared c a → StateDeclared c s
      → Reaches loops transitions t.role-facts a.0 s.0 b.0 u.0
      ↔ IndividualsWalk (collection c t) a s b u

  -- and the answer to a declared ask is yes exactly where it is yes in the canonical model
  abbrev pub YesMeans : Type 0
  YesMeans =
      (n : ℕ) → Needed (lite (collection c t)) n
      → (s : Strides) → s.edges.now.facts.numbers.now ≡ t.role-facts
      → TablesOf (collection c t) n s.loops.now.rows s.transitions.now
      → (q : Question) → QuestionOf (collection c t) q
      → (ask : Ask) → AskDeclared c ask
      → YesBy s q ask ↔ IsYes (collection c t) ask

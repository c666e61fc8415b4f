-- The answers to a batch of asks as they are made, none while an ask is open.
use Rattle.std.specs.Prelude.{◌≡◌, ◌⊎◌, ◌↔◌, Bool, true, false, Option, None, List, [], ℕ, ◌<◌, ◌≤◌, length, slice_index, slice_index_or}
use Rattle.kinds.specs.declared.Individual.{Individual}
use Rattle.kinds.specs.declared.State.{State}
use Rattle.kinds.specs.declared.Ask.{Ask}
use Rattle.kinds.specs.declared.Ask.TheVariants.{Pair, From}
use Rattle.kinds.specs.Asks.{first_of}
use Rattle.kinds.specs.Kinds.{most_individuals}
use Rattle.sets.specs.Bits.{Has}
use Rattle.sets.specs.declared.states.StateSet.{StateSet}
use Rattle.walk.specs.declared.asking.Asking.{Asking}
use Rattle.walk.specs.declared.asks.Marks.{Marks}
use Rattle.walk.specs.declared.asks.Picked.{Picked}
use Rattle.walk.specs.declared.components.Component.{Component}
use Rattle.walk.specs.declared.question.Question.{Question}
use Rattle.walk.specs.declared.strides.Strides.{Strides}
use Rattle.walk.specs.Asks.{IsAnswer}
use Rattle.walk.specs.Batches.{most_batch, size_of, ask_in}
use Rattle.walk.specs.Sources.{most_sources, first_at, AreMarked, InState, InOne, IsIn}
use Rattle.walk.specs.Walks.{WalkedBy}

-- the number of the first individual of ask j
abbrev pub first_in : Asking → ℕ → ℕ
first_in g j = (first_of (ask_in g.batch j)).0

-- v is a right answer to ask j
pub record IsTold (g : Asking) (j : ℕ) (v : Option Bool) : Type 0 where
  pub inside : j < size_of g.batch
  pub is : IsAnswer g.strides g.question (ask_in g.batch j) v

-- each answer is as it was, or right; and the asks of Q have theirs
pub record Tells (g : Asking) (Q : ℕ → Type 0) (old new : List (Option Bool)) : Type 0 where
  pub long : length new ≡ length old
  pub each : (j : ℕ) → (slice_index_or new j None ≡ slice_index_or old j None)
      ⊎ IsTold g j (slice_index_or new j None)
  pub own : (j : ℕ) → Q j → j < size_of g.batch → IsTold g j (slice_index_or new j None)

-- each answer given is right, and the asks below k have theirs
pub record Answering (g : Asking) (k : ℕ) (answers : List (Option Bool)) : Type 0 where
  pub long : length answers ≡ most_batch
  pub each : (j : ℕ) → (slice_index_or answers j None ≡ None)
      ⊎ IsTold g j (slice_index_or answers j None)
  pub given : (j : ℕ) → j < k → j < size_of g.batch → IsTold g j (slice_index_or answers j None)

-- ---- by a component

-- the individual is the component's first, or one of the others
abbrev pub IsMember : Component → ℕ → Type 0
IsMember c f = (f ≡ c.first.0) ⊎ (slice_index_or c.others f false ≡ true)

-- each member reaches the same nodes in the start state
pub record IsComponent (s : Strides) (start : State) (c : Component) : Type 0 where
  pub at : (f : Individual) → IsMember c f.0 → WalkedBy s f start c.reached

-- each individual that is marked reaches the nodes of the sets
pub record AreMembers (s : Strides) (start : State) (reached : List StateSet) (members : List Bool)
    : Type 0 where
  pub at : (f : Individual) → slice_index_or members f.0 false ≡ true → WalkedBy s f start reached

-- ask k alone, and the asks below n, whose first is a member
abbrev pub OfMember : Asking → Component → ℕ → ℕ → Type 0
OfMember g c k j = (j ≡ k) × IsMember c (first_in g j)

abbrev pub OfMembers : Asking → Component → ℕ → ℕ → Type 0
OfMembers g c n j = (j < n) × IsMember c (first_in g j)

-- ---- by a multi-walk

-- ask k has the first place, and its first individual was picked there
pub record Picks (g : Asking) (k : ℕ) (p : Picked) : Type 0 where
  pub some : 0 < p.count
  pub few : p.count ≤ most_sources
  pub place : slice_index p.places k ≡ 0
  pub own : first_at p.firsts 0 ≡ first_in g k

-- each ask keeps its place, and each first individual that was picked stays in its place
pub record Keeps (old new : Picked) : Type 0 where
  pub more : old.count ≤ new.count
  pub few : new.count ≤ most_sources
  pub places : new.places ≡ old.places
  pub own : (i : ℕ) → i < old.count → first_at new.firsts i ≡ first_at old.firsts i

-- ask j was given a place, and in it its first individual was picked
pub record HasPlace (g : Asking) (p : Picked) (j : ℕ) : Type 0 where
  pub below : slice_index p.places j < p.count
  pub same : first_in g j ≡ first_at p.firsts (slice_index p.places j)

-- ask j alone, and the asks below n, that have a place
abbrev pub IsPicked : Asking → Picked → ℕ → ℕ → Type 0
IsPicked g p k j = (j ≡ k) × HasPlace g p j

abbrev pub OfPicked : Asking → Picked → ℕ → ℕ → Type 0
OfPicked g p n j = (j < n) × HasPlace g p j

-- at an individual
pub record IsAtSecond (words : List (List ℕ)) (states second word : ℕ) : Type 0 where
  pub at : (k : ℕ) → Has word k ↔ InState states (slice_index_or words second []) k

-- the marks make the answer to an ask of first k yes
abbrev pub HitBy : List (List ℕ) → Question → ℕ → Ask → Type 0
HitBy words q k (Pair first second) = InState q.finals.0 (slice_index_or words second.0 []) k
HitBy words q k (From first) = InOne words q.accepting.now.rows most_individuals k

pub record IsHitBy (words : List (List ℕ)) (q : Question) (ask : Ask) (word : ℕ) : Type 0 where
  pub at : (k : ℕ) → Has word k ↔ HitBy words q k ask

-- the marks are those of the firsts that were picked
pub record AreMarksOf (g : Asking) (m : Marks) : Type 0 where
  pub few : m.picked.now.count ≤ most_sources
  pub marked : AreMarked g.strides m.picked.now.firsts m.picked.now.count g.question.start
      m.walk.now.words
  pub out : IsIn m.walk.now.words g.question.accepting.now.rows most_individuals m.out

-- The loop sheet, round by round (docs/RULES.md, section 6); the rounds needed; what it is for a
-- sheet to be closed.
use Rattle.std.specs.Prelude.{◌≡◌, ℕ, zero, suc}
use Rattle.laws.specs.Member.{◌∈◌}
use Rattle.laws.specs.Rounds.{Least}
use Rattle.theory.specs.Kind.{Kind}

module _ (𝓚 : Kind) where
  open 𝓚 use {Concept, State, Edge, concepts, states, end, child, test, down, up}

  -- only declared states and valid concepts are marked
  pub record Markable (s t : State) (B : Concept) : Type 0 where
    pub from : s ∈ states
    pub to : t ∈ states
    pub of : B ∈ concepts

  -- a round: what it makes of the sheet f of the round before
  pub data Round (f : State → State → Concept → Type 0) (s t : State) (B : Concept) : Type 0 where
    -- it keeps all marks of f, and adds one where a test step passes at B,
    kept : f s t B → Round f s t B
    tested : test B s t → Round f s t B
    -- where two marks of f meet,
    joined : {u : State} → f s u B → f u t B → Round f s t B
    -- and where a step leads down to a child, a mark of f along at the child, and a step back up
    hung : {R : Edge} {u v : State} → child B R → down R s u → f u v (end R) → up R v t
        → Round f s t B

  -- (s, t, B) stands in the sheet after n rounds; round 0 has (s, s, B) for every state and concept
  abbrev pub Mark : ℕ → State → State → Concept → Type 0
  Mark zero s t B = Markable s t B × (s ≡ t)
  Mark (suc n) s t B = Markable s t B × Round (Mark n) s t B

  -- one more round leaves the sheet as it is
  abbrev pub Unchanged : ℕ → Type 0
  Unchanged n = (s t : State) (B : Concept) → Mark (suc n) s t B → Mark n s t B

  -- the rounds needed: the smallest n whose sheet is unchanged by one more round
  abbrev pub Needed : ℕ → Type 0
  Needed = Least Unchanged

  -- a closed sheet has round 0's marks, and a round adds nothing to it
  pub record Closed (f : State → State → Concept → Type 0) : Type 0 where
    pub first : (s : State) (B : Concept) → Markable s s B → f s s B
    pub round : (s t : State) (B : Concept) → Markable s t B → Round f s t B → f s t B

-- Laws of the loop sheet's rounds, for any rules' kind.
use Rattle.std.specs.Prelude.{◌≡◌, ◌↔◌, ℕ, suc, ◌*◌, ◌-◌, ◌≤◌, length}
use Rattle.laws.specs.Member.{◌∈◌}
use Rattle.theory.specs.Kind.{Kind, Sane}
use Rattle.theory.specs.Tests.{Tests, AreTestsOf}
use Rattle.theory.specs.Tree.{root, Tree}
use Rattle.theory.specs.Sheet.{Mark, Needed, Closed}

module _ (𝓚 : Kind) where
  -- a mark of a round stands in every later one
  abbrev pub MarksStay : Type 0
  MarksStay = (m n : ℕ) → n ≤ m → (s t : 𝓚.State) (B : 𝓚.Concept) → Mark 𝓚 n s t B
      → Mark 𝓚 m s t B

  -- the rounds needed are one number
  abbrev pub RoundsOnce : Type 0
  RoundsOnce = (m n : ℕ) → Needed 𝓚 m → Needed 𝓚 n → m ≡ n

  -- after them the sheet no longer changes
  abbrev pub SheetStays : Type 0
  SheetStays = (n : ℕ) → Needed 𝓚 n → (m : ℕ) → n ≤ m → (s t : 𝓚.State) (B : 𝓚.Concept)
      → Mark 𝓚 m s t B ↔ Mark 𝓚 n s t B

  -- the sheet after them is closed
  abbrev pub SheetClosed : Type 0
  SheetClosed = (n : ℕ) → Needed 𝓚 n → Closed 𝓚 (Mark 𝓚 n)

  -- and the smallest closed one: each mark of every round stands in each closed sheet f
  abbrev pub SheetLeast : (𝓚.State → 𝓚.State → 𝓚.Concept → Type 0) → Type 0
  SheetLeast f = Closed 𝓚 f → (n : ℕ) (s t : 𝓚.State) (B : 𝓚.Concept) → Mark 𝓚 n s t B → f s t B

  -- a mark stands in it exactly when, in the tree grown from its concept, a path leads from the
  -- root back to the root
  abbrev pub MarkIsPath : Type 0
  MarkIsPath = Sane 𝓚 → (n : ℕ) → Needed 𝓚 n → (s t : 𝓚.State) (B : 𝓚.Concept)
      → s ∈ 𝓚.states → B ∈ 𝓚.concepts → Mark 𝓚 n s t B ↔ Tree 𝓚 (root B) s (root B) t

  -- where tests decide the rules, rounds needed there are, and never more than
  -- concepts × states × (states − 1)
  abbrev pub RoundsBound : Type 0
  RoundsBound = (𝓣 : Tests 𝓚) → AreTestsOf 𝓚 𝓣 → Sane 𝓚
      → (n : ℕ) × (n ≤ length 𝓚.concepts * length 𝓚.states * (length 𝓚.states - 1)) × Needed 𝓚 n

  -- the third rule of a round: a concept has a child, a step leads down to it, a mark leads along
  -- there, and a step leads back up
  pub record ByChild (n : ℕ) (s v : 𝓚.State) (B : 𝓚.Concept) : Type 0 where
    pub R : 𝓚.Edge
    pub t : 𝓚.State
    pub u : 𝓚.State
    pub child : 𝓚.child B R
    pub down : 𝓚.down R s t
    pub loop : Mark 𝓚 n t u (𝓚.end R)
    pub up : 𝓚.up R u v

  -- where a mark of the next round comes from
  pub data Before (n : ℕ) (s t : 𝓚.State) (B : 𝓚.Concept) : Type 0 where
    stood : Mark 𝓚 n s t B → Before n s t B
    by-test : 𝓚.test B s t → Before n s t B
    by-meeting : (u : 𝓚.State) → Mark 𝓚 n s u B → Mark 𝓚 n u t B → Before n s t B
    by-child : ByChild n s t B → Before n s t B

  -- a round reads only the sheet of the round before
  abbrev pub RoundAdds : Type 0
  RoundAdds = (n : ℕ) (s t : 𝓚.State) (B : 𝓚.Concept) → Mark 𝓚 (suc n) s t B → Before n s t B

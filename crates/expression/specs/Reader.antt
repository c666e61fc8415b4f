-- What a reader makes of a place in a row.
use Rattle.std.specs.Prelude.{List, ℕ, ◌≤◌, length, drop, Result, MatchResult}
use Rattle.sets.specs.declared.states.StateSet.{StateSet}
use Rattle.expression.specs.Tree.{Tree}
use Rattle.expression.specs.Ends.{IsSame}
use Rattle.expression.specs.Parts.{Knows}
use Rattle.expression.specs.declared.parts.Part.{Part}
use Rattle.expression.specs.declared.reader.Reader.{Reader}
use Rattle.expression.specs.declared.reader.NothingHere.{NothingHere}

-- a kind of thing that can stand in a row: an atom, an item, a sequence, an expression
abbrev pub Kind : Type 1
Kind = ℕ → List ℕ → Tree → ℕ → List ℕ → Type 0

-- anything may follow an atom
pub record Anything (l : List ℕ) : Type 0 where
  pub it : Unit {0}

module _ (Q : Kind) (Ends : List ℕ → Type 0) (s : List ℕ) where
  -- from the place `at`, after n marks, what stands there is read up to the place p, after c marks:
  -- one tree, and no other
  pub record Reads (at n : ℕ) (old : List StateSet) (was : List ℕ) (p c : ℕ) (a : Part)
      (new : List StateSet) (now : List ℕ) : Type 0 where
    pub tree : Tree
    pub reads : Q n (drop at s) tree c (drop p s)
    pub knows : Knows n old was tree a c new now
    pub within : p ≤ length s
    pub fewer : c ≤ p
    pub only : (e : Tree) (m : ℕ) (r : List ℕ) → Q n (drop at s) e m r → Ends r
        → IsSame tree e c m (drop p s) r

  -- no such thing stands there
  pub record Nothing (at n : ℕ) : Type 0 where
    pub none : (e : Tree) (m : ℕ) (r : List ℕ) → Q n (drop at s) e m r → Ends r → ⊥

  -- the reader has read what stands at its place
  abbrev pub HasRead : Reader → Reader → Part → Type 0
  HasRead old new a =
      Reads old.at old.count old.rows old.letters new.at new.count a new.rows new.letters

  -- what is known of the one tree that stands there, or a refusal where none does
  abbrev pub Outcome : Reader → Reader → Result Part NothingHere → Type 0
  Outcome old new r = MatchResult r (HasRead old new) (λ _. Nothing old.at old.count)

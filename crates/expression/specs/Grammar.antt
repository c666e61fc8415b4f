-- Which rows of marks are which expression.
use Rattle.std.specs.Prelude.{◌≡◌, List, [], ◌∷◌, ℕ, suc, ◌<◌}
use Rattle.expression.specs.Marks.{opening, closing, or_mark, repeat_mark, mark_letter}
use Rattle.expression.specs.Depth.{most_depth}
use Rattle.expression.specs.Tree.{Tree, mark, both, either, many}

-- Each says, with brackets at most d deep: n role and test marks were numbered before, the row l
-- begins with this, m are numbered then, and the row r is left.
mutual
  -- a role mark, a test mark, or an expression in brackets
  pub data Atom : ℕ → ℕ → List ℕ → Tree → ℕ → List ℕ → Type 0 where
    letter : {d n b : ℕ} {r : List ℕ} → b < opening
        → Atom d n (b ∷ r) (mark (suc n) (mark_letter b)) (suc n) r
    bracket : {d n m b c : ℕ} {l r : List ℕ} {e : Tree} → b ≡ opening
        → Expression d n l e m (c ∷ r) → c ≡ closing → Atom (suc d) n (b ∷ l) e m r

  -- with at most one "any number of times" directly after it
  pub data Item : ℕ → ℕ → List ℕ → Tree → ℕ → List ℕ → Type 0 where
    once : {d n m : ℕ} {l r : List ℕ} {e : Tree} → Atom d n l e m r → Item d n l e m r
    repeated : {d n m c : ℕ} {l r : List ℕ} {e : Tree} → Atom d n l e m (c ∷ r)
        → c ≡ repeat_mark → Item d n l (many e) m r

  -- one or more items
  pub data Sequence : ℕ → ℕ → List ℕ → Tree → ℕ → List ℕ → Type 0 where
    items : {d n h m : ℕ} {l s r : List ℕ} {e f : Tree} → Item d n l e h s → Items d h e s m f r
        → Sequence d n l f m r

  -- after the items e, the rest of the items, which makes f of e
  pub data Items : ℕ → ℕ → Tree → List ℕ → ℕ → Tree → List ℕ → Type 0 where
    no_item : {d n : ℕ} {l : List ℕ} {e : Tree} → Items d n e l n e l
    item : {d n h m : ℕ} {l s r : List ℕ} {e f g : Tree} → Item d n l f h s
        → Items d h (both e f) s m g r → Items d n e l m g r

  -- one or more sequences parted by "or"
  pub data Expression : ℕ → ℕ → List ℕ → Tree → ℕ → List ℕ → Type 0 where
    sequences : {d n h m : ℕ} {l s r : List ℕ} {e f : Tree} → Sequence d n l e h s
        → Sequences d h e s m f r → Expression d n l f m r

  -- after the sequences e, the rest of the sequences, which makes f of e
  pub data Sequences : ℕ → ℕ → Tree → List ℕ → ℕ → Tree → List ℕ → Type 0 where
    no_sequence : {d n : ℕ} {l : List ℕ} {e : Tree} → Sequences d n e l n e l
    or_else : {d n h m c : ℕ} {l s r : List ℕ} {e f g : Tree} → c ≡ or_mark
        → Sequence d n l f h s → Sequences d h (either e f) s m g r
        → Sequences d n e (c ∷ l) m g r

-- the whole row is the expression e, with m role and test marks
pub record IsExpression (row : List ℕ) (e : Tree) (m : ℕ) : Type 0 where
  pub reads : Expression most_depth 0 row e m []

-- What can follow an item, a sequence, an expression.
use Rattle.std.specs.Prelude.{◌≡◌, List, ℕ, ◌<◌, slice_index_or}
use Rattle.expression.specs.Marks.{opening, closing, or_mark, repeat_mark}
use Rattle.expression.specs.Tree.{Tree}

-- the mark that comes next; the end of the row counts as a closing bracket
abbrev pub next : List ℕ → ℕ
next l = slice_index_or l 0 closing

pub record ItemEnds (l : List ℕ) : Type 0 where
  pub no_repeat : next l ≡ repeat_mark → ⊥

pub record SequenceEnds (l : List ℕ) : Type 0 where
  pub no_item : opening < next l
  pub no_repeat : next l ≡ repeat_mark → ⊥

pub record ExpressionEnds (l : List ℕ) : Type 0 where
  pub no_item : opening < next l
  pub no_or : next l ≡ or_mark → ⊥
  pub no_repeat : next l ≡ repeat_mark → ⊥

-- the same tree, the same count of marks, the same rest of the row
pub record IsSame (e f : Tree) (m k : ℕ) (r t : List ℕ) : Type 0 where
  pub tree : e ≡ f
  pub count : m ≡ k
  pub rest : r ≡ t

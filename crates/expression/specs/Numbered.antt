-- The marks of a part of an expression are numbered in the order written.
use Rattle.std.specs.Prelude.{◌≡◌, ℕ, suc}
use Rattle.meaning.specs.Collection.{Letter}
use Rattle.expression.specs.Tree.{Tree, mark, both, either, many}

-- from n + 1 to m
pub data Numbered : ℕ → Tree → ℕ → Type 0 where
  number : {n m k : ℕ} {l : Letter} → k ≡ suc n → m ≡ suc n → Numbered n (mark k l) m
  numbers : {n h m : ℕ} {e f : Tree} → Numbered n e h → Numbered h f m → Numbered n (both e f) m
  numbers_or : {n h m : ℕ} {e f : Tree} → Numbered n e h → Numbered h f m
      → Numbered n (either e f) m
  numbers_many : {n m : ℕ} {e : Tree} → Numbered n e m → Numbered n (many e) m

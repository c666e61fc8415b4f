-- Laws of growth, for any rules' kind: what a kind yields, one that yields more yields again.
use Rattle.theory.specs.Run.{Run}
use Rattle.theory.specs.Tree.{root, Loop, Move, Stride}
use Rattle.theory.specs.Grows.{Growing}

module _ (𝓖 : Growing) where
  open 𝓖 use {less, more, grows, before, after}

  -- a loop at a concept,
  abbrev pub LoopsGrow : Type 0
  LoopsGrow = (B : less.Concept) (s t : less.State) → Loop less B s t
      → Loop more (grows.con B) (grows.state s) (grows.state t)

  -- a walk over roots,
  abbrev pub WalksGrow : Type 0
  WalksGrow = (a b : before.Root) (s t : less.State)
      → Run (Stride less before.has before.near) a s b t
      → Run (Stride more after.has after.near) (𝓖.root a) (grows.state s) (𝓖.root b) (grows.state t)

  -- and a path from root to root
  abbrev pub PathsGrow : Type 0
  PathsGrow = (a b : before.Root) (s t : less.State)
      → Run (Move less before.has before.near) (root a) s (root b) t
      → Run (Move more after.has after.near) (root (𝓖.root a)) (grows.state s)
      (root (𝓖.root b)) (grows.state t)

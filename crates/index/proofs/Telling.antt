-- What walks tell of asks.
use Rattle.std.specs.Prelude.{◌≡◌, ◌↔◌, Bool, IsTrue, Option, Some, None, IfSome, List, ℕ, ◌+◌, ◌<◌, ◌≤◌, replicate, slice_index_or}
use Rattle.std.proofs.Common.{subst, sym, arith}
use Rattle.std.proofs.Math.Decide.{dec_lt}
use Rattle.std.proofs.lemmas.List.{length-replicate, get_or-replicate, get_or_past}
use Rattle.kinds.specs.declared.Ask.{Ask}
use Rattle.kinds.specs.Asks.{AskDeclared}
use Rattle.tables.specs.Asks.{read_ask}
use Rattle.meaning.specs.Asks.{IsYes}
use Rattle.walk.specs.declared.strides.Strides.{Strides}
use Rattle.walk.specs.Asks as answers
use Rattle.walk.specs.Asks.{YesBy}
use Rattle.walk.specs.Batches.{batch_size, ask_of}
use Rattle.index.specs.declared.routes.Paths.{Paths}
use Rattle.index.specs.Works.{StridesLead}
use Rattle.index.specs.Preparation.{Preparation, collection_in}
use Rattle.index.specs.Asked.{IsTold, AreTold}

-- one preparation is as good as another that is equal
pub told_seen : {p q : Preparation} (ask : Ask) (told : Option Bool) → p ≡ q → IsTold q ask told → IsTold p ask told
told_seen ask told e h = subst (λ (p : Preparation). IsTold p ask told) (sym e) h

pub all_seen : {p q : Preparation} (t : List ℕ) (from : ℕ) (told : List (Option Bool)) → p ≡ q → AreTold p t from told
    → AreTold q t from told
all_seen t from told e h = subst (λ (p : Preparation). AreTold p t from told) e h

-- what was told of a declared ask, where strides lead exactly when it is yes
pub told_led : {D Y L : Type 0} (told : Option Bool) → IfSome told (λ yes. D → IsTrue yes ↔ Y) → D → L ↔ Y
    → IfSome told (λ yes. IsTrue yes ↔ L)
told_led None h d e = tt
told_led (Some b) h d e = let w = h d in (λ t. e.1 (w.0 t), λ l. w.1 (e.0 l))

module _ (p : Preparation) (t : List ℕ) (from : ℕ) where
  -- nothing is told
  pub none_told : (n : ℕ) → AreTold p t from (replicate n None)
  none_told n k = by (dec_lt k n)
    where
      none : List (Option Bool)
      none = replicate n None

      by : Dec (k < n) → IsTold p (read_ask t (from + k)) (slice_index_or none k None)
      by (yes l) = let e : slice_index_or none k None ≡ None = get_or-replicate n k None None l in rw e tt
      by (no m) = let e : slice_index_or none k None ≡ None = get_or_past none k None
          (omega (arith, length-replicate {A = Option Bool} n None)) in rw e tt

  module _ (s : Strides) (r : Paths) (loops : s.loops ≡ r.loops) (transitions : s.transitions ≡ r.transitions)
      (edges : s.edges.now ≡ r.edges)
      (right : (ask : Ask) → AskDeclared p.counts ask → StridesLead r ask ↔ IsYes (collection_in p) ask) where
    by_strides : (ask : Ask) → AskDeclared p.counts ask → YesBy s r.question ask ↔ IsYes (collection_in p) ask
    by_strides ask d = let w = right ask d in rw (loops, transitions, edges) w

    one_told : (ask : Ask) (v : Option Bool) → answers.IsAnswer s r.question ask v → IsTold p ask v
    one_told ask v a =
        let e = a.is in
        rw e (λ d. let w = by_strides ask d in (λ y. w.0 (a.right.0 y), λ y. a.right.1 (w.1 y)))

    -- THEOREM: what walks tell of the asks of a part is told of each
    pub walks_told : (told : List (Option Bool))
        → ((k : ℕ) → k < batch_size t from → answers.IsAnswer s r.question (ask_of t from k) (slice_index_or told k None))
        → ((k : ℕ) → batch_size t from ≤ k → slice_index_or told k None ≡ None) → AreTold p t from told
    walks_told told each rest k = by (dec_lt k (batch_size t from))
      where
        by : Dec (k < batch_size t from) → IsTold p (read_ask t (from + k)) (slice_index_or told k None)
        by (yes l) = one_told (ask_of t from k) (slice_index_or told k None) (each k l)
        by (no n) = let e = rest k (omega arith) in rw e tt

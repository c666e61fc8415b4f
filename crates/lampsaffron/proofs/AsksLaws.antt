-- A row of asks of both kinds: its number, and that all of its outcome is fixed.
use Rattle.std.specs.Prelude.{◌≡◌, List, ℕ, length}
use Rattle.std.proofs.Common.{sym, ◌∙◌, ext_get_or, arith}
use Rattle.std.proofs.Math.Decide.{ℕ_discrete}
use Rattle.std.proofs.lemmas.Option.{get_or_from_slice_get}
use Rattle.laws.specs.First.{fails, holds, first-once}
use Rattle.tables.specs.Asks.{read_ask}
use Rattle.index.specs.Preparation.{Preparation}
use Rattle.index.specs.Row.{ask_count}
use Rattle.index.proofs.Unique.{in-turn-once}
use Rattle.lampsaffron.specs.Boundary.{Tells}
use Rattle.lampsaffron.specs.Asks.{AsksFit, AsksNumber, Left, TellsAsks}

-- THEOREM: one number is given
pub asks-number-once : (asks : List ℕ) (numbers counts n m : ℕ) → AsksNumber asks numbers counts n → AsksNumber asks numbers counts m
    → n ≡ m
asks-number-once asks numbers counts = first-once (first-once (λ n m h k. h ∙ sym k))

-- after 0 the lengths fit
fits-then : {asks : List ℕ} {numbers counts number : ℕ} → AsksNumber asks numbers counts number → number ≡ 0 → AsksFit asks numbers counts
fits-then (fails n) z = absurd (omega arith)
fits-then (holds f r) z = f

-- THEOREM: all that the call gives and leaves is fixed
module _ (p : Preparation) (asks : List ℕ) (old : Left) where
  pub asking-once : (number number' : ℕ) (new new' : Left) → TellsAsks p asks old number new → TellsAsks p asks old number' new'
      → (number ≡ number') × (new ≡ new')
  asking-once number number' new new' a b = (e, by (ℕ_discrete number 0))
    where
      e : number ≡ number'
      e = asks-number-once asks (length old.numbers) (length old.counts) number number' a.number_is b.number_is

      by : Dec (number ≡ 0) → new ≡ new'
      by (yes z) =
          let f = fits-then a.number_is z in
          let w = in-turn-once p (read_ask asks) (Tells new.numbers new.counts) (Tells new'.numbers new'.counts) old.area old.spare
          (ask_count asks)
          (a.in_turn z) (b.in_turn (sym e ∙ z)) in
          let numbers = ext_get_or 0 new.numbers new'.numbers (a.numbers_long ∙ sym b.numbers_long) (λ k h.
          let s = w.2 k (omega (arith, h, a.numbers_long, f.number_each)) in
          get_or_from_slice_get new.numbers k _ 0 s.one.number ∙ sym (get_or_from_slice_get new'.numbers k _ 0 s.other.number)) in
          let counts = ext_get_or 0 new.counts new'.counts (a.counts_long ∙ sym b.counts_long) (λ k h.
          let s = w.2 k (omega (arith, h, a.counts_long, f.count_each)) in
          get_or_from_slice_get new.counts k _ 0 s.one.count ∙ sym (get_or_from_slice_get new'.counts k _ 0 s.other.count)) in
          λ i. record { area = w.0 i; spare = w.1 i; numbers = numbers i; counts = counts i }
      by (no n) = a.kept n ∙ sym (b.kept (λ z. n (e ∙ z)))

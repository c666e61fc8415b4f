-- A set and all to which a relation leads from it, by rounds that add its image.
use Rattle.std.specs.Prelude.{◌≡◌, ℕ, ◌^◌, ◌<◌}
use Rattle.std.proofs.Common.{inl, inr, ⊎_elim}
use Rattle.sets.specs.Bits.{Has, IsUnion, state_width}
use Rattle.sets.specs.Relations.{LedFrom, IsImage}
use Rattle.walk.specs.Passes.{Looped, none, more, IsClosure}

-- before it is closed
pub record ClosurePart (L : ℕ → ℕ → Type 0) (m r : ℕ) : Type 0 where
  pub small : r < 2 ^ state_width
  pub keeps : (t : ℕ) → Has m t → Has r t
  pub sound : (t : ℕ) → Has r t → LedFrom (Looped L) m t

module _ (L : ℕ → ℕ → Type 0) (m : ℕ) where
  pub closure_start : m < 2 ^ state_width → ClosurePart L m m
  closure_start h = record { small = h; keeps = λ t p. p; sound = λ t p. record { number = t; of = p; holds = none } }

  module _ (r i all : ℕ) (w : ClosurePart L m r) (image : IsImage L r i) (u : IsUnion r i all) where
    pub closure_more : all < 2 ^ state_width → ClosurePart L m all
    closure_more h = record {
      small = h;
      keeps = λ t p. (u.member t).1 (inl (w.keeps t p));
      sound = λ t p. ⊎_elim (λ q. w.sound t q) (λ q. let l = (image.member t).0 q in let k = w.sound l.number l.of in
          record { number = k.number; of = k.of; holds = more k.holds l.holds }) ((u.member t).0 p);
    }

    pub closure_end : all ≡ r → IsClosure L m r
    closure_end e = record {
      keeps = w.keeps;
      sound = w.sound;
      closed = λ s t p l. let k = (u.member t).1 (inr ((image.member t).1 (record { number = s; of = p; holds = l }))) in rw e at k;
    }

-- The loop that looks for a place where brackets are too deep.
use Rattle.std.specs.Prelude.{◌≡◌, refl, List, [], ◌∷◌, ◌++◌, ℕ, ◌+◌, ◌<◌, ◌≤◌, eqb, length, slice_index_or, take}
use Rattle.std.proofs.Common.{ap, ◌∙◌, add-one, arith, take-suc, eq-eqb, ne_eqb}
use Rattle.std.proofs.Math.Decide.{ℕ_discrete}
use Rattle.laws.specs.Count.{bit, bit-one, count}
use Rattle.expression.specs.Depth.{times, PassesAt, TooDeep}

pub times-append : (b : ℕ) (l r : List ℕ) → times b (l ++ r) ≡ times b l + times b r
unfolding count
times-append b [] r = omega arith
times-append b (x ∷ l) r = omega (arith, times-append b l r)

pub times-one : (b x : ℕ) → times b (x ∷ []) ≡ bit (eqb x b)
unfolding count
times-one b x = omega arith

-- the first i marks are counted, and none of the places so far passes 8
pub record Scanning (row : List ℕ) (i opened closed : ℕ) : Type 0 where
  pub within : i ≤ length row
  pub opens : opened ≡ times 0x80 (take i row)
  pub closes : closed ≡ times 0x81 (take i row)
  pub few : opened ≤ i
  pub fewer : closed ≤ i
  pub none : (k : ℕ) → k ≤ i → PassesAt row k → ⊥

module _ (row : List ℕ) where
  pub scan-start : Scanning row 0 0 0
  unfolding count
  scan-start =
      record {
        within = omega arith;
        opens = refl;
        closes = refl;
        few = omega arith;
        fewer = omega arith;
        none = λ k h p. absurd (let e : k ≡ 0 = omega arith in let q = p.over in omega (arith, rw e at q));
      }

  one_more : (i b : ℕ) → i < length row → times b (take (i + 1) row) ≡ times b (take i row) + bit (eqb (slice_index_or row i 0) b)
  one_more i b h =
      ap (λ (j : ℕ). times b (take j row)) (add-one i) ∙ ap (times b) (take-suc row i 0 h) ∙ times-append b (take i row) (slice_index_or row i 0 ∷ [])
      ∙ ap (λ (n : ℕ). times b (take i row) + n) (times-one b (slice_index_or row i 0))

  module _ (i o c p q : ℕ) (w : Scanning row i o c) (h : i < length row) (x : p ≡ o + bit (eqb (slice_index_or row i 0) 0x80)) (y : q ≡ c + bit (eqb (slice_index_or row i 0) 0x81)) where
    opens-more : p ≡ times 0x80 (take (i + 1) row)
    opens-more = let a = w.opens in omega (arith, one_more i 0x80 h)

    closes-more : q ≡ times 0x81 (take (i + 1) row)
    closes-more = let a = w.closes in omega (arith, one_more i 0x81 h)

    pub scan-more : (q + 8 < p → ⊥) → Scanning row (i + 1) p q
    scan-more f =
        record {
          within = omega arith;
          opens = opens-more;
          closes = closes-more;
          few = let a = w.few in omega (arith, bit-one (eqb (slice_index_or row i 0) 0x80));
          fewer = let a = w.fewer in omega (arith, bit-one (eqb (slice_index_or row i 0) 0x81));
          none = λ k l z.
              elim (ℕ_discrete k (i + 1)) [
                | yes e ↦ f (let v = z.over in omega (arith, opens-more, closes-more, rw e at v))
                | no e ↦ w.none k (omega arith) z
              ];
        }

    pub scan-found : q + 8 < p → TooDeep row
    scan-found f = record { place = i + 1; within = omega arith; passes = record { over = omega (arith, opens-more, closes-more) } }

-- one where the mark is the one counted, and else none
pub bit-on : {x b : ℕ} → x ≡ b → bit (eqb x b) ≡ 1
bit-on {x} {b} e = rw (eq-eqb x b e) refl

pub bit-off : {x b : ℕ} → (x ≡ b → ⊥) → bit (eqb x b) ≡ 0
bit-off {x} {b} e = rw (ne_eqb x b e) refl

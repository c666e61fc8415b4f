-- The laws of sets as bits, at any width.
use Rattle.std.specs.Prelude.{ℕ, suc, zero, ◌≡◌, ◌≢◌, refl, ◌<◌, ◌≤◌, ◌+◌, ◌-◌, ◌*◌, ◌/◌, ◌%◌, ◌^◌, ◌↔◌, ◌⊎◌, Bool, true, false, not, cond, nat_eq, nat_lt, List, [], ◌∷◌, length, get_or, filter, IsTrue, Option, Some, None}
use Rattle.std.specs.Iterator.{MakesProgress, at_most}
use Rattle.std.proofs.lemmas.Iterator.{YieldsList}
use Rattle.std.proofs.lemmas.Iterator.Consumers.{YieldsList-from_shown}
use Rattle.std.specs.List.{range_with_len}
use Rattle.std.specs.Int.{bit_at}
use Rattle.std.specs.Int.RustNames.{bit_or, bit_and, count_ones}
use Rattle.std.proofs.Common.{sym, ◌∙◌, ap, inl, inr, ⊎_elim, arith, rules}
use Rattle.std.proofs.Math.Decide.{ℕ_discrete, dec_lt}
use Rattle.std.proofs.Math.ListN.{get_or-eq_default}
use Rattle.std.proofs.Math.Nat.{mod-eq_of_lt, pow-suc}
use Rattle.std.proofs.Math.Pow.{pow-lt}
use Rattle.std.proofs.lemmas.Nat.{pow_pos, pow-add, ones_cat, and_le_l, and_le_r, shr-shr}
use Rattle.std.proofs.lemmas.Nat.Bits.{shr_and_one, bit_at_or, bit_at_and, bit_at-lt, bit_at-suc, bit_at_lowest, bit_at-pow_same, bit_at-pow_other, bit_at-zero, bit_at_cat_low, bit_at_cat_high, bit_at_ones_above, bit_at_above, bit_at_not, bit_at-trailing_zeros, same_from_bits}
use lib.Count.{ones, ones_in}
use Rattle.std.specs.Int.{Width, w32, w64, w128, trailing_zeros, byte_at, bytes_low_first, to_le_bytes, from_bool}
use Rattle.std.proofs.lemmas.Bool.{false≢true}
use mir.Val.{bits}
use Rattle.sets.specs.Bits.{has, Has, IsOnly, IsRaised, IsLowered, Inserts, InsertsIf, IsMinus, Removes, IsUnion, IsIntersection, Meets, IsEmpty, IsLower, TakesFirst, Takes, members, IsBytesOf}

-- ---- one member

pub tests : (n k : ℕ) → IsTrue (nat_eq (bit_and (n / 2 ^ k) 1) 1) ↔ Has n k
tests n k = rw (shr_and_one n k) (search rules)

is_or : (m n i : ℕ) → Has (bit_or m n) i ↔ (Has m i ⊎ Has n i)
is_or m n i = (to, from)
  where
    to : Has (bit_or m n) i → Has m i ⊎ Has n i
    to p =
        elim (ℕ_discrete (bit_at m i) 1) [
          | yes q ↦ inl q
          | no q ↦ inr (omega (arith, p, bit_at_or m n i, bit_at-lt m i, bit_at-lt n i))
        ]

    from : Has m i ⊎ Has n i → Has (bit_or m n) i
    from (inl q) = omega (arith, q, bit_at_or m n i, bit_at-lt n i)
    from (inr q) = omega (arith, q, bit_at_or m n i, bit_at-lt m i)

is_and : (m n i : ℕ) → Has (bit_and m n) i ↔ (Has m i × Has n i)
is_and m n i =
    let a = bit_at-lt m i in
    let b = bit_at-lt n i in
    let e = bit_at_and m n i in
    (λ p. (omega arith, omega arith), λ p. let q = p.0 in let r = p.1 in omega arith)

has_pow : (k i : ℕ) → Has (2 ^ k) i ↔ (i ≡ k)
has_pow k i =
    elim (ℕ_discrete i k) [
      | yes e ↦ (λ p. e, λ p. rw e (bit_at-pow_same k))
      | no ne ↦ let z = bit_at-pow_other k i ne in (λ p. absurd (omega arith), λ p. absurd (ne p))
    ]

pub is_union : (m n : ℕ) → IsUnion m n (bit_or m n)
is_union m n = record { member = is_or m n }

pub is_intersection : (m n : ℕ) → IsIntersection m n (bit_and m n)
is_intersection m n = record { member = is_and m n }

-- ---- one member put in

-- `1 << k` at b bits, and no bit where there is no room for k
is_only : (b k : ℕ) → k < b → IsOnly b k (1 * 2 ^ k % 2 ^ b)
is_only b k h =
    let l = pow-lt h in
    let small : 1 * 2 ^ k % 2 ^ b ≡ 2 ^ k = mod-eq_of_lt (omega arith) ∙ omega arith in
    rw small (record { member = λ i. (λ p. let e = (has_pow k i).0 p in (e, h), λ p. (has_pow k i).1 p.0) })

pub is_only_128 : (k : ℕ) → k < 128 → IsOnly 128 k (1 * 2 ^ k % 2 ^ 128)
is_only_128 k h = is_only 128 k h

pub is_only_64 : (k : ℕ) → k < 64 → IsOnly 64 k (1 * 2 ^ k % 2 ^ 64)
is_only_64 k h = is_only 64 k h

pub is_only_32 : (k : ℕ) → k < 32 → IsOnly 32 k (1 * 2 ^ k % 2 ^ 32)
is_only_32 k h = is_only 32 k h

pub none_has : (i : ℕ) → Has 0 i → ⊥
none_has i p = let z = bit_at-zero i in absurd (omega arith)

pub is_only_none : (b k : ℕ) → b ≤ k → IsOnly b k 0
is_only_none b k h = record { member = λ i. (λ p. absurd (none_has i p), λ p. let l = p.1 in absurd (omega arith)) }

pub inserts : (b n k x : ℕ) → IsOnly b k x → Inserts b n k (bit_or n x)
inserts b n k x o =
    record {
      member = λ i.
          let u = is_or n x i in
          let p = o.member i in
          (λ q. ⊎_elim (λ a. inl a) (λ a. inr (p.0 a)) (u.0 q), λ q. u.1 (⊎_elim (λ a. inl a) (λ a. inr (p.1 a)) q));
    }

-- `n | (on as u64) << k`
inserts_if : (b n k : ℕ) (on : Bool) → k < b → InsertsIf b n k on (bit_or n (from_bool on * 2 ^ k % 2 ^ b))
inserts_if b n k true h =
    let s = inserts b n k (1 * 2 ^ k % 2 ^ b) (is_only b k h) in
    record {
      member = λ i.
          (λ p. ⊎_elim (λ q. inl q) (λ q. inr (q.0, q.1, refl)) ((s.member i).0 p), λ p. (s.member i).1 (⊎_elim (λ q. inl q) (λ q. inr (q.0, q.1)) p));
    }
inserts_if b n k false h =
    let e : 0 * 2 ^ k % 2 ^ b ≡ 0 = let l = pow_pos b in mod-eq_of_lt (omega arith) ∙ omega arith in
    rw e
    (record {
      member = λ i.
          let u = is_or n 0 i in
          (λ p. ⊎_elim (λ q. inl q) (λ q. absurd (none_has i q)) (u.0 p), λ p. u.1 (⊎_elim (λ q. inl q) (λ q. absurd (false≢true q.2)) p));
    })

pub inserts_if_64 : (n k : ℕ) (on : Bool) → k < 64 → InsertsIf 64 n k on (bit_or n (from_bool on * 2 ^ k % 2 ^ 64))
inserts_if_64 n k on h = inserts_if 64 n k on h

pub inserts_if_32 : (n k : ℕ) (on : Bool) → k < 32 → InsertsIf 32 n k on (bit_or n (from_bool on * 2 ^ k % 2 ^ 32))
inserts_if_32 n k on h = inserts_if 32 n k on h

pub inserts_if_none : (b n k : ℕ) (on : Bool) → b ≤ k → InsertsIf b n k on n
inserts_if_none b n k on h = record { member = λ i. (λ p. inl p, ⊎_elim (λ p. p) (λ p. let l = p.1 in absurd (omega arith))) }

-- ---- shifts

-- `n << b` into c bits, and `n >> b`
pub raised : (b c n : ℕ) → n * 2 ^ b < 2 ^ c → IsRaised b n (n * 2 ^ b % 2 ^ c)
raised b c n h = rw (mod-eq_of_lt h) (record { member = λ i. by i (dec_lt i b) })
  where
    plain : (i : ℕ) → bit_at (n * 2 ^ b) i ≡ bit_at (n * 2 ^ b + 0) i
    plain i = let e : n * 2 ^ b ≡ n * 2 ^ b + 0 = omega arith in ap (λ (x : ℕ). bit_at x i) e

    by : (i : ℕ) → Dec (i < b) → Has (n * 2 ^ b) i ↔ ((b ≤ i) × Has n (i - b))
    by i (yes l) = (λ p. let z = bit_at_cat_low n b 0 i l in let y = bit_at-zero i in let x = plain i in absurd (omega arith), λ q. let g = q.0 in absurd (omega arith))
    by i (no g) =
        let e = plain i ∙ bit_at_cat_high n b 0 i (pow_pos b) (omega arith) in
        (λ p. (omega arith, sym e ∙ p), λ q. e ∙ q.1)

pub raised_64 : (n : ℕ) → n < 2 ^ 64 → IsRaised 64 n (n * 2 ^ 64 % 2 ^ 128)
raised_64 n h = raised 64 128 n (omega arith)

pub lowered : (b n : ℕ) → IsLowered b n (n / 2 ^ b)
lowered b n = record { member = λ i. let e : bit_at (n / 2 ^ b) i ≡ bit_at n (b + i) = ap (λ (x : ℕ). x % 2) (shr-shr n b i) in (λ p. sym e ∙ p, λ p. e ∙ p) }

-- `n & !m` at the bits of a width
minus : (w : Width) (n m : ℕ) → n < 2 ^ bits w → m < 2 ^ bits w → IsMinus n m (bit_and n (2 ^ bits w - 1 - m))
minus w n m h k = record { member = λ i. by i (dec_lt i (bits w)) }
  where
    by : (i : ℕ) → Dec (i < bits w) → Has (bit_and n (2 ^ bits w - 1 - m)) i ↔ (Has n i × (Has m i → ⊥))
    by i (yes l) =
        let e = bit_at_not w m i k l in
        let a = is_and n (2 ^ bits w - 1 - m) i in
        let b = bit_at-lt m i in
        (λ p. let q = a.0 p in (q.0, λ x. let y = q.1 in absurd (omega arith)), λ p. a.1 (p.0, e ∙ (let f : bit_at m i ≡ 0 = zero (bit_at m i) b p.1 in rw f refl)))
      where
        zero : (x : ℕ) → x < 2 → (x ≡ 1 → ⊥) → x ≡ 0
        zero x l f = omega (arith, f)
    by i (no g) =
        let z = bit_at_above n (bits w) i h (omega arith) in
        (λ p. let q = ((is_and n (2 ^ bits w - 1 - m) i).0 p).0 in absurd (omega arith), λ p. let q = p.0 in absurd (omega arith))

pub minus_64 : (n m : ℕ) → n < 2 ^ 64 → m < 2 ^ 64 → IsMinus n m (bit_and n (2 ^ 64 - 1 - m))
minus_64 n m h k = minus w64 n m h k

pub minus_128 : (n m : ℕ) → n < 2 ^ 128 → m < 2 ^ 128 → IsMinus n m (bit_and n (2 ^ 128 - 1 - m))
minus_128 n m h k = minus w128 n m h k

pub minus_32 : (n m : ℕ) → n < 2 ^ 32 → m < 2 ^ 32 → IsMinus n m (bit_and n (2 ^ 32 - 1 - m))
minus_32 n m h k = minus w32 n m h k

-- ---- halves

-- a number of b bits has no member from b on
pub past : (b n k : ℕ) → n < 2 ^ b → Has n k → k < b
past b n k h p = elim (dec_lt k b) [ yes l ↦ l | no g ↦ let z = bit_at_above n b k h (omega arith) in absurd (omega arith) ]

-- and the test of one that is not below b says so
pub absent : (b n k : ℕ) → n < 2 ^ b → b ≤ k → IsTrue (nat_lt k b) ↔ Has n k
absent b n k h g = (λ t. absurd (search (rules, t)), λ p. let l = past b n k h p in absurd (omega arith))

-- `n % (1 << b)`
low_bit : (b n i : ℕ) → i < b → bit_at (n % 2 ^ b) i ≡ bit_at n i
low_bit b n i h = let l = pow_pos b in let e : n / 2 ^ b * 2 ^ b + n % 2 ^ b ≡ n = omega arith in let c = bit_at_cat_low (n / 2 ^ b) b (n % 2 ^ b) i h in sym (rw e at c)

pub lower : (b n : ℕ) → IsLower b n (n % 2 ^ b)
lower b n =
    let l = pow_pos b in
    record {
      member = λ i.
          (λ p. let h = past b (n % 2 ^ b) i (omega arith) p in (h, sym (low_bit b n i h) ∙ p), λ p. low_bit b n i p.0 ∙ p.1);
    }

-- ---- no member

none : (n : ℕ) → IsEmpty n → n ≡ 0
none n h = same_from_bits n 0 (λ i. let z = bit_at-zero i in let b = bit_at-lt n i in bit i)
  where
    bit : (i : ℕ) → bit_at n i ≡ bit_at 0 i
    bit i =
        elim (ℕ_discrete (bit_at n i) 1) [
          | yes p ↦ absurd (h i p)
          | no p ↦ let z = bit_at-zero i in let b = bit_at-lt n i in omega arith
        ]

pub is_empty : (n : ℕ) → IsTrue (nat_eq n 0) ↔ IsEmpty n
is_empty n = (λ p. let e : n ≡ 0 = search rules in rw e none_has, λ h. let e = none n h in search rules)

-- a number that is not 0 has a bit
some_bit : (w n : ℕ) → n ≢ 0 → n ≤ w → (i : ℕ) × Has n i
some_bit zero n h l = absurd (h (omega arith))
some_bit (suc w) n h l =
    elim (ℕ_discrete (n % 2) 1) [
      | yes p ↦ (0, bit_at_lowest n ∙ p)
      | no p ↦ let r = some_bit w (n / 2) (λ e. h (omega arith)) (omega arith) in (suc r.0, bit_at-suc n r.0 ∙ r.1)
    ]

pub meets : (m n : ℕ) → IsTrue (not (nat_eq (bit_and m n) 0)) ↔ Meets m n
meets m n = (to (ℕ_discrete (bit_and m n) 0), from (ℕ_discrete (bit_and m n) 0))
  where
    to : Dec (bit_and m n ≡ 0) → IsTrue (not (nat_eq (bit_and m n) 0)) → Meets m n
    to (yes e) t = let f = rw e at t in absurd (search rules)
    to (no ne) t = let w = some_bit (bit_and m n) (bit_and m n) ne (omega arith) in let b = (is_and m n w.0).0 w.1 in (w.0, b.0, b.1)

    from : Dec (bit_and m n ≡ 0) → Meets m n → IsTrue (not (nat_eq (bit_and m n) 0))
    from (yes e) (i, p, q) = let b = (is_and m n i).1 (p, q) in absurd (none_has i (rw e at b))
    from (no ne) t = search (rules, ne)

-- ---- how many members

one_more : (n a t m : ℕ) → nat_eq (bit_at n a) 1 ≡ nat_eq (m % 2) 1 → (l : List ℕ) → length l ≡ ones (m / 2) → t ≡ ones m
    → length (cond (has n a) (a ∷ l) l) ≡ ones m
unfolding ones ones_in
one_more n a t m e l k f = side (ℕ_discrete (m % 2) 1)
  where
    both : ones m ≡ ones (m / 2) + ones (m % 2)
    both = let c = ones_cat 1 (m / 2) (m % 2) (omega arith) in let d : m / 2 * 2 ^ 1 + m % 2 ≡ m = omega arith in rw d at c

    side : Dec (m % 2 ≡ 1) → length (cond (has n a) (a ∷ l) l) ≡ ones m
    side (yes p) = let b : has n a ≡ true = e ∙ rw p refl in let c = rw p at both in rw b (omega arith)
    side (no p) = let q : m % 2 ≡ 0 = omega arith in let b : has n a ≡ false = e ∙ rw q refl in let c = rw q at both in rw b (omega arith)

counted : (w a n m : ℕ) → m < 2 ^ w → ((i : ℕ) → bit_at n (a + i) ≡ bit_at m i) → length (filter (has n) (range_with_len a w)) ≡ ones m
unfolding ones ones_in
counted zero a n m h same = let e : m ≡ 0 = omega arith in rw e refl
counted (suc w) a n m h same =
    let d = pow-suc 2 w in
    let z : bit_at n a ≡ m % 2 = let q = same 0 in let g : a + 0 ≡ a = omega arith in let s = rw g at q in s ∙ bit_at_lowest m in
    one_more n a (ones m) m (ap (λ (x : ℕ). nat_eq x 1) z) (filter (has n) (range_with_len (a + 1) w))
    (counted w (a + 1) n (m / 2) (omega arith) (λ i. let g : a + 1 + i ≡ a + suc i = omega arith in rw g (same (suc i) ∙ bit_at-suc m i))) refl

pub how_many : (w n : ℕ) → n < 2 ^ w → count_ones n ≡ length (members w n)
unfolding members
how_many w n h = sym (counted w 0 n n h (λ i. let g : 0 + i ≡ i = omega arith in rw g refl))

-- ---- the first member

-- n has no bit below t, and bit t
twice : (n q a b c d : ℕ) → n % 2 ≡ 0 → n / 2 ≡ q * a + b → c ≡ a * 2 → d ≡ b * 2 → n ≡ q * c + d
twice n q a b c d z e f g = rw (f, g) (omega arith)

even : (n : ℕ) → (Has n 0 → ⊥) → n % 2 ≡ 0
even n h = elim (ℕ_discrete (n % 2) 0) [ yes p ↦ p | no p ↦ absurd (h (bit_at_lowest n ∙ omega arith)) ]

lowest : (t n : ℕ) → Has n t → ((i : ℕ) → i < t → Has n i → ⊥) → (q : ℕ) × (n ≡ q * 2 ^ suc t + 2 ^ t)
lowest zero n h least = let e = bit_at_lowest n in (n / 2, omega arith)
lowest (suc t) n h least = up (lowest t (n / 2) (sym (bit_at-suc n t) ∙ h) (λ i l p. least (suc i) (omega arith) (bit_at-suc n i ∙ p)))
  where
    up : (q : ℕ) × (n / 2 ≡ q * 2 ^ suc t + 2 ^ t) → (q : ℕ) × (n ≡ q * 2 ^ suc (suc t) + 2 ^ suc t)
    up (q, e) = (q, twice n q (2 ^ suc t) (2 ^ t) (2 ^ suc (suc t)) (2 ^ suc t) (even n (λ p. least 0 (omega arith) p)) e (pow-suc 2 (suc t)) (pow-suc 2 t))

-- `n & (n - 1)` is n but for its lowest bit
clears : (n t : ℕ) → Has n t → ((i : ℕ) → i < t → Has n i → ⊥) → Removes n t (bit_and n (n - 1))
clears n t h least = record { member = by (lowest t n h least) }
  where
    below : (q i : ℕ) → n - 1 ≡ q * 2 ^ suc t + (2 ^ t - 1) → Has (n - 1) t → ⊥
    below q i f p =
        let l = pow-lt {i = t} {j = suc t} (omega arith) in
        let a = bit_at_cat_low q (suc t) (2 ^ t - 1) t (omega arith) in
        let b = bit_at_ones_above t t (omega arith) in
        let g = rw f at p in
        omega arith

    above : (q i : ℕ) → n ≡ q * 2 ^ suc t + 2 ^ t → n - 1 ≡ q * 2 ^ suc t + (2 ^ t - 1) → t < i → bit_at (n - 1) i ≡ bit_at n i
    above q i e f l =
        let s = pow-lt {i = t} {j = suc t} (omega arith) in
        rw f (bit_at_cat_high q (suc t) (2 ^ t - 1) i (omega arith) (omega arith) ∙ sym (ap (λ (x : ℕ). bit_at x i) e ∙ bit_at_cat_high q (suc t) (2 ^ t) i s (omega arith)))

    by : (q : ℕ) × (n ≡ q * 2 ^ suc t + 2 ^ t) → (i : ℕ) → Has (bit_and n (n - 1)) i ↔ (Has n i × (i ≢ t))
    by (q, e) i = (to, λ p. (is_and n (n - 1) i).1 (p.0, rest (dec_lt t i) p.0 p.1))
      where
        f : n - 1 ≡ q * 2 ^ suc t + (2 ^ t - 1)
        f = let l = pow_pos t in omega arith

        to : Has (bit_and n (n - 1)) i → Has n i × (i ≢ t)
        to p = let b = (is_and n (n - 1) i).0 p in (b.0, λ s. below q i f (rw s at b.1))

        rest : Dec (t < i) → Has n i → i ≢ t → Has (n - 1) i
        rest (yes l) p ne = above q i e f l ∙ p
        rest (no g) p ne = absurd (least i (omega arith) p)

takes_first : (b n t : ℕ) → t < b → Has n t → ((i : ℕ) → i < t → bit_at n i ≡ 0) → 0 < n → TakesFirst b n t (bit_and n (n - 1))
takes_first b n t h p z pos =
    let least : (i : ℕ) → i < t → Has n i → ⊥ = (λ i l q. let e = z i l in absurd (omega arith)) in
    record { within = h; member = p; least = least; rest = clears n t p least; less = let l = and_le_r n (n - 1) in omega arith }

-- `n & (n - 1)` and `n.trailing_zeros()` take the first member
pub takes_lowest : (w : Width) (n : ℕ) → 0 < n → n < 2 ^ bits w → TakesFirst (bits w) n (trailing_zeros w n) (bit_and n (n - 1))
takes_lowest w n p h = let z = bit_at-trailing_zeros w n p h in takes_first (bits w) n (trailing_zeros w n) z.0 z.1 z.2 p

pub takes_lowest_64 : (n : ℕ) → 0 < n → n < 2 ^ 64 → TakesFirst 64 n (trailing_zeros w64 n) (bit_and n (n - 1))
takes_lowest_64 n p h = takes_lowest w64 n p h

pub takes_lowest_32 : (n : ℕ) → 0 < n → n < 2 ^ 32 → TakesFirst 32 n (trailing_zeros w32 n) (bit_and n (n - 1))
takes_lowest_32 n p h = takes_lowest w32 n p h

-- a number without one of its bits is less
less_removed : (n t r : ℕ) → Has n t → Removes n t r → r < n
less_removed n t r h m =
    let e : bit_and n r ≡ r = same_from_bits (bit_and n r) r same in
    let l = and_le_l n r in
    let ne : r ≢ n = (λ q. let p = (m.member t).0 (rw q h) in p.1 refl) in
    omega arith
  where
    same : (i : ℕ) → bit_at (bit_and n r) i ≡ bit_at r i
    same i =
        elim (ℕ_discrete (bit_at r i) 1) [
          | yes p ↦ (is_and n r i).1 (((m.member i).0 p).0, p) ∙ sym p
          | no p ↦
              let e = bit_at_and n r i in
              let a = bit_at-lt r i in
              let b = bit_at-lt n i in
              let z : bit_at r i ≡ 0 = omega arith in
              rw z at e ∙ omega arith
        ]

-- the first member is in the lower half l, or in the upper half h where the lower has none
pub takes_low : (n l h x : ℕ) → IsLower 64 n l → IsLowered 64 n h → IsRaised 64 h x → 0 < l → l < 2 ^ 64
    → TakesFirst 128 n (trailing_zeros w64 l) (bit_or x (bit_and l (l - 1)))
takes_low n l h x low high up pos small =
    let z = bit_at-trailing_zeros w64 l pos small in
    let t = trailing_zeros w64 l in
    let clear = clears l t z.1 (λ i h p. let e = z.2 i h in absurd (omega arith)) in
    let member = (low.member t).0 z.1 in
    let rest : Removes n t (bit_or x (bit_and l (l - 1))) = record { member = λ i. by i clear } in
    record {
      within = let b = z.0 in omega arith;
      member = member.1;
      least = λ i h p. let b = z.0 in let e = z.2 i h in let q = (low.member i).1 (omega arith, p) in absurd (omega arith);
      rest = rest;
      less = less_removed n t _ member.1 rest;
    }
  where
    by : (i : ℕ) → Removes l (trailing_zeros w64 l) (bit_and l (l - 1)) → Has (bit_or x (bit_and l (l - 1))) i ↔ (Has n i × (i ≢ trailing_zeros w64 l))
    by i clear = (to, λ p. from (dec_lt i 64) p.0 p.1)
      where
        to : Has (bit_or x (bit_and l (l - 1))) i → Has n i × (i ≢ trailing_zeros w64 l)
        to p =
            ⊎_elim
            (λ q. let r = (up.member i).0 q in let e : 64 + (i - 64) ≡ i = let g = r.0 in omega arith in
            let s = (high.member (i - 64)).0 r.1 in (rw e at s, λ f. let b = (bit_at-trailing_zeros w64 l pos small).0 in let g = r.0 in absurd (omega arith)))
            (λ q. let r = (clear.member i).0 q in (((low.member i).0 r.0).1, r.1)) ((is_or x (bit_and l (l - 1)) i).0 p)

        from : Dec (i < 64) → Has n i → i ≢ trailing_zeros w64 l → Has (bit_or x (bit_and l (l - 1))) i
        from (yes b) p ne = (is_or x (bit_and l (l - 1)) i).1 (inr ((clear.member i).1 ((low.member i).1 (b, p), ne)))
        from (no g) p ne =
            let e : i ≡ 64 + (i - 64) = omega arith in
            (is_or x (bit_and l (l - 1)) i).1 (inl ((up.member i).1 (omega arith, (high.member (i - 64)).1 (rw e at p))))

module _ (n h : ℕ) (low : IsLower 64 n 0) (high : IsLowered 64 n h) where
  upper : (i : ℕ) → Has n i → (64 ≤ i) × Has h (i - 64)
  upper i p =
      elim (dec_lt i 64) [
        | yes b ↦ absurd (none_has i ((low.member i).1 (b, p)))
        | no g ↦ let e : i ≡ 64 + (i - 64) = omega arith in (omega arith, (high.member (i - 64)).1 (rw e at p))
      ]

  pub takes_high : (k r x : ℕ) → TakesFirst 64 h k r → IsRaised 64 r x → TakesFirst 128 n (64 + k) x
  takes_high k r x t up = let e : 64 + k - 64 ≡ k = omega arith in record {
    within = let b = t.within in omega arith;
    member = member;
    least = λ i l p. let u = upper i p in let g = u.0 in t.least (i - 64) (omega arith) u.1;
    rest = rest;
    less = less_removed n (64 + k) x member rest;
  }
    where
      member : Has n (64 + k)
      member = (high.member k).0 t.member

      rest : Removes n (64 + k) x
      rest = record {
        member = λ i. (
          λ p. let u = (up.member i).0 p in let g = u.0 in let s = (t.rest.member (i - 64)).0 u.1 in
              let e : 64 + (i - 64) ≡ i = omega arith in let q = (high.member (i - 64)).0 s.0 in (rw e at q, λ f. s.1 (omega arith)),
          λ p. let u = upper i p.0 in let g = u.0 in (up.member i).1 (u.0, (t.rest.member (i - 64)).1 (u.1, λ f. p.1 (omega arith))),
        );
      }

  pub none_high : IsEmpty h → IsEmpty n
  none_high e i p = e (i - 64) (upper i p).1

-- ---- the members as a list

module _ (p q : ℕ → Bool) where
  agree : (m a : ℕ) → ((i : ℕ) → a ≤ i → p i ≡ q i) → filter p (range_with_len a m) ≡ filter q (range_with_len a m)
  agree zero a h = refl
  agree (suc m) a h = rw (h a (omega arith), agree m (a + 1) (λ i l. h i (omega arith))) refl

  first_of : (m a t : ℕ) → a ≤ t → t < a + m → ((i : ℕ) → i < t → p i ≡ false) → p t ≡ true → q t ≡ false → ((i : ℕ) → i ≢ t → p i ≡ q i)
      → filter p (range_with_len a m) ≡ t ∷ filter q (range_with_len a m)
  first_of zero a t l h below at off same = absurd (omega arith)
  first_of (suc m) a t l h below at off same =
      elim (ℕ_discrete a t) [
        | yes e ↦ rw (e, at, off) (ap (λ (l : List ℕ). t ∷ l) (agree m (t + 1) (λ i l. same i (omega arith))))
        | no ne ↦ rw (← same a ne, below a (omega arith)) (first_of m (a + 1) t (omega arith) (omega arith) below at off same)
      ]

has_false : (n k : ℕ) → (Has n k → ⊥) → has n k ≡ false
has_false n k h =
    elim (ℕ_discrete (bit_at n k) 1) [
      | yes p ↦ absurd (h p)
      | no p ↦ let b = bit_at-lt n k in let e : bit_at n k ≡ 0 = omega arith in rw e refl
    ]

has_same : (n m k : ℕ) → Has n k ↔ Has m k → has n k ≡ has m k
has_same n m k s =
    elim (ℕ_discrete (bit_at n k) 1) [ yes p ↦ rw (p, s.0 p) refl | no p ↦ has_false n k p ∙ sym (has_false m k (λ q. p (s.1 q))) ]

pub members_first : (w n k r : ℕ) → TakesFirst w n k r → members w n ≡ k ∷ members w r
unfolding members
members_first w n k r f =
    let m = f.rest.member in
    first_of (has n) (has r) w 0 k (omega arith) (let l = f.within in omega arith) (λ i l. has_false n i (f.least i l)) (let e = f.member in rw e refl)
    (has_false r k (λ p. ((m k).0 p).1 refl)) (λ i ne. has_same n r i (λ p. (m i).1 (p, ne), λ p. ((m i).0 p).0))

pub members_none : (w n : ℕ) → IsEmpty n → members w n ≡ []
unfolding members
members_none w n h = all w 0
  where
    all : (m a : ℕ) → filter (has n) (range_with_len a m) ≡ []
    all zero a = refl
    all (suc m) a = rw (has_false n a (h a)) (all m (a + 1))

-- an iterator that takes the first member at each call
module _ {S A : Type 0} (bits_of : S → ℕ) (number : A → ℕ) (w : ℕ) where
  pub goes : (can : S → Type 0) → ((s : S) → can s) → (s t : S) (r : Option A) → Takes w number (bits_of s) r (bits_of t)
      → MakesProgress can (λ s. at_most (bits_of s)) s r t
  goes can all s t None e = record { on = λ f. tt; keeps = tt; rests = λ f. tt }
  goes can all s t (Some x) e = record { on = λ f. (all t, tt, e.less); keeps = all t; rests = λ f. tt }

  -- it gives the members as a list: the start of a chain proof
  pub gives : (s : S) → YieldsList (λ s r t. Takes w number (bits_of s) r (bits_of t)) number s (members w (bits_of s))
  gives s =
      YieldsList-from_shown (λ s r t. Takes w number (bits_of s) r (bits_of t)) number (λ s. members w (bits_of s))
      (λ s t e. ap length (members_none w (bits_of s) e.0)) (λ s x t e. members_first w (bits_of s) (number x) (bits_of t) e) s

-- ---- bytes

byte_is : (j n : ℕ) → byte_at j n ≡ n / 256 ^ j % 256
byte_is zero n = omega arith
byte_is (suc j) n = refl

bytes_at : (m a n j : ℕ) → j < m → get_or (bytes_low_first a m n) j 0 ≡ byte_at (a + j) n
bytes_at zero a n j h = absurd (omega arith)
bytes_at (suc m) a n zero h = let e : a + 0 ≡ a = omega arith in rw e refl
bytes_at (suc m) a n (suc j) h = let e : suc a + j ≡ a + suc j = omega arith in let s = bytes_at m (suc a) n j (omega arith) in rw e at s

bytes_long : (a m n : ℕ) → length (bytes_low_first a m n) ≡ m
bytes_long a zero n = refl
bytes_long a (suc m) n = let e = bytes_long (suc a) m n in omega (arith, e)

power : (j : ℕ) → 256 ^ j ≡ 2 ^ (8 * j)
power zero = refl
power (suc j) = let e : 8 * suc j ≡ 8 * j + 8 = omega arith in rw (e, pow-add 2 (8 * j) 8, pow-suc 256 j, power j) refl

low_byte : (x i : ℕ) → i < 8 → bit_at (x % 256) i ≡ bit_at x i
low_byte x i h = let e : x / 256 * 2 ^ 8 + x % 256 ≡ x = omega arith in let c = bit_at_cat_low (x / 256) 8 (x % 256) i h in sym (rw e at c)

pub is_bytes : (m n : ℕ) → IsBytesOf (8 * m) n (bytes_low_first 0 m n)
is_bytes m n = record { long = let e : 8 * m / 8 ≡ m = omega arith in rw e (bytes_long 0 m n); small = λ i. small i (dec_lt i m); bit = λ k h. let e = same k h in (λ p. sym e ∙ p, λ p. e ∙ p) }
  where
    small : (i : ℕ) → Dec (i < m) → get_or (bytes_low_first 0 m n) i 0 < 2 ^ 8
    small i (yes l) = rw (bytes_at m 0 n i l, byte_is (0 + i) n) (omega arith)
    small i (no l) = let z = get_or-eq_default (bytes_low_first 0 m n) 0 {n = i} (omega (arith, bytes_long 0 m n)) in omega (arith, z)

    same : (k : ℕ) → k < 8 * m → bit_at (get_or (bytes_low_first 0 m n) (k / 8) 0) (k % 8) ≡ bit_at n k
    same k h =
        let e : 8 * (k / 8) + k % 8 ≡ k = omega arith in
        let z : 0 + k / 8 ≡ k / 8 = omega arith in
        rw (bytes_at m 0 n (k / 8) (omega arith), z, byte_is (k / 8) n, low_byte (n / 256 ^ (k / 8)) (k % 8) (omega arith), power (k / 8), shr-shr n (8 * (k / 8)) (k % 8), e) refl

pub is_bytes_16 : (n : ℕ) → IsBytesOf 128 n (to_le_bytes w128 n)
is_bytes_16 n = is_bytes 16 n

pub ruleset laws = (tests, is_union, is_intersection, inserts, inserts_if_64, inserts_if_32, inserts_if_none, is_empty, meets, how_many, is_only_128, is_only_64, is_only_32, is_only_none, lowered, lower, minus_128, minus_64, minus_32, takes_lowest_64, takes_lowest_32, is_bytes_16)

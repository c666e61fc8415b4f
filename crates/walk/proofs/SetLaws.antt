-- Laws of sets, and of lists of them.
use Rattle.std.specs.Prelude.{ℕ, List, ◌≡◌, ◌≢◌, ◌↔◌, ◌<◌, ◌≤◌, ◌^◌, length, set}
use Rattle.std.proofs.Common.{sym, ap, ◌∙◌, inr, ⊎_elim, arith, get_or-set_same, get_or-set_other}
use Rattle.std.proofs.Math.Decide.{ℕ_discrete, dec_lt}
use Rattle.std.proofs.Math.ListN.{get_or-eq_default}
use Rattle.std.specs.Int.{bit_at}
use Rattle.std.specs.Int.Bits.{or_add_and}
use Rattle.std.proofs.lemmas.Nat.{and_le_r}
use Rattle.std.specs.Int.RustNames.{bit_or}
use Rattle.std.proofs.lemmas.Nat.Bits.{same_from_bits, bit_at-zero, bit_at-lt, bit_at_above}
use Rattle.kinds.specs.Kinds.{most_states}
use Rattle.sets.specs.Bits.{Has, IsUnion}
use Rattle.sets.proofs.Laws.{is_union}
use Rattle.sets.specs.declared.states.StateSet.{StateSet}
use Rattle.sets.specs.Rows.{no_states}
use Rattle.sets.specs.Relations.{states_at}

-- the empty set
pub none_has : (i : ℕ) → Has 0 i → ⊥
none_has i p = let z = bit_at-zero i in absurd (omega arith)

-- sets with the same members are one number
pub same_sets : (a b : ℕ) → ((i : ℕ) → Has a i ↔ Has b i) → a ≡ b
same_sets a b same = same_from_bits a b (λ i. side i (ℕ_discrete (bit_at a i) 1) (ℕ_discrete (bit_at b i) 1))
  where
    side : (i : ℕ) → Dec (bit_at a i ≡ 1) → Dec (bit_at b i ≡ 1) → bit_at a i ≡ bit_at b i
    side i (yes p) d = p ∙ sym ((same i).0 p)
    side i (no p) (yes q) = absurd (p ((same i).1 q))
    side i (no p) (no q) = let x = bit_at-lt a i in let y = bit_at-lt b i in omega arith

-- a union is no less, as a number
pub union_more : (m n r : ℕ) → IsUnion m n r → m ≤ r
union_more m n r u =
    let v = is_union m n in
    let e = same_sets r (bit_or m n) (λ i. (λ p. (v.member i).1 ((u.member i).0 p), λ p. (u.member i).1 ((v.member i).0 p))) in
    omega (arith, e, or_add_and m n, and_le_r m n)

-- a set in a list, after a store
pub states_at-set_same : (l : List StateSet) (x : ℕ) (v : StateSet) → x < length l → states_at (set l x v) x ≡ v.0
states_at-set_same l x v h = ap (λ (s : StateSet). s.0) (get_or-set_same l x v no_states h)

pub states_at-set_other : (l : List StateSet) (x i : ℕ) (v : StateSet) → i ≢ x → states_at (set l x v) i ≡ states_at l i
states_at-set_other l x i v ne = ap (λ (s : StateSet). s.0) (get_or-set_other l x i v no_states ne)

-- past the end no set has a member
pub past_end : (l : List StateSet) (k : ℕ) → length l ≤ k → states_at l k ≡ 0
past_end l k h = ap (λ (s : StateSet). s.0) (get_or-eq_default l no_states {n = k} (omega arith))

pub within_row : (n : ℕ) (l : List StateSet) (k t : ℕ) → length l ≡ n → Has (states_at l k) t → k < n
within_row n l k t e p = side (dec_lt k n)
  where
    side : Dec (k < n) → k < n
    side (yes h) = h
    side (no h) = absurd (none_has t (rw (past_end l k (omega arith)) at p))

-- a set of states has no member past the last
pub low_member : (m t : ℕ) → m < 2 ^ most_states → Has m t → t < most_states
low_member m t small p = side (dec_lt t most_states)
  where
    side : Dec (t < most_states) → t < most_states
    side (yes l) = l
    side (no l) = absurd (omega (arith, p, bit_at_above m most_states t small (omega arith)))

-- each set of a row that has a set for each state is a number of that width, where those below the last are
pub small_row : (row : List StateSet) (n : ℕ) → length row ≡ most_states → ((t : ℕ) → t < n → states_at row t < 2 ^ most_states)
    → most_states ≤ n → (t : ℕ) → states_at row t < 2 ^ most_states
small_row row n long small m t = side (dec_lt t n)
  where
    side : Dec (t < n) → states_at row t < 2 ^ most_states
    side (yes l) = small t l
    side (no l) = omega (arith, past_end row t (omega arith))

-- a set with the members of another one is no less, as a number
pub as_number : (m r : ℕ) → ((t : ℕ) → Has m t → Has r t) → m ≤ r
as_number m r keeps =
    let v = is_union m r in
    let e = same_sets r (bit_or m r) (λ i. (λ p. (v.member i).1 (inr p), λ p. ⊎_elim (λ q. keeps i q) (λ q. q) ((v.member i).0 p))) in
    omega (arith, e, or_add_and m r, and_le_r m r)

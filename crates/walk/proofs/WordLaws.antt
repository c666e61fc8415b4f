-- One word stored, and how much is left to do.
use Rattle.std.specs.Prelude.{◌≡◌, List, [], ◌∷◌, ℕ, suc, ◌+◌, ◌*◌, ◌^◌, ◌<◌, ◌≤◌, length, set, slice_index, slice_index_or}
use Rattle.std.specs.List.{sum_by}
use Rattle.std.proofs.Common.{ap, ◌∙◌, arith, mul-suc, mul_comm, length-set, get_or-set_same, get_or-set_other}
use Rattle.std.proofs.lemmas.List.Sums.{sum_by-set, sum_by-cons}
use Rattle.std.proofs.Math.Decide.{ℕ_discrete}
use Rattle.kinds.specs.Kinds.{most_states}
use Rattle.sets.specs.Bits.{state_width}
use Rattle.sets.specs.declared.states.StateSet.{StateSet}
use Rattle.walk.specs.declared.multi.MultiWalk.{MultiWalk}
use Rattle.sets.specs.Rows.{no_states}
use Rattle.sets.specs.Relations.{states_at}
use Rattle.walk.specs.Sources.{most_sources, word_at}
use Rattle.walk.specs.MultiWalks.{row_total, words_total, sets_total, most_words, most_sets, left, Ready}

pub both : {A B : Type 0} → Dec A → Dec B → Dec (A × B)
both (yes a) (yes b) = yes (a, b)
both (yes a) (no n) = no (λ p. n p.1)
both (no n) d = no (λ p. n p.0)

module _ (words : List (List ℕ)) (b t v : ℕ) where
  abbrev row : List ℕ
  row = slice_index_or words b []

  abbrev pub stored : List (List ℕ)
  stored = set words b (set row t v)

  module _ (wide : b < length words) where
    at_row : slice_index_or stored b [] ≡ set row t v
    at_row = get_or-set_same words b (set row t v) [] wide

    pub stored_other : (y u : ℕ) → ((y ≡ b) × (u ≡ t) → ⊥) → word_at stored y u ≡ word_at words y u
    stored_other y u ne = side (ℕ_discrete y b)
      where
        side : Dec (y ≡ b) → word_at stored y u ≡ word_at words y u
        side (yes e) = rw (e, at_row) (get_or-set_other row t u v 0 (λ q. ne (e, q)))
        side (no n) = ap (λ (r : List ℕ). slice_index r u) (get_or-set_other words b y (set row t v) [] n)

    pub stored_long : (n y : ℕ) → length (slice_index_or words y []) ≡ n → length (slice_index_or stored y []) ≡ n
    stored_long n y h = side (ℕ_discrete y b)
      where
        side : Dec (y ≡ b) → length (slice_index_or stored y []) ≡ n
        side (yes e) = rw (e, at_row) (length-set row t v ∙ rw e at h)
        side (no m) = rw (get_or-set_other words b y (set row t v) [] m) h

    module _ (long : t < length row) where
      pub stored_here : word_at stored b t ≡ v
      stored_here = rw at_row (get_or-set_same row t v 0 long)

      pub stored_total : words_total stored + word_at words b t ≡ words_total words + v
      stored_total =
          let p = sum_by-set row_total words b (set row t v) [] wide in
          let q = sum_by-set (λ (n : ℕ). n) row t v 0 long in
          omega (arith, p, q)

-- a sum of bounded numbers is bounded
module _ {A : Type 0} (f : A → ℕ) (d : A) (n : ℕ) where
  sum_most : (l : List A) → ((i : ℕ) → i < length l → f (slice_index_or l i d) ≤ n) → sum_by f l ≤ length l * n
  sum_most [] h = omega arith
  sum_most (x ∷ l) h =
      let k : f x ≤ n = h 0 (omega arith) in
      let r = sum_most l (λ i p. h (suc i) (omega arith)) in
      omega (arith, sum_by-cons f x l, mul-suc n (length l), mul_comm n (length l), mul_comm n (suc (length l)))

words_bound : (w : MultiWalk) → Ready w → words_total w.words ≤ most_words
words_bound w r = let e = r.wide in let k = sum_most row_total [] (most_states * 2 ^ most_sources) w.words each in rw e at k
  where
    each : (i : ℕ) → i < length w.words → row_total (slice_index_or w.words i []) ≤ most_states * 2 ^ most_sources
    each i h =
        let v = r.wide in
        let e = r.long i (omega arith) in
        let k = sum_most (λ (n : ℕ). n) 0 (2 ^ most_sources) (slice_index_or w.words i []) (λ t l. let f = r.fits i t in omega arith) in
        rw e at k

sets_bound : (w : MultiWalk) → Ready w → sets_total w.behind < most_sets
sets_bound w r =
    let e = r.many in
    let k = sum_most (λ (x : StateSet). x.0) no_states (2 ^ state_width) w.behind (λ i l. let f = r.small i in omega arith) in
    let l = rw e at k in
    omega arith

-- a mark more
pub left_marked : (old new : MultiWalk) → Ready new → words_total old.words < words_total new.words → left new ≤ left old
unfolding left
left_marked old new r h = omega (arith, words_bound new r, sets_bound new r)

-- or one set is less
pub left_less : (w : MultiWalk) (a : ℕ) (v : StateSet) → a < length w.behind → v.0 < states_at w.behind a
    → left (record { words = w.words; behind = set w.behind a v; full = w.full; all = w.all }) < left w
unfolding left
left_less w a v l h = omega (arith, sum_by-set (λ (x : StateSet). x.0) w.behind a v no_states l)

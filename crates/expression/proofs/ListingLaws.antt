-- The loops that list steps and final states, and what stands in the lists.
use Rattle.std.specs.Prelude.{◌≡◌, refl, ◌⊎◌, Bool, true, false, List, [], ◌∷◌, ◌++◌, map, flat_map, take, set, length, ℕ, zero, suc, ◌+◌, ◌/◌, ◌%◌, ◌<◌}
use Rattle.std.proofs.Common.{sym, ap, ap₂, ◌∙◌, inl, inr, ⊎_elim, arith, add-one, append-nil}
use Rattle.std.proofs.lemmas.Grind.{flat_map-append}
use Rattle.std.proofs.lemmas.List.{map-append, take_more_set}
use Rattle.std.proofs.Math.Decide.{ℕ_discrete}
use mathlib.Core.List.Memᴰ
use Rattle.kinds.specs.declared.State.{State}
use Rattle.kinds.specs.Kinds.{most_states, state}
use Rattle.laws.specs.Member.{◌∈◌}
use Rattle.laws.specs.Search.{pick}
use Rattle.laws.specs.Truth.{test-fails}
use Rattle.meaning.specs.Collection.{Step}
use Rattle.sets.specs.Bits.{has, Has}
use Rattle.sets.specs.Rows.{state_marks}
use Rattle.sets.specs.declared.states.StateSet.{StateSet}
use Rattle.sets.proofs.RowLaws.{has_fact}
use Rattle.expression.specs.Parts.{InRow}
use Rattle.expression.specs.Listed.{step_numbers, final_number, step_rank, Rises, empty, begins}
use Rattle.expression.specs.Listing.{step_of, listed_below, steps_below, finals_below}

module _ {A : Type 0} (p : ℕ → Bool) (x : ℕ → A) where
  -- one number more, which passes or not
  more-on : (k : ℕ) → p k ≡ true → listed_below p x (k + 1) ≡ listed_below p x k ++ (x k ∷ [])
  unfolding listed_below
  more-on k e = ap (listed_below p x) (add-one k) ∙ ap (λ (b : Bool). listed_below p x k ++ pick b (x k ∷ []) []) e

  more-off : (k : ℕ) → p k ≡ false → listed_below p x (k + 1) ≡ listed_below p x k
  unfolding listed_below
  more-off k e =
      ap (listed_below p x) (add-one k) ∙ ap (λ (b : Bool). listed_below p x k ++ pick b (x k ∷ []) []) e ∙ append-nil (listed_below p x k)

  -- what stands in the list
  sound : (i : ℕ) (s : A) → s ∈ listed_below p x i → (k : ℕ) × (k < i) × (p k ≡ true) × (s ≡ x k)
  unfolding listed_below
  sound zero s m = absurd (Memᴰ.not-nil m)
  sound (suc i) s m = side (p i) refl (Memᴰ.append_cases (listed_below p x i) m) (sound i s)
    where
      side : (b : Bool) → p i ≡ b → (s ∈ listed_below p x i) ⊎ (s ∈ pick b (x i ∷ []) [])
          → (s ∈ listed_below p x i → (k : ℕ) × (k < i) × (p k ≡ true) × (s ≡ x k)) → (k : ℕ) × (k < suc i) × (p k ≡ true) × (s ≡ x k)
      side b e (inl k) r = let w = r k in let l = w.1 in (w.0, omega arith, w.2, w.3)
      side true e (inr k) r = ⊎_elim (λ q. (i, omega arith, e, q)) (λ n. absurd (Memᴰ.not-nil n)) (Memᴰ.cases_cons k)
      side false e (inr k) r = absurd (Memᴰ.not-nil k)

  full : (i k : ℕ) → k < i → p k ≡ true → x k ∈ listed_below p x i
  unfolding listed_below
  full zero k h o = absurd (omega arith)
  full (suc i) k h o =
      elim (ℕ_discrete k i) [
        | yes z ↦ Memᴰ.append_right (listed_below p x i) (rw (← z, o) (Memᴰ.head refl))
        | no z ↦ Memᴰ.append_left (pick (p i) (x i ∷ []) []) (full i k (omega arith) o)
      ]

-- lists that rise
module _ {A : Type 0} (rank : A → ℕ) where
  pub rises-snoc : {l : List A} {x : A} → Rises rank l → ((y : A) → y ∈ l → rank y < rank x) → Rises rank (l ++ (x ∷ []))
  rises-snoc empty h = begins (λ y m. absurd (Memᴰ.not-nil m)) empty
  rises-snoc {x = x} (begins {x = z} {l = l} f r) h =
      begins (λ y m. ⊎_elim (λ k. f y k) (λ k. ⊎_elim (λ e. rw e (h z (Memᴰ.head refl))) (λ n. absurd (Memᴰ.not-nil n)) (Memᴰ.cases_cons k)) (Memᴰ.append_cases l m))
      (rises-snoc r (λ y m. h y (Memᴰ.tail m)))

  within : {x y : A} {l m : List A} → ((z : A) → z ∈ (x ∷ l) → z ∈ (y ∷ m)) → x ≡ y → ((z : A) → z ∈ l → rank x < rank z) → (z : A) → z ∈ l → z ∈ m
  within {x = x} h e f z k =
      ⊎_elim (λ q. absurd (let a = f z k in let b : rank z ≡ rank x = ap rank (q ∙ sym e) in omega arith)) (λ q. q) (Memᴰ.cases_cons (h z (Memᴰ.tail k)))

  -- THEOREM: lists that rise and have the same members are one
  pub rises-once : (l m : List A) → Rises rank l → Rises rank m → ((x : A) → x ∈ l → x ∈ m) → ((x : A) → x ∈ m → x ∈ l) → l ≡ m
  rises-once [] [] r s to from = refl
  rises-once [] (y ∷ m) r s to from = absurd (Memᴰ.not-nil (from y (Memᴰ.head refl)))
  rises-once (x ∷ l) [] r s to from = absurd (Memᴰ.not-nil (to x (Memᴰ.head refl)))
  rises-once (x ∷ l) (y ∷ m) (begins f r) (begins g s) to from =
      let e = same (Memᴰ.cases_cons (to x (Memᴰ.head refl))) (Memᴰ.cases_cons (from y (Memᴰ.head refl))) in
      ap₂ ◌∷◌ e (rises-once l m r s (within to e f) (within from (sym e) g))
    where
      same : (x ≡ y) ⊎ (x ∈ m) → (y ≡ x) ⊎ (y ∈ l) → x ≡ y
      same (inl e) k = e
      same (inr i) (inl e) = sym e
      same (inr i) (inr k) = absurd (let a = g x i in let b = f y k in omega arith)

  -- so does what is listed, where what stands at a higher number has a higher rank
  listed-rise : (p : ℕ → Bool) (x : ℕ → A) → ((j k : ℕ) → j < k → rank (x j) < rank (x k)) → (i : ℕ) → Rises rank (listed_below p x i)
  unfolding listed_below
  listed-rise p x up zero = empty
  listed-rise p x up (suc i) = side (p i) (listed-rise p x up i)
    where
      side : (b : Bool) → Rises rank (listed_below p x i) → Rises rank (listed_below p x i ++ pick b (x i ∷ []) [])
      side true r = rises-snoc r (λ y m. let w = sound p x i y m in rw w.3 (up w.0 i w.1))
      side false r = rw (append-nil (listed_below p x i)) r

-- the loop over places, and the steps that it lists
module _ (rows : List StateSet) (letters : List ℕ) where
  abbrev at_place : ℕ → Bool
  at_place p = state_marks rows (p / most_states) (p % most_states)

  pub steps_none : [] ≡ flat_map step_numbers (steps_below rows letters 0)
  unfolding listed_below
  steps_none = refl

  pub steps_on : (p : ℕ) → InRow rows (p / most_states) (p % most_states) → {t u v : List ℕ} → t ≡ flat_map step_numbers (steps_below rows letters p)
      → u ≡ step_numbers (step_of letters p) → v ≡ t ++ u → v ≡ flat_map step_numbers (steps_below rows letters (p + 1))
  steps_on p h {t} {u} {v} x y z =
      z ∙ ap₂ ◌++◌ x (y ∙ sym (append-nil (step_numbers (step_of letters p))))
      ∙ sym (flat_map-append step_numbers (steps_below rows letters p) (step_of letters p ∷ []))
      ∙ ap (flat_map step_numbers) (sym (more-on at_place (step_of letters) p ((has_fact _ _).1 h)))

  pub steps_off : (p : ℕ) → (InRow rows (p / most_states) (p % most_states) → ⊥) → {t : List ℕ} → t ≡ flat_map step_numbers (steps_below rows letters p)
      → t ≡ flat_map step_numbers (steps_below rows letters (p + 1))
  steps_off p h x = x ∙ ap (flat_map step_numbers) (sym (more-off at_place (step_of letters) p (test-fails (has_fact _ _) h)))

  pub steps-sound : (i : ℕ) (s : Step) → s ∈ steps_below rows letters i
      → (p : ℕ) × (p < i) × InRow rows (p / most_states) (p % most_states) × (s ≡ step_of letters p)
  steps-sound i s m = let w = sound at_place (step_of letters) i s m in (w.0, w.1, (has_fact _ _).0 w.2, w.3)

  pub steps-full : (i p : ℕ) → p < i → InRow rows (p / most_states) (p % most_states) → step_of letters p ∈ steps_below rows letters i
  steps-full i p h o = full at_place (step_of letters) i p h ((has_fact _ _).1 o)

  pub steps-rise : (i : ℕ) → Rises step_rank (steps_below rows letters i)
  steps-rise = listed-rise step_rank at_place (step_of letters) (λ j k l. omega arith)

-- the loop over states, and those that it lists
module _ (m : StateSet) where
  pub finals_none : [] ≡ map final_number (finals_below m 0)
  unfolding listed_below
  finals_none = refl

  pub finals_on : (k : ℕ) → Has m.0 k → (out : List ℕ) (used : ℕ) → used < length out → take used out ≡ map final_number (finals_below m k)
      → take (used + 1) (set out used k) ≡ map final_number (finals_below m (k + 1))
  finals_on k h out used l x =
      take_more_set out used k l ∙ ap (λ (t : List ℕ). t ++ (k ∷ [])) x ∙ sym (map-append final_number (finals_below m k) (state k ∷ []))
      ∙ ap (map final_number) (sym (more-on (has m.0) state k ((has_fact m.0 k).1 h)))

  pub finals_off : (k : ℕ) → (Has m.0 k → ⊥) → {t : List ℕ} → t ≡ map final_number (finals_below m k)
      → t ≡ map final_number (finals_below m (k + 1))
  finals_off k h x = x ∙ ap (map final_number) (sym (more-off (has m.0) state k (test-fails (has_fact m.0 k) h)))

  pub finals-sound : (i : ℕ) (s : State) → s ∈ finals_below m i → (s.0 < i) × Has m.0 s.0
  finals-sound i s n =
      let w = sound (has m.0) state i s n in
      let e : w.0 ≡ s.0 = sym (ap final_number w.3) in
      let f = (has_fact m.0 w.0).0 w.2 in
      (rw e at w.1, rw e at f)

  pub finals-full : (i : ℕ) (s : State) → s.0 < i → Has m.0 s.0 → s ∈ finals_below m i
  finals-full i s h o = full (has m.0) state i s.0 h ((has_fact m.0 s.0).1 o)

  pub finals-rise : (i : ℕ) → Rises final_number (finals_below m i)
  finals-rise = listed-rise final_number (has m.0) state (λ j k l. l)

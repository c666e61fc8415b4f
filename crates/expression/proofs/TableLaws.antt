-- A table of the numbers of some steps, or final states, has these as its records.
use Rattle.std.specs.Prelude.{◌≡◌, refl, List, [], ◌∷◌, ◌++◌, map, flat_map, length, ℕ, suc, ◌+◌, ◌*◌, ◌/◌, slice_index}
use Rattle.std.proofs.Common.{sym, ap, ap₂, ◌∙◌, arith, append_assoc, length-append}
use Rattle.std.proofs.lemmas.List.{length-map, get_or-append-add}
use Rattle.kinds.specs.declared.State.{State}
use Rattle.kinds.specs.Kinds.{state}
use Rattle.laws.specs.Numbers.{upto, numbered}
use Rattle.meaning.specs.Collection.{role, test, Step, step}
use Rattle.meaning.specs.Lent.{records, field, step_width, step_at, final_width, final_at}
use Rattle.expression.specs.Listed.{step_numbers, final_number}

pub length-steps : (l : List Step) → length (flat_map step_numbers l) ≡ 4 * length l
length-steps [] = refl
length-steps (step s (role S) t ∷ l) = let e = length-steps l in omega arith
length-steps (step s (test A) t ∷ l) = let e = length-steps l in omega arith

-- the record after so many whole ones
module _ (v : List ℕ) (i : ℕ) (r : List ℕ) (e : length v ≡ 4 * i) where
  read : (j : ℕ) → field step_width (v ++ r) j i ≡ slice_index r j
  read j = let z : 4 * i + j ≡ length v + j = omega arith in rw z (get_or-append-add v r j 0)

next-step : (v : List ℕ) (i : ℕ) (x : Step) (l : List ℕ) → length v ≡ 4 * i → step_at (v ++ (step_numbers x ++ l)) i ≡ x
next-step v i (step s (role S) t) l e = rw (read v i (step_numbers (step s (role S) t) ++ l) e 0, read v i (step_numbers (step s (role S) t) ++ l) e 1, read v i (step_numbers (step s (role S) t) ++ l) e 2, read v i (step_numbers (step s (role S) t) ++ l) e 3) refl
next-step v i (step s (test A) t) l e = rw (read v i (step_numbers (step s (test A) t) ++ l) e 0, read v i (step_numbers (step s (test A) t) ++ l) e 1, read v i (step_numbers (step s (test A) t) ++ l) e 2, read v i (step_numbers (step s (test A) t) ++ l) e 3) refl

pub length-step : (x : Step) → length (step_numbers x) ≡ 4
length-step (step s (role S) t) = refl
length-step (step s (test A) t) = refl

steps-from : (v : List ℕ) (i : ℕ) (l : List Step) → length v ≡ 4 * i → map (step_at (v ++ flat_map step_numbers l)) (upto (length l) i) ≡ l
unfolding upto
steps-from v i [] e = refl
steps-from v i (x ∷ l) e =
    let f = length-step x in
    ap₂ ◌∷◌ (next-step v i x (flat_map step_numbers l) e)
    (
    ap (λ (t : List ℕ). map (step_at t) (upto (length l) (suc i))) (sym (append_assoc v (step_numbers x) (flat_map step_numbers l)))
    ∙ steps-from (v ++ step_numbers x) (suc i) l (omega (arith, length-append v (step_numbers x)))
    )

pub steps-back : (l : List Step) → records step_width step_at (flat_map step_numbers l) ≡ l
unfolding records numbered
steps-back l =
    let e : length (flat_map step_numbers l) / 4 ≡ length l = omega (arith, length-steps l) in
    ap (λ (n : ℕ). map (step_at (flat_map step_numbers l)) (upto n 0)) e ∙ steps-from [] 0 l refl

finals-from : (v : List ℕ) (i : ℕ) (l : List State) → length v ≡ i → map (final_at (v ++ map final_number l)) (upto (length l) i) ≡ l
unfolding upto
finals-from v i [] e = refl
finals-from v i (x ∷ l) e =
    ap₂ ◌∷◌ first
    (
    ap (λ (t : List ℕ). map (final_at t) (upto (length l) (suc i))) (sym (append_assoc v (x.0 ∷ []) (map final_number l)))
    ∙ finals-from (v ++ (x.0 ∷ [])) (suc i) l (omega (arith, length-append v (x.0 ∷ [])))
    )
  where
    first : final_at (v ++ (x.0 ∷ map final_number l)) i ≡ x
    first =
        let z : 1 * i + 0 ≡ length v + 0 = omega arith in
        let y : field final_width (v ++ (x.0 ∷ map final_number l)) 0 i ≡ x.0 = rw z (get_or-append-add v (x.0 ∷ map final_number l) 0 0) in
        ap state y

pub finals-back : (l : List State) → records final_width final_at (map final_number l) ≡ l
unfolding records numbered
finals-back l =
    let e : length (map final_number l) / 1 ≡ length l = omega (arith, length-map l final_number) in
    ap (λ (n : ℕ). map (final_at (map final_number l)) (upto n 0)) e ∙ finals-from [] 0 l refl

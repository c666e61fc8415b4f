-- The rows of a question's tables are its steps and its final states.
use Rattle.std.specs.Prelude.{◌≡◌, refl, ℕ, zero, suc, ◌*◌, ◌/◌, ◌<◌, ◌≤◌, length, take, drop, get_or}
use Rattle.std.proofs.Common.{sym, ◌∙◌, get_or-drop, length-drop, arith}
use mathlib.Core.List.{List, [], ◌∷◌}
use Rattle.laws.specs.Member.{◌∈◌}
use Rattle.laws.specs.Numbers.{numbered-in, numbered-out}
use Rattle.kinds.specs.declared.State.{State}
use Rattle.kinds.specs.Kinds.{state}
use Rattle.meaning.specs.Collection.{Step, step}
use Rattle.meaning.specs.Lent.{records, field, letter_of, step_kind, step_at, final_at, step_width, final_width}
use Rattle.sorted.specs.Rows.{rows}
use Rattle.sorted.proofs.Chunks.{row_at, chunk_in, chunk-out}
use Rattle.expression.specs.Listed.{Listed, steps_of, finals_of, step_numbers}
use Rattle.expression.specs.Fits.{FitsTables}

-- the first numbers of a list
first-four : (t : List ℕ) → 4 ≤ length t → take 4 t ≡ get_or t 0 0 ∷ get_or t 1 0 ∷ get_or t 2 0 ∷ get_or t 3 0 ∷ []
first-four [] h = absurd (omega arith)
first-four (a ∷ []) h = absurd (omega arith)
first-four (a ∷ b ∷ []) h = absurd (omega arith)
first-four (a ∷ b ∷ c ∷ []) h = absurd (omega arith)
first-four (a ∷ b ∷ c ∷ d ∷ t) h = refl

first-one : (t : List ℕ) → 1 ≤ length t → take 1 t ≡ get_or t 0 0 ∷ []
first-one [] h = absurd (omega arith)
first-one (a ∷ t) h = refl

four : (t : List ℕ) (k : ℕ) → k < length t / 4
    → row_at 4 t k ≡ field 4 t 0 k ∷ field 4 t 1 k ∷ field 4 t 2 k ∷ field 4 t 3 k ∷ []
four t k h =
    let d = 4 * k in
    let long : 4 ≤ length (drop d t) = omega (arith, length-drop d t) in
    let at : (j : ℕ) → get_or (drop d t) j 0 ≡ field 4 t j k = λ j. get_or-drop d t j 0 in
    rw (first-four (drop d t) long, at 0, at 1, at 2, at 3) refl

one : (t : List ℕ) (k : ℕ) → k < length t / 1 → row_at 1 t k ≡ field 1 t 0 k ∷ []
one t k h =
    let d = 1 * k in
    let long : 1 ≤ length (drop d t) = omega (arith, length-drop d t) in
    let at : (j : ℕ) → get_or (drop d t) j 0 ≡ field 1 t j k = λ j. get_or-drop d t j 0 in
    rw (first-one (drop d t) long, at 0) refl

-- a step has the numbers that it is read of
step-back : (kind s x t : ℕ) → kind ≤ 1 → step_numbers (step (state s) (letter_of kind x) (state t)) ≡ kind ∷ s ∷ x ∷ t ∷ []
step-back zero s x t h = refl
step-back (suc zero) s x t h = refl
step-back (suc (suc kind)) s x t h = absurd (omega arith)

module _ (q : Listed) (f : FitsTables q) where
  step-row : (k : ℕ) → k < length q.steps / step_width → row_at step_width q.steps k ≡ step_numbers (step_at q.steps k)
  unfolding records
  step-row k h =
      four q.steps k h
      ∙ sym (step-back _ _ _ _ (f.step_kinds (step_kind q.steps k) (numbered-in (step_kind q.steps) (length q.steps / step_width) k h)))

  pub row-of-step : (s : Step) → s ∈ steps_of q → step_numbers s ∈ rows step_width q.steps
  unfolding records
  row-of-step s m =
      let w = numbered-out (step_at q.steps) (length q.steps / step_width) m in
      rw (w.2, ← step-row w.0 w.1) (chunk_in step_width (length q.steps / step_width) q.steps w.0 w.1)

  pub step-of-row : (r : List ℕ) → r ∈ rows step_width q.steps → (s : Step) × (s ∈ steps_of q) × (r ≡ step_numbers s)
  unfolding records
  step-of-row r m =
      let w = chunk-out step_width (length q.steps / step_width) q.steps m in (
        step_at q.steps w.0,
        numbered-in (step_at q.steps) (length q.steps / step_width) w.0 w.1,
        w.2 ∙ step-row w.0 w.1,
      )

module _ (q : Listed) where
  final-row : (k : ℕ) → k < length q.finals / final_width → row_at final_width q.finals k ≡ (final_at q.finals k).0 ∷ []
  final-row k h = one q.finals k h

  pub row-of-final : (s : State) → s ∈ finals_of q → (s.0 ∷ []) ∈ rows final_width q.finals
  unfolding records
  row-of-final s m =
      let w = numbered-out (final_at q.finals) (length q.finals / final_width) m in
      rw (w.2, ← final-row w.0 w.1) (chunk_in final_width (length q.finals / final_width) q.finals w.0 w.1)

  pub final-of-row : (r : List ℕ) → r ∈ rows final_width q.finals → (s : State) × (s ∈ finals_of q) × (r ≡ s.0 ∷ [])
  unfolding records
  final-of-row r m =
      let w = chunk-out final_width (length q.finals / final_width) q.finals m in (
        final_at q.finals w.0,
        numbered-in (final_at q.finals) (length q.finals / final_width) w.0 w.1,
        w.2 ∙ final-row w.0 w.1,
      )

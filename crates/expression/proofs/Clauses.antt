-- What follows from the answer to a row: its clauses, and that a row has one answer.
use Rattle.kinds.specs.declared.Ask.TheVariants.{Pair, From}
use Rattle.std.specs.Prelude.{◌≡◌, refl, ◌↔◌, List, map, flat_map, ℕ, ◌+◌, Result, Ok, Err, IsOk, IfOk}
use Rattle.std.proofs.Common.{sym, ap, ◌∙◌, arith}
use Rattle.laws.specs.Member.{◌∈◌}
use Rattle.meaning.specs.Collection.{Step, step}
use Rattle.expression.specs.Tree.{Tree}
use Rattle.expression.specs.Depth.{TooDeep}
use Rattle.expression.specs.Automaton.{IsAutomaton}
use Rattle.expression.specs.Listed.{Listed, Lists, steps_of, finals_of, step_numbers, final_number, step_rank}
use Rattle.expression.specs.Answer.{IsNoExpression, HasMarks, HasTooManyMarks, HasAutomaton, IsAutomatonOf, ReadsItsWords, AsksForIt}
use Rattle.expression.specs.Answered.{Answered, too_deep, no_expression, too_many, answered}
use Rattle.expression.specs.declared.listed.Refusal.{Refusal}
use Rattle.expression.specs.declared.listed.Refusal.TheVariants as refusal
use Rattle.expression.proofs.Words.{same-words}
use Rattle.expression.proofs.Once.{is-once, expression-numbered}
use Rattle.expression.specs.Fits.{FitsTables, NeedsMarks}
use Rattle.expression.proofs.ListingLaws.{rises-once}
use Rattle.expression.proofs.FitsLaws.{fits-tables, needs-marks}

module _ {row : List ℕ} where
  -- a row has one number of marks
  pub one-count : {n m : ℕ} → HasMarks row n → HasMarks row m → n ≡ m
  one-count x y = (is-once x.is y.is).1

  few-or-many : {n : ℕ} → HasAutomaton row → HasTooManyMarks row n → ⊥
  few-or-many x y = let a = x.few in let b = y.more in let e = one-count x.marks y.marks in omega arith

  -- THEOREM: the words of its automaton are exactly those of the row's expression
  pub its-words : (a : Listed) → IsAutomatonOf row a → ReadsItsWords row a
  its-words a x e m i 𝓒 asks =
      let z = (is-once x.is i).0 in
      let l = x.lists in
      let are = (rw z at l).are in
      let p = asks.steps in
      let q = asks.finals in
      let b : IsAutomaton e 𝓒.steps 𝓒.finals = rw (p, q) are in
      same-words 𝓒 e b (expression-numbered i.reads) asks.start

  pub it-asks : (a : Listed) → IsAutomatonOf row a → AsksForIt row a
  it-asks a x e m i 𝓒 asks (Pair first second) =
      let w = its-words a x e m i 𝓒 asks in
      (λ s. (s.0, (w s.0).0 s.1, s.2), λ s. (s.0, (w s.0).1 s.1, s.2))
  it-asks a x e m i 𝓒 asks (From first) =
      let w = its-words a x e m i 𝓒 asks in
      (λ s. (s.0, (w s.0).0 s.1, s.2, s.3), λ s. (s.0, (w s.0).1 s.1, s.2, s.3))

  -- the clauses
  pub says-ok : {r : Result Listed Refusal} → Answered row r → IsOk r ↔ HasAutomaton row
  says-ok (too_deep d) = (λ h. cc, λ h. absurd (h.marks.shallow d))
  says-ok (no_expression n) = (λ h. cc, λ h. absurd (n.none 8 h.marks.tree h.count h.marks.is.reads))
  says-ok (too_many n t) = (λ h. cc, λ h. absurd (few-or-many h t))
  says-ok (answered a h x) = (λ _. h, λ _. refl)

  pub says-automaton : {r : Result Listed Refusal} → Answered row r → IfOk r (IsAutomatonOf row)
  says-automaton (too_deep d) = search
  says-automaton (no_expression n) = search
  says-automaton (too_many n t) = search
  says-automaton (answered a h x) = search

  pub says-words : {r : Result Listed Refusal} → Answered row r → IfOk r (ReadsItsWords row)
  says-words (too_deep d) = search
  says-words (no_expression n) = search
  says-words (too_many n t) = search
  says-words (answered a h x) = let w = its-words a x in search

  pub says-asks : {r : Result Listed Refusal} → Answered row r → IfOk r (AsksForIt row)
  says-asks (too_deep d) = search
  says-asks (no_expression n) = search
  says-asks (too_many n t) = search
  says-asks (answered a h x) = let w = it-asks a x in search

  pub says-fits : {r : Result Listed Refusal} → Answered row r → IfOk r FitsTables
  says-fits (too_deep d) = search
  says-fits (no_expression n) = search
  says-fits (too_many n t) = search
  says-fits (answered a h x) = let w = fits-tables a x in search

  pub says-declared : {r : Result Listed Refusal} → Answered row r → IfOk r (NeedsMarks row)
  says-declared (too_deep d) = search
  says-declared (no_expression n) = search
  says-declared (too_many n t) = search
  says-declared (answered a h x) = let w = needs-marks a x in search

  pub says-too-deep : {r : Result Listed Refusal} → Answered row r → (r ≡ Err refusal.TooDeep) ↔ TooDeep row
  says-too-deep (too_deep d) = (λ h. d, λ h. refl)
  says-too-deep (no_expression n) = (λ h. cc, λ h. absurd (n.shallow h))
  says-too-deep (too_many n t) = (λ h. cc, λ h. absurd (t.marks.shallow h))
  says-too-deep (answered a h x) = (λ e. cc, λ d. absurd (h.marks.shallow d))

  pub says-no-expression : {r : Result Listed Refusal} → Answered row r → (r ≡ Err refusal.NoExpression) ↔ IsNoExpression row
  says-no-expression (too_deep d) = (λ h. cc, λ h. absurd (h.shallow d))
  says-no-expression (no_expression n) = (λ h. n, λ h. refl)
  says-no-expression (too_many n t) = (λ h. cc, λ h. absurd (h.none 8 t.marks.tree n t.marks.is.reads))
  says-no-expression (answered a h x) = (λ e. cc, λ n. absurd (n.none 8 h.marks.tree h.count h.marks.is.reads))

  pub says-too-many : {r : Result Listed Refusal} → Answered row r → (n : ℕ) → (r ≡ Err (refusal.TooManyMarks n)) ↔ HasTooManyMarks row n
  says-too-many (too_deep d) m = (λ h. cc, λ h. absurd (h.marks.shallow d))
  says-too-many (no_expression n) m = (λ h. cc, λ h. absurd (n.none 8 h.marks.tree m h.marks.is.reads))
  says-too-many (too_many n t) m = (λ h. let e : n ≡ m = cc in rw e at t, λ h. let e = one-count t.marks h.marks in rw e refl)
  says-too-many (answered a h x) m = (λ e. cc, λ t. absurd (few-or-many h t))

-- tables of one expression are the same numbers
lists-once : {e : Tree} (a b : Listed) → Lists e a → Lists e b → (a.steps ≡ b.steps) × (a.finals ≡ b.finals)
lists-once {e} a b x y =
    let p = rises-once step_rank (steps_of a) (steps_of b) x.steps_rise y.steps_rise (to a b x y) (to b a y x) in
    let q = rises-once final_number (finals_of a) (finals_of b) x.finals_rise y.finals_rise (λ t m. (y.are.finals t).1 ((x.are.finals t).0 m)) (λ t m. (x.are.finals t).1 ((y.are.finals t).0 m)) in
    (x.steps_only ∙ ap (flat_map step_numbers) p ∙ sym y.steps_only, x.finals_only ∙ ap (map final_number) q ∙ sym y.finals_only)
  where
    to : (a b : Listed) → Lists e a → Lists e b → (s : Step) → s ∈ steps_of a → s ∈ steps_of b
    to a b x y (step s l t) m = (y.are.steps s l t).1 ((x.are.steps s l t).0 m)

-- THEOREM: a row has one automaton
pub automaton-once : {row : List ℕ} (a b : Listed) → IsAutomatonOf row a → IsAutomatonOf row b → a ≡ b
automaton-once a b x y =
    let z = is-once x.is y.is in
    let e = z.0 in
    let m = y.lists in
    let l = lists-once a b x.lists (rw (sym e) at m) in
    let n : a.states ≡ b.states = x.states ∙ ap (λ (k : ℕ). k + 1) z.1 ∙ sym y.states in
    λ i. record { states = n i; steps = l.0 i; finals = l.1 i }

-- THEOREM: a row has one answer
pub answered-once : {row : List ℕ} (r q : Result Listed Refusal) → Answered row r → Answered row q → r ≡ q
answered-once r q (too_deep d) y = sym ((says-too-deep y).1 d)
answered-once r q (no_expression n) y = sym ((says-no-expression y).1 n)
answered-once r q (too_many n t) y = sym ((says-too-many y n).1 t)
answered-once r q (answered a h x) (too_deep d) = absurd (h.marks.shallow d)
answered-once r q (answered a h x) (no_expression n) = absurd (n.none 8 h.marks.tree h.count h.marks.is.reads)
answered-once r q (answered a h x) (too_many n t) = absurd (few-or-many h t)
answered-once {row} r q (answered a h x) (answered b g y) = ap (λ (c : Listed). let p : Result Listed Refusal = Ok c in p) (automaton-once a b x y)

-- what the clauses say of an answer
pub record Says (row : List ℕ) (r : Result Listed Refusal) : Type 0 where
  pub ok : IsOk r ↔ HasAutomaton row
  pub automaton : IfOk r (IsAutomatonOf row)
  pub too_deep : (r ≡ Err refusal.TooDeep) ↔ TooDeep row
  pub no_expression : (r ≡ Err refusal.NoExpression) ↔ IsNoExpression row
  pub too_many : (n : ℕ) → (r ≡ Err (refusal.TooManyMarks n)) ↔ HasTooManyMarks row n

says-answered : {row : List ℕ} (r : Result Listed Refusal) → Says row r → Answered row r
says-answered (Ok a) s = let x = s.automaton in answered a (s.ok.0 refl) (search (x))
says-answered (Err refusal.TooDeep) s = too_deep (s.too_deep.0 refl)
says-answered (Err refusal.NoExpression) s = no_expression (s.no_expression.0 refl)
says-answered (Err (refusal.TooManyMarks n)) s = too_many n ((s.too_many n).0 refl)

-- THEOREM: they leave one answer
pub says-once : {row : List ℕ} (r q : Result Listed Refusal) → Says row r → Says row q → r ≡ q
says-once r q s t = answered-once r q (says-answered r s) (says-answered q t)

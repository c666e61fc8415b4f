-- The number that is given of a row of marks.
use Rattle.std.specs.Prelude.{◌≡◌, List, ℕ, length, take, drop}
use Rattle.std.proofs.Common.{refl, arith, ap, sym, ◌∙◌}
use Rattle.std.proofs.Math.Decide.{ℕ_discrete}
use Rattle.std.proofs.lemmas.List.{take-append-drop}
use Rattle.laws.specs.First.{fails, holds, first-once}
use Rattle.expression.specs.Depth.{TooDeep}
use Rattle.expression.specs.Answer.{IsNoExpression, HasTooManyMarks, HasAutomaton}
use Rattle.expression.specs.declared.listed.Refusal.{Refusal}
use Rattle.expression.specs.declared.listed.Refusal.TheVariants as refusal
use Rattle.expression.specs.Listed.{Listed}
use Rattle.expression.proofs.Clauses.{one-count, automaton-once}
use Rattle.lampsaffron.specs.Expression.{number_of, HasRoom, Makes, Rows, told_tables, told_in, TellsTables}

module _ (row : List ℕ) (steps finals : ℕ) where
  pub gives-short : (HasRoom steps finals → ⊥) → Makes row steps finals 5
  gives-short n = fails n

  pub gives-made : HasRoom steps finals → HasAutomaton row → Makes row steps finals 0
  gives-made room h = holds room (holds h.marks.shallow (holds (h.count, h.marks) (holds h refl)))

  pub gives-refused : HasRoom steps finals → (r : Refusal) → (r ≡ refusal.TooDeep → TooDeep row)
      → (r ≡ refusal.NoExpression → IsNoExpression row)
      → ((n : ℕ) → r ≡ refusal.TooManyMarks n → HasTooManyMarks row n) → Makes row steps finals (number_of r)
  gives-refused room refusal.TooDeep a b d = holds room (fails (λ s. s (a refl)))
  gives-refused room refusal.NoExpression a b d =
      let x = b refl in holds room (holds x.shallow (fails (λ w. let h = w.1 in x.none 8 h.tree w.0 h.is.reads)))
  gives-refused room (refusal.TooManyMarks n) a b d =
      let x = d n refl in
      let h = x.marks in
      holds room
      (holds h.shallow
      (holds (n, h) (fails (λ f. let p = f.few in let q = x.more in let e = one-count f.marks x.marks in omega (arith, p, q, e)))))

-- THEOREM: one number is given
pub made-once : (row : List ℕ) (steps finals n m : ℕ) → Makes row steps finals n → Makes row steps finals m → n ≡ m
made-once row steps finals = first-once (first-once (first-once (first-once (λ n m h k. h ∙ sym k))))

-- the tables that are told are those of an automaton
pub told-is : (a : Listed) (states steps_used : ℕ) (steps : List ℕ) (finals_used : ℕ) (finals : List ℕ) → states ≡ a.states
    → take steps_used steps ≡ a.steps → take finals_used finals ≡ a.finals
    → told_tables states steps_used steps finals_used finals ≡ a
told-is a states steps_used steps finals_used finals e f g = λ i. record { states = e i; steps = f i; finals = g i }

-- THEOREM: all that the call gives and leaves is fixed
module _ (row : List ℕ) (old : Rows) where
  pub tables-once : (number number' : ℕ) (new new' : Rows) → TellsTables row old number new → TellsTables row old number' new'
      → (number ≡ number') × (new ≡ new')
  tables-once number number' new new' a b = (e, by (ℕ_discrete number 0))
    where
      e : number ≡ number'
      e = made-once row (length old.steps) (length old.finals) number number' a.number_is b.number_is

      -- so much of a row is fixed, and its rest is as it was
      whole : (was : List ℕ) {m n : ℕ} {x y : List ℕ} → m ≡ n → take m x ≡ take n y → drop m x ≡ drop m was → drop n y ≡ drop n was → x ≡ y
      whole was {m} {n} {x} {y} same front rest rest' =
          let f = sym (take-append-drop m x) in
          let g = take-append-drop n y in
          let h = rw (front, rest, same) at f in
          let k = rw rest' at g in
          h ∙ k

      by : Dec (number ≡ 0) → new ≡ new'
      by (yes z) =
          let z' : number' ≡ 0 = sym e ∙ z in
          let t = automaton-once (told_in new) (told_in new') (a.made z) (b.made z') in
          let steps = ap (λ (l : Listed). l.steps) t in
          let finals = ap (λ (l : Listed). l.finals) t in
          let i = a.steps_count z ∙ (ap length steps ∙ sym (b.steps_count z')) in
          let j = a.finals_count z ∙ (ap length finals ∙ sym (b.finals_count z')) in
          let x = whole old.steps i steps a.steps_rest b.steps_rest in
          let y = whole old.finals j finals a.finals_rest b.finals_rest in
          let s = ap (λ (l : Listed). l.states) t in
          λ k. record { steps = x k; finals = y k; states = s k; steps_used = i k; finals_used = j k }
      by (no n) = a.kept n ∙ sym (b.kept (λ z. n (e ∙ z)))

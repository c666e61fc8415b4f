-- Each refusal has one of the listed numbers, 4 to 15 but never 7, and no other has it; no line is refused with 15.
use Rattle.std.specs.Prelude.{ℕ, ◌≡◌, refl, ◌-◌, ◌≤◌, List, [], ◌∷◌, Result, Err, get_or}
use Rattle.std.proofs.Common.{sym, ap, ◌∙◌, arith}
use Rattle.laws.specs.First.{First, fails, holds}
use Rattle.frames.specs.declared.Frame.{Frame}
use Rattle.frames.specs.declared.Misread.{Misread}
use Rattle.frames.specs.declared.Misread.TheVariants as misread
use Rattle.reading.specs.declared.Refusal.{Refusal}
use Rattle.reading.specs.declared.Refusal.TheVariants.{BadCount, BadTable, BadNumber, BadAsk, BadLine, BadFrame, OutOfPlace, NoExpression, TooDeep, AnotherShape, NotTheSheet}
use Rattle.reading.specs.Judged.{Judged}
use Rattle.reading.specs.Reading.{Finds, unread, refused}
use Rattle.reading.specs.Refusal.{refusal_number, refusal_of}
use Rattle.reading.specs.Laws.{IsListed}

-- THEOREM: the number that refuses a file is one of 4 to 15, and never 7
pub refusals-listed : (r : Refusal) → IsListed (refusal_number r)
refusals-listed BadCount = (omega arith, omega arith, λ e. omega arith)
refusals-listed BadTable = (omega arith, omega arith, λ e. omega arith)
refusals-listed BadNumber = (omega arith, omega arith, λ e. omega arith)
refusals-listed BadAsk = (omega arith, omega arith, λ e. omega arith)
refusals-listed BadLine = (omega arith, omega arith, λ e. omega arith)
refusals-listed BadFrame = (omega arith, omega arith, λ e. omega arith)
refusals-listed OutOfPlace = (omega arith, omega arith, λ e. omega arith)
refusals-listed NoExpression = (omega arith, omega arith, λ e. omega arith)
refusals-listed TooDeep = (omega arith, omega arith, λ e. omega arith)
refusals-listed AnotherShape = (omega arith, omega arith, λ e. omega arith)
refusals-listed NotTheSheet = (omega arith, omega arith, λ e. omega arith)

-- the refusal is read back from its number
named : ℕ → Refusal
named n =
    get_or
    (BadCount ∷ BadTable ∷ BadNumber ∷ OutOfPlace ∷ BadAsk ∷ BadLine ∷ BadFrame ∷ OutOfPlace ∷ NoExpression ∷ TooDeep ∷ AnotherShape ∷ [])
    (n - 4) NotTheSheet

named-number : (r : Refusal) → named (refusal_number r) ≡ r
unfolding named
named-number BadCount = refl
named-number BadTable = refl
named-number BadNumber = refl
named-number BadAsk = refl
named-number BadLine = refl
named-number BadFrame = refl
named-number OutOfPlace = refl
named-number NoExpression = refl
named-number TooDeep = refl
named-number AnotherShape = refl
named-number NotTheSheet = refl

-- THEOREM: so two refusals with one number are one refusal
pub refusal-once : (r q : Refusal) → refusal_number r ≡ refusal_number q → r ≡ q
refusal-once r q e = sym (named-number r) ∙ ap named e ∙ named-number q

-- what a test answers where it is the first to fail is small, and so is what the tests after it answer
first-small : {P : Type 0} {q : Refusal} {Rest : Result (Unit {0}) Refusal → Type 0} {r : Refusal} → refusal_number q ≤ 14
    → (Rest (Err r) → refusal_number r ≤ 14) → First P (Err q) Rest (Err r) → refusal_number r ≤ 14
first-small few rest (fails n) = few
first-small few rest (holds p h) = rest h

judged-small : (before : List Frame) (f : Frame) (r : Refusal) → Judged before f (Err r) → refusal_number r ≤ 14
judged-small before f r =
    first-small (omega arith) (first-small (omega arith) (first-small (omega arith) (first-small (omega arith)
    (first-small (omega arith) (first-small (omega arith) (first-small (omega arith) (first-small (omega arith) (λ e. absurd cc))))))))

misread-small : (m : Misread) → refusal_number (refusal_of m) ≤ 14
misread-small misread.BadLine = omega arith
misread-small misread.BadFrame = omega arith

-- THEOREM: 15 refuses no line by itself
pub lines-refused : (before : List Frame) (line : List ℕ) (r : Refusal) → Finds before line (Err r) → refusal_number r ≤ 14
lines-refused before line r (unread m h) = misread-small m
lines-refused before line r (refused f q h j) = judged-small before f q j

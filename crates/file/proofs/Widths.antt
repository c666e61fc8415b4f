-- How wide a count is: two bytes or four, which hold every count of a file, and from which it is read back; and how long lines are.
use Rattle.std.specs.Prelude.{ℕ, zero, suc, ◌+◌, ◌-◌, ◌*◌, ◌^◌, ◌<◌, ◌≤◌, ◌≡◌, refl, Bool, true, false, nat_le, nat_lt, if◌then◌else◌, List, [], ◌∷◌, ◌++◌, length, slice_index}
use Rattle.std.specs.Int.{bytes_high_first}
use Rattle.std.proofs.Common.{◌∙◌, mul-le-mul, arith}
use Rattle.std.proofs.Math.ListN.{get_or-append}
use Rattle.std.proofs.lemmas.Bool.Decides.{nat_tests}
use Rattle.std.proofs.lemmas.List.{get_or-append-add}
use Rattle.kinds.specs.declared.Answer.{Answer}
use Rattle.kinds.specs.declared.Ask.{Ask}
use Rattle.kinds.specs.declared.Ask.TheVariants.{Pair, From}
use Rattle.kinds.specs.declared.Counts.{Counts}
use Rattle.kinds.specs.Kinds.{CountsFit}
use Rattle.meaning.specs.Demands.{most_rounds}
use Rattle.meaning.proofs.Demands.{most-rounds}
use Rattle.frames.specs.Frames.{number_in}
use Rattle.frames.specs.Text.{text}
use Rattle.shell.specs.Faults.{fault_line}
use Rattle.file.specs.Text.{few_states, count_width, round_line, answer_line}
use Rattle.reading.specs.Tables.{declared_by}
use Rattle.file.specs.Told.{round_length, answer_length}
use Rattle.file.specs.declared.text.TheConstants.{ROUND_LINE, ANSWER_LINE}

-- the width of a file's counts is one of the two, by the states that it declares
pub data IsWidth (c : Counts) : ℕ → Type 0 where
  two : c.states ≤ few_states → IsWidth c 2
  four : IsWidth c 4

pub is-width : (c : Counts) → IsWidth c (count_width c)
unfolding count_width
is-width c = by (nat_le c.states few_states) refl
  where
    by : (b : Bool) → nat_le c.states few_states ≡ b → IsWidth c (if b then 2 else 4)
    by true e = two (grind (arith, nat_tests))
    by false e = four

pub width-few : (c : Counts) → c.states ≤ few_states → count_width c ≡ 2
unfolding count_width
width-few c h = let e : nat_le c.states few_states ≡ true = grind (arith, nat_tests) in rw e refl

-- THEOREM: a number of rounds that a file may need goes into a count of its
pub rounds-fit : (c : Counts) → CountsFit c → (n : ℕ) → n ≤ most_rounds c → n < 2 ^ (8 * count_width c)
rounds-fit c fit n h = by (is-width c)
  where
    by : {w : ℕ} → IsWidth c w → n < 2 ^ (8 * w)
    by (two s) =
        let a : c.names + 2 * c.roles ≤ 128 = omega (arith, fit.names, fit.roles) in
        let b : c.states - 1 ≤ 15 = omega (arith, s) in
        omega (arith, h, mul-le-mul (mul-le-mul a s) b)
    by four = omega (arith, h, most-rounds c fit)

-- where nothing is declared a count has two bytes
pub narrow : IsWidth (declared_by []) 2
narrow = two (omega arith)

-- a number's bytes are as many as its width says,
pub high-long : (width n : ℕ) → length (bytes_high_first width n) ≡ width
high-long zero n = refl
high-long (suc width) n = omega (arith, high-long width n)

-- stand at their place,
pub bytes-at : (front rest : List ℕ) (width n i : ℕ) → i < width
    → slice_index (front ++ (bytes_high_first width n ++ rest)) (length front + i) ≡ slice_index (bytes_high_first width n) i
bytes-at front rest width n i h =
    get_or-append-add front (bytes_high_first width n ++ rest) i 0
    ∙ get_or-append (bytes_high_first width n) rest 0 i (omega (arith, high-long width n))

-- the line of a fault is no longer than one with a number in four bytes
pub fault-few : (line number : ℕ) → length (fault_line line number) ≤ 13
unfolding fault_line text
fault-few line number = by (nat_lt line (2 ^ 16))
  where
    by : (b : Bool) → length (text (0x8F ∷ bytes_high_first (if b then 2 else 4) line ++ number ∷ [])) ≤ 13
    by true = omega arith
    by false = omega arith

module _ {c : Counts} where
  -- and make it
  pub number-back : (byte : ℕ → ℕ) (k n : ℕ) {width : ℕ} → IsWidth c width → n < 2 ^ (8 * width)
      → ((i : ℕ) → i < width → byte (k + i) ≡ slice_index (bytes_high_first width n) i) → number_in width byte k ≡ n
  unfolding number_in
  number-back byte k n (two s) h b = omega (arith, b 0 (omega arith), b 1 (omega arith))
  number-back byte k n four h b = omega (arith, b 0 (omega arith), b 1 (omega arith), b 2 (omega arith), b 3 (omega arith))

  -- a line has as many characters as it is said to have
  pub round-length : {width : ℕ} → IsWidth c width → (round marks : ℕ) → length (round_line width round marks) ≡ round_length width
  unfolding round_line text
  round-length (two s) round marks = refl
  round-length four round marks = refl

  pub answer-length : {width : ℕ} → IsWidth c width → (ask : Ask) (r : Answer) → length (answer_line width ask r) ≡ answer_length width ask
  unfolding answer_line text
  answer-length (two s) (Pair a b) r = refl
  answer-length (two s) (From a) r = refl
  answer-length four (Pair a b) r = refl
  answer-length four (From a) r = refl

  -- and no more than there is room for
  pub round-room : {width : ℕ} → IsWidth c width → round_length width ≤ ROUND_LINE
  round-room (two s) = omega arith
  round-room four = omega arith

  pub answer-room : {width : ℕ} → IsWidth c width → (ask : Ask) → answer_length width ask ≤ ANSWER_LINE
  answer-room (two s) (Pair a b) = omega arith
  answer-room (two s) (From a) = omega arith
  answer-room four (Pair a b) = omega arith
  answer-room four (From a) = omega arith

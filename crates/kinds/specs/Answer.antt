-- The number and the count of each answer, as docs/RULES.md numbers them (section 7).
use Rattle.std.specs.Prelude.{ℕ, ◌≢◌, ◌≤◌, Option, None, Some, unwrap_or}
use Rattle.std.proofs.Common.{arith}
use Rattle.kinds.specs.declared.Answer.{Answer}
use Rattle.kinds.specs.declared.Answer.TheVariants.{No, Yes, Contradiction, AllowanceSpent, BadCount, BadTable, BadNumber, BadAsk}

-- the number returned; 7 is never given
abbrev pub answer_number : Answer → ℕ
answer_number (No rounds) = 0
answer_number (Yes rounds) = 1
answer_number Contradiction = 2
answer_number (AllowanceSpent allowance) = 3
answer_number BadCount = 4
answer_number BadTable = 5
answer_number BadNumber = 6
answer_number BadAsk = 8

-- the rounds of the sheet that an answer leaves: those needed, or those allowed; after all else none
abbrev pub sheet_rounds : Answer → Option ℕ
sheet_rounds (No rounds) = Some rounds
sheet_rounds (Yes rounds) = Some rounds
sheet_rounds (AllowanceSpent allowance) = Some allowance
sheet_rounds other = None

-- the count returned
abbrev pub answer_count : Answer → ℕ
answer_count r = unwrap_or (sheet_rounds r) 0

-- every answer has one of the numbers 0 to 8, and none has 7, which is never given
pub number-listed : (r : Answer) → answer_number r ≤ 8
number-listed (No rounds) = omega arith
number-listed (Yes rounds) = omega arith
number-listed Contradiction = omega arith
number-listed (AllowanceSpent allowance) = omega arith
number-listed BadCount = omega arith
number-listed BadTable = omega arith
number-listed BadNumber = omega arith
number-listed BadAsk = omega arith

pub seven-never : (r : Answer) → answer_number r ≢ 7
seven-never (No rounds) e = omega arith
seven-never (Yes rounds) e = omega arith
seven-never Contradiction e = omega arith
seven-never (AllowanceSpent allowance) e = omega arith
seven-never BadCount e = omega arith
seven-never BadTable e = omega arith
seven-never BadNumber e = omega arith
seven-never BadAsk e = omega arith

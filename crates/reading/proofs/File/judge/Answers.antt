-- Each exit is at the first test that fails, and the last where none does.
use Rattle.std.proofs.Common.{refl, arith}
use Rattle.laws.specs.First.{fails, holds}
use Rattle.reading.proofs.File.judge.Goals as goal

pub returns-then-not-is_in_place : goal.returns-then-not-is_in_place
returns-then-not-is_in_place c = fails (λ h. grind arith)

pub returns-then-not-counts_ok : goal.returns-then-not-counts_ok
returns-then-not-counts_ok c = holds (grind arith) (fails (λ h. grind arith))

pub returns-then-not-has_room : goal.returns-then-not-has_room
returns-then-not-has_room c = holds (grind arith) (holds (grind arith) (fails (λ h. grind arith)))

pub returns-then-not-numbers_ok : goal.returns-then-not-numbers_ok
returns-then-not-numbers_ok c = holds (grind arith) (holds (grind arith) (holds (grind arith) (fails (λ h. grind arith))))

pub returns-then-not-ask_ok : goal.returns-then-not-ask_ok
returns-then-not-ask_ok c = holds (grind arith) (holds (grind arith) (holds (grind arith) (holds (grind arith) (fails (λ h. grind arith)))))

pub returns : goal.returns
returns c = holds (grind arith) (holds (grind arith) (holds (grind arith) (holds (grind arith) (holds (grind arith) refl))))

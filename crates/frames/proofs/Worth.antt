-- What a character is worked out to be worth is below 16 exactly where it is a digit, and then its number.
use Rattle.std.specs.Prelude.{ℕ, ◌<◌, ◌≡◌, ◌↔◌}
use Rattle.std.proofs.Common.{arith}
use Rattle.std.proofs.lemmas.Bool.Decides.{nat_tests}
use Rattle.frames.specs.Digits.{digit_of}
use Rattle.frames.specs.Pairs.{worth}

pub worth_small : (c : ℕ) → (worth c < 16) ↔ (digit_of c < 16)
unfolding worth digit_of
worth_small c = (λ h. grind (arith, nat_tests), λ h. grind (arith, nat_tests))

pub worth_digit : (c : ℕ) → digit_of c < 16 → worth c ≡ digit_of c
unfolding worth digit_of
worth_digit c h = grind (arith, nat_tests)

use Rattle.reading.proofs.FormerLaws.{former-once, former-found, former-sound, former-else}
use Rattle.reading.proofs.theorems.former.Goals as goal

pub returns : goal.returns
returns c = record {
  once = λ ls v w a b. former-once a b;
  found = λ ls v a. former-found a;
  sound = former-sound;
  any_other = λ ls v a. former-else a;
}

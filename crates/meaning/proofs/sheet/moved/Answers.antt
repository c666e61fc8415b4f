-- A stored area and the moved one: the laws of FormerLaws.
use Rattle.meaning.proofs.FormerLaws.{moved-there, moved-once, moved-same, back-says, back-once, moved-exactly, former-there, moved-after-rounds, back-after-rounds}
use Rattle.meaning.proofs.sheet.moved.Goals as goal

pub returns : goal.returns
returns c = record {
  there = moved-there;
  once = moved-once;
  same = moved-same;
  back_says = back-says;
  back_once = back-once;
  exactly = moved-exactly;
  former_there = former-there;
  after_rounds = moved-after-rounds;
  back_after_rounds = back-after-rounds;
}

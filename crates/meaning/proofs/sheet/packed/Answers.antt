-- Bits and bytes: the laws of both layouts.
use Rattle.meaning.proofs.BytesLaws.{after-rounds, both-there, bits-once, bytes-once, bits-there, bytes-there}
use Rattle.meaning.proofs.sheet.packed.Goals as goal

pub returns : goal.returns
returns c = record {
  after_rounds = after-rounds;
  both_there = both-there;
  bits_once = bits-once;
  bytes_once = bytes-once;
  bits_there = bits-there;
  bytes_there = bytes-there;
}

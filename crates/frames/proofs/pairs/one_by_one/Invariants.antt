-- The bytes so far, in arrays that keep their lengths.
use Rattle.std.proofs.Common.{◌≡◌, length}
use Rattle.frames.specs.Pairs.{HoldsPairs}
use Rattle.frames.proofs.pairs.one_by_one.Given as goal

abbrev pub invariant-loop-k : goal.invariant-loop-k
invariant-loop-k l = record {
  bytes_long : length l.bytes ≡ 8;
  common_long : length l.common ≡ 8;
  pairs : HoldsPairs l.k l.line l.bytes l.common;
}

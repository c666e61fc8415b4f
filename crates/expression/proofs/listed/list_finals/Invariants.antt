use Rattle.std.proofs.Common.{◌≡◌, ◌≤◌, take, map}
use Rattle.expression.specs.Listed.{final_number}
use Rattle.expression.specs.Listing.{finals_below}
use Rattle.expression.proofs.listed.list_finals.Given as goal

abbrev pub invariant-loop-k : goal.invariant-loop-k
invariant-loop-k l = record {
  within : l.used ≤ l.k;
  listed : take l.used l.finals ≡ map final_number (finals_below l.set l.k);
}

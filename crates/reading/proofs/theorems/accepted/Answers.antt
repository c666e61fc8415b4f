use Rattle.reading.specs.Reading.{none}
use Rattle.reading.proofs.Accepted.{reading-taken, accepted, whole-accepted}
use Rattle.reading.proofs.Listed.{refusals-listed, refusal-once, lines-refused}
use Rattle.reading.proofs.theorems.accepted.Goals as goal

pub returns : goal.returns
returns c = record {
  listed = refusals-listed;
  one_refusal = refusal-once;
  lines = lines-refused;
  reading = λ ls v r. reading-taken r none;
  taken = accepted;
  whole = whole-accepted;
}

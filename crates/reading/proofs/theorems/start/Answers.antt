use Rattle.reading.proofs.Bounds.{taken-within, bounded-lines}
use Rattle.reading.proofs.Prefix.{lines-alike, reading-start, reading-whole}
use Rattle.reading.proofs.theorems.start.Goals as goal

pub returns : goal.returns
returns c = record {
  within = taken-within;
  bounded = bounded-lines;
  alike = lines-alike;
  decides = λ input n h v. (reading-whole input n h v, reading-start input n h v);
}

use Rattle.frames.proofs.ReadBack.{line-is_read}
use Rattle.frames.proofs.WrittenBack.{read-fits, line-is_written, listed-is_written}
use Rattle.frames.proofs.Numbered.{numbers-tell}
use Rattle.frames.proofs.Ends.{line-ends, line-short}
use Rattle.frames.proofs.theorems.line.Goals as goal

pub returns : goal.returns
returns c = record {
  read = line-is_read;
  fits = read-fits;
  written = line-is_written;
  listed = listed-is_written;
  numbers = numbers-tell;
  ends = line-ends;
  short = line-short;
}

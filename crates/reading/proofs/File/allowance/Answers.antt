-- The rounds of what was read go into 32 bits.
use Rattle.std.proofs.Common.{arith}
use Rattle.reading.proofs.Allowance.{most-read}
use Rattle.reading.proofs.File.allowance.Goals as goal

pub returns-in-None-clause-read : goal.returns-in-None-clause-read
returns-in-None-clause-read c read = rw c.in-None.is (omega (arith, c.most_rounds.ensures, most-read c.args.self.now read))

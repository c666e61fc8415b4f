-- Nothing is added exactly when one more round leaves the sheet as it is.
use Rattle.std.proofs.Common.{arith}
use Rattle.sheet.proofs.HowMany.{closed_is}
use Rattle.sheet.proofs.closing.Closing.is_closed.Goals as goal

pub returns : goal.returns
returns c = λ rows n r. closed_is rows n _ r.delta _ r.sheet _ (omega (arith, c.args.self.now.delta.counted))

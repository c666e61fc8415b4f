-- The byte of two digits is the line's.
use Rattle.std.proofs.Common.{sym}
use Rattle.frames.proofs.Bytes.{byte_within}
use Rattle.frames.proofs.reader.Reader.far_byte.Goals as goal

pub returns-clause-value : goal.returns-clause-value
returns-clause-value c =
    let r = c.args.self.now in
    rw (c.digit-high.ensures, c.digit-low.ensures) (sym (byte_within r.line.now r.at c.requires.inside))

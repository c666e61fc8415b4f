-- The byte at the front that is worked out already is the line's.
use Rattle.std.proofs.Common.{◌∙◌, sym, arith}
use Rattle.frames.proofs.Bytes.{byte_within}
use Rattle.frames.proofs.reader.Reader.byte.Goals as goal

pub returns-clause-value : goal.returns-clause-value
returns-clause-value c =
    let r = c.args.self.now in
    r.made.makes r.at (omega (arith, c.requires.inside, c.requires.front)) ∙ sym (byte_within r.line.now r.at c.requires.inside)

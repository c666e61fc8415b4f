-- The first byte is that of the first pair.
use Rattle.std.proofs.Common.{ap, ◌∙◌, arith}
use Rattle.frames.specs.Kinds.{kind_of}
use Rattle.frames.proofs.held.Held.kind.Goals as goal

pub returns : goal.returns
returns c = c.of.ensures ∙ ap kind_of (c.args.self.now.made.makes 0 (omega arith))

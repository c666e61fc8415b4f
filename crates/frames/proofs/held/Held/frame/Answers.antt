-- The frame of the line at the front, whose characters are all digits.
use Rattle.std.proofs.Common.{ap, ◌∙◌, sym, arith}
use Rattle.frames.specs.Kinds.{kind_of}
use Rattle.frames.proofs.FrontLaws.{line_pairs, first, begins_frame}
use Rattle.frames.proofs.ReaderLaws.{whole_digits}
use Rattle.frames.proofs.held.Held.frame.Goals as goal

pub prepared-reader-requires : goal.prepared-reader-requires
prepared-reader-requires c = line_pairs _ _ _ c.in_ok-line.ensures _ _ c.args.self.now.made

pub returns : goal.returns
returns c =
    let line = ap (λ l. l.now) (c.byte.ensures.next.line ∙ c.prepared-reader.ensures.line) in
    let digits = rw line at (whole_digits c.frame_of-frame.ensures.whole (grind arith)) in
    let same = first _ _ _ c.in_ok-line.ensures _ _ c.args.self.now.made in
    begins_frame _ _ _ c.in_ok-line.ensures _ digits (ap kind_of (sym same) ∙ c.if-not-is_named.ensures) (rw line at c.frame_of-frame.ensures.frame)

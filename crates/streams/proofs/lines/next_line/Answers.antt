use Rattle.std.proofs.Common.{◌≡◌, length, Some, None, sym, ap, ◌∙◌, arith}
use Rattle.std.proofs.lemmas.List.{length-take}
use Rattle.std.proofs.KnownBytes.{Keeps-trans}
use Rattle.streams.proofs.FirstLine.{end_of, TakesLine-found, ConsumesLine-found, TakesLine-last, BeginsLonger-none}
use Rattle.streams.proofs.lines.next_line.Goals as goal

pub returns-in-Some-clause-ok : goal.returns-in-Some-clause-ok
returns-in-Some-clause-ok g c =
    let held = c.reads.window in
    let n = c.in-Some.n in
    let end : end_of held ≡ Some n = ap end_of (sym c.as_slice.ensures) ∙ sym c.line_end.ensures.first ∙ c.in-Some.is in
    rw (c.taken-line.ensures.line, c.consume.ensures, c.taken-line.ensures.rest)
    (TakesLine-found _ _ held n end c.reads.invariant, omega (arith, length-take n held, c.in-Some.ensures.within))

pub returns-in-Some-clause-bytes : goal.returns-in-Some-clause-bytes
returns-in-Some-clause-bytes g c =
    let held = c.reads.window in
    let n = c.in-Some.n in
    let end : end_of held ≡ Some n = ap end_of (sym c.as_slice.ensures) ∙ sym c.line_end.ensures.first ∙ c.in-Some.is in
    rw (c.taken-line.ensures.line, c.consume.ensures, c.taken-line.ensures.rest) (ConsumesLine-found _ _ held n end c.reads.invariant)

pub returns-then-held-gt-LINE-clause-ok : goal.returns-then-held-gt-LINE-clause-ok
returns-then-held-gt-LINE-clause-ok g c =
    let held = c.reads.window in
    let end : end_of held ≡ None = ap end_of (sym c.as_slice.ensures) ∙ sym c.line_end.ensures.first ∙ c.in_default.is in
    (c.reads.invariant, BeginsLonger-none _ _ held end (omega (arith, ap length c.as_slice-held.ensures)) c.reads.invariant)

pub returns-then-branch-eq0-clause-ok : goal.returns-then-branch-eq0-clause-ok
returns-then-branch-eq0-clause-ok g c =
    let held = c.reads.window in
    let n = length c.as_slice-held.result.now in
    let all : n ≡ length held = ap length c.as_slice-held.ensures in
    let end : end_of held ≡ None = ap end_of (sym c.as_slice.ensures) ∙ sym c.line_end.ensures.first ∙ c.in_default.is in
    let stop = c.in_ok-read_from.ensures.end c.if-branch-eq0.true in
    let kept = rw stop.0 at (Keeps-trans _ _ _ c.reads.invariant c.in_ok-read_from.ensures.left) in
    rw (c.taken.ensures.line, c.taken.ensures.rest, stop.0)
    (TakesLine-last _ _ held n end all (omega arith) c.if-held-eq0.false stop.1 kept, omega (arith, length-take n held))

use Rattle.std.specs.Prelude.{◌+◌}
use Rattle.std.proofs.Common.{subst, sym}
use Rattle.fair_copy.specs.Framed.{part_frames}
use Rattle.fair_copy.specs.declared.report.TheConstants.{PARTS}
use Rattle.fair_copy.proofs.Putting.{passed_on, text_none, part-more, part-whole}
use Rattle.fair_copy.proofs.report.put_file.Goals as goal

pub loop-part-init : goal.loop-part-init
loop-part-init g c = rw text_none (g.met.T.Taker.none _)

pub loop-part-preserved : goal.loop-part-preserved
loop-part-preserved g c =
    let p = g.met.T.Taker.more _ _ _ _ _ c.loop-part.invariant c.in_ok-put_part.ensures.ok in
    subst (λ x. g.T.Taker.takes c.args.to.now x c.put_part.new.to) (sym (part-more
    (part_frames c.args.file.now) PARTS c.loop-part.part-index _ c.loop-part-test.true)) p

pub returns-in_err-put_part-clause-err : goal.returns-in_err-put_part-clause-err
returns-in_err-put_part-clause-err g c =
    let i = c.loop-part.part-index in
    let p = g.met.T.Taker.after _ _ _ _ _ c.in_err-put_part.field-0.0 c.loop-part.invariant c.in_err-put_part.ensures.err in
    let q = subst (λ x. g.T.Taker.fails c.args.to.now x c.in_err-put_part.field-0.0 c.put_part.new.to) (sym (part-more
    (part_frames c.args.file.now) PARTS i _ c.loop-part-test.true)) p in
    passed_on c.from_residual.result _ _ c.from_residual.ensures.1
    (subst (λ x. g.T.Taker.fails c.args.to.now x c.in_err-put_part.field-0.0 c.put_part.new.to) (sym (part-whole
    (part_frames c.args.file.now) PARTS (i + 1)))
    (g.met.T.Taker.before _ _ _ _ _ q))

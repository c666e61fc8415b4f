use Rattle.std.proofs.Common.{List, ℕ, false, sym, subst}
use Rattle.file.proofs.Settling.{marks-none, marks-next, marks-all}
use Rattle.file.proofs.Turns.{passed_on}
use Rattle.file.proofs.replies.put_dropped.Goals as goal

pub loop-i-init : goal.loop-i-init
loop-i-init g c = subst (λ (x : List ℕ). g.T.Taker.takes c.args.to.now x c.args.to.now) (sym (marks-none 1)) (g.met.T.Taker.none _)

pub loop-i-preserved : goal.loop-i-preserved
loop-i-preserved g c =
    subst (λ (x : List ℕ). g.T.Taker.takes c.args.to.now x c.put_mark.new.to) (sym (marks-next c.args.kept.now c.loop-i.i false c.loop-i-test.true))
    (g.met.T.Taker.more _ _ _ _ _ c.loop-i.invariant c.in_ok-put_mark.ensures.ok)

pub returns-in_err-put_mark-clause-err : goal.returns-in_err-put_mark-clause-err
returns-in_err-put_mark-clause-err g c =
    passed_on c.from_residual.result _ _ c.from_residual.ensures.1
    (subst (λ (x : List ℕ). g.T.Taker.fails c.args.to.now x c.in_err-put_mark.field-0.0 c.put_mark.new.to)
    (sym (marks-all c.args.kept.now c.loop-i.i false c.loop-i-test.true))
    (g.met.T.Taker.before _ _ _ _ _ (g.met.T.Taker.after _ _ _ _ _ _ c.loop-i.invariant c.in_err-put_mark.ensures.err)))

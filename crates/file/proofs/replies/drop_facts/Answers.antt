use Rattle.file.proofs.Settling.{settles, settles-not}
use Rattle.file.proofs.Turns.{passed_on}
use Rattle.file.proofs.replies.drop_facts.Goals as goal

pub returns-clause-ok : goal.returns-clause-ok
returns-clause-ok g c =
    settles c.args.file.now c.requires.chosen _ c.mark_kept.ensures.long c.mark_kept.ensures.sifted
    c.keep_marked.new.self c.keep_marked.ensures.frames c.in_ok-put_dropped.ensures.ok

pub returns-in_err-put_dropped-clause-err : goal.returns-in_err-put_dropped-clause-err
returns-in_err-put_dropped-clause-err g c =
    passed_on c.from_residual.result _ _ c.from_residual.ensures.1
    (settles-not c.args.file.now c.requires.chosen _ c.mark_kept.ensures.long c.mark_kept.ensures.sifted c.in_err-put_dropped.ensures.err)

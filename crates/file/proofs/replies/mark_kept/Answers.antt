use Rattle.std.proofs.Common.{arith, ap, length}
use Rattle.file.proofs.Settling.{file-passes, file-sifted}
use Rattle.file.proofs.replies.mark_kept.Goals as goal

pub unreachable-requires : goal.unreachable-requires
unreachable-requires c =
    let k = c.salvage.ensures.ok.1
    (file-passes c.args.file.now c.requires.read c.requires.begun c.collection.result c.collection.ensures.counts
    c.collection.ensures.tables c.as_slice.result.now c.as_slice.ensures.lines (length c.args.kept.now)
    (omega (arith, c.requires.long, ap (λ l. length l) c.as_slice.ensures.lines))) in
    let e = rw c.in-Err.is at k in
    absurd cc

pub returns-clause-sifted : goal.returns-clause-sifted
returns-clause-sifted c =
    file-sifted c.args.file.now c.collection.result c.collection.ensures.counts c.collection.ensures.tables
    c.as_slice.result.now c.as_slice.ensures.lines _ c.in-Ok.ensures.salvage

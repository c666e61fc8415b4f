use Rattle.std.proofs.Common.{◌+◌, ◌-◌, List, ℕ, length, refl, ap, arith}
use borrow.Rule.Slice.PartMut.{put_mid}
use Rattle.streams.proofs.Placed.{placed}
use Rattle.streams.proofs.memory.PageTaker.put.Goals as goal

pub returns-clause-ok : goal.returns-clause-ok
returns-clause-ok c =
    let held = c.args.self.now.held in
    let count = held + length c.args.bytes.now - held in
    (refl, placed _ _ _ _ _ count (omega arith) (omega arith) (omega arith) (ap (λ (l : List ℕ). put_mid held count c.args.self.now.text.now l) c.copy_from_slice.ensures.after))

-- `joined` meets its contract: a turn joins the row of one member more.
use Rattle.sift.proofs.ApartLaws.{joining_more}
use Rattle.sift.proofs.excluded.joined.Goals as goal

pub loop-member-preserved : goal.loop-member-preserved
loop-member-preserved c =
    joining_more c.args.rows.now c.args.members.0 c.loop-member.member-iterator.rest.0 c.number.result c.next.new.self.rest.0
    c.loop-member.out.0 c.union-out.result.0 c.loop-member.invariant (rw c.number.ensures c.in-Some.ensures.steps) c.union-out.ensures

-- `tell_member`: there is no such ask, or its first is no member, or the component tells.
use Rattle.std.proofs.Common.{rules}
use Rattle.walk.proofs.TellLaws.{tells_one, told-right}
use Rattle.walk.proofs.asks.tell_member.Goals as goal

pub returns : goal.returns
returns c =
    let e = c.in-Some.ensures in
    let m = c.has.ensures.0 (search rules) in
    let w = c.requires.component.at c.first.result m in
    let r = told-right _ _ _ c.args.asking.now.question c.first.result _ w c.in-Some.ask c.is_hit_or_out.result
    (search rules) c.is_hit_or_out.ensures in
    tells_one _ _ _ _ (search rules) e.0 (rw e.1 at r) (λ j q. q.0)

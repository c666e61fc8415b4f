-- `closed_rows` meets its contract: the rules and their inverses are marked where no mark stood, all is closed, and the rows are packed.
use Rattle.laws.specs.Marks.{mark}
use Rattle.orders.specs.Marks.{RoleListed}
use Rattle.sets.specs.Bits.{role_width}
use Rattle.orders.proofs.MarkLaws.{blank_shows, square_blank}
use Rattle.orders.proofs.Follow.{role-closed}
use Rattle.orders.proofs.SideLaws.{leads_shown}
use Rattle.orders.proofs.RowLaws.{packed_order}
use Rattle.orders.proofs.roles.closed_rows.Goals as goal

pub mark_rules-requires : goal.mark_rules-requires
mark_rules-requires c = square_blank role_width

pub close-closed-requires : goal.close-closed-requires
close-closed-requires c =
    let rules = c.args.rules.numbers.now in
    leads_shown _ _ rules (mark c.mark_rules.new.m)
    (blank_shows role_width (RoleListed rules) c.mark_rules.new.m c.mark_rules.ensures) c.requires

pub returns : goal.returns
returns c =
    let rules = c.args.rules.numbers.now in
    let marks = mark c.mark_rules.new.m in
    packed_order rules c.close-closed.result _
    (role-closed rules marks (blank_shows role_width (RoleListed rules) c.mark_rules.new.m c.mark_rules.ensures)
    (mark c.close-closed.result) c.close-closed.ensures.closed)
    c.pack.ensures

-- `pack_row_of` meets its contract: a row that is not read has only its own role.
use Rattle.laws.specs.Truth.{test-false}
use Rattle.orders.proofs.SideLaws.{own_packs}
use Rattle.orders.proofs.roles.pack_row_of.Goals as goal

pub returns : goal.returns
returns c = own_packs c.args.left.0 c.args.i c.only.result.0 c.args.m.now c.requires.below c.requires.own
    (λ p. test-false c.contains.ensures c.if-contains.false p) c.only.ensures

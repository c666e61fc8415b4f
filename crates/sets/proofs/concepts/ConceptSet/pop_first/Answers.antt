-- `pop_first` meets its contract: the first name, or where there is none the first role's neighbours.
use Rattle.std.proofs.Common.{arith, rules, refl}
use Rattle.kinds.specs.Kinds.{number_of}
use Rattle.sets.proofs.Laws.{takes_low, takes_high, none_high}
use Rattle.sets.proofs.concepts.ConceptSet.pop_first.Goals as goal

pub returns-then-names-ne0 : goal.returns-then-names-ne0
unfolding number_of
returns-then-names-ne0 c =
    takes_low c.args.self.now.0 c.names-names.result c.roles-roles.result.0 c.exists.result.0 c.names-names.ensures c.roles-roles.ensures
    c.exists.ensures (omega arith) (search rules)

pub returns-in-Some : goal.returns-in-Some
unfolding number_of
returns-in-Some c =
    let none = rw c.if-names-ne0.false at c.names-names.ensures in
    takes_high c.args.self.now.0 c.roles-roles.result.0 none c.roles-roles.ensures c.in-Some.first.0 c.pop_first.new.self.0
    c.exists-in-Some.result.0 c.in-Some.ensures c.exists-in-Some.ensures

pub returns-in-None : goal.returns-in-None
returns-in-None c =
    let none = rw c.if-names-ne0.false at c.names-names.ensures in
    (none_high c.args.self.now.0 c.roles-roles.result.0 none c.roles-roles.ensures c.in-None.ensures.0, refl)

-- `join_role_fact` meets its contract: a fact whose numbers have no row adds nothing, and another one two rows of the order.
use Rattle.std.proofs.Common.{arith, ◌<◌, ◌≡◌, ◌+◌, ◌*◌}
use Rattle.kinds.specs.Kinds.{base, number_of, most_roles}
use Rattle.elements.proofs.FactLaws.{role_fact_rows, no_role_fact}
use Rattle.elements.proofs.individuals.join_role_fact.Goals as goal

pub returns-then-fact-ge-MOST : goal.returns-then-fact-ge-MOST
returns-then-fact-ge-MOST c = no_role_fact _ _ c.args.fact (λ r a b. grind (arith, r, a, b, c.then-fact-ge-MOST.either))

pub returns : goal.returns
unfolding number_of
returns c =
    let low : c.args.fact.role.0 < most_roles = omega (arith, c.if-fact-ge-MOST.false) in
    let back : base + (2 * c.args.fact.role.0 + 1) ≡ base + 2 * c.args.fact.role.0 + 1 = omega arith in
    role_fact_rows _ _ c.args.fact _ _
    (record { role = low; first = omega (arith, c.if-a-ge-MOST.false); second = omega (arith, c.if-b-ge-MOST.false) })
    (rw (c.above.ensures, c.exists.ensures, c.forward.ensures.declared low) at c.join.ensures)
    (rw (c.above-2.ensures, c.exists-2.ensures, c.backward.ensures.declared low, back) at c.join-2.ensures)

-- `edges`: the two tests are those of the model, and the edges those that walks need.
use Rattle.std.proofs.Common.{refl, rules}
use Rattle.index.proofs.Joined.{concepts-clash, roles-clash, consistent, edges-right}
use Rattle.index.proofs.Replies.{fails}
use Rattle.index.proofs.ground.Ground.edges.Goals as goal

pub returns-then-contradicts_concepts-clause-none : goal.returns-then-contradicts_concepts-clause-none
returns-then-contradicts_concepts-clause-none c =
    let x = c.new-exclusions.ensures in
    let k = rw x.concepts at (c.contradicts_concepts.ensures.0 c.if-contradicts_concepts.true) in
    rw (← c.self.view_is) (λ _. concepts-clash _ _ _ _ c.self.invariant k, λ _. search rules)

pub returns-then-contradicts_roles-clause-none : goal.returns-then-contradicts_roles-clause-none
returns-then-contradicts_roles-clause-none c =
    let x = c.new-exclusions.ensures in
    let e = c.new-edges.ensures in
    let w = rw x.roles at c.concerned.ensures in
    let u = rw (← e.roles) at c.union-roles.ensures in
    let k = rw x.roles at (c.contradicts_roles.ensures.0 c.if-contradicts_roles.true) in
    rw (← c.self.view_is) (λ _. roles-clash _ _ _ _ c.self.invariant c.new-edges.result _ _ (rw e.facts refl) w u k, λ _. search rules)

pub returns-clause-none : goal.returns-clause-none
returns-clause-none c =
    let x = c.new-exclusions.ensures in
    let e = c.new-edges.ensures in
    let w = rw x.roles at c.concerned.ensures in
    let u = rw (← e.roles) at c.union-roles.ensures in
    let n = fails (rw x.concepts at c.contradicts_concepts.ensures) c.if-contradicts_concepts.false in
    let m = fails (rw x.roles at c.contradicts_roles.ensures) c.if-contradicts_roles.false in
    rw (← c.self.view_is)
    (λ z. search (rules, z), λ k. absurd (consistent _ _ _ _ c.self.invariant c.new-edges.result _ _ (rw e.facts refl) w u n m k))

pub returns-clause-some : goal.returns-clause-some
returns-clause-some c =
    let x = c.new-exclusions.ensures in
    let e = c.new-edges.ensures in
    let w = rw x.roles at c.concerned.ensures in
    let u = rw (← e.roles) at c.union-roles.ensures in
    rw (← c.self.view_is)
    (edges-right _ _ _ _ c.self.invariant c.new-edges.result _ _ (rw e.facts refl) w u _ c.fill_transitions.ensures c.roles_of.ensures)

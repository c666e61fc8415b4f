-- `join_fact` meets its contract: it joins both edges of a fact, or the fact makes none.
use Rattle.std.proofs.Common.{◌≡◌, true, sym, ◌∙◌}
use Rattle.std.proofs.lemmas.Bool.{OnFalse_from}
use Rattle.edges.specs.Edges.{is_in_range}
use Rattle.clash.proofs.SeekLaws.{never}
use Rattle.clash.proofs.PastLaws.{along-made, back-made, made_none, ahead_here, behind_here, fact_more}
use Rattle.clash.proofs.roles.RoleConflicts.join_fact.Goals as goal

pub returns-then-not-is_in_range-clause-tried : goal.returns-then-not-is_in_range-clause-tried
returns-then-not-is_in_range-clause-tried c =
    let out = sym c.is_in_range.ensures ∙ c.if-not-is_in_range.true in
    made_none _ _ _ c.args.k _ _ _ (rw c.in-Some.ensures.1 at out) c.requires.tried

pub returns-then-join_own-clause-clash : goal.returns-then-join_own-clause-clash
returns-then-join_own-clause-clash c _ =
    let fact = c.in-Some.fact in
    let rows : is_in_range fact ≡ true = sym c.is_in_range.ensures ∙ c.if-not-is_in_range.false in
    let along = along-made fact c.forward.result rows c.forward.ensures.declared in
    ahead_here _ _ _ c.args.k fact c.in-Some.ensures.1 rows _ along
    _ _ _ _ _ c.requires.fact c.requires.tried c.requires.conflicts c.join_own.ensures.adds (c.join_own.ensures.meets.0 c.if-join_own.true)

pub returns-clause-clash : goal.returns-clause-clash
returns-clause-clash c clash =
    let fact = c.in-Some.fact in
    let rows : is_in_range fact ≡ true = sym c.is_in_range.ensures ∙ c.if-not-is_in_range.false in
    let along = along-made fact c.forward.result rows c.forward.ensures.declared in
    behind_here _ _ _ c.args.k fact c.in-Some.ensures.1 rows _ along
    _ _ _ _ _ c.requires.fact c.requires.tried c.requires.conflicts c.join_own.ensures.adds _
    (back-made fact c.backward.result rows c.backward.ensures.declared) _ c.join_own.array_long
    (never c.join_own.ensures.meets c.if-join_own.false) c.join_own-2.ensures.adds (c.join_own-2.ensures.meets.0 clash)

pub returns-clause-tried : goal.returns-clause-tried
returns-clause-tried c =
    let fact = c.in-Some.fact in
    let rows : is_in_range fact ≡ true = sym c.is_in_range.ensures ∙ c.if-not-is_in_range.false in
    let along = along-made fact c.forward.result rows c.forward.ensures.declared in
    OnFalse_from _ _ (λ out.
    fact_more _ _ _ c.args.k fact c.in-Some.ensures.1 rows _ along
    _ _ _ _ _ c.requires.fact c.requires.tried c.requires.conflicts c.join_own.ensures.adds _
    (back-made fact c.backward.result rows c.backward.ensures.declared) _ c.join_own.array_long
    (never c.join_own.ensures.meets c.if-join_own.false) c.join_own-2.ensures.adds c.join_own-2.array_long
    (never c.join_own-2.ensures.meets out))

use Rattle.std.proofs.Common.{arith, ◌≡◌, ◌/◌, length}
use Rattle.meaning.specs.Lent.{role_fact_width}
use Rattle.sift.proofs.PairLaws.{made}
use Rattle.sift.proofs.pairs.pairs_of.Goals as goal

pub returns : goal.returns
returns c =
    let i = c.loop-fact.invariant in
    let t = c.tidy-kept.ensures in
    let end = rw i.same at c.in-None.ensures.steps.0 in
    let count : c.loop-fact.used ≡ length c.args.facts.numbers.now / role_fact_width = omega (arith, i.count, i.within, end) in
    made _ _ _ _ _ _ c.requires.few i.long count (λ k l. i.written k (omega (arith, i.count))) t.within t.length t.rises t.keeps

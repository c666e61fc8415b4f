use Rattle.std.proofs.Common.{ap}
use Rattle.salvage.specs.declared.Typed.TheVariants.{ConceptFact}
use Rattle.kinds.specs.Kinds.{most_individuals}
use Rattle.meaning.specs.Lent.{most_role_facts}
use Rattle.sift.specs.Excludes.{meant}
use Rattle.sift.proofs.Marking.{rows_of, sifting_start}
use Rattle.sift.proofs.Sifting.{ready_rows, next_ready, sifting_more, sifted}
use Rattle.sift.proofs.sift.Goals as goal

pub pairs_of-pairs-requires-clause-small : goal.pairs_of-pairs-requires-clause-small
pairs_of-pairs-requires-clause-small c = rows_of c.args.collection.now c.requires.formed

pub loop-k-init : goal.loop-k-init
loop-k-init c =
    sifting_start c.args.collection.now c.requires.formed c.pairs_of-pairs.result.now c.pairs_of-pairs.ensures c.args.order.now
    c.args.kept.now c.requires.long
    (record { concepts = c.iter.result; roles = c.iter-2.result })
    (ap (λ b. b.now) c.iter.ensures.numbers) c.iter.ensures.first (ap (λ b. b.now) c.iter-2.ensures.numbers) c.iter-2.ensures.first
    c.none-held.result most_individuals most_role_facts c.none-held.ensures.concepts c.none-held.ensures.roles

pub returns : goal.returns
returns c =
    sifted (meant c.args.collection.now) c.pairs_of-pairs.result.now c.requires.formed c.args.order.now c.loop-k.kept c.loop-k.k
    c.loop-k.facts c.loop-k.held
    c.loop-k.invariant c.loop-k-test.false

pub take-requires-clause-rows : goal.take-requires-clause-rows
take-requires-clause-rows c =
    ready_rows c.args.collection.now.counts c.pairs_of-pairs.result.now c.requires.formed.counts c.next.result
    (next_ready (meant c.args.collection.now) c.pairs_of-pairs.result.now c.args.order.now c.loop-k.kept c.loop-k.k c.loop-k.facts
    c.next.new.self
    c.loop-k.held c.loop-k.invariant c.loop-k-test.true ConceptFact c.next.result c.next.ensures)

pub loop-k-preserved : goal.loop-k-preserved
loop-k-preserved c =
    sifting_more (meant c.args.collection.now) c.pairs_of-pairs.result.now c.args.order.now c.loop-k.kept c.loop-k.k c.loop-k.facts
    c.next.new.self
    c.loop-k.held c.loop-k.invariant c.loop-k-test.true ConceptFact c.next.result c.next.ensures c.requires.formed c.args.excluded.now
    c.requires.excludes
    c.args.collection.now.role_facts.numbers.now c.pairs_of-pairs.ensures c.take.result c.take.new.self c.take.ensures

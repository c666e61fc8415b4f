-- `lampsaffron_listing`: the tests in their order, and what was put.
use Rattle.std.specs.Prelude.{refl, length}
use Rattle.std.proofs.Common.{arith, rules}
use Rattle.laws.specs.First.{fails, holds}
use Rattle.index.proofs.Replies as replies
use Rattle.lampsaffron.specs.Listing.{ListingNumber}
use Rattle.lampsaffron.proofs.ListingLaws.{listing-seven, told-few, tells-list, tells-kept, as-passed}
use Rattle.lampsaffron.proofs.ListDeeds.{listing-deeds}
use Rattle.lampsaffron.proofs.listing.lampsaffron_listing.Goals as goal

pub returns-then-not-fit-clause-number : goal.returns-then-not-fit-clause-number
returns-then-not-fit-clause-number c = fails (replies.fails (rw c.lent-lent.ensures.counts at c.fit.ensures) c.if-not-fit.true)

pub returns-then-not-fit-clause-deeds : goal.returns-then-not-fit-clause-deeds
returns-then-not-fit-clause-deeds c = λ u s.
    listing-deeds _ _ u s (tells-kept _ (returns-then-not-fit-clause-number c) (λ e. omega arith) refl)

pub returns-then-list-clause-number : goal.returns-then-list-clause-number
returns-then-list-clause-number c =
    let fit = rw c.lent-lent.ensures.counts at c.fit.ensures in
    holds (fit.0 c.if-not-fit.false) (fails (λ h. omega (arith, h, c.if-list.true)))

pub returns-then-list-clause-deeds : goal.returns-then-list-clause-deeds
returns-then-list-clause-deeds c = λ u s.
    listing-deeds _ _ u s (tells-kept _ (returns-then-list-clause-number c) (λ e. omega arith) refl)

pub overflow_cast-entries : goal.overflow_cast-entries
overflow_cast-entries c =
    let n = c.put_list-number.ensures in
    let few = told-few _ _ _ n.number c.if-number-eq0.true c.put_list-number.new.row.told (n.listed c.if-number-eq0.true) in
    omega (arith, few)

pub returns-then-number-eq0-clause-number : goal.returns-then-number-eq0-clause-number
returns-then-number-eq0-clause-number c =
    let l = c.lent-lent.ensures in
    as-passed c.lent-lent.result l.counts l.tables (λ k t. ListingNumber k t (length c.args.list.now) c.put_list-number.result)
    c.put_list-number.ensures.number

pub returns-then-number-eq0-clause-listed : goal.returns-then-number-eq0-clause-listed
returns-then-number-eq0-clause-listed c = λ z.
    let l = c.lent-lent.ensures in
    tells-list c.lent-lent.result l.counts l.tables (c.put_list-number.ensures.listed z) (search rules)

pub returns-then-number-eq0-clause-deeds : goal.returns-then-number-eq0-clause-deeds
returns-then-number-eq0-clause-deeds c = λ u s.
    listing-deeds _ _ u s (record {
      number_is = returns-then-number-eq0-clause-number c;
      told = returns-then-number-eq0-clause-listed c;
      kept = λ n. absurd (n c.if-number-eq0.true);
    })

pub returns-else-number-eq0-clause-number : goal.returns-else-number-eq0-clause-number
returns-else-number-eq0-clause-number c =
    let l = c.lent-lent.ensures in
    as-passed c.lent-lent.result l.counts l.tables (λ k t. ListingNumber k t (length c.args.list.now) c.put_list-number.result)
    c.put_list-number.ensures.number

pub returns-else-number-eq0-clause-seven_never : goal.returns-else-number-eq0-clause-seven_never
returns-else-number-eq0-clause-seven_never c = listing-seven _ _ _ c.put_list-number.ensures.number

pub returns-else-number-eq0-clause-deeds : goal.returns-else-number-eq0-clause-deeds
returns-else-number-eq0-clause-deeds c = λ u s.
    let kept = c.put_list-number.ensures.kept c.if-number-eq0.false in
    listing-deeds _ _ u s (tells-kept _ (returns-else-number-eq0-clause-number c) c.if-number-eq0.false (search (rules, kept)))

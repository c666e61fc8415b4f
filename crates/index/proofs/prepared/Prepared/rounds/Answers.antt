-- `rounds`: by what was found.
use Rattle.index.proofs.Replies.{settled-as, refused-as, found-as}
use Rattle.index.proofs.Settled.{none-refused, none-broken, none-beyond, has-rounds, none-seen, rounds-seen}
use Rattle.index.proofs.Deeds.{rounds-whatever, none-whatever}
use Rattle.index.proofs.prepared.Prepared.rounds.Goals as goal

pub returns-in-Err-clause-none : goal.returns-in-Err-clause-none
returns-in-Err-clause-none c = rw c.answer.ensures
    (none-seen _ c.self.view_is (none-refused c.self.inside.lent _ _ _ (refused-as _ _ _ _ c.self.invariant c.in-Err.is)))

pub returns-in-Contradiction-clause-none : goal.returns-in-Contradiction-clause-none
returns-in-Contradiction-clause-none c =
    let w = settled-as _ _ _ _ c.self.invariant c.in-Ok.is in
    none-seen _ c.self.view_is (none-broken c.self.inside.lent _ _ w.passes w.areas (found-as w c.in-Contradiction.is))

pub returns-in-Spent-clause-none : goal.returns-in-Spent-clause-none
returns-in-Spent-clause-none c =
    let w = settled-as _ _ _ _ c.self.invariant c.in-Ok.is in
    let f = found-as w c.in-Spent.is in
    none-seen _ c.self.view_is (none-beyond c.self.inside.lent _ _ w.passes w.areas f.0 f.1)

pub returns-in-Needed-clause-needed : goal.returns-in-Needed-clause-needed
returns-in-Needed-clause-needed c =
    let w = settled-as _ _ _ _ c.self.invariant c.in-Ok.is in
    let f = found-as w c.in-Needed.is in
    rounds-seen _ c.self.view_is (has-rounds c.self.inside.lent _ _ w.passes w.areas _ f.sane f.needed f.allowed)

pub returns-in-Err-clause-deeds_none : goal.returns-in-Err-clause-deeds_none
returns-in-Err-clause-deeds_none c = none-whatever _ (returns-in-Err-clause-none c)

pub returns-in-Contradiction-clause-deeds_none : goal.returns-in-Contradiction-clause-deeds_none
returns-in-Contradiction-clause-deeds_none c = none-whatever _ (returns-in-Contradiction-clause-none c)

pub returns-in-Spent-clause-deeds_none : goal.returns-in-Spent-clause-deeds_none
returns-in-Spent-clause-deeds_none c = none-whatever _ (returns-in-Spent-clause-none c)

pub returns-in-Needed-clause-deeds_needed : goal.returns-in-Needed-clause-deeds_needed
returns-in-Needed-clause-deeds_needed c = rounds-whatever _ (returns-in-Needed-clause-needed c)

-- A mark of the row comes; or the row is at its end, and the next is looked at.
use Rattle.std.specs.Prelude.{map}
use Rattle.std.proofs.Common.{sym, ap, ◌∙◌}
use Rattle.sheet.specs.Listed.{mark_of}
use Rattle.sheet.proofs.ListedLaws.{mark_comes, row_next, state_next, none_next, fewer_to, fewer_from, yields_on}
use Rattle.sheet.proofs.round_marks.MarksToComeIterator.next.Goals as goal

pub returns-in-Some-clause-steps : goal.returns-in-Some-clause-steps
returns-in-Some-clause-steps c =
    let v = c.loop-concept.invariant in
    sym c.self.view_is ∙ (ap (map mark_of) (sym v.same) ∙ mark_comes _ _ _ _ _ _ _ _ _ c.in-Some.ensures.first c.in-Some.ensures.read)

pub returns-in-Some-clause-goes : goal.returns-in-Some-clause-goes
returns-in-Some-clause-goes c = yields_on _ (λ l. tt) _ _ _ (returns-in-Some-clause-steps c)

pub loop-concept-preserved-in-Some-pop_first : goal.loop-concept-preserved-in-Some-pop_first
loop-concept-preserved-in-Some-pop_first c =
    let v = c.loop-concept.invariant in
    record { same = sym (row_next _ _ _ _ _ _ _ _ _ c.in_default.ensures.first.0 c.in-Some-pop_first.ensures) ∙ v.same; low = v.low }

pub returns-in_default-pop_first-2-clause-steps : goal.returns-in_default-pop_first-2-clause-steps
returns-in_default-pop_first-2-clause-steps c =
    let v = c.loop-concept.invariant in
    let row = c.in_default.ensures.first in
    let to = c.in_default-pop_first.ensures in
    let from = c.in_default-pop_first-2.ensures in
    let none = ap (map mark_of) (none_next _ _ _ c.loop-concept.self-inside.second.0 _ _ _ row.0 to.0 from.0) in
    (sym c.self.view_is ∙ (ap (map mark_of) (sym v.same) ∙ none), rw (row.1, to.1, from.1) none)

pub loop-concept-smaller-in-Some-pop_first : goal.loop-concept-smaller-in-Some-pop_first
loop-concept-smaller-in-Some-pop_first c = fewer_to _ _ _ _ c.in-Some-pop_first.ensures

pub loop-concept-smaller : goal.loop-concept-smaller
loop-concept-smaller c = fewer_from _ _ _ _ _ c.in-Some-pop_first-2.ensures

pub loop-concept-preserved : goal.loop-concept-preserved
loop-concept-preserved c =
    let v = c.loop-concept.invariant in
    let row = c.in_default.ensures.first in
    let first = c.in-Some-pop_first-2.ensures in
    record {
      same = rw row.1 (sym (state_next _ _ _ c.loop-concept.self-inside.second.0 _ _ _ _ _ row.0 c.in_default-pop_first.ensures.0 first) ∙ v.same);
      low = first.within;
    }

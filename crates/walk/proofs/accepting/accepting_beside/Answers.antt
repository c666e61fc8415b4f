-- `accepting_beside`: none, one state more, all.
use Rattle.std.proofs.Common.{refl, inl, inr, rules}
use Rattle.laws.specs.Loops.{add_none, add_more, add_all}
use Rattle.sets.proofs.Gathering.{over_start, over_more, over_end}
use Rattle.walk.proofs.CoReachableLaws.{refuted}
use Rattle.walk.proofs.AcceptingLaws.{open_step, open_all}
use Rattle.walk.proofs.accepting.accepting_beside.Goals as goal

pub returns-then-is_empty : goal.returns-then-is_empty
returns-then-is_empty c = inl (c.is_empty.ensures.0 c.if-is_empty.true, refl)

pub loop-s-init : goal.loop-s-init
loop-s-init c = rw (c.into_iter-s-iterator.ensures.into_iter_gives, c.iter-s-items.ensures)
    (over_start (λ none. record { member = λ t. add_none none }))

pub leads_on-requires : goal.leads_on-requires
leads_on-requires c = ((c.requires.member _).0 (c.loop-s.invariant.part _ c.in-Some.ensures.steps.member)).state

pub loop-s-preserved : goal.loop-s-preserved
loop-s-preserved c =
    over_more c.loop-s.invariant c.in-Some.ensures.steps
    (λ x v. record {
      member = λ t. add_more x (v.member t)
          (open_step _ _ _ _ _ _ _ c.in-Some.ensures.steps.within c.insert_if.ensures c.leads_on.ensures t);
    })

pub returns : goal.returns
returns c =
    inr (
      refuted c.is_empty.ensures c.if-is_empty.false,
      search rules,
      open_all _ _ _ _ _ c.requires
          (over_end c.loop-s.invariant c.in-None.ensures.steps.0 (λ same v. record { member = λ t. add_all same (v.member t) })),
    )

-- A turn closes, spends the allowance, or goes on.
use Rattle.std.specs.Prelude.{[], ◌∷◌, ◌++◌}
use Rattle.std.proofs.Common.{arith}
use Rattle.sheet.specs.Told.{none, next}
use Rattle.sheet.proofs.Ending.{ends_needed, ends_spent}
use Rattle.sheet.proofs.TellingLaws.{passed_on, going_on, one_round, one_more, numbered_so, failed_first, failed_at}
use Rattle.sheet.proofs.closing.Closing.run.Goals as goal

pub loop-loops-init : goal.loop-loops-init
loop-loops-init g c = record {
  going = record { within = omega arith; changing = λ m l s. omega arith };
  round = c.start.ensures;
  rounds = [] ++ c.own.result ∷ [];
  are = one_round c.args.rows.now _ (c.own.ensures _ c.start.ensures);
  told = next none c.in_ok-round_made.ensures.ok;
}

pub loop-loops-preserved : goal.loop-loops-preserved
loop-loops-preserved g c =
    let v = c.loop-loops.invariant in
    let h = c.in_ok-round_made-2.ensures.ok in
    record {
      going = going_on c.args.rows.now _ _ v.going _ (c.is_closed.ensures _ _ v.round) c.if-is_closed.false c.if-n-allowance.false;
      round = c.advance.ensures _ v.round;
      rounds = v.rounds ++ c.added.result ∷ [];
      are = one_more c.args.rows.now _ v.rounds _ v.are (c.added.ensures _ _ v.round);
      told = next v.told (rw (numbered_so c.args.rows.now _ v.rounds v.are) at h);
    }

pub returns-in_err-round_made-clause-failed : goal.returns-in_err-round_made-clause-failed
returns-in_err-round_made-clause-failed g c =
    let w = failed_first c.args.rows.now g.L.RoundListener.hears g.L.RoundListener.fails c.args.listener.now c.args.allowance
    _ _ _ (c.own.ensures _ c.start.ensures) c.in_err-round_made.ensures.err in
    passed_on c.from_residual.result _ _ c.from_residual.ensures.1 w

pub returns-in_err-round_made-2-clause-failed : goal.returns-in_err-round_made-2-clause-failed
returns-in_err-round_made-2-clause-failed g c =
    let v = c.loop-loops.invariant in
    let going = going_on c.args.rows.now _ _ v.going _ (c.is_closed.ensures _ _ v.round) c.if-is_closed.false c.if-n-allowance.false in
    let w = failed_at c.args.rows.now g.L.RoundListener.hears g.L.RoundListener.fails c.args.listener.now c.args.allowance
    c.loop-loops.n v.rounds _ _ _ _ going v.are (c.added.ensures _ _ v.round) v.told c.in_err-round_made-2.ensures.err in
    passed_on c.from_residual-in_err-round_made-2.result _ _ c.from_residual-in_err-round_made-2.ensures.1 w

pub returns-then-is_closed-clause-ended : goal.returns-then-is_closed-clause-ended
returns-then-is_closed-clause-ended g c =
    let v = c.loop-loops.invariant in
    ends_needed _ _ _ v.going.within v.going.changing _ (c.is_closed.ensures _ _ v.round) c.if-is_closed.true

pub returns-then-n-allowance-clause-ended : goal.returns-then-n-allowance-clause-ended
returns-then-n-allowance-clause-ended g c =
    let v = c.loop-loops.invariant in
    ends_spent _ _ _ v.going.changing _ (c.is_closed.ensures _ _ v.round) c.if-is_closed.false c.if-n-allowance.true

-- `break_at_unnamed`: what follows for the elements that end by a role decides its turn.
use Rattle.clash.proofs.SeekLaws.{never, seek_here, seek_more}
use Rattle.clash.proofs.concepts.ConceptConflicts.break_at_unnamed.Goals as goal

pub returns-then-break_in : goal.returns-then-break_in
returns-then-break_in c = seek_here _ _ _ _ _ _ c.loop-role.invariant c.in-Some.ensures.steps
    (rw c.unnamed_row.ensures at (c.break_in.ensures.0 c.if-break_in.true))

pub loop-role-preserved : goal.loop-role-preserved
loop-role-preserved c = seek_more _ _ _ _ _ _ c.loop-role.invariant c.in-Some.ensures.steps
    (never (rw c.unnamed_row.ensures at c.break_in.ensures) c.if-break_in.false)

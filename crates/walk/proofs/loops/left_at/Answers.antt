-- `left_at`: none where the pair is related, else those at which it is marked.
use Rattle.walk.proofs.SetLaws.{none_has}
use Rattle.walk.proofs.CoReachableLaws.{refuted}
use Rattle.walk.proofs.loops.left_at.Goals as goal

pub returns-then-contains : goal.returns-then-contains
returns-then-contains c = record {
  member = λ B.
      (λ p. absurd (none_has B p), λ l. absurd (l.free (c.contains.ensures.0 c.if-contains.true)));
}

pub returns : goal.returns
returns c = record { member = λ B. (λ p. record { marked = p; free = refuted c.contains.ensures c.if-contains.false }, λ l. l.marked) }

use Rattle.std.proofs.Common.{◌∙◌, sym, ap, length, arith}
use Rattle.expression.proofs.ReaderLaws.{atom-empty, atom-unclosed, atom-closed, item-once, item-many}
use Rattle.expression.proofs.LoopLaws.{items-nothing, items-start, items-done, items-bad, items-more, takes, sequences-nothing, sequences-start, sequences-done, sequences-bad, sequences-more, outcome-err}
use Rattle.expression.proofs.reader.Reader.+reading.Goals as goal

pub atom-returns-in_err-part-clause-outcome : goal.atom-returns-in_err-part-clause-outcome
atom-returns-in_err-part-clause-outcome t c =
    outcome-err _ _ _ _ _ _ _ c.from_residual.ensures.0 (atom-empty _ _ _ _ c.if-depth-eq0.false (sym c.next-mark.ensures.value ∙ c.if-mark.false) c.in_err-part.ensures.outcome)

pub atom-returns-then-self-clause-outcome : goal.atom-returns-then-self-clause-outcome
atom-returns-then-self-clause-outcome t c =
    let e = c.in_ok-part.ensures.marks in
    let k = rw e at c.if-self.true in
    atom-unclosed _ _ _ _ c.if-depth-eq0.false (sym c.next-mark.ensures.value ∙ c.if-mark.false) c.in_ok-part.ensures.outcome (λ l q. omega arith)

pub atom-returns-then-next-ne-CLOSING-clause-outcome : goal.atom-returns-then-next-ne-CLOSING-clause-outcome
atom-returns-then-next-ne-CLOSING-clause-outcome t c =
    let e = c.in_ok-part.ensures.marks in
    atom-unclosed _ _ _ _ c.if-depth-eq0.false (sym c.next-mark.ensures.value ∙ c.if-mark.false) c.in_ok-part.ensures.outcome
    (λ l q. c.if-next-ne-CLOSING.true ((rw e at c.next.ensures.value) ∙ q))

pub atom-returns-clause-outcome : goal.atom-returns-clause-outcome
atom-returns-clause-outcome t c =
    let e = c.in_ok-part.ensures.marks in
    let k = rw e at c.if-self.false in
    let m = (c.in_ok-part.ensures.outcome).within in
    let v = rw e at c.next.ensures.value in
    atom-closed _ _ _ _ c.if-depth-eq0.false (sym c.next-mark.ensures.value ∙ c.if-mark.false) c.in_ok-part.ensures.outcome (omega arith)
    (sym v ∙ c.if-next-ne-CLOSING.false)

pub item-returns-then-next-ne-REPEAT-clause-outcome : goal.item-returns-then-next-ne-REPEAT-clause-outcome
item-returns-then-next-ne-REPEAT-clause-outcome t c =
    let e = c.in_ok-part.ensures.marks in
    item-once _ _ _ _ c.in_ok-part.ensures.outcome (λ q. c.if-next-ne-REPEAT.true ((rw e at c.next.ensures.value) ∙ q))

pub item-returns-clause-outcome : goal.item-returns-clause-outcome
item-returns-clause-outcome t c =
    let e = c.in_ok-part.ensures.marks in
    let v = rw e at c.next.ensures.value in
    item-many _ _ _ _ c.in_ok-part.ensures.outcome (omega arith) (sym v ∙ c.if-next-ne-REPEAT.false) c.many.ensures

pub sequence-items-init : goal.sequence-items-init
sequence-items-init t c = record { marks = c.in_ok-part.ensures.marks; so_far = items-start _ _ _ _ c.in_ok-part.ensures.outcome }

pub sequence-items-smaller : goal.sequence-items-smaller
sequence-items-smaller t c =
    let h = takes c.in_ok-more.ensures.outcome in
    omega (arith, h.0, h.1, ap (λ m. length m.now) c.in_ok-more.ensures.marks)

pub sequence-returns-in_err-part-clause-outcome : goal.sequence-returns-in_err-part-clause-outcome
sequence-returns-in_err-part-clause-outcome t c = outcome-err _ _ _ _ _ _ _ c.from_residual.ensures.0 (items-nothing _ _ _ _ c.in_err-part.ensures.outcome)

pub sequence-returns-in_err-more-clause-outcome : goal.sequence-returns-in_err-more-clause-outcome
sequence-returns-in_err-more-clause-outcome t c =
    let e = c.items.invariant.marks in
    let v = rw e at c.next.ensures.value in
    let f = rw e at c.in_err-more.ensures.outcome in
    outcome-err _ _ _ _ _ _ _ c.from_residual-in_err-more.ensures.0 (items-bad _ _ _ _ c.items.invariant.so_far (omega (arith, v, c.items-test.true)) f)

pub sequence-items-preserved : goal.sequence-items-preserved
sequence-items-preserved t c =
    let e = c.items.invariant.marks in
    let v = rw e at c.next.ensures.value in
    let g = rw e at c.in_ok-more.ensures.outcome in
    record {
      marks = c.in_ok-more.ensures.marks ∙ e;
      so_far = items-more _ _ _ _ c.items.invariant.so_far (omega (arith, v, c.items-test.true)) g c.joined-part.ensures;
    }

pub sequence-returns-clause-outcome : goal.sequence-returns-clause-outcome
sequence-returns-clause-outcome t c =
    let e = c.items.invariant.marks in
    let v = rw e at c.next.ensures.value in
    items-done _ _ _ _ c.items.invariant.so_far (omega (arith, v, c.items-test.false))

pub expression-sequences-init : goal.expression-sequences-init
expression-sequences-init t c = record { marks = c.in_ok-part.ensures.marks; so_far = sequences-start _ _ _ _ c.in_ok-part.ensures.outcome }

pub expression-sequences-smaller : goal.expression-sequences-smaller
expression-sequences-smaller t c =
    let h = takes c.in_ok-other.ensures.outcome in
    omega (arith, h.0, h.1, ap (λ m. length m.now) c.in_ok-other.ensures.marks)

pub expression-returns-in_err-part-clause-outcome : goal.expression-returns-in_err-part-clause-outcome
expression-returns-in_err-part-clause-outcome t c = outcome-err _ _ _ _ _ _ _ c.from_residual.ensures.0 (sequences-nothing _ _ _ _ c.in_err-part.ensures.outcome)

pub expression-returns-in_err-other-clause-outcome : goal.expression-returns-in_err-other-clause-outcome
expression-returns-in_err-other-clause-outcome t c =
    let e = c.sequences.invariant.marks in
    let v = rw e at c.next.ensures.value in
    let f = rw e at c.in_err-other.ensures.outcome in
    outcome-err _ _ _ _ _ _ _ c.from_residual-in_err-other.ensures.0 (sequences-bad _ _ _ _ c.sequences.invariant.so_far (sym v ∙ c.sequences-test.true) (search (f, items-nothing)))

pub expression-sequences-preserved : goal.expression-sequences-preserved
expression-sequences-preserved t c =
    let e = c.sequences.invariant.marks in
    let v = rw e at c.next.ensures.value in
    let g = rw e at c.in_ok-other.ensures.outcome in
    record {
      marks = c.in_ok-other.ensures.marks ∙ e;
      so_far = sequences-more _ _ _ _ c.sequences.invariant.so_far (sym v ∙ c.sequences-test.true) g c.either-part.ensures;
    }

pub expression-returns-clause-outcome : goal.expression-returns-clause-outcome
expression-returns-clause-outcome t c =
    let e = c.sequences.invariant.marks in
    let v = rw e at c.next.ensures.value in
    sequences-done _ _ _ _ c.sequences.invariant.so_far (λ q. c.sequences-test.false (v ∙ q))

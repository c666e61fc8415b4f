-- Each exit of a row: it has no automaton, its states or its start are not declared, or it is taken.
use Rattle.std.proofs.Common.{refl, arith}
use Rattle.reading.specs.Turns.{IsShapedBy}
use Rattle.reading.proofs.Rows.{row-refused, row-misshapen, row-shaped}
use Rattle.reading.proofs.expressed.Expression.read.Goals as goal

pub returns-in_err-automaton-clause-refused : goal.returns-in_err-automaton-clause-refused
returns-in_err-automaton-clause-refused c few =
    let row = c.as_slice.ensures in
    let told = c.automaton_of.ensures in
    row-refused c.args.marks c.args.counts (rw row at told.too_deep) (rw row at told.no_expression) (rw row at told.too_many_marks) few c.from_residual.result c.in_err-automaton.was c.from_residual.ensures.1

pub returns-then-not-shape_ok-clause-refused : goal.returns-then-not-shape_ok-clause-refused
returns-then-not-shape_ok-clause-refused c few =
    let row = c.as_slice.ensures in
    row-misshapen c.args.marks c.args.counts (rw row at c.in_ok-automaton.ensures.automaton) ((rw row at c.automaton_of.ensures.ok).0 (rw c.in_ok-automaton.was refl)) (λ h. grind arith)

pub returns-clause-taken : goal.returns-clause-taken
returns-clause-taken c =
    let row = c.as_slice.ensures in
    let shaped : IsShapedBy c.args.counts c.in_ok-automaton.automaton = grind arith in
    row-shaped c.args.marks c.args.counts (rw row at c.in_ok-automaton.ensures.automaton) ((rw row at c.automaton_of.ensures.ok).0 (rw c.in_ok-automaton.was refl)) shaped

use Rattle.std.proofs.Common.{rules, arith}
use Rattle.expression.specs.Answered.{too_deep, no_expression}
use Rattle.expression.proofs.AnswerLaws.{not-one, not-whole, it-is, many-marks}
use Rattle.expression.proofs.listed.answered.Goals as goal

pub returns-then-is_too_deep : goal.returns-then-is_too_deep
returns-then-is_too_deep c = too_deep (c.if-is_too_deep.ensures.0 (search rules))

pub returns-in_default : goal.returns-in_default
returns-in_default c =
    no_expression (not-one _ (λ h. let k = c.if-is_too_deep.ensures.1 h in cc) c.in_default.ensures.outcome)

pub returns-then-reader-marks : goal.returns-then-reader-marks
returns-then-reader-marks c =
    no_expression (not-whole _ c.in-Ok.ensures.outcome (λ h. let k = c.if-is_too_deep.ensures.1 h in cc) c.if-reader-marks.true)

pub returns-then-not-has_states : goal.returns-then-not-has_states
returns-then-not-has_states c =
    many-marks _ c.in-Ok.ensures.outcome c.if-reader-marks.false (λ h. let k = c.if-is_too_deep.ensures.1 h in cc)
    (λ h. let k = c.has_states.ensures.1 h in cc)

pub returns : goal.returns
returns c =
    let l = c.start.ensures.long in
    let s = c.start.ensures.start in
    let t = c.listed.ensures.steps in
    it-is _ c.in-Ok.ensures.outcome c.if-reader-marks.false (λ h. let k = c.if-is_too_deep.ensures.1 h in cc) (c.has_states.ensures.0 c.if-not-has_states.false) (omega arith) c.final_states.ensures
    c.listed.result c.listed.ensures.states (rw s at t) c.listed.ensures.finals

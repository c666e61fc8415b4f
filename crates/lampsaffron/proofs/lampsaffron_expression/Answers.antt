-- `lampsaffron_expression`: the number at each exit.
use Rattle.std.specs.Prelude.{◌≡◌, refl, Err, take}
use Rattle.std.proofs.Common.{⊎_elim, ap, sym, subst, ◌∙◌, arith}
use Rattle.expression.specs.Answer.{ReadsItsWords}
use Rattle.lampsaffron.proofs.Made.{gives-short, gives-made, gives-refused, told-is}
use Rattle.lampsaffron.proofs.lampsaffron_expression.Goals as goal

pub returns-then-steps-lt-STEP_NUMBERS-clause-number : goal.returns-then-steps-lt-STEP_NUMBERS-clause-number
returns-then-steps-lt-STEP_NUMBERS-clause-number c =
    gives-short _ _ _
    (λ room. ⊎_elim (λ h. omega (arith, h, room.steps-fit))
    (λ h. omega (arith, h.1, room.finals-fit)) c.then-steps-lt-STEP_NUMBERS.either)

pub returns-in-Err-clause-number : goal.returns-in-Err-clause-number
returns-in-Err-clause-number c =
    let told = c.automaton_of.ensures in
    rw c.refusal_number.ensures
    (gives-refused _ _ _ (record { steps-fit = omega arith; finals-fit = omega arith }) c.in-Err.refusal
    (λ e. told.too_deep.0 (c.in-Err.is ∙ ap Err e)) (λ e. told.no_expression.0 (c.in-Err.is ∙ ap Err e))
    (λ n e. (told.too_many_marks n).0 (c.in-Err.is ∙ ap Err e)))

pub returns-clause-number : goal.returns-clause-number
returns-clause-number c =
    gives-made _ _ _ (record { steps-fit = omega arith; finals-fit = omega arith }) (c.automaton_of.ensures.ok.0 (rw c.in-Ok.is refl))

pub returns-clause-words : goal.returns-clause-words
returns-clause-words c =
    let steps : take c.put.result c.put.new.row ≡ c.in-Ok.automaton.steps = cc in
    let finals : take c.put-2.result c.put-2.new.row ≡ c.in-Ok.automaton.finals = cc in
    λ z. subst (ReadsItsWords c.args.marks.now) (sym (told-is c.in-Ok.automaton _ _ _ _ _ c.states.ensures steps finals))
    c.in-Ok.ensures.words

-- What is held made ready to be written out: an expression spelled out, and the tables in order.
use Rattle.std.specs.Prelude.{◌≡◌, None}
use Rattle.meaning.specs.Lent.{rule_width, concept_fact_width, role_fact_width, step_width, final_width}
use Rattle.expression.specs.Listed.{Listed}
use Rattle.sorted.specs.Rows.{IsTidied}
use Rattle.reading.specs.declared.File.{File}
use Rattle.reading.specs.File.{IsQuestion}

-- the question that was held, typed: its steps and its final states, and no expression; all else is
-- the same
pub record SpellsOut (old new : File) : Type 0 where
  pub question : Listed
  pub is : IsQuestion old question
  pub spelled : new ≡ record old {
    steps = question.steps;
    finals = question.finals;
    expression = None;
  }

-- each table but that of the asks in order, each record once; all else is the same
pub record TidiesTables (old new : File) : Type 0 where
  pub concept_rules : IsTidied rule_width old.concept_rules new.concept_rules
  pub concept_exclusions : IsTidied rule_width old.concept_exclusions new.concept_exclusions
  pub role_rules : IsTidied rule_width old.role_rules new.role_rules
  pub role_exclusions : IsTidied rule_width old.role_exclusions new.role_exclusions
  pub concept_facts : IsTidied concept_fact_width old.concept_facts new.concept_facts
  pub role_facts : IsTidied role_fact_width old.role_facts new.role_facts
  pub steps : IsTidied step_width old.steps new.steps
  pub finals : IsTidied final_width old.finals new.finals
  pub counts : new.counts ≡ old.counts
  pub allowance : new.allowance ≡ old.allowance
  pub expression : new.expression ≡ old.expression
  pub asks : new.asks ≡ old.asks
  pub lines : new.lines ≡ old.lines
  pub listed : new.listed ≡ old.listed
  pub salvages : new.salvages ≡ old.salvages
  pub typed : new.typed ≡ old.typed

-- A file whose question is spelled out and whose tables are tidied has the copy of whatever frames it was read from.
use Rattle.std.specs.Prelude.{◌≡◌, ◌≢◌, refl, ℕ, ◌<◌, List, [], None, Result, Ok, Err, OnOk, IfErr, length}
use Rattle.std.proofs.Common.{ap, ◌∙◌, subst, arith}
use Rattle.frames.specs.declared.Frame.{Frame}
use Rattle.reading.specs.declared.File.{File}
use Rattle.reading.specs.File.{file_of, IsQuestion}
use Rattle.reading.specs.Reading.{Taken}
use Rattle.sorted.specs.Rows.{IsTidied}
use Rattle.reading.specs.Tables.{Kind, concept_rules, concept_exclusions, role_rules, role_exclusions, concept_facts, role_facts, steps, finals, asks, listed, width}
use Rattle.reading.specs.Tidy.{SpellsOut, TidiesTables}
use Rattle.fair_copy.specs.Ready.{IsMadeReady}
use Rattle.shell.specs.Reports.{Tells}
use Rattle.fair_copy.specs.Copy.{IsCopyOf, frames_text, Copies}
use Rattle.fair_copy.specs.Framed.{typed_out}
use Rattle.fair_copy.proofs.TypedOut.{held, HoldsCopy, typed-out-is-copy}
use Rattle.fair_copy.proofs.Stands.{IsShelved, table_of}

module _ (file tidied : File) (ready : IsMadeReady file tidied) (begun : 0 < file.lines) where
  abbrev s : SpellsOut file ready.spelled
  s = ready.spells

  module _ (fs : List Frame) (t : Taken fs) (e : file ≡ file_of fs) where
    pub some : fs ≢ []
    some n = let z : file.lines ≡ 0 = ap (λ (f : File). f.lines) e ∙ ap (λ (l : List Frame). length l) n in omega (arith, z)

    pub question_is : IsQuestion (file_of fs) s.question
    question_is = subst (λ (f : File). IsQuestion f s.question) e s.is

    abbrev spelled_of : File → File
    spelled_of f = record f { steps = s.question.steps; finals = s.question.finals; expression = None }

    tidies : TidiesTables (spelled_of (file_of fs)) tidied
    tidies = subst (λ (f : File). TidiesTables (spelled_of f) tidied) e (subst (λ (f : File). TidiesTables f tidied) s.spelled ready.tidies)

    holds : HoldsCopy fs s.question tidied
    holds = record { counts = tidies.counts; allowance = tidies.allowance; tables = tables }
      where
        tables : (kind : Kind) → IsShelved kind → IsTidied (width kind) (table_of fs s.question kind) (held tidied kind)
        tables concept_rules k = tidies.concept_rules
        tables concept_exclusions k = tidies.concept_exclusions
        tables role_rules k = tidies.role_rules
        tables role_exclusions k = tidies.role_exclusions
        tables concept_facts k = tidies.concept_facts
        tables role_facts k = tidies.role_facts
        tables steps k = tidies.steps
        tables finals k = tidies.finals
        tables asks k = absurd k
        tables listed k = absurd k

    pub fair : IsCopyOf fs s.question (typed_out tidied)
    fair = typed-out-is-copy fs s.question (record { taken = t; begun = some; asks = question_is }) tidied holds

    copied : Copies fs (frames_text (typed_out tidied))
    copied = record { question = s.question; is = question_is; copy = typed_out tidied; fair = fair; written = refl }

  -- THEOREM: what is typed out is told of the file
  told : {P : List ℕ → Type 0} → P (frames_text (typed_out tidied)) → Tells Copies file P
  told p = record { by = λ fs t e. record { text = frames_text (typed_out tidied); is = copied fs t e; so = p } }

  pub told_ok : {A E : Type 0} (r : Result A E) (P : List ℕ → Type 0) → OnOk r (P (frames_text (typed_out tidied)))
      → OnOk r (Tells Copies file P)
  told_ok (Ok x) P p = told p
  told_ok (Err x) P p = tt

  pub told_err : {A E : Type 0} (r : Result A E) (P : E → List ℕ → Type 0) → IfErr r (λ d. P d (frames_text (typed_out tidied)))
      → IfErr r (λ d. Tells Copies file (P d))
  told_err (Ok x) P p = tt
  told_err (Err x) P p = told p

-- Frames that are taken have a text.
use Rattle.std.specs.Prelude.{ℕ, zero, suc, ◌<◌, refl, List, [], ◌++◌, min}
use Rattle.std.proofs.Common.{arith}
use Rattle.std.proofs.Math.Decide.{dec_lt}
use Rattle.kinds.specs.declared.Answer.{Answer}
use Rattle.meaning.specs.Lent.{Call, Sound}
use Rattle.meaning.specs.Lite.{lite}
use Rattle.meaning.specs.Model.{Contradiction}
use Rattle.meaning.specs.Outcome.{Outcome, bad-count, bad-table, bad-number, bad-ask, contradiction, spent, says-yes, says-no}
use Rattle.meaning.proofs.LiteMarks.{lite-countable}
use Rattle.meaning.proofs.OutcomeExists.{outcome-exists, sound-well-formed}
use Rattle.theory.specs.Sheet.{Needed}
use Rattle.theory.proofs.MarksLaws.{counts-there}
use Rattle.expression.specs.Listed.{Listed}
use Rattle.frames.specs.declared.Frame.{Frame}
use Rattle.reading.specs.File.{IsQuestionOf, asked}
use Rattle.reading.specs.Reading.{Taken}
use Rattle.reading.specs.Tables.{asks, entries, rounds_allowed}
use Rattle.reading.proofs.Accepted.{accepted}
use Rattle.intake.specs.Verdicts.{collection_read}
use Rattle.file.specs.Rounds as told
use Rattle.file.specs.Rounds.{round_lines}
use Rattle.file.specs.Text.{answer_line}
use Rattle.file.specs.Writes.{Answered, FileRounds, RepliesTo}

module _ (fs : List Frame) (t : Taken fs) (q : Listed) (is : IsQuestionOf fs q) where
  rounds-some : 0 < entries asks fs → (counts : List ℕ) × FileRounds fs q counts
  rounds-some some = by (outcome-exists (asked fs q 0))
    where
      sound : Sound (asked fs q 0)
      sound = accepted fs t q is 0 some

      worked : (Contradiction (collection_read fs q) → ⊥) → (n : ℕ) → Needed (lite (collection_read fs q)) n
          → (counts : List ℕ) × FileRounds fs q counts
      worked sane n need =
          let w = counts-there (lite (collection_read fs q)) (lite-countable (collection_read fs q) (sound-well-formed (asked fs q 0) sound))
          (min n (rounds_allowed fs)) in
          (w.0, told.rounds some sane need w.1)

      by : {r : Answer} {x y : List ℕ} → Outcome (asked fs q 0) r x y → (counts : List ℕ) × FileRounds fs q counts
      by (bad-count h) = absurd (h sound.counts)
      by (bad-table k h) = absurd (h sound.tables)
      by (bad-number k u h) = absurd (h sound.numbers)
      by (bad-ask k u n h) = absurd (h sound.ask)
      by (contradiction w h) = ([], told.contradiction h)
      by (spent {n = n} w sane need h lays) = worked sane n need
      by (says-yes {n = n} w sane need h lays reached) = worked sane n need
      by (says-no {n = n} w sane need h lays missed) = worked sane n need

  rounds-there : (counts : List ℕ) × FileRounds fs q counts
  rounds-there = by (dec_lt 0 (entries asks fs))
    where
      by : Dec (0 < entries asks fs) → (counts : List ℕ) × FileRounds fs q counts
      by (yes some) = rounds-some some
      by (no n) = ([], told.no-ask (omega arith))

  answers-there : (width : ℕ) (call : ℕ → Call) (n : ℕ) → (out : List ℕ) × Answered width call n out
  unfolding Answered
  answers-there width call zero = ([], refl)
  answers-there width call (suc n) =
      let w = answers-there width call n in
      let line = answer_line width (call n).ask _ in
      (w.0 ++ line, (w.0, line, w.1, record { answer = _; outcome = (_, _, outcome-exists (call n)); written = refl }, refl))

  -- THEOREM: something is written of them
  pub replies-there : (width : List Frame → ℕ) → (out : List ℕ) × RepliesTo width fs out
  replies-there width =
      let r = rounds-there in
      let a = answers-there (width fs) (asked fs q) (entries asks fs) in (
        round_lines (width fs) 0 r.0 ++ a.0,
        record { question = q; is = is; counts = r.0; told = r.1; out = a.0; answered = a.1; whole = refl },
      )

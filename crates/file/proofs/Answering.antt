-- What a preparation of a file answers to the file's asks is the library's outcomes over the whole file.
use Rattle.std.specs.Prelude.{ℕ, ◌≡◌, ◌<◌, refl, List, [], Option, None, Some, IfSome, slice_get}
use Rattle.std.proofs.Common.{sym, subst}
use Rattle.std.proofs.Math.ListN.{length-replicate}
use Rattle.kinds.specs.declared.Answer.{Answer}
use Rattle.meaning.specs.Layout.{area_length, zeros}
use Rattle.meaning.specs.Lent.{Sound}
use Rattle.meaning.specs.Outcome.{Outcome, bad-count, bad-table, bad-number, bad-ask, contradiction, spent, says-yes, says-no}
use Rattle.meaning.proofs.OutcomeExists.{outcome-exists}
use Rattle.sheet.specs.declared.round_marks.RoundMarks.{RoundMarks}
use Rattle.tables.specs.declared.collection.Collection.{Collection}
use Rattle.tables.specs.Lists.{lists}
use Rattle.expression.specs.Listed.{Listed}
use Rattle.reading.specs.declared.File.{File}
use Rattle.reading.specs.File.{lent_tables, allowance_in, held_ask, held_call, IsQuestion}
use Rattle.reading.specs.Reads.{IsRead}
use Rattle.index.specs.Preparation.{Preparation, preparation, Fits}
use Rattle.theory.specs.Listing.{counts_of}
use Rattle.index.specs.Marks.{MarksTold, CountsTold}
use Rattle.index.specs.Works.{Passes}
use Rattle.index.specs.Asked as index
use Rattle.index.specs.Row as row
use Rattle.file.specs.Rounds as told
use Rattle.file.specs.Rounds.{round_lines}
use Rattle.file.specs.Writes.{Answered}
use Rattle.file.specs.Replying.{ask_count, IsAnswer, HeldRounds, RoundsAll, AnswersEach, AnswersAll}
use Rattle.index.proofs.ToldOnce.{told-counts}
use Rattle.file.proofs.Asks.{call_sound}

-- what a file's own preparation is of
abbrev pub own : File → Listed → Preparation
own file q = record {
  counts = file.counts;
  tables = lent_tables file q;
  allowance = allowance_in file;
  area = area_length;
  spare = area_length;
}

pub is_own : (file : File) (q : Listed) (c : Collection) (allowed area spare : ℕ) → c.counts ≡ file.counts → lists c ≡ lent_tables file q
    → allowed ≡ allowance_in file
    → area ≡ area_length → spare ≡ area_length → preparation (record { collection = c; allowance = allowed }) area spare ≡ own file q
is_own file q c allowed area spare a b d e f = rw (a, b, d, e, f) refl

answer_in : (file : File) (q : Listed) (k : ℕ) (o : Option Answer) → IfSome o (index.IsAnswer (own file q) (held_ask file k))
    → IfSome o (IsAnswer file q k)
answer_in file q k None h = tt
answer_in file q k (Some r) h = h zeros zeros (length-replicate {A = ℕ} area_length 0) (length-replicate {A = ℕ} area_length 0)

module _ (file : File) (P : List ℕ → Type 0) where
  -- where nothing is asked there is nothing to tell and nothing to answer
  pub nothing-asked : (q : Listed) → IsQuestion file q → ask_count file ≡ 0 → P [] → AnswersAll file P
  unfolding round_lines Answered
  nothing-asked q is e so = record { question = q; is = is; counts = []; told = told.no-ask e; text = []; answered = rw e refl; so = so }

  -- THEOREM: replies from a file's own preparation are its answers
  pub replies-answer : (r : RoundsAll file P) (answers : List Answer) → row.AnswersEach (own file r.question) file.asks answers
      → AnswersEach file answers P
  replies-answer r answers h = record { rounds = r; each = λ k l. answer_in file r.question k (slice_get answers k) (h k l) }

module _ (file : File) (read : IsRead file) (q : Listed) (is : IsQuestion file q) (some : 0 < ask_count file) where
  sound : Sound (held_call file q 0)
  sound = call_sound file read q is 0 some

  -- THEOREM: what is lent of a file that was read passes the library's tests
  pub own-passes : (c : Collection) → c.counts ≡ file.counts → lists c ≡ lent_tables file q → Passes c
  own-passes c a b = record {
    counts = rw a sound.counts;
    tables = rw b sound.tables.tables;
    numbers = rw (a, b) sound.numbers;
  }

  -- THEOREM: how many marks are told of the preparation, round for round but for round 0, is told of the file
  pub counts-told : (made : List RoundMarks) → MarksTold (own file q) made → HeldRounds file q (counts_of made)
  counts-told made marks = by (told-counts (own file q) made marks) (outcome-exists (held_call file q 0))
    where
      fits : Fits (own file q)
      fits = record {
        counts = sound.counts;
        tables = record { tables = sound.tables.tables; area = refl; spare = refl };
        numbers = sound.numbers;
      }

      by : {counts : List ℕ} {r : Answer} {x y : List ℕ} → CountsTold (own file q) counts → Outcome (held_call file q 0) r x y
          → HeldRounds file q counts
      by t (bad-count h) = absurd (h sound.counts)
      by t (bad-table k h) = absurd (h sound.tables)
      by t (bad-number k u h) = absurd (h sound.numbers)
      by t (bad-ask k u n h) = absurd (h sound.ask)
      by t (contradiction w h) = subst (HeldRounds file q) (sym (t.none (λ s. s.sane h))) (told.contradiction h)
      by t (spent {n = n} w sane need h lays) = told.rounds some sane need (t.rounds (record { fits = fits; sane = sane }) n need)
      by t (says-yes {n = n} w sane need h lays reached) =
          told.rounds some sane need (t.rounds (record { fits = fits; sane = sane }) n need)
      by t (says-no {n = n} w sane need h lays missed) =
          told.rounds some sane need (t.rounds (record { fits = fits; sane = sane }) n need)

-- The answers that the desk writes are the listed ones, 0 to 3: what the library's tests 4, 5, 6 and 8 refuse, reading has refused before.
-- And their counts go into as many bytes as a count of the file has.
use Rattle.std.specs.Prelude.{ℕ, ◌*◌, ◌^◌, ◌<◌, ◌≤◌, List}
use Rattle.std.proofs.Common.{arith}
use Rattle.kinds.specs.declared.Answer.{Answer}
use Rattle.kinds.specs.Answer.{answer_number, answer_count}
use Rattle.theory.proofs.SheetLaws.{rounds-unique}
use Rattle.meaning.specs.Lite.{lite}
use Rattle.meaning.specs.Lent.{Call, collection_of, Sound}
use Rattle.meaning.specs.Outcome.{Outcome, RoundsNeeded, bad-count, bad-table, bad-number, bad-ask, contradiction, spent, says-yes, says-no}
use Rattle.meaning.proofs.OutcomeExists.{sound-well-formed}
use Rattle.meaning.specs.Demands.{most_rounds}
use Rattle.meaning.proofs.Demands.{rounds-suffice}
use Rattle.file.specs.Text.{count_width}
use Rattle.file.proofs.Widths.{rounds-fit}

-- THEOREM: a call that no test refuses is answered with 0, 1, 2 or 3
pub sound-listed : (c : Call) → Sound c → {r : Answer} {x y : List ℕ} → Outcome c r x y → answer_number r ≤ 3
sound-listed c s (bad-count h) = absurd (h s.counts)
sound-listed c s (bad-table k h) = absurd (h s.tables)
sound-listed c s (bad-number k t h) = absurd (h s.numbers)
sound-listed c s (bad-ask k t n h) = absurd (h s.ask)
sound-listed c s (contradiction w h) = omega arith
sound-listed c s (spent w sane need h lays) = omega arith
sound-listed c s (says-yes w sane need h lays reached) = omega arith
sound-listed c s (says-no w sane need h lays missed) = omega arith

-- the rounds that a sound call needs are no more than always suffice
few-needed : (c : Call) → Sound c → (n : ℕ) → RoundsNeeded c n → n ≤ most_rounds c.counts
few-needed c s n need =
    let w = rounds-suffice (collection_of c) (sound-well-formed c s) in
    omega (arith, w.1, rounds-unique (lite (collection_of c)) n w.0 need w.2)

-- THEOREM: and its count goes into as many bytes as it has
pub count-fits : (c : Call) → Sound c → {r : Answer} {x y : List ℕ} → Outcome c r x y → answer_count r < 2 ^ (8 * count_width c.counts)
count-fits c s {r} o = rounds-fit c.counts s.counts (answer_count r) (by o)
  where
    by : {r : Answer} {x y : List ℕ} → Outcome c r x y → answer_count r ≤ most_rounds c.counts
    by (bad-count h) = omega arith
    by (bad-table k h) = omega arith
    by (bad-number k t h) = omega arith
    by (bad-ask k t n h) = omega arith
    by (contradiction w h) = omega arith
    by (spent {n = n} w sane need h lays) = omega (arith, few-needed c s n need)
    by (says-yes {n = n} w sane need h lays reached) = few-needed c s n need
    by (says-no {n = n} w sane need h lays missed) = few-needed c s n need

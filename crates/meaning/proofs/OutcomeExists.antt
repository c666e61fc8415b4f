-- Every library input has an outcome, and it can be computed.
use Rattle.std.specs.Prelude.{◌↔◌, IsTrue, ◌≡◌, ℕ, ◌≤◌}
use Rattle.kinds.specs.declared.Answer.{Answer}
use Rattle.std.proofs.Common.{arith}
use Rattle.laws.specs.Truth.{picked, test-below}
use Rattle.meaning.specs.Collection.{WellFormed}
use Rattle.meaning.specs.Lent.{Call, collection_of, CountsOk, TablesOk, NumbersOk, Sound}
use Rattle.meaning.specs.Outcome.{Outcome, bad-count, bad-table, bad-number, bad-ask, contradiction, spent, says-yes, says-no, Breaks, Reached, RoundsNeeded, HoldsSheet}
use Rattle.meaning.proofs.Reply.{clash, is_yes}
use Rattle.meaning.proofs.ReplyLaws.{yes-is}
use Rattle.meaning.proofs.ClashLaws.{clash-is}
use Rattle.meaning.proofs.Calculate.{after_rounds, after_clash, sound_answer, after_numbers, after_tables, after_counts, answer, sheet_area, area_after, spare_after}
use Rattle.meaning.proofs.CalculateLaws.{counts-test, tables-test, numbers-test, ask-test, sheet-lays}
use Rattle.meaning.proofs.LiteSheet.{lite_work, lite-needed, closed-is}

module _ (c : Call) where
  -- what is lent in a call that passes tests 4 and 6 is well-formed
  pub well-formed : CountsOk c → NumbersOk c → WellFormed (collection_of c)
  well-formed k n = record { counts = k; numbers = n.declared }

  pub sound-well-formed : Sound c → WellFormed (collection_of c)
  sound-well-formed s = well-formed s.counts s.numbers

  pub clash-test : Sound c → IsTrue (clash (collection_of c)) ↔ (Breaks c)
  clash-test s = clash-is (collection_of c) (sound-well-formed s)

  pub yes-test : Sound c → IsTrue (is_yes (collection_of c) (lite_work (collection_of c)).1 c.ask) ↔ (Reached c)
  yes-test s =
      let ok = sound-well-formed s in
      yes-is (collection_of c) ok (lite_work (collection_of c)).1 (closed-is (collection_of c) ok.numbers) c.ask s.ask

  pub rounds-needed : Sound c → RoundsNeeded c (lite_work (collection_of c)).0
  rounds-needed s = lite-needed (collection_of c) s.numbers.declared

  pub holds-sheet : Sound c → (n : ℕ) → HoldsSheet c n (sheet_area c n)
  holds-sheet s n = sheet-lays (collection_of c) (sound-well-formed s) n

  -- what is computed is the outcome, test after test
  abbrev Done : Answer → Type 0
  Done r = Outcome c r (area_after c r) (spare_after c r)

  rounds-stage : Sound c → (Breaks c → ⊥) → (lite_work (collection_of c)).0 ≤ c.allowance
      → Done (after_rounds (collection_of c) c.ask c.allowance)
  unfolding after_rounds
  rounds-stage s sane h =
      let n = (lite_work (collection_of c)).0 in
      picked Done (yes-test s) (says-yes s sane (rounds-needed s) h (holds-sheet s n))
      (says-no s sane (rounds-needed s) h (holds-sheet s n))

  clash-stage : Sound c → (Breaks c → ⊥) → Done (after_clash (collection_of c) c.ask c.allowance)
  unfolding after_clash
  clash-stage s sane =
      picked Done (test-below c.allowance (lite_work (collection_of c)).0)
      (λ l. spent s sane (rounds-needed s) l (holds-sheet s c.allowance)) (λ l. rounds-stage s sane (omega arith))

  abbrev sound-answer : Answer
  sound-answer = sound_answer (collection_of c) c.ask c.allowance

  ask-stage : Sound c → Done sound-answer
  unfolding sound_answer
  ask-stage s = picked Done (clash-test s) (λ h. contradiction s h) (clash-stage s)

  numbers-stage : CountsOk c → TablesOk c → NumbersOk c → Done (after_numbers c)
  unfolding after_numbers
  numbers-stage k t n =
      picked Done (ask-test c) (λ h. ask-stage (record { counts = k; tables = t; numbers = n; ask = h })) (bad-ask k t n)

  tables-stage : CountsOk c → TablesOk c → Done (after_tables c)
  unfolding after_tables
  tables-stage k t = picked Done (numbers-test c) (numbers-stage k t) (bad-number k t)

  counts-stage : CountsOk c → Done (after_counts c)
  unfolding after_counts
  counts-stage k = picked Done (tables-test c) (tables-stage k) (bad-table k)

  -- THEOREM: every library input has an outcome, and it can be computed
  pub outcome-exists : Outcome c (answer c) (area_after c (answer c)) (spare_after c (answer c))
  unfolding answer
  outcome-exists = picked Done (counts-test c.counts) counts-stage bad-count

  -- a sound call passes each test
  pub passes-all : Sound c → answer c ≡ sound_answer (collection_of c) c.ask c.allowance
  unfolding answer after_counts after_tables after_numbers
  passes-all s = rw ((counts-test c.counts).1 s.counts, (tables-test c).1 s.tables, (numbers-test c).1 s.numbers, (ask-test c).1 s.ask)

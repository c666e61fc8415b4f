-- What a listener is told of rounds of rows, one round more; and where it fails.
use Rattle.std.specs.Prelude.{◌≡◌, refl, ◌↔◌, Result, Ok, Err, IfErr, Bool, false, IsTrue, suc, ℕ, ◌+◌, ◌<◌, ◌≤◌}
use Rattle.std.specs.Prelude.{List, [], ◌∷◌, ◌++◌, length, map, slice_index_or}
use Rattle.std.specs.Result.{IsErrAnd}
use Rattle.std.proofs.Common.{arith, length-append, ◌∙◌}
use Rattle.std.proofs.Math.ListN.{get_or-append}
use Rattle.std.proofs.Math.Seq.{get_or-append_seam}
use Rattle.std.proofs.Math.Decide.{dec_lt}
use Rattle.laws.specs.Member.{◌∈◌}
use Rattle.theory.specs.Kind.{Kind}
use Rattle.theory.specs.Sheet.{Mark, Unchanged}
use Rattle.theory.specs.Marks.{Added}
use Rattle.theory.specs.Listing.{FirstIn, FirstMarks}
use Rattle.theory.proofs.SheetLaws.{mark-markable}
use Rattle.theory.proofs.ListingLaws.{first-zero, first-next}
use Rattle.sets.specs.declared.concepts.ConceptSet.{ConceptSet}
use Rattle.rules.specs.declared.rows.Rows.{Rows}
use Rattle.rules.specs.Rows.{kind_of}
use Rattle.rules.proofs.Able.{low_of}
use Rattle.sheet.specs.declared.round_marks.RoundMarks.{RoundMarks}
use Rattle.sheet.specs.Sheets.{Holds}
use Rattle.sheet.specs.Listed.{mark_of, marks_in}
use Rattle.sheet.specs.Telling.{numbered, ToldIn, ToldUpTo}
use Rattle.sheet.specs.Told.{Told, Failed, none}
use Rattle.sheet.specs.Ends.{Going}
use Rattle.sheet.proofs.Ending.{changed}
use Rattle.sheet.proofs.ListedLaws.{marks_rise, marks_has, marks_are}

-- an error that is passed on as it came
pub passed_on : {A E : Type 0} (r : Result A E) (e : E) (Q : E → Type 0) → IsErrAnd r (λ d. d ≡ e) → Q e → IfErr r Q
passed_on (Ok x) e Q h q = tt
passed_on (Err d) e Q h q = rw h q

module _ (rows : Rows) where
  abbrev K : Kind
  K = kind_of rows

  -- the list of a sheet that holds what first stands in a round
  first_marks : (f : ℕ → ℕ → ℕ → Type 0) (sheet : List ConceptSet) (n : ℕ) → Holds f sheet
      → ((s t B : ℕ) → FirstIn (numbered rows) n s t B ↔ f s t B) → FirstMarks (numbered rows) n (marks_in sheet)
  first_marks f sheet n h first = record { sorted = marks_rise sheet; are = λ s t B. (to s t B, from s t B) }
    where
      to : (s t B : ℕ) → (s, t, B) ∈ marks_in sheet → FirstIn (numbered rows) n s t B
      to s t B m = let l = marks_are sheet s t B m in (first s t B).1 ((h.at s t B l.from l.to l.of).0 l.stands)

      from : (s t B : ℕ) → FirstIn (numbered rows) n s t B → (s, t, B) ∈ marks_in sheet
      from s t B a =
          let l = low_of rows s t B (mark-markable K n s t B a.stands) in
          marks_has sheet s t B l.from l.to l.of ((h.at s t B l.from l.to l.of).1 ((first s t B).0 a))

  told_in : (n : ℕ) (sheet : List ConceptSet) (marks : RoundMarks) → FirstMarks (numbered rows) n (marks_in sheet)
      → marks ≡ map mark_of (marks_in sheet) → ToldIn rows n marks
  told_in n sheet marks a e = record { numbers = marks_in sheet; are = a; told = e }

  -- THEOREM: all marks of the sheet of round 0 are told of that round
  pub own_told : (sheet : List ConceptSet) (marks : RoundMarks) → Holds (Mark K 0) sheet → marks ≡ map mark_of (marks_in sheet)
      → ToldIn rows 0 marks
  own_told sheet marks h = told_in 0 sheet marks
      (first_marks (Mark K 0) sheet 0 h (first-zero (numbered rows)))

  -- THEOREM: and those that one more round adds of the round that is next
  pub added_told : (n : ℕ) (delta : List ConceptSet) (marks : RoundMarks) → Holds (Added K n) delta → marks ≡ map mark_of (marks_in delta)
      → ToldIn rows (suc n) marks
  added_told n delta marks h = told_in (suc n) delta marks
      (first_marks (Added K n) delta (suc n) h (first-next (numbered rows) n))

  -- a round that changes the sheet is allowed
  pub going_on : (allowance n : ℕ) → Going rows allowance n → (b : Bool) → IsTrue b ↔ Unchanged K n
      → b ≡ false → (n ≡ allowance → ⊥)
      → Going rows allowance (n + 1)
  going_on allowance n g b o e ne = record { within = omega (arith, g.within, ne); changing = changed rows n g.changing b o e }

  pub one_round : (marks : RoundMarks) → ToldIn rows 0 marks → ToldUpTo rows 0 ([] ++ marks ∷ [])
  one_round marks a = record { long = refl; each = λ k l. let e : k ≡ 0 = omega arith in rw e a }

  pub one_more : (n : ℕ) (rounds : List RoundMarks) (marks : RoundMarks) → ToldUpTo rows n rounds → ToldIn rows (n + 1) marks
      → ToldUpTo rows (n + 1) (rounds ++ marks ∷ [])
  one_more n rounds marks r a = record { long = length-append rounds (marks ∷ []) ∙ omega (arith, r.long); each = each }
    where
      each : (k : ℕ) → k ≤ n + 1 → ToldIn rows k (slice_index_or (rounds ++ marks ∷ []) k [])
      each k l = side (dec_lt k (n + 1))
        where
          side : Dec (k < n + 1) → ToldIn rows k (slice_index_or (rounds ++ marks ∷ []) k [])
          side (yes h) = rw (get_or-append rounds (marks ∷ []) [] k (omega (arith, r.long))) (r.each k (omega arith))
          side (no h) =
              let e : k ≡ length rounds = omega (arith, r.long) in
              let g : n + 1 ≡ length rounds = omega (arith, r.long) in
              rw (e, get_or-append_seam rounds marks [] []) (rw g at a)

  -- the round of a list is the one after those before it
  pub numbered_so : (n : ℕ) (rounds : List RoundMarks) → ToldUpTo rows n rounds → n + 1 ≡ length rounds
  numbered_so n rounds r = omega (arith, r.long)

  -- what a listener failed at
  module _ {S E : Type 0} (hears : S → ℕ → RoundMarks → S → Type 0) (fails : S → ℕ → RoundMarks → E → S → Type 0) (from : S) where
    abbrev FailedAt : ℕ → E → S → Type 0
    FailedAt allowance e to =
        (k : ℕ) × (all : List RoundMarks) × Going rows allowance k × ToldUpTo rows k all × Failed hears fails from all e to

    pub failed_first : (allowance : ℕ) (marks : RoundMarks) (to : S) (e : E) → ToldIn rows 0 marks → fails from 0 marks e to
        → FailedAt allowance e to
    failed_first allowance marks to e a f = (
      0,
      [] ++ marks ∷ [],
      record { within = omega arith; changing = λ m l s. omega arith },
      one_round marks a,
      record { before = []; last = marks; all = refl; at = from; told = none; failed = f },
    )

    pub failed_at : (allowance n : ℕ) (rounds : List RoundMarks) (marks : RoundMarks) (at to : S) (e : E) → Going rows allowance (n + 1)
        → ToldUpTo rows n rounds → ToldIn rows (n + 1) marks → Told hears from rounds at → fails at (n + 1) marks e to
        → FailedAt allowance e to
    failed_at allowance n rounds marks at to e g r a t f = (
      n + 1,
      rounds ++ marks ∷ [],
      g,
      one_more n rounds marks r a,
      record { before = rounds; last = marks; all = refl; at = at; told = t; failed = rw (numbered_so n rounds r) at f },
    )

-- What stands in a copy, by its records: in each table that frames fill, with their question, a record stands exactly where its frame
-- stands in the copy.
use Rattle.std.specs.Prelude.{◌≡◌, ◌≢◌, refl, ⊤, ℕ, ◌/◌, Option, None, Some, IsSome, length}
use Rattle.std.proofs.Common.{sym, ap, ◌∙◌, div-le_self, arith}
use mathlib.Core.List.{List, [], ◌∷◌}
use Rattle.laws.specs.Member.{◌∈◌}
use Rattle.kinds.specs.declared.Counts.{Counts}
use Rattle.kinds.specs.declared.State.{State}
use Rattle.meaning.specs.Collection.{role, test, Step, step}
use Rattle.sorted.specs.Rows.{rows}
use Rattle.sorted.proofs.Chunks.{chunk-out}
use Rattle.expression.specs.Listed.{Listed, steps_of, finals_of, step_numbers}
use Rattle.expression.specs.Fits.{FitsTables}
use Rattle.frames.specs.Written.{FitsLine}
use Rattle.frames.specs.declared.Frame.{Frame}
use Rattle.frames.specs.declared.Frame.TheVariants.{Declared, ConceptRule, ConceptExclusion, RoleRule, RoleExclusion, ConceptFact, RoleFact, RoleStep, TestStep, Final, Ask, AskFrom, Allowance, Expression, Salvage, ListedMark}
use Rattle.reading.specs.Tables.{Kind, concept_rules, concept_exclusions, role_rules, role_exclusions, concept_facts, role_facts, steps, finals, asks, listed, record_in, width, table, expression_given}
use Rattle.reading.specs.File.{IsQuestionOf}
use Rattle.reading.specs.Reading.{Taken}
use Rattle.reading.proofs.Accepted.{fits}
use Rattle.fair_copy.specs.Copy.{IsCopied, step_frame, StandsIn, typed, by_step, by_final}
use Rattle.fair_copy.proofs.Records.{records-in, records-out, rows-table}
use Rattle.fair_copy.proofs.Taken.{expressed-alone}
use Rattle.fair_copy.proofs.Questions.{row-of-step, step-of-row, row-of-final, final-of-row}

-- frames that were taken one after the other, and their question
pub record AreTaken (fs : List Frame) (q : Listed) : Type 0 where
  pub taken : Taken fs
  pub begun : fs ≢ []
  pub asks : IsQuestionOf fs q

-- and that were read whole, each from a line
pub record AreWhole (fs : List Frame) (q : Listed) : Type 0 where
  pub are : AreTaken fs q
  pub lined : (f : Frame) → f ∈ fs → FitsLine f

-- the tables of a collection, by kind: all but the asks and the list
abbrev pub IsShelved : Kind → Type 0
IsShelved asks = ⊥
IsShelved listed = ⊥
IsShelved kind = ⊤

abbrev pub table_of : List Frame → Listed → Kind → List ℕ
table_of fs q steps = q.steps
table_of fs q finals = q.finals
table_of fs q kind = table kind fs

-- a frame that is copied declares, or allows rounds, or adds a record to one of these tables
pub data Sort : Frame → Type 0 where
  declares : (c : Counts) → Sort (Declared c)
  allows : (n : ℕ) → Sort (Allowance n)
  adds : {f : Frame} (kind : Kind) (r : List ℕ) → IsShelved kind → record_in kind f ≡ Some r → Sort f

pub sort_of : (f : Frame) → IsCopied f → Sort f
sort_of (Declared c) h = declares c
sort_of (Allowance n) h = allows n
sort_of (ConceptRule C D) h = adds concept_rules _ tt refl
sort_of (ConceptExclusion C D) h = adds concept_exclusions _ tt refl
sort_of (RoleRule R S) h = adds role_rules _ tt refl
sort_of (RoleExclusion R S) h = adds role_exclusions _ tt refl
sort_of (ConceptFact A a n) h = adds concept_facts _ tt refl
sort_of (RoleFact r a b n) h = adds role_facts _ tt refl
sort_of (RoleStep s R t) h = adds steps _ tt refl
sort_of (TestStep s A t) h = adds steps _ tt refl
sort_of (Final s) h = adds finals _ tt refl
sort_of (Ask a b) h = absurd h
sort_of (AskFrom a) h = absurd h
sort_of (Expression row) h = absurd h
sort_of Salvage h = absurd h
sort_of (ListedMark n s t B) h = absurd h

-- a frame that adds such a record is copied
adds-copied : (kind : Kind) (f : Frame) → IsShelved kind → IsSome (record_in kind f) → IsCopied f
adds-copied asks f k h = absurd k
adds-copied listed f k h = absurd k
adds-copied kind (Ask a b) k h = absurd cc
adds-copied kind (AskFrom a) k h = absurd cc
adds-copied kind (Expression row) k h = absurd cc
adds-copied kind Salvage k h = absurd cc
adds-copied kind (ListedMark n s t B) k h = absurd cc
adds-copied kind f k h = tt

-- no step and no final state is typed beside an expression
module _ (fs : List Frame) (q : Listed) (w : AreTaken fs q) where
  no-record : (kind : Kind) (f : Frame) (r : List ℕ) → f ∈ fs → record_in kind f ≡ Some r → table kind fs ≡ [] → ⊥
  no-record kind f r m e none =
      let i : r ∈ rows (width kind) (table kind fs) = rw (rows-table kind fs) (records-in kind fs m e) in
      let k = chunk-out (width kind) (length (table kind fs) / width kind) (table kind fs) i in
      omega (arith, k.1, div-le_self (length (table kind fs)) (width kind), ap (λ (t : List ℕ). length t) none)

  -- so that where one is typed the question is the typed one
  module _ (f : Frame) (r : List ℕ) (m : f ∈ fs) where
    typed-step : record_in steps f ≡ Some r → q.steps ≡ table steps fs
    typed-step e = by (expression_given fs) refl
      where
        by : (o : Option (List ℕ)) → expression_given fs ≡ o → q.steps ≡ table steps fs
        by None d = ap (λ (x : Listed). x.steps) (w.asks.typed d)
        by (Some row) d = absurd (no-record steps f r m e (rw d at (expressed-alone fs w.taken)).0)

    typed-final : record_in finals f ≡ Some r → q.finals ≡ table finals fs
    typed-final e = by (expression_given fs) refl
      where
        by : (o : Option (List ℕ)) → expression_given fs ≡ o → q.finals ≡ table finals fs
        by None d = ap (λ (x : Listed). x.finals) (w.asks.typed d)
        by (Some row) d = absurd (no-record finals f r m e (rw d at (expressed-alone fs w.taken)).1)

    -- a frame that is typed stands in its table
    typed-row : (kind : Kind) → record_in kind f ≡ Some r → r ∈ rows (width kind) (table_of fs q kind)
    typed-row steps e = rw (typed-step e, rows-table steps fs) (records-in steps fs m e)
    typed-row finals e = rw (typed-final e, rows-table finals fs) (records-in finals fs m e)
    typed-row concept_rules e = rw (rows-table concept_rules fs) (records-in concept_rules fs m e)
    typed-row concept_exclusions e = rw (rows-table concept_exclusions fs) (records-in concept_exclusions fs m e)
    typed-row role_rules e = rw (rows-table role_rules fs) (records-in role_rules fs m e)
    typed-row role_exclusions e = rw (rows-table role_exclusions fs) (records-in role_exclusions fs m e)
    typed-row concept_facts e = rw (rows-table concept_facts fs) (records-in concept_facts fs m e)
    typed-row role_facts e = rw (rows-table role_facts fs) (records-in role_facts fs m e)
    typed-row asks e = rw (rows-table asks fs) (records-in asks fs m e)
    typed-row listed e = rw (rows-table listed fs) (records-in listed fs m e)

  pub fitting-tables : FitsTables q
  fitting-tables = fits w.taken q w.asks 0

  step-row : (s : Step) → s ∈ steps_of q → (kind : Kind) (r : List ℕ) → record_in kind (step_frame s) ≡ Some r
      → r ∈ rows (width kind) (table_of fs q kind)
  step-row (step u (role S) v) m steps r e = let i : r ≡ step_numbers (step u (role S) v) = cc in rw i (row-of-step q fitting-tables _ m)
  step-row (step u (test A) v) m steps r e = let i : r ≡ step_numbers (step u (test A) v) = cc in rw i (row-of-step q fitting-tables _ m)
  step-row (step u (role S) v) m kind r e = absurd cc
  step-row (step u (test A) v) m kind r e = absurd cc

  final-row : (s : State) → s ∈ finals_of q → (kind : Kind) (r : List ℕ) → record_in kind (Final s) ≡ Some r
      → r ∈ rows (width kind) (table_of fs q kind)
  final-row s m finals r e = let i : r ≡ s.0 ∷ [] = cc in rw i (row-of-final q s m)
  final-row s m kind r e = absurd cc

  -- THEOREM: what stands in the copy has its record in its table,
  pub stands-row : {f : Frame} → StandsIn fs q f → (kind : Kind) (r : List ℕ) → record_in kind f ≡ Some r
      → r ∈ rows (width kind) (table_of fs q kind)
  stands-row (typed f m c) kind r e = typed-row f r m kind e
  stands-row (by_step s m) kind r e = step-row s m kind r e
  stands-row (by_final s m) kind r e = final-row s m kind r e

  -- and each record has its frame there
  abbrev Standing : Kind → List ℕ → Type 0
  Standing kind r = (f : Frame) × StandsIn fs q f × (record_in kind f ≡ Some r)

  from-table : (kind : Kind) → IsShelved kind → (r : List ℕ) → r ∈ rows (width kind) (table kind fs) → Standing kind r
  from-table kind k r m =
      let x = records-out kind fs (rw (rows-table kind fs) at m) in
      (x.0, typed x.0 x.1 (adds-copied kind x.0 k (rw x.2 refl)), x.2)

  pub row-stands : (kind : Kind) → IsShelved kind → (r : List ℕ) → r ∈ rows (width kind) (table_of fs q kind) → Standing kind r
  row-stands steps k r m =
      let x = step-of-row q fitting-tables r m in
      (step_frame x.0, by_step x.0 x.1, frame-record x.0 ∙ ap Some (sym x.2))
    where
      frame-record : (s : Step) → record_in steps (step_frame s) ≡ Some (step_numbers s)
      frame-record (step u (role S) v) = refl
      frame-record (step u (test A) v) = refl
  row-stands finals k r m = let x = final-of-row q r m in (Final x.0, by_final x.0 x.1, ap Some (sym x.2))
  row-stands asks k r m = absurd k
  row-stands listed k r m = absurd k
  row-stands concept_rules k r m = from-table concept_rules tt r m
  row-stands concept_exclusions k r m = from-table concept_exclusions tt r m
  row-stands role_rules k r m = from-table role_rules tt r m
  row-stands role_exclusions k r m = from-table role_exclusions tt r m
  row-stands concept_facts k r m = from-table concept_facts tt r m
  row-stands role_facts k r m = from-table role_facts tt r m

-- Frames that are taken stay within the most of each table, so that there are at most 138,787 of them.
use Rattle.std.specs.Prelude.{ℕ, ◌+◌, ◌<◌, ◌≤◌, ◌≡◌, Bool, true, false, List, [], ◌∷◌, ◌++◌, Option, None, Some, cond, is_some, length, count_by}
use Rattle.std.proofs.Common.{refl, ap, ◌∙◌, arith}
use Rattle.std.proofs.lemmas.List.Sums.{sum_by-cons, sum_by_push}
use Rattle.frames.specs.declared.Frame.{Frame}
use Rattle.frames.specs.declared.Frame.TheVariants.{Declared, ConceptRule, ConceptExclusion, RoleRule, RoleExclusion, ConceptFact, RoleFact, RoleStep, TestStep, Final, Ask, AskFrom, Allowance, Expression, Salvage, ListedMark}
use Rattle.reading.specs.Tables.{Kind, concept_rules, concept_exclusions, role_rules, role_exclusions, concept_facts, role_facts, steps, finals, asks, listed, record_in, most, most_lines, entries, table, is_declared, is_allowance, is_expression, is_salvage, allowance_given, expression_given, salvages}
use Rattle.reading.specs.Reading.{Taken}
use Rattle.reading.specs.Laws.{Within}
use Rattle.reading.proofs.TableLaws.{added, entries-more, entries-cons, table-length}
use Rattle.reading.proofs.Passed.{Passed, taken-keeps}

no_entries : (kind : Kind) → entries kind [] ≤ most kind
unfolding entries
no_entries kind = omega arith

pub few : (kind : Kind) (fs : List Frame) → Taken fs → entries kind fs ≤ most kind
few kind = taken-keeps (λ fs. entries kind fs ≤ most kind) (no_entries kind) step
  where
    by : (before : List Frame) (f : Frame) → Passed before f → entries kind before ≤ most kind → (b : Bool)
        → is_some (record_in kind f) ≡ b → entries kind (before ++ f ∷ []) ≤ most kind
    by before f p h true e = let r = p.room kind e in rw (entries-more kind before f, e) (omega arith)
    by before f p h false e = rw (entries-more kind before f, e) (omega arith)

    step : (before : List Frame) (f : Frame) → Taken before → Passed before f → entries kind before ≤ most kind
        → entries kind (before ++ f ∷ []) ≤ most kind
    step before f t p h = by before f p h (is_some (record_in kind f)) refl

-- what is given once, and another after it
module _ {A : Type 0} where
  abbrev pub or_else : Option A → Option A → Option A
  or_else None o = o
  or_else (Some n) o = Some n

  pub or_else-none : (o : Option A) → or_else o None ≡ o
  or_else-none None = refl
  or_else-none (Some n) = refl

pub allowance-more : (fs : List Frame) (f : Frame)
    → allowance_given (fs ++ f ∷ []) ≡ or_else (allowance_given fs) (allowance_given (f ∷ []))
allowance-more [] f = refl
allowance-more (Allowance n ∷ fs) f = refl
allowance-more (g ∷ fs) f = allowance-more fs f

pub expression-more : (fs : List Frame) (f : Frame)
    → expression_given (fs ++ f ∷ []) ≡ or_else (expression_given fs) (expression_given (f ∷ []))
expression-more [] f = refl
expression-more (Expression row ∷ fs) f = refl
expression-more (g ∷ fs) f = expression-more fs f

-- what is chosen, and another frame after it
abbrev pub chosen_or : Bool → Bool → Bool
chosen_or true b = true
chosen_or false b = b

pub chosen-append : (fs gs : List Frame) → salvages (fs ++ gs) ≡ chosen_or (salvages fs) (salvages gs)
chosen-append [] gs = refl
chosen-append (Salvage ∷ fs) gs = refl
chosen-append (g ∷ fs) gs = chosen-append fs gs

pub chosen-none : (b : Bool) → chosen_or b false ≡ b
chosen-none true = refl
chosen-none false = refl

pub chosen-same : (fs : List Frame) (f : Frame) → is_salvage f ≡ false → salvages (fs ++ f ∷ []) ≡ salvages fs
chosen-same fs Salvage e = absurd cc
chosen-same fs f e = chosen-append fs (f ∷ []) ∙ chosen-none (salvages fs)

-- where salvage is chosen, it stays so
pub choice-stands : (before rest : List Frame) → salvages (before ++ Salvage ∷ rest) ≡ false → ⊥
choice-stands [] rest e = absurd cc
choice-stands (Salvage ∷ fs) rest e = absurd cc
choice-stands (f ∷ fs) rest e = choice-stands fs rest e

-- the frames that a test finds, one more at the end
count-more : (p : Frame → Bool) (fs : List Frame) (f : Frame) → count_by p (fs ++ f ∷ []) ≡ count_by p fs + cond (p f) 1 0
count-more p fs f = sum_by_push (λ g. cond (p g) 1 0) fs f

count-cons : (p : Frame → Bool) (f : Frame) (fs : List Frame) → count_by p (f ∷ fs) ≡ cond (p f) 1 0 + count_by p fs
count-cons p f fs = sum_by-cons (λ g. cond (p g) 1 0) f fs

none-declared : (fs : List Frame) → fs ≡ [] → count_by is_declared fs ≡ 0
none-declared fs e = rw e refl

none-allowed : (fs : List Frame) → allowance_given fs ≡ None → count_by is_allowance fs ≡ 0
none-allowed [] e = refl
none-allowed (Allowance n ∷ fs) e = absurd cc
none-allowed (f ∷ fs) e = omega (arith, count-cons is_allowance f fs, none-allowed fs e)

none-chosen : (fs : List Frame) → salvages fs ≡ false → count_by is_salvage fs ≡ 0
none-chosen [] e = refl
none-chosen (Salvage ∷ fs) e = absurd cc
none-chosen (f ∷ fs) e = omega (arith, count-cons is_salvage f fs, none-chosen fs e)

none-expressed : (fs : List Frame) → expression_given fs ≡ None → count_by is_expression fs ≡ 0
none-expressed [] e = refl
none-expressed (Expression row ∷ fs) e = absurd cc
none-expressed (f ∷ fs) e = omega (arith, count-cons is_expression f fs, none-expressed fs e)

no_steps : (fs : List Frame) → table steps fs ≡ [] → entries steps fs ≡ 0
no_steps fs e = omega (arith, table-length steps fs, ap (λ (l : List ℕ). length l) e)

-- each is kept by one frame more
module _ (before : List Frame) where
  declared-more : (f : Frame) → Taken before → Passed before f → count_by is_declared before ≤ 1
      → count_by is_declared (before ++ f ∷ []) ≤ 1
  declared-more (Declared c) t p h = omega (arith, count-more is_declared before (Declared c), none-declared before p.in_place)
  declared-more f t p h = omega (arith, count-more is_declared before f)

  allowed-more : (f : Frame) → Taken before → Passed before f → count_by is_allowance before ≤ 1
      → count_by is_allowance (before ++ f ∷ []) ≤ 1
  allowed-more (Allowance n) t p h = omega (arith, count-more is_allowance before (Allowance n), none-allowed before p.in_place.1)
  allowed-more f t p h = omega (arith, count-more is_allowance before f)

  chosen-more : (f : Frame) → Taken before → Passed before f → count_by is_salvage before ≤ 1
      → count_by is_salvage (before ++ f ∷ []) ≤ 1
  chosen-more Salvage t p h = omega (arith, count-more is_salvage before Salvage, none-chosen before p.in_place.1)
  chosen-more f t p h = omega (arith, count-more is_salvage before f)

  abbrev Shared : List Frame → Type 0
  Shared fs = count_by is_expression fs + entries steps fs ≤ most steps

  shared-step : (f : Frame) → is_expression f ≡ false → added steps f ≡ 1 → expression_given before ≡ None
      → entries steps before < most steps → Shared (before ++ f ∷ [])
  shared-step f x one e room =
      rw (count-more is_expression before f, x, entries-more steps before f, one, none-expressed before e) (omega arith)

  shared-more : (f : Frame) → Taken before → Passed before f → Shared before → Shared (before ++ f ∷ [])
  shared-more (RoleStep s R u) t p h = shared-step (RoleStep s R u) refl refl p.in_place.1 (p.room steps refl)
  shared-more (TestStep s A u) t p h = shared-step (TestStep s A u) refl refl p.in_place.1 (p.room steps refl)
  shared-more (Expression row) t p h =
      omega (arith, count-more is_expression before (Expression row), none-expressed before p.in_place.1, no_steps before p.in_place.2, entries-more steps before (Expression row))
  shared-more f t p h = omega (arith, count-more is_expression before f, entries-more steps before f)

-- THEOREM: frames that are taken stay within the most of each table, and give once what is given once
pub taken-within : (fs : List Frame) → Taken fs → Within fs
taken-within fs t = record {
  few = λ kind. few kind fs t;
  declared = taken-keeps (λ gs. count_by is_declared gs ≤ 1) (omega arith) declared-more fs t;
  allowances = taken-keeps (λ gs. count_by is_allowance gs ≤ 1) (omega arith) allowed-more fs t;
  choices = taken-keeps (λ gs. count_by is_salvage gs ≤ 1) (omega arith) chosen-more fs t;
  expressions = taken-keeps (Shared fs) (omega (arith, no_entries steps)) shared-more fs t;
}

-- a frame is line 1, the allowance, the expression, the choice of salvage, or a record
abbrev kinds : Frame → ℕ
kinds f =
    cond (is_declared f) 1 0 + cond (is_allowance f) 1 0 + cond (is_expression f) 1 0 + cond (is_salvage f) 1 0
    + added concept_rules f + added concept_exclusions f + added role_rules f + added role_exclusions f + added concept_facts f
    + added role_facts f + added steps f + added finals f + added asks f + added listed f

one-kind : (f : Frame) → kinds f ≡ 1
one-kind (Declared c) = refl
one-kind (ConceptRule C D) = refl
one-kind (ConceptExclusion C D) = refl
one-kind (RoleRule R S) = refl
one-kind (RoleExclusion R S) = refl
one-kind (ConceptFact A a n) = refl
one-kind (RoleFact r a b n) = refl
one-kind (RoleStep s R t) = refl
one-kind (TestStep s A t) = refl
one-kind (Final s) = refl
one-kind (Ask a b) = refl
one-kind (AskFrom a) = refl
one-kind (Allowance n) = refl
one-kind (Expression row) = refl
one-kind Salvage = refl
one-kind (ListedMark n s t B) = refl

all : List Frame → ℕ
all fs =
    count_by is_declared fs + count_by is_allowance fs + count_by is_expression fs + count_by is_salvage fs
    + entries concept_rules fs + entries concept_exclusions fs + entries role_rules fs + entries role_exclusions fs + entries concept_facts fs
    + entries role_facts fs + entries steps fs + entries finals fs + entries asks fs + entries listed fs

all-cons : (f : Frame) (fs : List Frame) → all (f ∷ fs) ≡ kinds f + all fs
unfolding all
all-cons f fs =
    omega (arith, count-cons is_declared f fs, count-cons is_allowance f fs, count-cons is_expression f fs, count-cons is_salvage f fs, entries-cons concept_rules f fs, entries-cons concept_exclusions f fs, entries-cons role_rules f fs, entries-cons role_exclusions f fs, entries-cons concept_facts f fs, entries-cons role_facts f fs, entries-cons steps f fs, entries-cons finals f fs, entries-cons asks f fs, entries-cons listed f fs)

all-length : (fs : List Frame) → length fs ≤ all fs
all-length [] = omega arith
all-length (f ∷ fs) = omega (arith, all-length fs, all-cons f fs, one-kind f)

-- a file has at most 7,715 lines beside its list
pub beside_list : (fs : List Frame) → Within fs → length fs ≤ 7715 + entries listed fs
unfolding all
beside_list fs w =
    omega (arith, all-length fs, w.declared, w.allowances, w.choices, w.expressions, w.few concept_rules, w.few concept_exclusions, w.few role_rules, w.few role_exclusions, w.few concept_facts, w.few role_facts, w.few finals, w.few asks)

-- THEOREM: any frames within that are at most as many
pub bounded-lines : (fs : List Frame) → Within fs → length fs ≤ most_lines
bounded-lines fs w = omega (arith, beside_list fs w, w.few listed)

-- THEOREM: a file has at most that many lines before its first faulty one
pub within-lines : (fs : List Frame) → Taken fs → length fs ≤ most_lines
within-lines fs t = bounded-lines fs (taken-within fs t)

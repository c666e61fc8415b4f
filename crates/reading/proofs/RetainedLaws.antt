-- What is held without the facts that are dropped is what is held of the frames that are kept.
use Rattle.std.specs.Prelude.{ℕ, ◌+◌, ◌-◌, ◌/◌, ◌%◌, ◌<◌, ◌≡◌, ⊤, Bool, true, false, List, [], ◌∷◌, ◌++◌, map, length}
use Rattle.std.proofs.Common.{refl, sym, ap, ap₂, ◌∙◌, arith, add-one}
use Rattle.std.proofs.Math.Nat.{mul-mod_right}
use Rattle.meaning.specs.Lent.{concept_fact_width, role_fact_width}
use Rattle.salvage.specs.Salvages.{marked}
use Rattle.salvage.specs.declared.Typed.{Typed}
use Rattle.salvage.specs.declared.Typed.TheVariants as typed
use Rattle.sorted.specs.Rows.{rows, flat}
use Rattle.sorted.proofs.Chunks.{flat-rows}
use Rattle.frames.specs.declared.Frame.{Frame}
use Rattle.frames.specs.declared.Frame.TheVariants.{ConceptFact, RoleFact, ListedMark}
use Rattle.reading.specs.declared.File.{File}
use Rattle.reading.specs.File.{file_of}
use Rattle.reading.specs.Reading.{Taken}
use Rattle.reading.specs.Records.{is_typed, marks_of, kept_records}
use Rattle.reading.specs.Retained.{retained, KeepsMarked}
use Rattle.reading.specs.Salvage.{kept_frames, DropsFacts}
use Rattle.reading.specs.Tables.{Kind, concept_rules, concept_exclusions, role_rules, role_exclusions, concept_facts, role_facts, steps, finals, asks, listed, width, entries, table, Entry, frame_of, list_in, typed_lines}
use Rattle.reading.proofs.KeptFrames.{dropped-fact, dropped-rest, leaves, table-left, entries-same, allowance-left, expression-left, choice-left, begins, declared-left}
use Rattle.reading.proofs.ListEnds.{list-last}
use Rattle.reading.proofs.ListLaws.{list-cons}
use Rattle.reading.proofs.RetainLaws.{kept-and-dropped}
use Rattle.reading.proofs.TableLaws.{table-length}
use Rattle.reading.proofs.TypedLaws.{typed-append}

-- behind the first entry of a list there is nothing that types
abbrev pub IsEnded : List Frame → Type 0
IsEnded [] = ⊤
IsEnded (ListedMark n s t B ∷ fs) = typed_lines fs ≡ []
IsEnded (f ∷ fs) = IsEnded fs

none-typed : (list : List Entry) → typed_lines (map frame_of list) ≡ []
unfolding typed_lines
none-typed [] = refl
none-typed (entry ∷ list) = none-typed list

ended-list : (list : List Entry) → IsEnded (map frame_of list)
ended-list [] = tt
ended-list (entry ∷ list) = none-typed list

listed-first : (n : ℕ) (f : Frame) (fs : List Frame) → list_in (f ∷ []) ≡ [] → list_in (f ∷ fs) ≡ list_in fs
listed-first n f fs e = list-cons f fs ∙ ap (λ l. l ++ list_in fs) e

ended-before : (fs : List Frame) (list : List Entry) → list_in fs ≡ [] → IsEnded (fs ++ map frame_of list)
unfolding list_in
ended-before [] list e = ended-list list
ended-before (ListedMark n s t B ∷ fs) list e = absurd cc
ended-before (f ∷ fs) list e = ended-before fs list e

pub ended : (fs : List Frame) → Taken fs → IsEnded fs
ended fs t = let w = list-last fs t in rw w.are (ended-before w.collection (list_in fs) w.no_list)

-- frames of which none types are kept
pub all-kept : (fs : List Frame) (marks : List Bool) → typed_lines fs ≡ [] → DropsFacts fs marks → kept_frames fs marks ≡ fs
unfolding typed_lines
all-kept [] marks e d = refl
all-kept (ListedMark n s t B ∷ fs) [] e d = refl
all-kept (ListedMark n s t B ∷ fs) (true ∷ marks) e d = ap (λ (l : List Frame). ListedMark n s t B ∷ l) (all-kept fs marks e d)
all-kept (ListedMark n s t B ∷ fs) (false ∷ marks) e d = let h = dropped-fact (ListedMark n s t B) fs marks d in absurd cc
all-kept (f ∷ fs) marks e d = absurd cc

entry-kept : (n : ℕ) (f : Frame) (fs : List Frame) (marks : List Bool) → typed_lines (f ∷ []) ≡ [] → typed_lines fs ≡ []
    → DropsFacts (f ∷ fs) marks
    → kept_frames (f ∷ fs) marks ≡ f ∷ fs
entry-kept n f fs marks own e d = all-kept (f ∷ fs) marks (typed-append (f ∷ []) fs ∙ ap₂ ◌++◌ own e) d

-- what is typed by the frames that are kept
pub typed-kept : (fs : List Frame) (marks : List Bool) → IsEnded fs → DropsFacts fs marks
    → typed_lines (kept_frames fs marks) ≡ marked true (typed_lines fs) marks
unfolding typed_lines
typed-kept [] marks e d = refl
typed-kept (ListedMark n s t B ∷ fs) marks e d =
    ap typed_lines (all-kept (ListedMark n s t B ∷ fs) marks e d) ∙ e ∙ ap (λ (l : List Typed). marked true l marks) (sym e)
typed-kept (f ∷ fs) [] e d = refl
typed-kept (ConceptFact A a n ∷ fs) (false ∷ marks) e d = typed-kept fs marks e (dropped-rest (ConceptFact A a n) fs marks d)
typed-kept (RoleFact r a b n ∷ fs) (false ∷ marks) e d = typed-kept fs marks e (dropped-rest (RoleFact r a b n) fs marks d)
typed-kept (f ∷ fs) (false ∷ marks) e d = let h = dropped-fact f fs marks d in absurd cc
typed-kept (f ∷ fs) (true ∷ marks) e d = ap (λ (l : List Typed). typed_lines (f ∷ []) ++ l) (typed-kept fs marks e d)

-- as many lines leave as frames
dropped-typed : (fs : List Frame) (marks : List Bool) → IsEnded fs → DropsFacts fs marks
    → length (marked false fs marks) ≡ length (marked false (typed_lines fs) marks)
unfolding typed_lines
dropped-typed [] marks e d = refl
dropped-typed (ListedMark n s t B ∷ fs) marks e d =
    let all = ap length (all-kept (ListedMark n s t B ∷ fs) marks e d) in
    let none : marked false (typed_lines fs) marks ≡ [] = rw e refl in
    omega (arith, all, kept-and-dropped (ListedMark n s t B ∷ fs) marks, ap length none)
dropped-typed (f ∷ fs) [] e d = refl
dropped-typed (ConceptFact A a n ∷ fs) (false ∷ marks) e d =
    omega (arith, dropped-typed fs marks e (dropped-rest (ConceptFact A a n) fs marks d))
dropped-typed (RoleFact r a b n ∷ fs) (false ∷ marks) e d =
    omega (arith, dropped-typed fs marks e (dropped-rest (RoleFact r a b n) fs marks d))
dropped-typed (f ∷ fs) (false ∷ marks) e d = let h = dropped-fact f fs marks d in absurd cc
dropped-typed (f ∷ fs) (true ∷ marks) e d = dropped-typed fs marks e d

lines-kept : (fs : List Frame) (marks : List Bool) → IsEnded fs → DropsFacts fs marks
    → length (kept_frames fs marks) ≡ length fs - length (marked false (typed_lines fs) marks)
lines-kept fs marks e d = omega (arith, dropped-typed fs marks e d, kept-and-dropped fs marks)

-- the records of a table: without marks all, and one by one
module _ (w : ℕ) (wide : 0 < w) where
  unmarked : (t : List ℕ) → length t % w ≡ 0 → kept_records w t [] ≡ t
  unmarked t whole = by (rows w t) refl
    where
      by : (l : List (List ℕ)) → rows w t ≡ l → flat (marked true l []) ≡ t
      by [] e = ap flat (sym e) ∙ flat-rows w wide t whole
      by (r ∷ l) e = ap flat (sym e) ∙ flat-rows w wide t whole

rows-concept : (A a n : ℕ) (t : List ℕ) → rows 3 (A ∷ a ∷ n ∷ t) ≡ (A ∷ a ∷ n ∷ []) ∷ rows 3 t
rows-concept A a n t = let e : length (A ∷ a ∷ n ∷ t) / 3 ≡ length t / 3 + 1 = omega arith in rw (e, add-one (length t / 3)) refl

rows-role : (r a b n : ℕ) (t : List ℕ) → rows 4 (r ∷ a ∷ b ∷ n ∷ t) ≡ (r ∷ a ∷ b ∷ n ∷ []) ∷ rows 4 t
rows-role r a b n t = let e : length (r ∷ a ∷ b ∷ n ∷ t) / 4 ≡ length t / 4 + 1 = omega arith in rw (e, add-one (length t / 4)) refl

whole-table : (kind : Kind) (fs : List Frame) → length (table kind fs) % width kind ≡ 0
whole-table kind fs = rw (table-length kind fs) (mul-mod_right (width kind) (entries kind fs))

abbrev concept_marks : List Frame → List Bool → List Bool
concept_marks fs marks = marks_of (is_typed typed.ConceptFact) (typed_lines fs) marks

abbrev role_marks : List Frame → List Bool → List Bool
role_marks fs marks = marks_of (is_typed typed.RoleFact) (typed_lines fs) marks

-- the facts that are kept
pub concepts-kept : (fs : List Frame) (marks : List Bool) → IsEnded fs → DropsFacts fs marks
    → table concept_facts (kept_frames fs marks) ≡ kept_records concept_fact_width (table concept_facts fs) (concept_marks fs marks)
unfolding typed_lines table
concepts-kept [] marks e d = refl
concepts-kept (ListedMark n s t B ∷ fs) marks e d =
    let none : concept_marks fs marks ≡ [] = rw e refl in
    ap (table concept_facts) (all-kept (ListedMark n s t B ∷ fs) marks e d)
    ∙ sym (
    ap (kept_records concept_fact_width (table concept_facts fs)) none
    ∙ unmarked concept_fact_width (omega arith) (table concept_facts fs) (whole-table concept_facts fs)
    )
concepts-kept (f ∷ fs) [] e d =
    sym (unmarked concept_fact_width (omega arith) (table concept_facts (f ∷ fs)) (whole-table concept_facts (f ∷ fs)))
concepts-kept (ConceptFact A a n ∷ fs) (true ∷ marks) e d =
    rw (rows-concept A.0 a.0 n.0 (table concept_facts fs)) (ap (λ (l : List ℕ). A.0 ∷ a.0 ∷ n.0 ∷ l) (concepts-kept fs marks e d))
concepts-kept (ConceptFact A a n ∷ fs) (false ∷ marks) e d =
    rw (rows-concept A.0 a.0 n.0 (table concept_facts fs)) (concepts-kept fs marks e (dropped-rest (ConceptFact A a n) fs marks d))
concepts-kept (RoleFact r a b n ∷ fs) (false ∷ marks) e d = concepts-kept fs marks e (dropped-rest (RoleFact r a b n) fs marks d)
concepts-kept (f ∷ fs) (false ∷ marks) e d = let h = dropped-fact f fs marks d in absurd cc
concepts-kept (f ∷ fs) (true ∷ marks) e d = concepts-kept fs marks e d

pub roles-kept : (fs : List Frame) (marks : List Bool) → IsEnded fs → DropsFacts fs marks
    → table role_facts (kept_frames fs marks) ≡ kept_records role_fact_width (table role_facts fs) (role_marks fs marks)
unfolding typed_lines table
roles-kept [] marks e d = refl
roles-kept (ListedMark n s t B ∷ fs) marks e d =
    let none : role_marks fs marks ≡ [] = rw e refl in
    ap (table role_facts) (all-kept (ListedMark n s t B ∷ fs) marks e d)
    ∙ sym (
    ap (kept_records role_fact_width (table role_facts fs)) none
    ∙ unmarked role_fact_width (omega arith) (table role_facts fs) (whole-table role_facts fs)
    )
roles-kept (f ∷ fs) [] e d =
    sym (unmarked role_fact_width (omega arith) (table role_facts (f ∷ fs)) (whole-table role_facts (f ∷ fs)))
roles-kept (RoleFact r a b n ∷ fs) (true ∷ marks) e d =
    rw (rows-role r.0 a.0 b.0 n.0 (table role_facts fs)) (ap (λ (l : List ℕ). r.0 ∷ a.0 ∷ b.0 ∷ n.0 ∷ l) (roles-kept fs marks e d))
roles-kept (RoleFact r a b n ∷ fs) (false ∷ marks) e d =
    rw (rows-role r.0 a.0 b.0 n.0 (table role_facts fs)) (roles-kept fs marks e (dropped-rest (RoleFact r a b n) fs marks d))
roles-kept (ConceptFact A a n ∷ fs) (false ∷ marks) e d = roles-kept fs marks e (dropped-rest (ConceptFact A a n) fs marks d)
roles-kept (f ∷ fs) (false ∷ marks) e d = let h = dropped-fact f fs marks d in absurd cc
roles-kept (f ∷ fs) (true ∷ marks) e d = roles-kept fs marks e d

-- THEOREM: what is held without the dropped facts is held of the kept frames
pub retained-held : (fs : List Frame) (marks : List Bool) → Taken fs → DropsFacts fs marks
    → retained (file_of fs) marks ≡ file_of (kept_frames fs marks)
retained-held fs marks t d =
    let s = leaves fs marks d in
    let e = ended fs t in
    rw (
      declared-left (begins fs t) s,
      allowance-left s,
      table-left concept_rules tt s,
      table-left concept_exclusions tt s,
      table-left role_rules tt s,
      table-left role_exclusions tt s,
      concepts-kept fs marks e d,
      roles-kept fs marks e d,
      table-left steps tt s,
      table-left finals tt s,
      expression-left s,
      table-left asks tt s,
      lines-kept fs marks e d,
      entries-same listed tt s,
      choice-left s,
      typed-kept fs marks e d,
    ) refl

pub keeps_marked : {old new : File} {marks : List Bool} → new ≡ retained old marks → KeepsMarked old marks new
keeps_marked {marks = marks} h =
    record { by = λ fs t e d. h ∙ ap (λ file. retained file marks) e ∙ retained-held fs marks t d }

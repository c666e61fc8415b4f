-- Laws of a file's tables: one frame more, and whole records.
use Rattle.std.specs.Prelude.{ℕ, ◌+◌, ◌*◌, ◌≡◌, List, [], ◌∷◌, ◌++◌, Option, None, Some, cond, is_some, unwrap_or, length}
use Rattle.std.proofs.Common.{refl, sym, ap, ap₂, ◌∙◌, arith, append-nil, length-append, mul-zero, mul-add}
use Rattle.std.proofs.lemmas.List.Sums.{sum_by-append, sum_by-cons, sum_by_push}
use Rattle.std.proofs.lemmas.Grind.{flat_map-append}
use Rattle.frames.specs.declared.Frame.{Frame}
use Rattle.frames.specs.declared.Frame.TheVariants.{ConceptRule, ConceptExclusion, RoleRule, RoleExclusion, ConceptFact, RoleFact, RoleStep, TestStep, Final, Ask, AskFrom, ListedMark}
use Rattle.reading.specs.Tables.{Kind, concept_rules, concept_exclusions, role_rules, role_exclusions, concept_facts, role_facts, steps, finals, asks, listed, record_in, width, entries, table}

-- how many records a frame adds to a table
abbrev pub added : Kind → Frame → ℕ
added kind f = cond (is_some (record_in kind f)) 1 0

pub entries-more : (kind : Kind) (fs : List Frame) (f : Frame) → entries kind (fs ++ f ∷ []) ≡ entries kind fs + added kind f
unfolding entries
entries-more kind fs f = sum_by_push (added kind) fs f

pub entries-cons : (kind : Kind) (f : Frame) (fs : List Frame) → entries kind (f ∷ fs) ≡ added kind f + entries kind fs
unfolding entries
entries-cons kind f fs = sum_by-cons (added kind) f fs

-- the records of some frames and of those after them
pub entries-append : (kind : Kind) (fs gs : List Frame) → entries kind (fs ++ gs) ≡ entries kind fs + entries kind gs
unfolding entries
entries-append kind fs gs = sum_by-append (added kind) fs gs

pub table-append : (kind : Kind) (fs gs : List Frame) → table kind (fs ++ gs) ≡ table kind fs ++ table kind gs
unfolding table
table-append kind fs gs = flat_map-append (λ g. unwrap_or (record_in kind g) []) fs gs

-- a table and the record after it, if there is one
abbrev pub plus : List ℕ → Option (List ℕ) → List ℕ
plus xs None = xs
plus xs (Some record-of) = xs ++ record-of

plus_is : (xs : List ℕ) (o : Option (List ℕ)) → xs ++ (unwrap_or o [] ++ []) ≡ plus xs o
plus_is xs None = append-nil xs
plus_is xs (Some r) = ap (λ l. xs ++ l) (append-nil r)

pub table-more : (kind : Kind) (fs : List Frame) (f : Frame) → table kind (fs ++ f ∷ []) ≡ plus (table kind fs) (record_in kind f)
unfolding table
table-more kind fs f = flat_map-append (λ g. unwrap_or (record_in kind g) []) fs (f ∷ []) ∙ plus_is (table kind fs) (record_in kind f)

-- and how many records there are then
abbrev pub counted : ℕ → Option (List ℕ) → ℕ
counted n None = n
counted n (Some record-of) = n + 1

counted_is : (n : ℕ) (o : Option (List ℕ)) → n + cond (is_some o) 1 0 ≡ counted n o
counted_is n None = omega arith
counted_is n (Some r) = refl

pub entries-counted : (kind : Kind) (fs : List Frame) (f : Frame)
    → entries kind (fs ++ f ∷ []) ≡ counted (entries kind fs) (record_in kind f)
entries-counted kind fs f = entries-more kind fs f ∙ counted_is (entries kind fs) (record_in kind f)

-- a record has its table's width
pub record-width : (kind : Kind) (f : Frame) → length (unwrap_or (record_in kind f) []) ≡ width kind * added kind f
record-width concept_rules (ConceptRule C D) = refl
record-width concept_exclusions (ConceptExclusion C D) = refl
record-width role_rules (RoleRule R S) = refl
record-width role_exclusions (RoleExclusion R S) = refl
record-width concept_facts (ConceptFact A a n) = refl
record-width role_facts (RoleFact r a b n) = refl
record-width steps (RoleStep s R t) = refl
record-width steps (TestStep s A t) = refl
record-width finals (Final s) = refl
record-width asks (Ask a b) = refl
record-width asks (AskFrom a) = refl
record-width listed (ListedMark n s t B) = refl
record-width kind f = sym (mul-zero (width kind))

-- a table holds whole records
pub table-length : (kind : Kind) (fs : List Frame) → length (table kind fs) ≡ width kind * entries kind fs
unfolding table entries
table-length kind [] = sym (mul-zero (width kind))
table-length kind (f ∷ fs) =
    length-append (unwrap_or (record_in kind f) []) (table kind fs)
    ∙ ap₂ ◌+◌ (record-width kind f) (table-length kind fs)
    ∙ sym (mul-add (width kind) (added kind f) (entries kind fs))
    ∙ ap (λ n. width kind * n) (sym (entries-cons kind f fs))

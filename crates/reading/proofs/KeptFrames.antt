-- Frames without some of their facts: what they say of anything else is the same, and they are taken one after the other.
use Rattle.std.specs.Prelude.{◌≤◌, ◌≡◌, ◌↔◌, ⊤, Bool, true, false, List, [], ◌∷◌, ◌++◌, IsSome, length, slice_index_or}
use Rattle.std.proofs.Common.{refl, sym, ap, ◌∙◌, arith, append-nil}
use Rattle.std.proofs.lemmas.List.Elements.{All-nil, All-cons, All-head, All-tail}
use Rattle.kinds.specs.declared.ConceptName.{ConceptName}
use Rattle.kinds.specs.declared.RoleName.{RoleName}
use Rattle.kinds.specs.declared.Individual.{Individual}
use Rattle.kinds.specs.declared.DeedNumber.{DeedNumber}
use Rattle.salvage.specs.Salvages.{marked}
use Rattle.expression.specs.Listed.{Listed}
use Rattle.frames.specs.declared.Frame.{Frame}
use Rattle.frames.specs.declared.Frame.TheVariants.{Declared, ConceptFact, RoleFact, RoleStep, TestStep, Final, Allowance, Expression, Salvage, ListedMark}
use Rattle.reading.specs.Tables.{Kind, concept_facts, role_facts, steps, finals, entries, table, list_in, declared_by, allowance_given, expression_given, salvages, rounds_allowed}
use Rattle.reading.specs.File.{IsQuestionOf}
use Rattle.reading.specs.Judged.{IsOpen, InPlace}
use Rattle.reading.specs.Reading.{Taken, none, more}
use Rattle.reading.specs.Salvage.{fact_in, kept_frames, DropsFacts}
use Rattle.reading.proofs.ListLaws.{list-cons, no_entry}
use Rattle.reading.proofs.Passed.{Passed, passed, judged_passed, taken-keeps}
use Rattle.reading.proofs.RetainLaws.{last, marked-more}
use Rattle.reading.proofs.TableLaws.{added, entries-cons, table-append}

abbrev pub IsFact : Frame → Type 0
IsFact f = IsSome (fact_in f)

-- the same frames, but for some facts that the first have and the others have not
pub data Leaves : List Frame → List Frame → Type 0 where
  ended : Leaves [] []
  keeps : {fs gs : List Frame} (f : Frame) → Leaves fs gs → Leaves (f ∷ fs) (f ∷ gs)
  drops_concept : {fs gs : List Frame} (A : ConceptName) (a : Individual) (n : DeedNumber) → Leaves fs gs
      → Leaves (ConceptFact A a n ∷ fs) gs
  drops_role : {fs gs : List Frame} (r : RoleName) (a b : Individual) (n : DeedNumber) → Leaves fs gs
      → Leaves (RoleFact r a b n ∷ fs) gs

pub leaves-all : (fs : List Frame) → Leaves fs fs
leaves-all [] = ended
leaves-all (f ∷ fs) = keeps f (leaves-all fs)

pub dropped-fact : (f : Frame) (fs : List Frame) (marks : List Bool) → DropsFacts (f ∷ fs) (false ∷ marks) → IsFact f
dropped-fact f fs marks d = All-head IsFact f (marked false fs marks) d

pub dropped-rest : (f : Frame) (fs : List Frame) (marks : List Bool) → DropsFacts (f ∷ fs) (false ∷ marks) → DropsFacts fs marks
dropped-rest f fs marks d = All-tail IsFact f (marked false fs marks) d

pub leaves : (fs : List Frame) (marks : List Bool) → DropsFacts fs marks → Leaves fs (kept_frames fs marks)
leaves [] marks d = ended
leaves (f ∷ fs) [] d = leaves-all (f ∷ fs)
leaves (f ∷ fs) (true ∷ marks) d = keeps f (leaves fs marks d)
leaves (ConceptFact A a n ∷ fs) (false ∷ marks) d = drops_concept A a n (leaves fs marks (dropped-rest (ConceptFact A a n) fs marks d))
leaves (RoleFact r a b n ∷ fs) (false ∷ marks) d = drops_role r a b n (leaves fs marks (dropped-rest (RoleFact r a b n) fs marks d))
leaves (f ∷ fs) (false ∷ marks) d = let h = dropped-fact f fs marks d in absurd cc

-- a table of other records than facts
abbrev pub NoFacts : Kind → Type 0
NoFacts concept_facts = ⊥
NoFacts role_facts = ⊥
NoFacts other = Unit {0}

table-front : (kind : Kind) (f : Frame) (fs : List Frame) → table kind (f ∷ fs) ≡ table kind (f ∷ []) ++ table kind fs
table-front kind f fs = table-append kind (f ∷ []) fs

concept-none : (kind : Kind) → NoFacts kind → (A : ConceptName) (a : Individual) (n : DeedNumber) → table kind (ConceptFact A a n ∷ []) ≡ []
unfolding table
concept-none concept_facts other A a n = absurd other
concept-none kind other A a n = refl

role-none : (kind : Kind) → NoFacts kind → (r : RoleName) (a b : Individual) (n : DeedNumber) → table kind (RoleFact r a b n ∷ []) ≡ []
unfolding table
role-none role_facts other r a b n = absurd other
role-none kind other r a b n = refl

pub table-left : (kind : Kind) → NoFacts kind → {fs gs : List Frame} → Leaves fs gs → table kind gs ≡ table kind fs
table-left kind other ended = refl
table-left kind other (keeps {fs} {gs} f s) =
    table-front kind f gs ∙ ap (λ l. table kind (f ∷ []) ++ l) (table-left kind other s) ∙ sym (table-front kind f fs)
table-left kind other (drops_concept {fs} {gs} A a n s) =
    table-left kind other s ∙ sym (table-front kind (ConceptFact A a n) fs ∙ ap (λ l. l ++ table kind fs) (concept-none kind other A a n))
table-left kind other (drops_role {fs} {gs} r a b n s) =
    table-left kind other s ∙ sym (table-front kind (RoleFact r a b n) fs ∙ ap (λ l. l ++ table kind fs) (role-none kind other r a b n))

-- no table has more records
pub entries-left : (kind : Kind) {fs gs : List Frame} → Leaves fs gs → entries kind gs ≤ entries kind fs
entries-left kind ended = omega arith
entries-left kind (keeps {fs} {gs} f s) = omega (arith, entries-cons kind f fs, entries-cons kind f gs, entries-left kind s)
entries-left kind (drops_concept {fs} {gs} A a n s) = omega (arith, entries-cons kind (ConceptFact A a n) fs, entries-left kind s)
entries-left kind (drops_role {fs} {gs} r a b n s) = omega (arith, entries-cons kind (RoleFact r a b n) fs, entries-left kind s)

concept-adds : (kind : Kind) → NoFacts kind → (A : ConceptName) (a : Individual) (n : DeedNumber) → added kind (ConceptFact A a n) ≡ 0
concept-adds concept_facts other A a n = absurd other
concept-adds kind other A a n = refl

role-adds : (kind : Kind) → NoFacts kind → (r : RoleName) (a b : Individual) (n : DeedNumber) → added kind (RoleFact r a b n) ≡ 0
role-adds role_facts other r a b n = absurd other
role-adds kind other r a b n = refl

pub entries-same : (kind : Kind) → NoFacts kind → {fs gs : List Frame} → Leaves fs gs → entries kind gs ≡ entries kind fs
entries-same kind other ended = refl
entries-same kind other (keeps {fs} {gs} f s) = omega (arith, entries-cons kind f fs, entries-cons kind f gs, entries-same kind other s)
entries-same kind other (drops_concept {fs} {gs} A a n s) =
    omega (arith, entries-cons kind (ConceptFact A a n) fs, concept-adds kind other A a n, entries-same kind other s)
entries-same kind other (drops_role {fs} {gs} r a b n s) =
    omega (arith, entries-cons kind (RoleFact r a b n) fs, role-adds kind other r a b n, entries-same kind other s)

pub list-left : {fs gs : List Frame} → Leaves fs gs → list_in gs ≡ list_in fs
list-left ended = refl
list-left (keeps {fs} {gs} f s) = list-cons f gs ∙ ap (λ l. list_in (f ∷ []) ++ l) (list-left s) ∙ sym (list-cons f fs)
list-left (drops_concept {fs} {gs} A a n s) =
    list-left s ∙ sym (list-cons (ConceptFact A a n) fs ∙ ap (λ l. l ++ list_in fs) (no_entry (ConceptFact A a n) refl))
list-left (drops_role {fs} {gs} r a b n s) =
    list-left s ∙ sym (list-cons (RoleFact r a b n) fs ∙ ap (λ l. l ++ list_in fs) (no_entry (RoleFact r a b n) refl))

pub allowance-left : {fs gs : List Frame} → Leaves fs gs → allowance_given gs ≡ allowance_given fs
allowance-left ended = refl
allowance-left (keeps (Allowance n) s) = refl
allowance-left (keeps f s) = allowance-left s
allowance-left (drops_concept A a n s) = allowance-left s
allowance-left (drops_role r a b n s) = allowance-left s

pub expression-left : {fs gs : List Frame} → Leaves fs gs → expression_given gs ≡ expression_given fs
expression-left ended = refl
expression-left (keeps (Expression row) s) = refl
expression-left (keeps f s) = expression-left s
expression-left (drops_concept A a n s) = expression-left s
expression-left (drops_role r a b n s) = expression-left s

pub choice-left : {fs gs : List Frame} → Leaves fs gs → salvages gs ≡ salvages fs
choice-left ended = refl
choice-left (keeps Salvage s) = refl
choice-left (keeps f s) = choice-left s
choice-left (drops_concept A a n s) = choice-left s
choice-left (drops_role r a b n s) = choice-left s

-- frames that are taken begin with line 1
abbrev pub Begins : List Frame → Type 0
Begins [] = ⊤
Begins (Declared c ∷ fs) = ⊤
Begins (f ∷ fs) = ⊥

first-declares : (f : Frame) → Passed [] f → Begins (f ∷ [])
first-declares (Declared c) p = tt
first-declares (Allowance n) p = absurd (p.in_place.0.begun refl)
first-declares (RoleStep s R t) p = absurd (p.in_place.0.begun refl)
first-declares (TestStep s A t) p = absurd (p.in_place.0.begun refl)
first-declares (Final s) p = absurd (p.in_place.0.begun refl)
first-declares (Expression row) p = absurd (p.in_place.0.begun refl)
first-declares Salvage p = absurd (p.in_place.0.begun refl)
first-declares (ListedMark n s t B) p = absurd (p.in_place refl)
first-declares f p = absurd (p.in_place.begun refl)

pub begins : (fs : List Frame) → Taken fs → Begins fs
begins = taken-keeps Begins tt by
  where
    by : (before : List Frame) (f : Frame) → Taken before → Passed before f → Begins before → Begins (before ++ f ∷ [])
    by [] f t p b = first-declares f p
    by (Declared c ∷ fs) f t p b = tt
    by (g ∷ fs) f t p b = absurd b

pub declared-left : {fs gs : List Frame} → Begins fs → Leaves fs gs → declared_by gs ≡ declared_by fs
declared-left b ended = refl
declared-left b (keeps (Declared c) s) = refl
declared-left b (keeps f s) = absurd b
declared-left b (drops_concept A a n s) = absurd b
declared-left b (drops_role r a b' n s) = absurd b

some-left : {fs gs : List Frame} → Begins fs → Leaves fs gs → (fs ≡ []) ↔ (gs ≡ [])
some-left b ended = (λ e. e, λ e. e)
some-left b (keeps f s) = (λ e. absurd cc, λ e. absurd cc)
some-left b (drops_concept A a n s) = absurd b
some-left b (drops_role r a b' n s) = absurd b

pub rounds-left : {fs gs : List Frame} → Begins fs → Leaves fs gs → rounds_allowed gs ≡ rounds_allowed fs
rounds-left b s = rw (declared-left b s, allowance-left s) refl

pub question-left : {fs gs : List Frame} → Begins fs → Leaves fs gs → (q : Listed) → IsQuestionOf fs q ↔ IsQuestionOf gs q
question-left b s q =
    rw (declared-left b s, expression-left s, table-left steps tt s, table-left finals tt s) (λ h. h, λ h. h)

-- a frame that passes after the ones passes after the others
module _ {before after : List Frame} (b : Begins before) (s : Leaves before after) where
  open-left : IsOpen before → IsOpen after
  open-left h = record { begun = λ e. h.begun ((some-left b s).1 e); no_list = list-left s ∙ h.no_list }

  place-left : (f : Frame) → InPlace before f → InPlace after f
  place-left (Declared c) h = (some-left b s).0 h
  place-left (Allowance n) h = (open-left h.0, allowance-left s ∙ h.1)
  place-left (RoleStep p R t) h = (open-left h.0, expression-left s ∙ h.1)
  place-left (TestStep p A t) h = (open-left h.0, expression-left s ∙ h.1)
  place-left (Final p) h = (open-left h.0, expression-left s ∙ h.1)
  place-left (Expression row) h =
      (open-left h.0, expression-left s ∙ h.1, table-left steps tt s ∙ h.2, table-left finals tt s ∙ h.3)
  place-left Salvage h = (open-left h.0, choice-left s ∙ h.1)
  place-left (ListedMark n p t B) h = λ e. h ((some-left b s).1 e)
  place-left f h = open-left h

  pub passed-left : (f : Frame) → Passed before f → Passed after f
  passed-left f p =
      let d = declared-left b s in
      record {
        in_place = place-left f p.in_place;
        counts = p.counts;
        room = λ kind h. omega (arith, p.room kind h, entries-left kind s);
        numbers = rw d p.numbers;
        ask = rw d p.ask;
        shallow = p.shallow;
        expressed = p.expressed;
        shaped = rw d p.shaped;
      }

-- THEOREM: frames that are taken are taken without some of their facts
drops-front : (fs : List Frame) (f : Frame) (marks : List Bool) → DropsFacts (fs ++ f ∷ []) marks → DropsFacts fs marks
drops-front [] f marks d = All-nil IsFact
drops-front (g ∷ fs) f [] d = All-nil IsFact
drops-front (g ∷ fs) f (true ∷ marks) d = drops-front fs f marks d
drops-front (g ∷ fs) f (false ∷ marks) d =
    All-cons IsFact g (marked false fs marks) (dropped-fact g (fs ++ f ∷ []) marks d)
    (drops-front fs f marks (dropped-rest g (fs ++ f ∷ []) marks d))

pub taken-left : (fs : List Frame) → Taken fs → (marks : List Bool) → DropsFacts fs marks → Taken (kept_frames fs marks)
taken-left _ none marks d = none
taken-left _ (more before f t j) marks d =
    let front = drops-front before f marks d in
    rw (marked-more before marks f) (by front (taken-left before t marks front) (slice_index_or marks (length before) true))
  where
    by : DropsFacts before marks → Taken (kept_frames before marks) → (mark : Bool) → Taken (kept_frames before marks ++ last mark f)
    by front kept true =
        more (kept_frames before marks) f kept
        (judged_passed (kept_frames before marks) f (passed-left (begins before t) (leaves before marks front) f (passed before f j)))
    by front kept false = rw (append-nil (kept_frames before marks)) kept

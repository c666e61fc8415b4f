-- A file that is read whole is accepted: for each of its asks the library is lent a call that none of its tests 4, 5, 6 and 8 refuses.
use Rattle.std.specs.Prelude.{⊤, ℕ, zero, suc, ◌+◌, ◌*◌, ◌/◌, ◌%◌, ◌<◌, ◌≤◌, ◌≡◌, ◌≢◌, ◌⊎◌, Option, None, Some, IfSome, is_some, cond, unwrap_or, length, get_or, drop}
use Rattle.std.proofs.Math.Path.{refl}
use Rattle.std.proofs.Common.{ap, sym, ◌∙◌, subst, inl, inr, get_or-drop, mul-zero, mul-suc, arith}
use mathlib.Core.List.Memᴰ
use mathlib.Core.List.{List, [], ◌∷◌, ◌++◌}
use Rattle.std.proofs.Math.ListN.{length-replicate}
use Rattle.std.proofs.Math.Seq.{drop-append-add}
use Rattle.std.proofs.Math.Nat.{mul-div_cancel_left, mul-mod_right}
use Rattle.laws.specs.Member.{◌∈◌}
use Rattle.kinds.specs.declared.Concept.{Concept}
use Rattle.kinds.specs.declared.Counts.{Counts}
use Rattle.kinds.specs.Kinds.{concept_name, role_name, individual, state, signed, concept_of, number_of, concept-number, CountsFit, StateDeclared}
use Rattle.meaning.specs.Collection.{Each, step, ConceptsDeclared, RolesDeclared, ConceptFactDeclared, RoleFactDeclared, StepDeclared}
use Rattle.meaning.specs.Layout.{area_length}
use Rattle.meaning.specs.Lent.{field, records, concept_pair, role_pair, concept_fact, role_fact, letter_of, step_kind, step_at, final_at, Whole, TablesOk, NumbersOk, Sound}
use Rattle.tables.proofs.Meant.{each_in}
use Rattle.expression.specs.Fits.{FitsTables, RecordsDeclared}
use Rattle.expression.specs.Listed.{Listed}
use Rattle.expression.specs.Answer.{IsAutomatonOf}
use Rattle.expression.proofs.FitsLaws.{fits-tables, needs-marks}
use Rattle.expression.proofs.Once.{is-once}
use Rattle.streams.specs.Lines.{lines}
use Rattle.kinds.specs.Asks.{AskDeclared}
use Rattle.tables.specs.Asks.{ask_by}
use Rattle.frames.specs.declared.Frame.{Frame}
use Rattle.frames.specs.declared.Frame.TheVariants.{Declared, ConceptRule, ConceptExclusion, RoleRule, RoleExclusion, ConceptFact, RoleFact, RoleStep, TestStep, Final, Ask, AskFrom, Allowance, Expression, Salvage, ListedMark}
use Rattle.reading.specs.Tables.{Kind, concept_rules, concept_exclusions, role_rules, role_exclusions, concept_facts, role_facts, steps, finals, asks, listed, record_in, width, most, entries, table, declared_by, expression_given}
use Rattle.reading.specs.File.{file_of, typed_question, IsQuestion, asked}
use Rattle.reading.specs.Reading.{Verdict, sound, frames_of, Reading, empty, whole, stopped, onward, Taken, none, more}
use Rattle.reading.proofs.TableLaws.{record-width, entries-cons, table-length}
use Rattle.reading.proofs.Passed.{Passed, judged_ok, taken-keeps}
use Rattle.reading.proofs.Bounds.{few}
use Rattle.reading.proofs.Kept.{declared-later}
use Rattle.reading.proofs.Turns.{fitting}
use Rattle.reading.proofs.Questions.{row-taken}

-- what is demanded of a record whose numbers are n 0, n 1 and so on, in each table
module _ (c : Counts) (n : ℕ → ℕ) where
  abbrev Passes : Kind → Type 0
  Passes concept_rules = ConceptsDeclared c (concept_of (n 0), concept_of (n 1))
  Passes concept_exclusions = ConceptsDeclared c (concept_of (n 0), concept_of (n 1))
  Passes role_rules = RolesDeclared c (signed (n 0), signed (n 1))
  Passes role_exclusions = RolesDeclared c (signed (n 0), signed (n 1))
  Passes concept_facts = ConceptFactDeclared c (concept_name (n 0), individual (n 1))
  Passes role_facts = RoleFactDeclared c (role_name (n 0), individual (n 1), individual (n 2))
  Passes steps = (n 0 ≤ 1) × StepDeclared c (step (state (n 1)) (letter_of (n 0) (n 2)) (state (n 3)))
  Passes finals = StateDeclared c (state (n 0))
  Passes asks = AskDeclared c (ask_by (n 0) (n 1) (n 2))
  -- the list is lent to no call
  Passes listed = ⊤

-- the numbers of a record that stands first in a list
abbrev numbers : List ℕ → ℕ → ℕ
numbers l j = get_or l j 0

-- the record that a frame adds to a table passes, with the numbers l after it
abbrev FramePasses : Counts → Frame → Kind → List ℕ → Type 0
FramePasses c f kind l = IfSome (record_in kind f) (λ r. Passes c (numbers (r ++ l)) kind)

-- a declared concept is read back from its number
concepts-pass : (c : Counts) → CountsFit c → (C D : Concept) → ConceptsDeclared c (C, D)
    → ConceptsDeclared c (concept_of (number_of C), concept_of (number_of D))
concepts-pass c k C D h = rw (concept-number c k.names C h.0, concept-number c k.names D h.1) h

module _ (before : List Frame) (t : Taken before) (l : List ℕ) where
  taken-passes : (kind : Kind) (f : Frame) → Passed before f → FramePasses (declared_by before) f kind l
  taken-passes concept_rules (ConceptRule C D) p = concepts-pass (declared_by before) (fitting before t p.in_place.begun) C D p.numbers
  taken-passes concept_exclusions (ConceptExclusion C D) p = concepts-pass (declared_by before) (fitting before t p.in_place.begun) C D p.numbers
  taken-passes role_rules (RoleRule R S) p = p.numbers
  taken-passes role_exclusions (RoleExclusion R S) p = p.numbers
  taken-passes concept_facts (ConceptFact A a n) p = p.numbers
  taken-passes role_facts (RoleFact r a b n) p = p.numbers
  taken-passes steps (RoleStep u R v) p = (omega arith, p.numbers)
  taken-passes steps (TestStep u A v) p = (omega arith, p.numbers)
  taken-passes finals (Final u) p = p.numbers
  taken-passes asks (Ask a b) p = p.ask
  taken-passes asks (AskFrom a) p = p.ask
  taken-passes listed (ListedMark n u v B) p = tt
  taken-passes kind f p = tt

-- every record of some frames passes by line 1's counts, whatever follows it in its table
abbrev Passing : List Frame → Type 0
Passing fs = (f : Frame) → f ∈ fs → (kind : Kind) (l : List ℕ) → FramePasses (declared_by fs) f kind l

not-empty : {f : Frame} (fs : List Frame) → f ∈ fs → fs ≢ []
not-empty [] m e = Memᴰ.not-nil m
not-empty (g ∷ fs) m e = cc

-- one more frame: line 1, which adds no record, or a later one, which leaves line 1's counts as they are
passing-more : (before : List Frame) (f : Frame) → Taken before → Passed before f → Passing before → Passing (before ++ f ∷ [])
passing-more before f t p h g m kind l = side (Memᴰ.append_cases before m)
  where
    later : before ≢ [] → FramePasses (declared_by (before ++ f ∷ [])) f kind l
    later n = rw (declared-later before f n) (taken-passes before t l kind f p)

    new : (o : Frame) → Passed before o → (before ≢ [] → FramePasses (declared_by (before ++ o ∷ [])) o kind l)
        → FramePasses (declared_by (before ++ o ∷ [])) o kind l
    new (Declared c) q go = none-of kind
      where
        none-of : (k : Kind) → FramePasses (declared_by (before ++ Declared c ∷ [])) (Declared c) k l
        none-of concept_rules = tt
        none-of concept_exclusions = tt
        none-of role_rules = tt
        none-of role_exclusions = tt
        none-of concept_facts = tt
        none-of role_facts = tt
        none-of steps = tt
        none-of finals = tt
        none-of asks = tt
        none-of listed = tt
    new (Allowance n) q go = go q.in_place.0.begun
    new (RoleStep s R u) q go = go q.in_place.0.begun
    new (TestStep s A u) q go = go q.in_place.0.begun
    new (Final s) q go = go q.in_place.0.begun
    new (Expression row) q go = go q.in_place.0.begun
    new Salvage q go = go q.in_place.0.begun
    new (ListedMark n s u B) q go = go q.in_place
    new o q go = go q.in_place.begun

    last : (g ≡ f) ⊎ (g ∈ []) → FramePasses (declared_by (before ++ f ∷ [])) g kind l
    last (inl e) = rw e (new f p later)
    last (inr m) = absurd (Memᴰ.not-nil m)

    side : (g ∈ before) ⊎ (g ∈ (f ∷ [])) → FramePasses (declared_by (before ++ f ∷ [])) g kind l
    side (inl m) = rw (declared-later before f (not-empty before m)) (h g m kind l)
    side (inr m) = last (Memᴰ.cases_cons m)

passing : (fs : List Frame) → Taken fs → Passing fs
passing = taken-keeps Passing (λ f m. absurd (Memᴰ.not-nil m)) passing-more

-- a frame's record stands first in a list
record RecordLeads (kind : Kind) (fs : List Frame) (l : List ℕ) : Type 0 where
  frame : Frame
  among : frame ∈ fs
  record-of : List ℕ
  of : record_in kind frame ≡ Some record-of
  rest : List ℕ
  is : l ≡ record-of ++ rest

module _ (kind : Kind) where
  leads-still : (f : Frame) {fs : List Frame} {l m : List ℕ} → m ≡ l → RecordLeads kind fs l → RecordLeads kind (f ∷ fs) m
  leads-still f e w =
      record { frame = w.frame; among = Memᴰ.tail w.among; record-of = w.record-of; of = w.of; rest = w.rest; is = e ∙ w.is }

  leads-more : (f : Frame) (fs : List Frame) (o : Option (List ℕ)) → record_in kind f ≡ o → (k : ℕ)
      → k < cond (is_some o) 1 0 + entries kind fs
      → ((i : ℕ) → i < entries kind fs → RecordLeads kind fs (drop (width kind * i) (table kind fs)))
      → RecordLeads kind (f ∷ fs) (drop (width kind * k) (unwrap_or o [] ++ table kind fs))
  leads-more f fs (Some r) e zero h on =
      record { frame = f; among = Memᴰ.head refl; record-of = r; of = e; rest = table kind fs; is = rw (mul-zero (width kind)) refl }
  leads-more f fs (Some r) e (suc k) h on =
      let w : length r ≡ width kind * 1 = rw e at (record-width kind f) in
      let n : width kind * suc k ≡ length r + width kind * k = omega (arith, mul-suc (width kind) k) in
      leads-still f (rw n (drop-append-add r (table kind fs) (width kind * k))) (on k (omega arith))
  leads-more f fs None e k h on = leads-still f refl (on k (omega arith))

  -- record k of a table is that of a frame
  leads : (fs : List Frame) (k : ℕ) → k < entries kind fs → RecordLeads kind fs (drop (width kind * k) (table kind fs))
  unfolding entries table
  leads [] k h = absurd (omega arith)
  leads (f ∷ fs) k h = leads-more f fs (record_in kind f) refl k (omega (arith, entries-cons kind f fs)) (leads fs)

module _ {fs : List Frame} (t : Taken fs) where
  -- record k of every table passes
  record-passes : (kind : Kind) (k : ℕ) → k < entries kind fs → Passes (declared_by fs) (λ j. field (width kind) (table kind fs) j k) kind
  record-passes kind k h =
      let w = leads kind fs k h in
      let l = w.record-of ++ w.rest in
      let at : (j : ℕ) → get_or l j 0 ≡ field (width kind) (table kind fs) j k =
      λ j. ap (λ (x : List ℕ). get_or x j 0) (sym w.is) ∙ get_or-drop (width kind * k) (table kind fs) j 0 in
      let e : numbers l ≡ (λ j. field (width kind) (table kind fs) j k) = λ i j. at j i in
      let r = rw w.of at (passing fs t w.frame w.among kind w.rest) in
      subst (λ (n : ℕ → ℕ). Passes (declared_by fs) n kind) e r

  -- whole records, as many as frames
  module _ (kind : Kind) (wide : 0 < width kind) where
    record-count : length (table kind fs) / width kind ≡ entries kind fs
    record-count = ap (λ (n : ℕ). n / width kind) (table-length kind fs) ∙ mul-div_cancel_left (entries kind fs) wide

    whole-table : Whole (width kind) (most kind) (table kind fs)
    whole-table =
        record {
          unbroken = ap (λ (n : ℕ). n % width kind) (table-length kind fs) ∙ mul-mod_right (width kind) (entries kind fs);
          few = rw record-count (few kind fs t);
        }

    each : {A : Type 0} (read : List ℕ → ℕ → A) (P : A → Type 0) → ((k : ℕ) → k < entries kind fs → P (read (table kind fs) k))
        → Each (records (width kind) read (table kind fs)) P
    each read P h = each_in (width kind) read P (table kind fs) (λ k l. h k (rw record-count at l))

  -- the question's own records, as they are typed
  typed-fits : FitsTables (typed_question (file_of fs))
  typed-fits = record {
    steps = whole-table steps (omega arith);
    finals = whole-table finals (omega arith);
    step_kinds = each steps (omega arith) step_kind (λ n. n ≤ 1) (λ i h. (record-passes steps i h).0);
  }

  typed-declared : RecordsDeclared (declared_by fs) (typed_question (file_of fs))
  typed-declared = record {
    steps = each steps (omega arith) step_at (StepDeclared (declared_by fs)) (λ i h. (record-passes steps i h).1);
    finals = each finals (omega arith) final_at (StateDeclared (declared_by fs)) (record-passes finals);
  }

  -- and as those of an expression's automaton
  expressed-declared : (row : List ℕ) → expression_given fs ≡ Some row → (q : Listed) → IsAutomatonOf row q
      → RecordsDeclared (declared_by fs) q
  expressed-declared row e q x =
      let r = row-taken fs t row e in
      let s = r.shaped in
      let n = (is-once s.1.is x.is).1 in
      needs-marks q x (declared_by fs) (omega (arith, s.2, n, x.states)) r.declared

  -- the tests 5 to 8; line 1's counts have passed test 4
  module _ (q : Listed) (is : IsQuestion (file_of fs) q) (k : ℕ) where
    pub fits : FitsTables q
    fits = by (expression_given fs) refl
      where
        by : (o : Option (List ℕ)) → expression_given fs ≡ o → FitsTables q
        by None e = rw (is.typed e) typed-fits
        by (Some row) e = fits-tables q (rw e at is.expressed)

    pub declared : RecordsDeclared (declared_by fs) q
    declared = by (expression_given fs) refl
      where
        by : (o : Option (List ℕ)) → expression_given fs ≡ o → RecordsDeclared (declared_by fs) q
        by None e = rw (is.typed e) typed-declared
        by (Some row) e = expressed-declared row e q (rw e at is.expressed)

    pub tables-ok : TablesOk (asked fs q k)
    tables-ok = record {
      tables = record {
        concept-rules = whole-table concept_rules (omega arith);
        concept-exclusions = whole-table concept_exclusions (omega arith);
        role-rules = whole-table role_rules (omega arith);
        role-exclusions = whole-table role_exclusions (omega arith);
        concept-facts = whole-table concept_facts (omega arith);
        role-facts = whole-table role_facts (omega arith);
        steps = fits.steps;
        finals = fits.finals;
      };
      area = length-replicate {A = ℕ} area_length 0;
      spare = length-replicate {A = ℕ} area_length 0;
    }

    pub numbers-ok : NumbersOk (asked fs q k)
    numbers-ok = record {
      declared = record {
        concept-rules = each concept_rules (omega arith) concept_pair (ConceptsDeclared (declared_by fs)) (record-passes concept_rules);
        concept-exclusions =
            each concept_exclusions (omega arith) concept_pair (ConceptsDeclared (declared_by fs)) (record-passes concept_exclusions);
        role-rules = each role_rules (omega arith) role_pair (RolesDeclared (declared_by fs)) (record-passes role_rules);
        role-exclusions = each role_exclusions (omega arith) role_pair (RolesDeclared (declared_by fs)) (record-passes role_exclusions);
        concept-facts = each concept_facts (omega arith) concept_fact (ConceptFactDeclared (declared_by fs)) (record-passes concept_facts);
        role-facts = each role_facts (omega arith) role_fact (RoleFactDeclared (declared_by fs)) (record-passes role_facts);
        steps = declared.steps;
        finals = declared.finals;
      };
      step-kinds = fits.step_kinds;
    }

-- a file with a record in some table has its line 1
some-begun : (kind : Kind) (k : ℕ) (fs : List Frame) → k < entries kind fs → fs ≢ []
unfolding entries
some-begun kind k [] h e = omega arith
some-begun kind k (f ∷ fs) h e = cc

-- THEOREM: where frames are taken, the call of each ask among them passes the library's tests 4, 5, 6 and 8
pub accepted : (fs : List Frame) → Taken fs → (q : Listed) → IsQuestion (file_of fs) q → (k : ℕ) → k < entries asks fs
    → Sound (asked fs q k)
accepted fs t q is k h =
    record {
      counts = fitting fs t (some-begun asks k fs h);
      tables = tables-ok t q is k;
      numbers = numbers-ok t q is k;
      ask = record-passes t asks k h;
    }

-- THEOREM: whatever a file is found to be, the frames that were read of it were taken one after the other
pub reading-taken : {before : List Frame} {ls : List (List ℕ)} {v : Verdict} → Reading before ls v → Taken before → Taken (frames_of v)
reading-taken empty t = t
reading-taken (whole f fs) t = t
reading-taken (stopped before l ls r h) t = t
reading-taken (onward before l ls f v h rest) t = reading-taken rest (more before f t (judged_ok h))

-- THEOREM: a file that is read whole is accepted
pub whole-accepted : (input : List ℕ) (fs : List Frame) → Reading [] (lines input) (sound fs) → (q : Listed) → IsQuestion (file_of fs) q
    → (k : ℕ) → k < entries asks fs → Sound (asked fs q k)
whole-accepted input fs r = accepted fs (reading-taken r none)

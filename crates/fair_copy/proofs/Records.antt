-- The records that frames add to a table: each tells its frame, and they are the table's rows.
use Rattle.std.specs.Prelude.{◌≡◌, refl, ℕ, zero, suc, ◌<◌, Option, None, Some, IfSome, unwrap_or, length, get_or}
use Rattle.std.specs.List.{filter_map, cons_option}
use Rattle.std.proofs.Common.{sym, ap, ◌∙◌, mul-one, arith, ◌⊎◌, inl, inr}
use mathlib.Core.List.Memᴰ
use mathlib.Core.List.{List, [], ◌∷◌, ◌++◌}
use Rattle.laws.specs.Member.{◌∈◌}
use Rattle.laws.specs.Distinct.{Distinct, distinct-none, distinct-more, distinct-first, distinct-rest}
use Rattle.kinds.specs.Kinds.{concept_name, role_name, individual, state, signed, deed_number, concept_of}
use Rattle.sorted.specs.Rows.{rows, flat, AreWide}
use Rattle.sorted.proofs.Chunks.{rows-flat}
use Rattle.frames.specs.Written.{AreNumbered}
use Rattle.frames.specs.declared.Frame.{Frame}
use Rattle.frames.specs.declared.Frame.TheVariants.{ConceptRule, ConceptExclusion, RoleRule, RoleExclusion, ConceptFact, RoleFact, RoleStep, TestStep, Final, Ask, AskFrom, ListedMark}
use Rattle.reading.specs.Tables.{Kind, concept_rules, concept_exclusions, role_rules, role_exclusions, concept_facts, role_facts, steps, finals, asks, listed, record_in, width, entries, table}
use Rattle.reading.proofs.TableLaws.{added, entries-cons, record-width}

-- the frame of a record in each table, by the record's numbers
module _ (n : ℕ → ℕ) where
  abbrev pub step_by : ℕ → Frame
  step_by zero = RoleStep (state (n 1)) (signed (n 2)) (state (n 3))
  step_by (suc kind) = TestStep (state (n 1)) (concept_name (n 2)) (state (n 3))

  abbrev pub ask_by : ℕ → Frame
  ask_by zero = Ask (individual (n 1)) (individual (n 2))
  ask_by (suc kind) = AskFrom (individual (n 1))

  abbrev pub frame_by : Kind → Frame
  frame_by concept_rules = ConceptRule (concept_of (n 0)) (concept_of (n 1))
  frame_by concept_exclusions = ConceptExclusion (concept_of (n 0)) (concept_of (n 1))
  frame_by role_rules = RoleRule (signed (n 0)) (signed (n 1))
  frame_by role_exclusions = RoleExclusion (signed (n 0)) (signed (n 1))
  frame_by concept_facts = ConceptFact (concept_name (n 0)) (individual (n 1)) (deed_number (n 2))
  frame_by role_facts = RoleFact (role_name (n 0)) (individual (n 1)) (individual (n 2)) (deed_number (n 3))
  frame_by steps = step_by (n 0)
  frame_by finals = Final (state (n 0))
  frame_by asks = ask_by (n 0)
  frame_by listed = ListedMark (n 0) (state (n 1)) (state (n 2)) (concept_of (n 3))

-- the frame that a row of a table says
abbrev pub frame_in : Kind → List ℕ → Frame
frame_in kind r = frame_by (λ j. get_or r j 0) kind

pub frame-back : (kind : Kind) (f : Frame) → AreNumbered f → IfSome (record_in kind f) (λ r. frame_in kind r ≡ f)
frame-back concept_rules (ConceptRule C D) h = rw (h.0, h.1) refl
frame-back concept_exclusions (ConceptExclusion C D) h = rw (h.0, h.1) refl
frame-back role_rules (RoleRule R S) h = refl
frame-back role_exclusions (RoleExclusion R S) h = refl
frame-back concept_facts (ConceptFact A a n) h = refl
frame-back role_facts (RoleFact r a b n) h = refl
frame-back steps (RoleStep s R t) h = refl
frame-back steps (TestStep s A t) h = refl
frame-back finals (Final s) h = refl
frame-back asks (Ask a b) h = refl
frame-back asks (AskFrom a) h = refl
frame-back listed (ListedMark n s t B) h = rw h refl
frame-back kind f h = tt

module _ (kind : Kind) where
  -- two frames that add the same record are the same
  pub record-tells : (f g : Frame) (r : List ℕ) → AreNumbered f → AreNumbered g → record_in kind f ≡ Some r → record_in kind g ≡ Some r
      → f ≡ g
  record-tells f g r h k e d = sym (rw e at (frame-back kind f h)) ∙ rw d at (frame-back kind g k)

  -- the records that some frames add
  abbrev pub records_of : List Frame → List (List ℕ)
  records_of fs = filter_map (record_in kind) fs

  pub records-in : (fs : List Frame) {f : Frame} {r : List ℕ} → f ∈ fs → record_in kind f ≡ Some r → r ∈ records_of fs
  records-in [] m e = absurd (Memᴰ.not-nil m)
  records-in (g ∷ fs) {f} {r} m e = by (record_in kind g) refl (Memᴰ.cases_cons m) (λ n. records-in fs n e)
    where
      by : (o : Option (List ℕ)) → record_in kind g ≡ o → (f ≡ g) ⊎ (f ∈ fs) → (f ∈ fs → r ∈ records_of fs)
          → r ∈ cons_option o (records_of fs)
      by (Some x) d (inl i) on = let same : Some r ≡ Some x = sym e ∙ ap (record_in kind) i ∙ d in Memᴰ.head cc
      by (Some x) d (inr n) on = Memᴰ.tail (on n)
      by None d (inl i) on = let same : Some r ≡ None = sym e ∙ ap (record_in kind) i ∙ d in absurd cc
      by None d (inr n) on = on n

  abbrev Found : List ℕ → List Frame → Type 0
  Found r fs = (f : Frame) × (f ∈ fs) × (record_in kind f ≡ Some r)

  pub records-out : (fs : List Frame) {r : List ℕ} → r ∈ records_of fs → Found r fs
  records-out [] m = absurd (Memᴰ.not-nil m)
  records-out (g ∷ fs) {r} m = by (record_in kind g) refl m (λ n. records-out fs n)
    where
      by : (o : Option (List ℕ)) → record_in kind g ≡ o → r ∈ cons_option o (records_of fs) → (r ∈ records_of fs → Found r fs)
          → Found r (g ∷ fs)
      by (Some x) d n on =
          elim (Memᴰ.cases_cons n) [
            | inl e ↦ (g, Memᴰ.head refl, d ∙ ap Some (sym e))
            | inr i ↦ let w = on i in (w.0, Memᴰ.tail w.1, w.2)
          ]
      by None d n on = let w = on n in (w.0, Memᴰ.tail w.1, w.2)

  -- they are as many as the frames add
  pub length-records : (fs : List Frame) → length (records_of fs) ≡ entries kind fs
  unfolding entries
  length-records [] = refl
  length-records (f ∷ fs) = by (record_in kind f) refl (length-records fs)
    where
      by : (o : Option (List ℕ)) → record_in kind f ≡ o → length (records_of fs) ≡ entries kind fs
          → length (cons_option o (records_of fs)) ≡ entries kind (f ∷ fs)
      by (Some x) d on = let one : added kind f ≡ 1 = rw d refl in omega (arith, entries-cons kind f fs)
      by None d on =
          let none : added kind f ≡ 0 = rw d refl in
          let same : entries kind fs ≡ entries kind (f ∷ fs) = omega (arith, entries-cons kind f fs) in
          on ∙ same

  -- of distinct frames they are distinct
  pub distinct-records : (fs : List Frame) → ((f : Frame) → f ∈ fs → AreNumbered f) → Distinct fs → Distinct (records_of fs)
  distinct-records [] h d = distinct-none
  distinct-records (f ∷ fs) h d =
      by (record_in kind f) refl (distinct-records fs (λ g m. h g (Memᴰ.tail m)) (distinct-rest f fs d))
    where
      by : (o : Option (List ℕ)) → record_in kind f ≡ o → Distinct (records_of fs) → Distinct (cons_option o (records_of fs))
      by (Some x) e k =
          distinct-more x (records_of fs)
          (λ m.
          let w = records-out fs m in
          let same = record-tells f w.0 x (h f (Memᴰ.head refl)) (h w.0 (Memᴰ.tail w.1)) e w.2 in
          distinct-first f fs d (rw same w.1))
          k
      by None e k = k

  -- and one after another they are the table
  flat-records : (fs : List Frame) → flat (records_of fs) ≡ table kind fs
  unfolding table
  flat-records [] = refl
  flat-records (f ∷ fs) = by (record_in kind f) (flat-records fs)
    where
      by : (o : Option (List ℕ)) → flat (records_of fs) ≡ table kind fs
          → flat (cons_option o (records_of fs)) ≡ unwrap_or o [] ++ table kind fs
      by (Some x) on = ap (λ (t : List ℕ). x ++ t) on
      by None on = on

  records-wide : (fs : List Frame) → AreWide (width kind) (records_of fs)
  records-wide [] = tt
  records-wide (f ∷ fs) = by (record_in kind f) refl (records-wide fs)
    where
      by : (o : Option (List ℕ)) → record_in kind f ≡ o → AreWide (width kind) (records_of fs)
          → AreWide (width kind) (cons_option o (records_of fs))
      by (Some x) e on = (rw e at (record-width kind f) ∙ mul-one (width kind), on)
      by None e on = on

-- each record has some numbers
pub wide : (kind : Kind) → 0 < width kind
wide concept_rules = omega arith
wide concept_exclusions = omega arith
wide role_rules = omega arith
wide role_exclusions = omega arith
wide concept_facts = omega arith
wide role_facts = omega arith
wide steps = omega arith
wide finals = omega arith
wide asks = omega arith
wide listed = omega arith

-- THEOREM: the rows of a table are the records that the frames add to it
pub rows-table : (kind : Kind) (fs : List Frame) → rows (width kind) (table kind fs) ≡ records_of kind fs
rows-table kind fs =
    ap (rows (width kind)) (sym (flat-records kind fs)) ∙ rows-flat (width kind) (wide kind) (records_of kind fs) (records-wide kind fs)

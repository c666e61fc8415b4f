-- A frame that is taken and kept: what is held is then that of one frame more.
use Rattle.std.specs.Prelude.{ℕ, Bool, true, false, ◌+◌, ◌-◌, ◌^◌, ◌≡◌, ◌≢◌, List, [], ◌∷◌, ◌++◌, Option, None, Some, length, min}
use Rattle.std.proofs.Common.{refl, ap, ap₂, ◌∙◌, arith, length-append}
use Rattle.kinds.specs.declared.Counts.{Counts}
use Rattle.frames.specs.declared.Frame.{Frame}
use Rattle.frames.specs.declared.Frame.TheVariants.{Declared, ConceptRule, ConceptExclusion, RoleRule, RoleExclusion, ConceptFact, RoleFact, RoleStep, TestStep, Final, Ask, AskFrom, Allowance, Expression, Salvage, ListedMark}
use Rattle.reading.specs.declared.File.{File}
use Rattle.reading.specs.Tables.{concept_rules, concept_exclusions, role_rules, role_exclusions, concept_facts, role_facts, steps, finals, asks, listed, record_in, entries, table, Entry, frame_of, declared_by, allowance_given, expression_given, salvages, typed_in, typed_lines, is_salvage}
use Rattle.reading.specs.File.{file_of, fields_with, file_with}
use Rattle.reading.specs.Reading.{Taken}
use Rattle.reading.proofs.TableLaws.{plus, table-more, counted, entries-counted}
use Rattle.reading.proofs.Bounds.{or_else, or_else-none, allowance-more, expression-more, chosen_or, chosen-append, chosen-same, within-lines}
use Rattle.reading.proofs.TypedLaws.{plus_typed, typed-more, typed-room}
use Rattle.reading.proofs.Passed.{Passed}
use Rattle.salvage.specs.declared.Typed.{Typed}

pub declared-later : (before : List Frame) (f : Frame) → before ≢ [] → declared_by (before ++ f ∷ []) ≡ declared_by before
declared-later [] f n = absurd (n refl)
declared-later (Declared c ∷ fs) f n = refl
declared-later (g ∷ fs) f n = refl

pub declared-first : (before : List Frame) (c : Counts) → before ≡ [] → declared_by (before ++ Declared c ∷ []) ≡ c
declared-first before c e = ap (λ fs. declared_by (fs ++ Declared c ∷ [])) e

module _ (before : List Frame) (f : Frame) where
  -- what is held of one frame more, table by table
  abbrev held_after : Counts → Option ℕ → Option (List ℕ) → Bool → File
  held_after c a x b = record {
    counts = c;
    allowance = a;
    concept_rules = plus (table concept_rules before) (record_in concept_rules f);
    concept_exclusions = plus (table concept_exclusions before) (record_in concept_exclusions f);
    role_rules = plus (table role_rules before) (record_in role_rules f);
    role_exclusions = plus (table role_exclusions before) (record_in role_exclusions f);
    concept_facts = plus (table concept_facts before) (record_in concept_facts f);
    role_facts = plus (table role_facts before) (record_in role_facts f);
    steps = plus (table steps before) (record_in steps f);
    finals = plus (table finals before) (record_in finals f);
    expression = x;
    asks = plus (table asks before) (record_in asks f);
    lines = length before + 1;
    listed = counted (entries listed before) (record_in listed f);
    salvages = b;
    typed = plus_typed (typed_lines before) (typed_in f);
  }

  file_of-more : {c : Counts} {a : Option ℕ} {x : Option (List ℕ)} {b : Bool} → declared_by (before ++ f ∷ []) ≡ c
      → allowance_given (before ++ f ∷ []) ≡ a → expression_given (before ++ f ∷ []) ≡ x → salvages (before ++ f ∷ []) ≡ b
      → held_after c a x b ≡ file_of (before ++ f ∷ [])
  file_of-more d e g h =
      rw (d, e, g, h, typed-more before f, table-more concept_rules before f, table-more concept_exclusions before f, table-more role_rules before f, table-more role_exclusions before f, table-more concept_facts before f, table-more role_facts before f, table-more steps before f, table-more finals before f, table-more asks before f, entries-counted listed before f, length-append before (f ∷ [])) refl

  same-allowance : allowance_given (f ∷ []) ≡ None → allowance_given (before ++ f ∷ []) ≡ allowance_given before
  same-allowance a = allowance-more before f ∙ ap (or_else (allowance_given before)) a ∙ or_else-none (allowance_given before)

  pub same-expression : expression_given (f ∷ []) ≡ None → expression_given (before ++ f ∷ []) ≡ expression_given before
  same-expression a = expression-more before f ∙ ap (or_else (expression_given before)) a ∙ or_else-none (expression_given before)

  later : before ≢ [] → allowance_given (f ∷ []) ≡ None → expression_given (f ∷ []) ≡ None → is_salvage f ≡ false
      → held_after (declared_by before) (allowance_given before) (expression_given before) (salvages before)
      ≡ file_of (before ++ f ∷ [])
  later n a x b = file_of-more (declared-later before f n) (same-allowance a) (same-expression x) (chosen-same before f b)

module _ (before : List Frame) where
  -- a frame more, and one line more, with what it types
  abbrev counted_with : Frame → File
  counted_with f = record (fields_with f (file_of before)) {
    lines = length before + 1;
    typed = plus_typed (typed_lines before) (typed_in f);
  }

  -- an entry of a list more
  pub entry-held : (entry : Entry) → before ≢ [] → counted_with (frame_of entry) ≡ file_of (before ++ frame_of entry ∷ [])
  entry-held (n, s, u, B) some = later before (ListedMark n s u B) some refl refl refl

  pub held-more : (f : Frame) → Passed before f → counted_with f ≡ file_of (before ++ f ∷ [])
  held-more (Declared c) p =
      file_of-more before (Declared c) (declared-first before c p.in_place)
      (same-allowance before (Declared c) refl) (same-expression before (Declared c) refl) (chosen-same before (Declared c) refl)
  held-more (Allowance n) p =
      file_of-more before (Allowance n) (declared-later before (Allowance n) p.in_place.0.begun)
      (allowance-more before (Allowance n) ∙ ap (λ o. or_else o (Some n)) p.in_place.1) (same-expression before (Allowance n) refl)
      (chosen-same before (Allowance n) refl)
  held-more (Expression row) p =
      file_of-more before (Expression row) (declared-later before (Expression row) p.in_place.0.begun)
      (same-allowance before (Expression row) refl)
      (expression-more before (Expression row) ∙ ap (λ o. or_else o (Some row)) p.in_place.1) (chosen-same before (Expression row) refl)
  held-more Salvage p =
      file_of-more before Salvage (declared-later before Salvage p.in_place.0.begun)
      (same-allowance before Salvage refl) (same-expression before Salvage refl)
      (chosen-append before (Salvage ∷ []) ∙ ap (λ b. chosen_or b true) p.in_place.1)
  held-more (ConceptRule C D) p = later before (ConceptRule C D) p.in_place.begun refl refl refl
  held-more (ConceptExclusion C D) p = later before (ConceptExclusion C D) p.in_place.begun refl refl refl
  held-more (RoleRule R S) p = later before (RoleRule R S) p.in_place.begun refl refl refl
  held-more (RoleExclusion R S) p = later before (RoleExclusion R S) p.in_place.begun refl refl refl
  held-more (ConceptFact A a n) p = later before (ConceptFact A a n) p.in_place.begun refl refl refl
  held-more (RoleFact r a b n) p = later before (RoleFact r a b n) p.in_place.begun refl refl refl
  held-more (RoleStep s R u) p = later before (RoleStep s R u) p.in_place.0.begun refl refl refl
  held-more (TestStep s A u) p = later before (TestStep s A u) p.in_place.0.begun refl refl refl
  held-more (Final s) p = later before (Final s) p.in_place.0.begun refl refl refl
  held-more (Ask a b) p = later before (Ask a b) p.in_place.begun refl refl refl
  held-more (AskFrom a) p = later before (AskFrom a) p.in_place.begun refl refl refl
  held-more (ListedMark n s u B) p = entry-held (n, s, u, B) p.in_place

  pub file_with-file_of : Taken before → (f : Frame) → Passed before f → file_with f (file_of before) ≡ file_of (before ++ f ∷ [])
  file_with-file_of t f p =
      let n : min (length before + 1) (2 ^ 64 - 1) ≡ length before + 1 = omega (arith, within-lines before t) in
      ap₂ (λ (n : ℕ) (l : List Typed). record (fields_with f (file_of before)) { lines = n; typed = l }) n (typed-room before f t p)
      ∙ held-more f p

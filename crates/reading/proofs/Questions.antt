-- The question of frames that are taken: the marks of its expression are declared, and its automaton has the declared states.
use Rattle.std.specs.Prelude.{ℕ, ◌≡◌, ◌≢◌, ◌↔◌, ◌⊎◌, List, [], ◌∷◌, ◌++◌, Option, None, Some, IfSome, All}
use Rattle.std.proofs.Common.{refl, sym, ap, ◌∙◌, inl, inr}
use Rattle.std.proofs.lemmas.List.Elements.{All-nil, All-cons, All-head, All-tail}
use mathlib.Core.List.Memᴰ
use Rattle.laws.specs.Member.{◌∈◌}
use Rattle.kinds.specs.declared.Counts.{Counts}
use Rattle.meaning.specs.Lent.{Tables}
use Rattle.expression.specs.Fits.{MarksDeclared}
use Rattle.expression.specs.Listed.{Listed}
use Rattle.expression.specs.Answer.{IsAutomatonOf}
use Rattle.expression.proofs.Clauses.{automaton-once}
use Rattle.frames.specs.declared.Frame.{Frame}
use Rattle.frames.specs.declared.Frame.TheVariants.{Declared, ConceptRule, ConceptExclusion, RoleRule, RoleExclusion, ConceptFact, RoleFact, RoleStep, TestStep, Final, Ask, AskFrom, Allowance, Expression, Salvage, ListedMark}
use Rattle.reading.specs.declared.File.{File}
use Rattle.reading.specs.Tables.{declared_by, expression_given}
use Rattle.reading.specs.File.{typed_question, IsQuestion, lent_tables, LendsTables}
use Rattle.reading.specs.Judged.{IsShaped}
use Rattle.reading.specs.Reading.{Taken}
use Rattle.reading.specs.Turns.{MarkOk}
use Rattle.reading.proofs.Passed.{Passed, taken-keeps}
use Rattle.reading.proofs.Bounds.{or_else, expression-more}
use Rattle.reading.proofs.Kept.{declared-later, same-expression}

-- each mark of a row, one by one or by where it stands
module _ (c : Counts) where
  marks-to : (row : List ℕ) → All (MarkOk c) row → (b : ℕ) → b ∈ row → MarkOk c b
  marks-to [] h b m = absurd (Memᴰ.not-nil m)
  marks-to (x ∷ row) h b m = side (Memᴰ.cases_cons m) (marks-to row (All-tail (MarkOk c) x row h) b)
    where
      side : (b ≡ x) ⊎ (b ∈ row) → (b ∈ row → MarkOk c b) → MarkOk c b
      side (inl e) on = rw e (All-head (MarkOk c) x row h)
      side (inr k) on = on k

  marks-from : (row : List ℕ) → ((b : ℕ) → b ∈ row → MarkOk c b) → All (MarkOk c) row
  marks-from [] h = All-nil (MarkOk c)
  marks-from (x ∷ row) h = All-cons (MarkOk c) x row (h x (Memᴰ.head refl)) (marks-from row (λ b m. h b (Memᴰ.tail m)))

  pub all_declared : (row : List ℕ) → All (MarkOk c) row ↔ MarksDeclared c row
  all_declared row = (λ h. record { each = marks-to row h }, λ d. marks-from row d.each)

-- what a row of marks that is taken has passed
pub record RowTaken (c : Counts) (row : List ℕ) : Type 0 where
  pub declared : MarksDeclared c row
  pub shaped : IsShaped c (Expression row)

abbrev pub Expressing : List Frame → Type 0
Expressing fs = IfSome (expression_given fs) (RowTaken (declared_by fs))

expressing-later : (before : List Frame) (f : Frame) → before ≢ [] → expression_given (f ∷ []) ≡ None → Expressing before
    → Expressing (before ++ f ∷ [])
expressing-later before f n e h = rw (declared-later before f n, same-expression before f e) h

expressing-more : (before : List Frame) (f : Frame) → Taken before → Passed before f → Expressing before → Expressing (before ++ f ∷ [])
expressing-more before (Declared c) t p h =
    let e : expression_given (before ++ Declared c ∷ []) ≡ None =
    ap (λ (l : List Frame). expression_given (l ++ Declared c ∷ [])) p.in_place in
    rw e tt
expressing-more before (Expression row) t p h =
    let e = expression-more before (Expression row) ∙ ap (λ o. or_else o (Some row)) p.in_place.1 in
    rw (declared-later before (Expression row) p.in_place.0.begun, e) (record { declared = p.numbers; shaped = p.shaped })
expressing-more before (Allowance n) t p h = expressing-later before (Allowance n) p.in_place.0.begun refl h
expressing-more before (ConceptRule C D) t p h = expressing-later before (ConceptRule C D) p.in_place.begun refl h
expressing-more before (ConceptExclusion C D) t p h = expressing-later before (ConceptExclusion C D) p.in_place.begun refl h
expressing-more before (RoleRule R S) t p h = expressing-later before (RoleRule R S) p.in_place.begun refl h
expressing-more before (RoleExclusion R S) t p h = expressing-later before (RoleExclusion R S) p.in_place.begun refl h
expressing-more before (ConceptFact A a n) t p h = expressing-later before (ConceptFact A a n) p.in_place.begun refl h
expressing-more before (RoleFact r a b n) t p h = expressing-later before (RoleFact r a b n) p.in_place.begun refl h
expressing-more before (RoleStep s R u) t p h = expressing-later before (RoleStep s R u) p.in_place.0.begun refl h
expressing-more before (TestStep s A u) t p h = expressing-later before (TestStep s A u) p.in_place.0.begun refl h
expressing-more before (Final s) t p h = expressing-later before (Final s) p.in_place.0.begun refl h
expressing-more before (Ask a b) t p h = expressing-later before (Ask a b) p.in_place.begun refl h
expressing-more before (AskFrom a) t p h = expressing-later before (AskFrom a) p.in_place.begun refl h
expressing-more before Salvage t p h = expressing-later before Salvage p.in_place.0.begun refl h
expressing-more before (ListedMark n s u B) t p h = expressing-later before (ListedMark n s u B) p.in_place refl h

expressing : (fs : List Frame) → Taken fs → Expressing fs
expressing = taken-keeps Expressing tt expressing-more

-- the row of an expression that is taken
module _ (fs : List Frame) (t : Taken fs) (row : List ℕ) (e : expression_given fs ≡ Some row) where
  pub row-taken : RowTaken (declared_by fs) row
  row-taken = rw e at (expressing fs t)

-- THEOREM: what is held asks the question of its expression's automaton, or the typed one
module _ (file : File) where
  pub expressed-asks : (row : List ℕ) → file.expression ≡ Some row → (q : Listed) → IsAutomatonOf row q → IsQuestion file q
  expressed-asks row given q x = record { typed = λ n. absurd (let e = sym given ∙ n in cc); expressed = rw given x }

  pub typed-asks : file.expression ≡ None → IsQuestion file (typed_question file)
  typed-asks given = record { typed = λ n. refl; expressed = rw given tt }

-- THEOREM: what is held asks at most one question
pub question-once : (file : File) (q r : Listed) → IsQuestion file q → IsQuestion file r → q ≡ r
question-once file q r a b = by file.expression refl
  where
    by : (o : Option (List ℕ)) → file.expression ≡ o → q ≡ r
    by None e = a.typed e ∙ sym (b.typed e)
    by (Some row) e = automaton-once q r (rw e at a.expressed) (rw e at b.expressed)

-- THEOREM: and lends one row of tables
pub lent-once : (file : File) (t u : Tables) → LendsTables file t → LendsTables file u → t ≡ u
lent-once file t u a b = a.are ∙ ap (lent_tables file) (question-once file a.question b.question a.is b.is) ∙ sym b.are

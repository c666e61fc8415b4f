-- What is held of a file once its question is spelled out and its tables are tidied: its frames are the fair copy.
use Rattle.std.specs.Prelude.{◌≡◌, refl, List, [], ◌∷◌, ◌++◌, map, ℕ, zero, suc, ◌/◌, ◌<◌, ◌≤◌, Option, None, Some, length}
use Rattle.std.specs.List.{AllByRecursion}
use Rattle.std.specs.List.Sorted.{IsStrictlySortedBy}
use Rattle.std.proofs.Common.{sym, ap, ap₂, ◌∙◌, inl, inr, arith, subst, append-nil}
use mathlib.Core.List.Memᴰ
use Rattle.laws.specs.Member.{◌∈◌, map-in, map-out}
use Rattle.laws.specs.Numbers.{numbered-in}
use Rattle.kinds.specs.Kinds.{state, concept-number, CountsFit}
use Rattle.meaning.specs.Collection.{Step, step, role, test}
use Rattle.meaning.specs.Lent.{records, field, rule_width, concept_fact_width, role_fact_width, step_width, step_kind, final_width, final_at}
use Rattle.tables.specs.Letters.{read_letter}
use Rattle.tables.specs.Records.{read_concept_pair, read_role_pair, read_concept_fact, read_role_fact, read_step}
use Rattle.expression.specs.Listed.{Listed}
use Rattle.frames.specs.Written.{AreNumbered}
use Rattle.frames.specs.declared.Frame.{Frame}
use Rattle.frames.specs.declared.Frame.TheVariants.{Declared, ConceptRule, ConceptExclusion, RoleRule, RoleExclusion, ConceptFact, RoleFact, Final, Allowance, ListedMark}
use Rattle.reading.specs.declared.File.{File}
use Rattle.reading.specs.Tables.{Kind, concept_rules, concept_exclusions, role_rules, role_exclusions, concept_facts, role_facts, steps, finals, asks, listed, record_in, width, declared_by, allowance_given}
use Rattle.reading.proofs.Turns.{fitting}
use Rattle.sorted.specs.Rows.{rows, AreWide, IsTidied}
use Rattle.sorted.proofs.Chunks.{row_at, chunk-out, field-is, rows-wide}
use Rattle.fair_copy.specs.Copy.{IsCopied, step_frame, StandsIn, typed, by_step, by_final, frame_order, IsCopyOf}
use Rattle.fair_copy.specs.Framed.{step_of, read_step_frame, allowance_frames, typed_out}
use Rattle.fair_copy.proofs.Records.{step_by, frame_in, frame-back, wide}
use Rattle.fair_copy.proofs.Taken.{line-1-there, IsDeclared, all-declared, allowance-there, given-allowance}
use Rattle.fair_copy.proofs.Stands.{AreTaken, IsShelved, table_of, Sort, declares, allows, adds, sort_of, stands-row, row-stands, fitting-tables}
use Rattle.fair_copy.proofs.RowFrames.{by-rows}
use Rattle.fair_copy.proofs.Rising.{at, lead, Leads, leads-none, leads-one, leads-join, IsBlock, IsRow, rows-rise}

-- the table of each kind that a file holds; of a list it holds none
abbrev pub held : File → Kind → List ℕ
held file concept_rules = file.concept_rules
held file concept_exclusions = file.concept_exclusions
held file role_rules = file.role_rules
held file role_exclusions = file.role_exclusions
held file concept_facts = file.concept_facts
held file role_facts = file.role_facts
held file steps = file.steps
held file finals = file.finals
held file asks = file.asks
held file listed = []

-- a file that holds what some frames declare and allow, and their tables with their question, tidied
pub record HoldsCopy (fs : List Frame) (q : Listed) (file : File) : Type 0 where
  pub counts : file.counts ≡ declared_by fs
  pub allowance : file.allowance ≡ allowance_given fs
  pub tables : (kind : Kind) → IsShelved kind → IsTidied (width kind) (table_of fs q kind) (held file kind)

-- ---- what is typed out, table by table

-- the frames that the rows of its table of a kind say
abbrev said : File → Kind → List Frame
said file kind = map (frame_in kind) (rows (width kind) (held file kind))

abbrev after_finals : File → List Frame
after_finals file = allowance_frames file.allowance

abbrev after_steps : File → List Frame
after_steps file = said file finals ++ after_finals file

abbrev after_role_facts : File → List Frame
after_role_facts file = said file steps ++ after_steps file

abbrev after_concept_facts : File → List Frame
after_concept_facts file = said file role_facts ++ after_role_facts file

abbrev after_role_exclusions : File → List Frame
after_role_exclusions file = said file concept_facts ++ after_concept_facts file

abbrev after_role_rules : File → List Frame
after_role_rules file = said file role_exclusions ++ after_role_exclusions file

abbrev after_exclusions : File → List Frame
after_exclusions file = said file role_rules ++ after_role_rules file

abbrev after_rules : File → List Frame
after_rules file = said file concept_exclusions ++ after_exclusions file

abbrev blocks : File → List Frame
blocks file = said file concept_rules ++ after_rules file

-- two numbers to a rule
rule-row : (frame : List ℕ → Frame) (f : ℕ → ℕ → Frame) → ((r : List ℕ) → frame r ≡ f (at r 0) (at r 1)) → (t : List ℕ) (k : ℕ)
    → f (field rule_width t 0 k) (field rule_width t 1 k) ≡ frame (row_at rule_width t k)
rule-row frame f is t k =
    ap₂ f (sym (field-is rule_width t 0 k (omega arith))) (sym (field-is rule_width t 1 k (omega arith))) ∙ sym (is (row_at rule_width t k))

-- the frame of a step, by its numbers as they are read and as they stand in its row
step-same : (n m : ℕ → ℕ) (k : ℕ) → n 1 ≡ m 1 → n 2 ≡ m 2 → n 3 ≡ m 3
    → step_of (state (n 1)) (read_letter k (n 2)) (state (n 3)) ≡ step_by m k
step-same n m zero a b c = rw (a, b, c) refl
step-same n m (suc k) a b c = rw (a, b, c) refl

step-row : (t : List ℕ) (k : ℕ) → read_step_frame (read_step t k) ≡ frame_in steps (row_at step_width t k)
step-row t k =
    let is = λ (j : ℕ) (h : j < step_width). sym (field-is step_width t j k h) in
    step-same (λ j. field step_width t j k) (at (row_at step_width t k)) (field step_width t 0 k)
    (is 1 (omega arith)) (is 2 (omega arith)) (is 3 (omega arith))
    ∙ ap (step_by (at (row_at step_width t k))) (is 0 (omega arith))

typed-blocks : (file : File) → typed_out file ≡ Declared file.counts ∷ blocks file
typed-blocks file =
    let a = by-rows rule_width read_concept_pair (λ r. ConceptRule r.left r.right) (frame_in concept_rules) file.concept_rules
    (rule-row (frame_in concept_rules) (λ x y. frame_in concept_rules (x ∷ y ∷ [])) (λ r. refl) file.concept_rules) in
    let b = by-rows rule_width read_concept_pair (λ r. ConceptExclusion r.left r.right) (frame_in concept_exclusions)
    file.concept_exclusions
    (rule-row (frame_in concept_exclusions) (λ x y. frame_in concept_exclusions (x ∷ y ∷ [])) (λ r. refl) file.concept_exclusions) in
    let c = by-rows rule_width read_role_pair (λ r. RoleRule r.left r.right) (frame_in role_rules) file.role_rules
    (rule-row (frame_in role_rules) (λ x y. frame_in role_rules (x ∷ y ∷ [])) (λ r. refl) file.role_rules) in
    let d = by-rows rule_width read_role_pair (λ r. RoleExclusion r.left r.right) (frame_in role_exclusions) file.role_exclusions
    (rule-row (frame_in role_exclusions) (λ x y. frame_in role_exclusions (x ∷ y ∷ [])) (λ r. refl) file.role_exclusions) in
    let e = by-rows concept_fact_width read_concept_fact (λ f. ConceptFact f.name f.individual f.deed) (frame_in concept_facts)
    file.concept_facts
    (λ k. let t = file.concept_facts in
    rw (field-is 3 t 0 k (omega arith), field-is 3 t 1 k (omega arith), field-is 3 t 2 k (omega arith)) refl) in
    let f = by-rows role_fact_width read_role_fact (λ f. RoleFact f.role f.first f.second f.deed) (frame_in role_facts) file.role_facts
    (λ k. let t = file.role_facts in
    rw (field-is 4 t 0 k (omega arith), field-is 4 t 1 k (omega arith), field-is 4 t 2 k (omega arith), field-is 4 t 3 k (omega arith))
    refl) in
    let g = by-rows step_width read_step read_step_frame (frame_in steps) file.steps (step-row file.steps) in
    let h = by-rows final_width final_at Final (frame_in finals) file.finals
    (λ k. rw (field-is final_width file.finals 0 k (omega arith)) refl) in
    rw (a, b, c, d, e, f, g, h, append-nil (allowance_frames file.allowance)) refl

-- ---- they rise

-- the numbers of the kinds of frame of each table: from this one on, and below that one
abbrev low : Kind → ℕ
low concept_rules = 0x02
low concept_exclusions = 0x03
low role_rules = 0x04
low role_exclusions = 0x05
low concept_facts = 0x06
low role_facts = 0x07
low steps = 0x08
low finals = 0x0A
low asks = 0x0B
low listed = 0x10

abbrev high : Kind → ℕ
high concept_rules = 0x03
high concept_exclusions = 0x04
high role_rules = 0x05
high role_exclusions = 0x06
high concept_facts = 0x07
high role_facts = 0x08
high steps = 0x0A
high finals = 0x0B
high asks = 0x0C
high listed = 0x11

abbrev IsOf : Kind → Frame → Type 0
IsOf kind f = (low kind ≤ lead f) × (lead f < high kind)

step-lead : (n : ℕ → ℕ) (k : ℕ) → IsOf steps (step_by n k)
step-lead n zero = (omega arith, omega arith)
step-lead n (suc k) = (omega arith, omega arith)

row-lead : (kind : Kind) → IsShelved kind → (r : List ℕ) → IsOf kind (frame_in kind r)
row-lead concept_rules k r = (omega arith, omega arith)
row-lead concept_exclusions k r = (omega arith, omega arith)
row-lead role_rules k r = (omega arith, omega arith)
row-lead role_exclusions k r = (omega arith, omega arith)
row-lead concept_facts k r = (omega arith, omega arith)
row-lead role_facts k r = (omega arith, omega arith)
row-lead steps k r = step-lead (at r) (at r 0)
row-lead finals k r = (omega arith, omega arith)
row-lead asks k r = absurd k
row-lead listed k r = absurd k

rows-block : (kind : Kind) → IsShelved kind → (rs : List (List ℕ)) → IsBlock (low kind) (high kind) (map (frame_in kind) rs)
rows-block kind k [] = tt
rows-block kind k (r ∷ rs) = (row-lead kind k r, rows-block kind k rs)

low-high : (kind : Kind) → low kind ≤ high kind
low-high concept_rules = omega arith
low-high concept_exclusions = omega arith
low-high role_rules = omega arith
low-high role_exclusions = omega arith
low-high concept_facts = omega arith
low-high role_facts = omega arith
low-high steps = omega arith
low-high finals = omega arith
low-high asks = omega arith
low-high listed = omega arith

all-rows : (kind : Kind) (rs : List (List ℕ)) → AreWide (width kind) rs → ((r : List ℕ) → r ∈ rs → kind ≡ steps → at r 0 ≤ 1)
    → AllByRecursion (IsRow kind) rs
all-rows kind [] a h = tt
all-rows kind (r ∷ rs) a h =
    (record { long = a.0; step = λ e. h r (Memᴰ.head refl) e }, all-rows kind rs a.1 (λ s m. h s (Memᴰ.tail m)))

module _ (fs : List Frame) (q : Listed) (w : AreTaken fs q) (file : File) (h : HoldsCopy fs q file) where
  -- a row of a tidied table is one of the table
  old-row : (kind : Kind) → IsShelved kind → {r : List ℕ} → r ∈ rows (width kind) (held file kind)
      → r ∈ rows (width kind) (table_of fs q kind)
  old-row kind k {r} m = ((h.tables kind k).tidied.same r).1 m

  -- the kind of each step is 0 or 1
  step-kinds : {r : List ℕ} → r ∈ rows step_width q.steps → at r 0 ≤ 1
  unfolding records
  step-kinds {r} m =
      let n = length q.steps / step_width in
      let x = chunk-out step_width n q.steps m in
      let l = x.1 in
      let k = (fitting-tables fs q w).step_kinds (step_kind q.steps x.0) (numbered-in (step_kind q.steps) n x.0 l) in
      let e : at r 0 ≡ step_kind q.steps x.0 = ap (λ s. at s 0) x.2 ∙ field-is step_width q.steps 0 x.0 (omega arith) in
      omega (arith, e, k)

  small : (kind : Kind) → IsShelved kind → (r : List ℕ) → r ∈ rows (width kind) (held file kind) → kind ≡ steps → at r 0 ≤ 1
  small steps k r m e = step-kinds (old-row steps k m)
  small kind k r m e = absurd cc

  from-kind : (kind : Kind) (k : IsShelved kind) (rest : List Frame) → Leads (high kind) rest → Leads (low kind) (said file kind ++ rest)
  from-kind kind k rest l =
      let rs = rows (width kind) (held file kind) in
      let all = all-rows kind rs (rows-wide (width kind) (wide kind) (held file kind)) (small kind k) in
      leads-join (low kind) (high kind) (low-high kind) (said file kind) rest (rows-block kind k rs)
      (rows-rise kind k rs all (h.tables kind k).tidied.rises) l

  allowed : (o : Option ℕ) → Leads (high finals) (allowance_frames o)
  allowed None = leads-none (high finals)
  allowed (Some n) = let l = leads-one (Allowance n) in record { rises = l.rises; from = (omega arith, tt) }

  blocks-lead : Leads (low concept_rules) (blocks file)
  blocks-lead =
      let a = from-kind finals tt (after_finals file) (allowed file.allowance) in
      let b = from-kind role_facts tt (after_role_facts file) (from-kind steps tt (after_steps file) a) in
      let c = from-kind role_exclusions tt (after_role_exclusions file) (from-kind concept_facts tt (after_concept_facts file) b) in
      let d = from-kind concept_exclusions tt (after_exclusions file) (from-kind role_rules tt (after_role_rules file) c) in
      from-kind concept_rules tt (after_rules file) d

  all-rise : IsStrictlySortedBy frame_order (Declared file.counts ∷ blocks file)
  all-rise =
      let l = leads-one (Declared file.counts) in
      let j = leads-join 0x01 0x02 (omega arith) (Declared file.counts ∷ []) (blocks file) ((omega arith, omega arith), tt) l.rises
      blocks-lead in
      j.rises

  -- ---- what stands in the copy is among them
  numbered-step : (s : Step) → AreNumbered (step_frame s)
  numbered-step (step u (role S) v) = tt
  numbered-step (step u (test A) v) = tt

  fit : CountsFit (declared_by fs)
  fit = fitting fs w.taken w.begun

  numbered-typed : (f : Frame) → IsDeclared (declared_by fs) f → AreNumbered f
  numbered-typed (ConceptRule C D) d =
      let n = d.0 in
      (concept-number (declared_by fs) fit.names C n.0, concept-number (declared_by fs) fit.names D n.1)
  numbered-typed (ConceptExclusion C D) d =
      let n = d.0 in
      (concept-number (declared_by fs) fit.names C n.0, concept-number (declared_by fs) fit.names D n.1)
  numbered-typed (ListedMark m s t B) d =
      let n = d.0 in
      concept-number (declared_by fs) fit.names B n.2
  numbered-typed f d = tt

  -- a concept is that of its number
  numbered : {f : Frame} → StandsIn fs q f → AreNumbered f
  numbered (typed f m c) = numbered-typed f (all-declared fs w.taken f m)
  numbered (by_step s m) = numbered-step s
  numbered (by_final s m) = tt

  copied-step : (s : Step) → IsCopied (step_frame s)
  copied-step (step u (role S) v) = tt
  copied-step (step u (test A) v) = tt

  is-copied : {f : Frame} → StandsIn fs q f → IsCopied f
  is-copied (typed f m c) = c
  is-copied (by_step s m) = copied-step s
  is-copied (by_final s m) = tt

  -- the frame of a record is said by the record
  said-by : (kind : Kind) (f : Frame) {r : List ℕ} → record_in kind f ≡ Some r → AreNumbered f → frame_in kind r ≡ f
  said-by kind f e n = rw e at (frame-back kind f n)

  row-said : (kind : Kind) → IsShelved kind → (f : Frame) {r : List ℕ} → StandsIn fs q f → record_in kind f ≡ Some r → f ∈ said file kind
  row-said kind k f {r} s e =
      let m = ((h.tables kind k).tidied.same r).0 (stands-row fs q w s kind r e) in
      subst (λ g. g ∈ said file kind) (said-by kind f e (numbered s)) (map-in (frame_in kind) m)

  module _ {f : Frame} where
    -- what a table says is among all
    from_rules : f ∈ after_rules file → f ∈ blocks file
    from_rules m = Memᴰ.append_right (said file concept_rules) m

    from_exclusions : f ∈ after_exclusions file → f ∈ blocks file
    from_exclusions m = from_rules (Memᴰ.append_right (said file concept_exclusions) m)

    from_role_rules : f ∈ after_role_rules file → f ∈ blocks file
    from_role_rules m = from_exclusions (Memᴰ.append_right (said file role_rules) m)

    from_role_exclusions : f ∈ after_role_exclusions file → f ∈ blocks file
    from_role_exclusions m = from_role_rules (Memᴰ.append_right (said file role_exclusions) m)

    from_concept_facts : f ∈ after_concept_facts file → f ∈ blocks file
    from_concept_facts m = from_role_exclusions (Memᴰ.append_right (said file concept_facts) m)

    from_role_facts : f ∈ after_role_facts file → f ∈ blocks file
    from_role_facts m = from_concept_facts (Memᴰ.append_right (said file role_facts) m)

    from_steps : f ∈ after_steps file → f ∈ blocks file
    from_steps m = from_role_facts (Memᴰ.append_right (said file steps) m)

    from_finals : f ∈ after_finals file → f ∈ blocks file
    from_finals m = from_steps (Memᴰ.append_right (said file finals) m)

    in-blocks : (kind : Kind) → IsShelved kind → f ∈ said file kind → f ∈ blocks file
    in-blocks concept_rules k m = Memᴰ.append_left (after_rules file) m
    in-blocks concept_exclusions k m = from_rules (Memᴰ.append_left (after_exclusions file) m)
    in-blocks role_rules k m = from_exclusions (Memᴰ.append_left (after_role_rules file) m)
    in-blocks role_exclusions k m = from_role_rules (Memᴰ.append_left (after_role_exclusions file) m)
    in-blocks concept_facts k m = from_role_exclusions (Memᴰ.append_left (after_concept_facts file) m)
    in-blocks role_facts k m = from_concept_facts (Memᴰ.append_left (after_role_facts file) m)
    in-blocks steps k m = from_role_facts (Memᴰ.append_left (after_steps file) m)
    in-blocks finals k m = from_steps (Memᴰ.append_left (after_finals file) m)
    in-blocks asks k m = absurd k
    in-blocks listed k m = absurd k

  stands-in : {f : Frame} → StandsIn fs q f → Sort f → f ∈ (Declared file.counts ∷ blocks file)
  stands-in s (declares c) = first s refl
    where
      first : {g : Frame} → StandsIn fs q g → g ≡ Declared c → Declared c ∈ (Declared file.counts ∷ blocks file)
      first (typed g m k) e =
          let d : IsDeclared (declared_by fs) (Declared c) = subst (IsDeclared (declared_by fs)) e (all-declared fs w.taken g m) in
          Memᴰ.head (ap Declared (d ∙ sym h.counts))
      first (by_step (step u (role S) v) m) e = absurd cc
      first (by_step (step u (test A) v) m) e = absurd cc
      first (by_final t m) e = absurd cc
  stands-in s (allows n) = given s refl
    where
      given : {g : Frame} → StandsIn fs q g → g ≡ Allowance n → Allowance n ∈ (Declared file.counts ∷ blocks file)
      given (typed g m k) e =
          let a = allowance-there fs w.taken n (subst (λ f. f ∈ fs) e m) in
          let b : file.allowance ≡ Some n = h.allowance ∙ a in
          Memᴰ.tail (from_finals (rw b (Memᴰ.head refl)))
      given (by_step (step u (role S) v) m) e = absurd cc
      given (by_step (step u (test A) v) m) e = absurd cc
      given (by_final t m) e = absurd cc
  stands-in {f} s (adds kind r k e) = Memᴰ.tail (in-blocks kind k (row-said kind k f s e))

  -- ---- and nothing else is
  module _ {f : Frame} where
    row-out : (kind : Kind) → IsShelved kind → f ∈ said file kind → StandsIn fs q f
    row-out kind k m =
        let x = map-out (frame_in kind) (rows (width kind) (held file kind)) m in
        let g = row-stands fs q w kind k x.0 (old-row kind k x.1) in
        let e : f ≡ g.0 = x.2 ∙ said-by kind g.0 g.2 (numbered g.1) in
        subst (StandsIn fs q) (sym e) g.1

    allowance-out : f ∈ after_finals file → StandsIn fs q f
    allowance-out m = by file.allowance refl m
      where
        by : (o : Option ℕ) → file.allowance ≡ o → f ∈ allowance_frames o → StandsIn fs q f
        by None e i = absurd (Memᴰ.not-nil i)
        by (Some n) e i =
            let g = given-allowance fs n (sym h.allowance ∙ e) in
            subst (StandsIn fs q) (sym (Memᴰ.eq_of_singleton i)) (typed (Allowance n) g tt)

    -- a member of a block and of those after it is of one or of the others
    either : (kind : Kind) → IsShelved kind → {rest : List Frame} → (f ∈ rest → StandsIn fs q f) → f ∈ (said file kind ++ rest)
        → StandsIn fs q f
    either kind k on m = elim (Memᴰ.append_cases (said file kind) m) [ inl i ↦ row-out kind k i | inr i ↦ on i ]

    blocks-out : f ∈ blocks file → StandsIn fs q f
    blocks-out =
        either concept_rules tt (either concept_exclusions tt (either role_rules tt (either role_exclusions tt
        (either concept_facts tt (either role_facts tt (either steps tt (either finals tt allowance-out)))))))

    stands-out : f ∈ (Declared file.counts ∷ blocks file) → StandsIn fs q f
    stands-out m =
        elim (Memᴰ.cases_cons m) [
          | inl e ↦
              let line_1 = typed (Declared (declared_by fs)) (line-1-there fs w.taken w.begun) tt in
              subst (StandsIn fs q) (sym (e ∙ ap Declared h.counts)) line_1
          | inr i ↦ blocks-out i
        ]

  -- THEOREM: what is typed out is the fair copy
  pub typed-out-is-copy : IsCopyOf fs q (typed_out file)
  typed-out-is-copy =
      subst (IsCopyOf fs q) (sym (typed-blocks file))
      (record { rises = all-rise; same = λ f. (λ m. stands-out m, λ s. stands-in s (sort_of f (is-copied s))) })

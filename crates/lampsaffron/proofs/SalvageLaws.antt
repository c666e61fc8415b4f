-- The marks of a salvage, put into a row as bytes; the number that is given; and what follows of the marks.
use Rattle.std.specs.Prelude.{◌≡◌, ◌≢◌, refl, Bool, true, false, Some, Err, ℕ, zero, suc, List, [], ◌∷◌, ◌++◌, ◌+◌, ◌≤◌, All}
use Rattle.std.specs.Prelude.{nat_eq, length, map, take, cond, count_by, slice_get, slice_index_or}
use Rattle.std.proofs.Common.{sym, subst, ap, ap₂, ◌∙◌, arith}
use Rattle.std.proofs.Math.Decide.{ℕ_discrete}
use Rattle.std.proofs.lemmas.List.{take-append-drop, length-map}
use Rattle.std.proofs.lemmas.List.Sums.{sum_by-cons}
use Rattle.std.proofs.lemmas.List.Elements.{All-map, All-nil, All-cons, All-head, All-tail}
use mathlib.Core.List.Memᴰ
use Rattle.kinds.specs.declared.Counts.{Counts}
use Rattle.kinds.specs.Answer.{answer_number}
use Rattle.kinds.specs.Kinds.{CountsFit}
use Rattle.laws.specs.First.{fails, holds, first-once}
use Rattle.laws.specs.Member.{◌∈◌}
use Rattle.laws.specs.Numbers.{length-numbered}
use Rattle.meaning.specs.Collection.{NumbersDeclared, Each, WellFormed}
use Rattle.meaning.specs.Deeds.{SameButDeeds}
use Rattle.meaning.specs.Lent.{Tables, collection, records, concept_fact, role_fact, NumbersFit, ShapesOk}
use Rattle.meaning.specs.Lent.{most_concept_facts, most_role_facts}
use Rattle.meaning.specs.Model.{Contradiction}
use Rattle.meaning.proofs.DeedLaws.{one-collection, turned, shapes_kept}
use Rattle.tables.specs.declared.collection.Refusal.{Refusal}
use Rattle.tables.specs.declared.collection.Refusal.TheVariants.{BadCount, BadTable, BadNumber}
use Rattle.tables.specs.declared.collection.Collection as code
use Rattle.tables.specs.Lists.{lists}
use Rattle.tables.specs.Order.{InOrder}
use Rattle.tables.specs.Refusals.{answer_of}
use Rattle.salvage.specs.declared.Typed.{Typed}
use Rattle.salvage.specs.Salvages.{◌◂◌, marked}
use Rattle.salvage.specs.Facts.{Fact, facts_among, with_facts, salvaged, is_concept_fact, is_role_fact, NamesAll, Clashing, IsSalvage, entries_of}
use Rattle.salvage.specs.Laws.{Salvaging}
use Rattle.salvage.proofs.EntryLaws.{collection_declared, all_named}
use Rattle.salvage.proofs.SalvageLaws.{salvages_once}
use Rattle.salvage.proofs.SalvagedLaws as law
use Rattle.sift.specs.Salvage.{TablesHold, Passes}
use Rattle.lampsaffron.specs.Salvage.{typed_of, order_in, mark_byte, marks_in, IsReadable, entries, marks_of, OrderFits}
use Rattle.lampsaffron.specs.Salvage.{SalvageNumber, MarksKept, TellsSalvage}

-- ---- bytes

-- a mark that is put as a byte is read as it was
pub marks_back : (marks : List Bool) → map (nat_eq 1) (map mark_byte marks) ≡ marks
marks_back [] = refl
marks_back (true ∷ marks) = ap (λ (l : List Bool). true ∷ l) (marks_back marks)
marks_back (false ∷ marks) = ap (λ (l : List Bool). false ∷ l) (marks_back marks)

pub bytes_low : (marks : List Bool) → All (λ byte. byte ≤ 1) (map mark_byte marks)
bytes_low marks = All-map (λ byte. byte ≤ 1) mark_byte marks (λ k d h. low (slice_index_or marks k d))
  where
    low : (b : Bool) → mark_byte b ≤ 1
    low true = omega arith
    low false = omega arith

-- bytes that are 0 or 1 are known by the marks that they are
byte_once : (x y : ℕ) → x ≤ 1 → y ≤ 1 → nat_eq 1 x ≡ nat_eq 1 y → x ≡ y
byte_once zero zero h k e = refl
byte_once (suc zero) (suc zero) h k e = refl
byte_once zero (suc zero) h k e = let f : false ≡ true = e in cc
byte_once (suc zero) zero h k e = let f : true ≡ false = e in cc
byte_once (suc (suc x)) y h k e = absurd (omega (arith, h))
byte_once x (suc (suc y)) h k e = absurd (omega (arith, k))

pub bytes_once : (xs ys : List ℕ) → All (λ byte. byte ≤ 1) xs → All (λ byte. byte ≤ 1) ys → map (nat_eq 1) xs ≡ map (nat_eq 1) ys → xs ≡ ys
bytes_once [] [] a b e = refl
bytes_once [] (y ∷ ys) a b e = cc
bytes_once (x ∷ xs) [] a b e = cc
bytes_once (x ∷ xs) (y ∷ ys) a b e =
    let h : nat_eq 1 x ≡ nat_eq 1 y = cc in
    let t : map (nat_eq 1) xs ≡ map (nat_eq 1) ys = cc in
    ap₂ ◌∷◌ (byte_once x y (All-head (λ byte. byte ≤ 1) x xs a) (All-head (λ byte. byte ≤ 1) y ys b) h)
    (bytes_once xs ys (All-tail (λ byte. byte ≤ 1) x xs a) (All-tail (λ byte. byte ≤ 1) y ys b) t)

-- all members are so
pub all_so : {A : Type 0} {P : A → Type 0} (l : List A) → Each l P → All P l
all_so {P = P} [] g = All-nil P
all_so {P = P} (x ∷ l) g = All-cons P x l (g x (Memᴰ.head refl)) (all_so l (λ y m. g y (Memᴰ.tail m)))

-- ---- the order

-- what an order names, one number more at its front
concepts_more : (n : ℕ) (order : List ℕ)
    → count_by is_concept_fact (order_in (n ∷ order)) ≡ cond (is_concept_fact (typed_of n)) 1 0 + count_by is_concept_fact (order_in order)
concepts_more n order = sum_by-cons (λ y. cond (is_concept_fact y) 1 0) (typed_of n) (order_in order)

roles_more : (n : ℕ) (order : List ℕ)
    → count_by is_role_fact (order_in (n ∷ order)) ≡ cond (is_role_fact (typed_of n)) 1 0 + count_by is_role_fact (order_in order)
roles_more n order = sum_by-cons (λ y. cond (is_role_fact y) 1 0) (typed_of n) (order_in order)

-- of 0s and 1s alone each types a fact
order_long : (order : List ℕ) → All (λ number. number ≤ 1) order
    → length order ≡ count_by is_concept_fact (order_in order) + count_by is_role_fact (order_in order)
order_long [] h = refl
order_long (zero ∷ order) h =
    omega (arith, order_long order (All-tail (λ number. number ≤ 1) 0 order h), concepts_more 0 order, roles_more 0 order)
order_long (suc zero ∷ order) h =
    omega (arith, order_long order (All-tail (λ number. number ≤ 1) 1 order h), concepts_more 1 order, roles_more 1 order)
order_long (suc (suc n) ∷ order) h = absurd (omega (arith, All-head (λ number. number ≤ 1) (suc (suc n)) order h))

module _ (c : Counts) (t : Tables) (order : List ℕ) where
  concept_facts_few : ShapesOk t → length ((collection c t).concept-facts) ≤ most_concept_facts
  unfolding records
  concept_facts_few s = rw (length-numbered (concept_fact t.concept-facts)) s.concept-facts.few

  role_facts_few : ShapesOk t → length ((collection c t).role-facts) ≤ most_role_facts
  unfolding records
  role_facts_few s = rw (length-numbered (role_fact t.role-facts)) s.role-facts.few

  -- an order that fits can be read
  pub readable : {places : ℕ} → OrderFits c t order places → IsReadable order places
  readable f = record {
    numbers = f.numbers;
    few =
        let a = concept_facts_few f.tables in
        let b = role_facts_few f.tables in
        omega (arith, order_long order f.numbers, f.names.concept-facts, f.names.role-facts, a, b);
    room = f.room;
  }

  -- THEOREM: one number is given
  pub number_once : (places n m : ℕ) → SalvageNumber c t order places n → SalvageNumber c t order places m → n ≡ m
  number_once places = first-once (first-once (first-once (λ n m h k. h ∙ sym k)))

  -- neither 2 nor 7
  pub number_never : {places n : ℕ} → SalvageNumber c t order places n → (n ≢ 2) × (n ≢ 7)
  number_never (fails h) = (λ e. omega arith, λ e. omega arith)
  number_never (holds a (fails h)) = (λ e. omega arith, λ e. omega arith)
  number_never (holds a (holds b (fails h))) = (λ e. omega arith, λ e. omega arith)
  number_never (holds a (holds b (holds d q))) = (λ e. omega (arith, q), λ e. omega (arith, q))

  -- after 0 the collection is well-formed, and the order fits
  pub passed : {places n : ℕ} → SalvageNumber c t order places n → n ≡ 0 → WellFormed (collection c t) × OrderFits c t order places
  passed (fails h) e = absurd (omega arith)
  passed (holds a (fails h)) e = absurd (omega arith)
  passed (holds a (holds b (fails h))) e = absurd (omega arith)
  passed (holds a (holds b (holds d q))) e = (record { counts = a; numbers = d.declared }, b)

  -- marks that are put at the front of a row
  pub marks_put : (marks : List Bool) (row : List ℕ) → length marks ≡ length order → take (length marks) row ≡ map mark_byte marks
      → IsSalvage (collection c t) (entries c t order) marks → MarksKept c t order row
  marks_put marks row n e s =
      let f : take (length order) row ≡ map mark_byte marks = rw n at e in
      record {
        marks = rw (f, marks_back marks) s;
        bytes = rw f (bytes_low marks);
      }

  -- ---- what follows of the marks
  module _ {row : List ℕ} (w : WellFormed (collection c t)) (k : MarksKept c t order row) where
    salvaging : Salvaging (collection c t) (entries c t order) (marks_of c t order row)
    salvaging = record { formed = w; declared = collection_declared (collection c t) w (order_in order); salvage = k.marks }

    pub sane : ¬ Contradiction (salvaged (collection c t) (entries c t order) (marks_of c t order row))
    sane = law.sane (collection c t) (entries c t order) (marks_of c t order row) k.marks

    pub back : (x : Fact) → Some x ∈ marked false (entries c t order) (marks_of c t order row)
        → Contradiction (with_facts (collection c t) (facts_among (marked true (entries c t order) (marks_of c t order row)) ◂ x))
    back = law.put_back salvaging

    pub repeats : (i j : ℕ) → slice_get (entries c t order) i ≡ slice_get (entries c t order) j
        → slice_get (marks_of c t order row) i ≡ slice_get (marks_of c t order row) j
    repeats = law.marked_alike salvaging

    pub whole : {places : ℕ} → OrderFits c t order places → ¬ Contradiction (collection c t)
        → All (λ mark. mark ≡ true) (marks_of c t order row)
    whole f n =
        let all = all_named (collection c t) (order_in order) f.names in
        all_so (marks_of c t order row) (law.kept salvaging (λ z. n (rw all at z)))

  -- THEOREM: all that the call gives and leaves is fixed
  pub salvaging_once : (old new new' : List ℕ) (number number' : ℕ) → TellsSalvage c t order old number new
      → TellsSalvage c t order old number' new'
      → (number ≡ number') × (new ≡ new')
  salvaging_once old new new' number number' a b = (e, by (ℕ_discrete number 0))
    where
      e : number ≡ number'
      e = number_once (length old) number number' a.number_is b.number_is

      by : Dec (number ≡ 0) → new ≡ new'
      by (yes z) =
          let x = a.marked z in
          let y = b.marked (rw e at z) in
          let same = salvages_once (Clashing (collection c t)) x.marks y.marks in
          let front = bytes_once (take (length order) new) (take (length order) new') x.bytes y.bytes same in
          sym (take-append-drop (length order) new) ∙ (ap₂ ◌++◌ front (a.rest ∙ sym b.rest) ∙ take-append-drop (length order) new')
      by (no n) = a.kept n ∙ sym (b.kept (rw e at n))

-- ---- the number by what salvage said of the order as it was read
module _ (l : code.Collection) (order : List ℕ) {places : ℕ} (r : IsReadable order places) {typed : List Typed} {n : ℕ}
    (e : typed ≡ order_in order)
  where
    fits_to : TablesHold l typed n → OrderFits l.counts (lists l) order places
    fits_to h = record { tables = h.tables; numbers = r.numbers; names = rw e at h.fits.names; room = r.room }

    fits_from : n ≡ length order → OrderFits l.counts (lists l) order places → TablesHold l typed n
    fits_from m f = record {
      tables = f.tables;
      fits = record { names = rw e f.names; long = rw e (length-map order typed_of) ∙ sym m };
    }

    pub number_ok : Passes l typed n → SalvageNumber l.counts (lists l) order places 0
    number_ok a = holds a.counts (holds (fits_to a.tables) (holds a.numbers refl))

    pub number_refused : n ≡ length order → CountsFit l.counts → (why : Refusal)
        → InOrder (CountsFit l.counts) (TablesHold l typed n) (NumbersFit l.counts (lists l)) (Err why)
        → SalvageNumber l.counts (lists l) order places (answer_number (answer_of why))
    number_refused m fit BadCount h = absurd (h.bad_count.0 refl fit)
    number_refused m fit BadTable h = let w = h.bad_table.0 refl in holds fit (fails (λ f. w.tables (fits_from m f)))
    number_refused m fit BadNumber h = let w = h.bad_number.0 refl in holds fit (holds (fits_to w.tables) (fails w.numbers))

-- ---- deed numbers

module _ (c : Counts) (t u : Tables) (s : SameButDeeds t u) (order : List ℕ) where
  one : collection c t ≡ collection c u
  one = one-collection c t u s

  numbers_to : NumbersFit c t → NumbersFit c u
  numbers_to f = record { declared = subst NumbersDeclared one f.declared; step-kinds = rw (← s.steps) f.step-kinds }

  order_to : {places : ℕ} → OrderFits c t order places → OrderFits c u order places
  order_to f = record {
    tables = shapes_kept s f.tables;
    numbers = f.numbers;
    names = subst (λ 𝓒. NamesAll (order_in order) 𝓒.concept-facts 𝓒.role-facts) one f.names;
    room = f.room;
  }

module _ (c : Counts) (t u : Tables) (s : SameButDeeds t u) (order : List ℕ) where
  salvage_number : {places n : ℕ} → SalvageNumber c t order places n → SalvageNumber c u order places n
  salvage_number (fails h) = fails h
  salvage_number (holds a (fails h)) = holds a (fails (λ f. h (order_to c u t (turned s) order f)))
  salvage_number (holds a (holds b (fails h))) =
      holds a (holds (order_to c t u s order b) (fails (λ f. h (numbers_to c u t (turned s) order f))))
  salvage_number (holds a (holds b (holds d q))) = holds a (holds (order_to c t u s order b) (holds (numbers_to c t u s order d) q))

  marks_kept : {row : List ℕ} → MarksKept c t order row → MarksKept c u order row
  marks_kept {row} k = record {
    marks = subst (λ 𝓒. IsSalvage 𝓒 (entries_of 𝓒 (order_in order)) (marks_in (length order) row)) (one c t u s order) k.marks;
    bytes = k.bytes;
  }

  -- THEOREM: the same number, and the same marks
  pub salvage_deeds : {old new : List ℕ} {number : ℕ} → TellsSalvage c t order old number new → TellsSalvage c u order old number new
  salvage_deeds m = record {
    number_is = salvage_number m.number_is;
    marked = λ e. marks_kept (m.marked e);
    rest = m.rest;
    kept = m.kept;
  }

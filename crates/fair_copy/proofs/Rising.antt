-- The frames of tables whose rows rise strictly, one table after another, rise strictly.
use Rattle.std.specs.Prelude.{◌≡◌, refl, List, [], ◌∷◌, ◌++◌, map, ℕ, zero, suc, ◌+◌, ◌<◌, ◌≤◌, length, slice_index_or}
use Rattle.std.specs.Ordering.{nat_cmp, ordering_then}
use Rattle.std.specs.declared.cmp.Ordering.{Ordering}
use Rattle.std.specs.declared.cmp.Ordering.TheVariants.{Less}
use Rattle.std.specs.Cmp.Lexicographic.{slice_cmp}
use Rattle.std.specs.List.{AllByRecursion}
use Rattle.std.specs.List.Sorted.{IsStrictlySortedBy}
use Rattle.std.proofs.Common.{sym, ap, ap₂, ◌∙◌, arith, lt-ltb}
use Rattle.kinds.specs.Kinds.{number-concept}
use Rattle.frames.specs.Written.{kind_in, kind_byte, Field, fields, numbers_of}
use Rattle.frames.specs.declared.Frame.{Frame}
use Rattle.reading.specs.Tables.{Kind, concept_rules, concept_exclusions, role_rules, role_exclusions, concept_facts, role_facts, steps, finals, asks, listed, width}
use Rattle.fair_copy.specs.Copy.{frame_order}
use Rattle.fair_copy.proofs.Records.{frame_in}
use Rattle.fair_copy.proofs.Stands.{IsShelved}

-- number j of a row
abbrev pub at : List ℕ → ℕ → ℕ
at r j = slice_index_or r j 0

-- ---- lists in any order

module _ {X Y : Type 0} (R : X → X → Ordering) (S : Y → Y → Ordering) (f : X → Y) (P : X → Type 0) (keeps : (x y : X) → P x → P y
    → R x y ≡ Less → S (f x) (f y) ≡ Less) where
  below-all : (x : X) → P x → (l : List X) → AllByRecursion P l → AllByRecursion (λ y. R x y ≡ Less) l
      → AllByRecursion (λ y. S (f x) y ≡ Less) (map f l)
  below-all x p [] a b = tt
  below-all x p (y ∷ l) a b = (keeps x y p a.0 b.0, below-all x p l a.1 b.1)

  -- what keeps the order of elements keeps that of lists
  pub rises-map : (l : List X) → AllByRecursion P l → IsStrictlySortedBy R l → IsStrictlySortedBy S (map f l)
  unfolding IsStrictlySortedBy
  rises-map [] a h = tt
  rises-map (x ∷ l) a h = (below-all x a.0 l a.1 h.0, rises-map l a.1 h.1)

module _ {X : Type 0} where
  all-join : (P : X → Type 0) (xs ys : List X) → AllByRecursion P xs → AllByRecursion P ys → AllByRecursion P (xs ++ ys)
  all-join P [] ys a b = b
  all-join P (x ∷ xs) ys a b = (a.0, all-join P xs ys a.1 b)

  all-to : (P Q : X → Type 0) → ((x : X) → P x → Q x) → (xs : List X) → AllByRecursion P xs → AllByRecursion Q xs
  all-to P Q to [] a = tt
  all-to P Q to (x ∷ xs) a = (to x a.0, all-to P Q to xs a.1)

-- ---- frames by their kinds

-- the number of a frame's kind
abbrev pub lead : Frame → ℕ
lead f = kind_byte (kind_in f)

-- the numbers of its fields
abbrev rest : Frame → List ℕ
rest f = map (λ (x : Field). x.number) (fields f)

smaller : (a b : ℕ) (r s : List ℕ) → a < b → slice_cmp nat_cmp (a ∷ r) (b ∷ s) ≡ Less
smaller a b r s h = rw (lt-ltb a b h) refl

pub kind-first : (f g : Frame) → lead f < lead g → frame_order f g ≡ Less
kind-first f g h = smaller (lead f) (lead g) (rest f) (rest g) h

-- frames that rise strictly, each of a kind from k on
pub record Leads (k : ℕ) (fs : List Frame) : Type 0 where
  pub rises : IsStrictlySortedBy frame_order fs
  pub from : AllByRecursion (λ f. k ≤ lead f) fs

pub leads-none : (k : ℕ) → Leads k []
unfolding IsStrictlySortedBy
leads-none k = record { rises = tt; from = tt }

pub leads-one : (f : Frame) → Leads (lead f) (f ∷ [])
unfolding IsStrictlySortedBy
leads-one f = record { rises = (tt, tt); from = (omega arith, tt) }

-- a block of frames of kinds from k on, all below m, before others from m on
abbrev pub IsBlock : ℕ → ℕ → List Frame → Type 0
IsBlock k m fs = AllByRecursion (λ f. (k ≤ lead f) × (lead f < m)) fs

module _ (k m : ℕ) (few : k ≤ m) where
  before-all : (f : Frame) → lead f < m → (gs : List Frame) → AllByRecursion (λ g. m ≤ lead g) gs
      → AllByRecursion (λ g. frame_order f g ≡ Less) gs
  before-all f h [] a = tt
  before-all f h (g ∷ gs) a = let e = a.0 in (kind-first f g (omega arith), before-all f h gs a.1)

  rises-join : (fs gs : List Frame) → IsBlock k m fs → IsStrictlySortedBy frame_order fs → Leads m gs
      → IsStrictlySortedBy frame_order (fs ++ gs)
  unfolding IsStrictlySortedBy
  rises-join [] gs b h l = l.rises
  rises-join (f ∷ fs) gs b h l =
      (all-join (λ g. frame_order f g ≡ Less) fs gs h.0 (before-all f b.0.1 gs l.from), rises-join fs gs b.1 h.1 l)

  pub leads-join : (fs gs : List Frame) → IsBlock k m fs → IsStrictlySortedBy frame_order fs → Leads m gs → Leads k (fs ++ gs)
  leads-join fs gs b h l = record {
    rises = rises-join fs gs b h l;
    from =
        all-join (λ f. k ≤ lead f) fs gs (all-to (λ f. (k ≤ lead f) × (lead f < m)) (λ f. k ≤ lead f) (λ f p. p.0) fs b)
        (all-to (λ f. m ≤ lead f) (λ f. k ≤ lead f) (λ f p. omega arith) gs l.from);
  }

-- ---- the frames of rows

-- a row of so many numbers is those numbers
two : (r : List ℕ) → length r ≡ 2 → r ≡ at r 0 ∷ at r 1 ∷ []
two (x ∷ y ∷ []) h = refl
two [] h = absurd (omega (arith, h))
two (x ∷ []) h = absurd (omega (arith, h))
two (x ∷ y ∷ z ∷ r) h = absurd (omega (arith, h))

one : (r : List ℕ) → length r ≡ 1 → r ≡ at r 0 ∷ []
one (x ∷ []) h = refl
one [] h = absurd (omega (arith, h))
one (x ∷ y ∷ r) h = absurd (omega (arith, h))

three : (r : List ℕ) → length r ≡ 3 → r ≡ at r 0 ∷ at r 1 ∷ at r 2 ∷ []
three (x ∷ r) h = let e = two r (omega arith) in ap (λ l. x ∷ l) e
three [] h = absurd (omega (arith, h))

four : (r : List ℕ) → length r ≡ 4 → r ≡ at r 0 ∷ at r 1 ∷ at r 2 ∷ at r 3 ∷ []
four (x ∷ r) h = let e = three r (omega arith) in ap (λ l. x ∷ l) e
four [] h = absurd (omega (arith, h))

-- a row of the kind's width; of a step with a kind of 0 or 1
pub record IsRow (kind : Kind) (r : List ℕ) : Type 0 where
  pub long : length r ≡ width kind
  pub step : kind ≡ steps → at r 0 ≤ 1

-- a row by its first number, and the numbers of its frame
abbrev leading : Kind → List ℕ → List ℕ
leading concept_rules r = 0x02 ∷ r
leading concept_exclusions r = 0x03 ∷ r
leading role_rules r = 0x04 ∷ r
leading role_exclusions r = 0x05 ∷ r
leading concept_facts r = 0x06 ∷ r
leading role_facts r = 0x07 ∷ r
leading steps [] = []
leading steps (k ∷ r) = (8 + k) ∷ r
leading finals r = 0x0A ∷ r
leading asks r = 0x0B ∷ r
leading listed r = 0x10 ∷ r

step-numbers : (k s l t : ℕ) → k ≤ 1 → numbers_of (frame_in steps (k ∷ s ∷ l ∷ t ∷ [])) ≡ (8 + k) ∷ s ∷ l ∷ t ∷ []
step-numbers zero s l t h = refl
step-numbers (suc zero) s l t h = refl
step-numbers (suc (suc k)) s l t h = absurd (omega (arith, h))

row-numbers : (kind : Kind) → IsShelved kind → (r : List ℕ) → IsRow kind r → numbers_of (frame_in kind r) ≡ leading kind r
row-numbers concept_rules k r w = let e = two r w.long in rw (number-concept (at r 0), number-concept (at r 1)) (ap (λ l. 0x02 ∷ l)
    (sym e))
row-numbers concept_exclusions k r w = let e = two r w.long in rw (number-concept (at r 0), number-concept (at r 1)) (ap (λ l. 0x03 ∷ l)
    (sym e))
row-numbers role_rules k r w = ap (λ l. 0x04 ∷ l) (sym (two r w.long))
row-numbers role_exclusions k r w = ap (λ l. 0x05 ∷ l) (sym (two r w.long))
row-numbers concept_facts k r w = ap (λ l. 0x06 ∷ l) (sym (three r w.long))
row-numbers role_facts k r w = ap (λ l. 0x07 ∷ l) (sym (four r w.long))
row-numbers steps k r w =
    let e = four r w.long in
    let n = step-numbers (at r 0) (at r 1) (at r 2) (at r 3) (w.step refl) in
    n ∙ ap (leading steps) (sym e)
row-numbers finals k r w = ap (λ l. 0x0A ∷ l) (sym (one r w.long))
row-numbers asks k r w = absurd k
row-numbers listed k r w = absurd k

same-shift : (k l : ℕ) → k ≤ 1 → l ≤ 1 → nat_cmp (8 + k) (8 + l) ≡ nat_cmp k l
same-shift zero zero h i = refl
same-shift zero (suc zero) h i = refl
same-shift (suc zero) zero h i = refl
same-shift (suc zero) (suc zero) h i = refl
same-shift (suc (suc k)) l h i = absurd (omega (arith, h))
same-shift k (suc (suc l)) h i = absurd (omega (arith, i))

step-order : (r s : List ℕ) → IsRow steps r → IsRow steps s → slice_cmp nat_cmp (leading steps r)
    (leading steps s) ≡ slice_cmp nat_cmp r s
step-order [] s v w = absurd (omega (arith, v.long))
step-order (x ∷ r) [] v w = absurd (omega (arith, w.long))
step-order (x ∷ r) (y ∷ s) v w = ap (λ o. ordering_then o (slice_cmp nat_cmp r s)) (same-shift x y (v.step refl) (w.step refl))

leading-order : (kind : Kind) → IsShelved kind → (r s : List ℕ) → IsRow kind r → IsRow kind s
    → slice_cmp nat_cmp (leading kind r) (leading kind s) ≡ slice_cmp nat_cmp r s
leading-order concept_rules k r s v w = refl
leading-order concept_exclusions k r s v w = refl
leading-order role_rules k r s v w = refl
leading-order role_exclusions k r s v w = refl
leading-order concept_facts k r s v w = refl
leading-order role_facts k r s v w = refl
leading-order steps k r s v w = step-order r s v w
leading-order finals k r s v w = refl
leading-order asks k r s v w = absurd k
leading-order listed k r s v w = absurd k

module _ (kind : Kind) (kept : IsShelved kind) where
  row-order : (r s : List ℕ) → IsRow kind r → IsRow kind s → slice_cmp nat_cmp r s ≡ Less
      → frame_order (frame_in kind r) (frame_in kind s) ≡ Less
  row-order r s v w h =
      ap₂ (slice_cmp nat_cmp) (row-numbers kind kept r v) (row-numbers kind kept s w) ∙ leading-order kind kept r s v w ∙ h

  -- the frames of rows that rise strictly rise strictly
  pub rows-rise : (rs : List (List ℕ)) → AllByRecursion (IsRow kind) rs → IsStrictlySortedBy (slice_cmp nat_cmp) rs
      → IsStrictlySortedBy frame_order (map (frame_in kind) rs)
  rows-rise rs a h = rises-map (slice_cmp nat_cmp) frame_order (frame_in kind) (IsRow kind) row-order rs a h

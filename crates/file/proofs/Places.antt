-- The numbers of the lines that are dropped, as places among the marks.
use Rattle.std.specs.Prelude.{ℕ, zero, suc, ◌+◌, ◌<◌, ◌≤◌, ◌≡◌, refl, Bool, true, false, Some, length, slice_get, slice_index}
use Rattle.std.specs.List.{range_with_len}
use Rattle.std.proofs.Common.{sym, ap, subst, ⊎_elim, arith}
use mathlib.Core.List.Memᴰ
use mathlib.Core.List.{List, [], ◌∷◌, ◌++◌, map}
use Rattle.laws.specs.Member.{◌∈◌}
use Rattle.salvage.specs.Salvages.{marked}

-- a number is that of a line that is dropped, of n lines from line a on
pub record DroppedAt (n a : ℕ) (marks : List Bool) (line : ℕ) : Type 0 where
  pub place : ℕ
  pub is : line ≡ a + place
  pub inside : place < n
  pub mark : slice_get marks place ≡ Some false

one-later : {n a : ℕ} {marks : List Bool} {line : ℕ} (mark : Bool) → DroppedAt n (a + 1) marks line → DroppedAt (suc n) a (mark ∷ marks) line
one-later mark d = record { place = suc d.place; is = omega (arith, d.is); inside = omega (arith, d.inside); mark = d.mark }

pub out-dropped : (n a : ℕ) (marks : List Bool) (line : ℕ) → line ∈ marked false (range_with_len a n) marks → DroppedAt n a marks line
out-dropped zero a marks line m = absurd (Memᴰ.not-nil m)
out-dropped (suc n) a [] line m = absurd (Memᴰ.not-nil m)
out-dropped (suc n) a (true ∷ marks) line m = one-later true (out-dropped n (a + 1) marks line m)
out-dropped (suc n) a (false ∷ marks) line m =
    ⊎_elim (λ e. record { place = 0; is = omega (arith, e); inside = omega arith; mark = refl })
    (λ k. one-later false (out-dropped n (a + 1) marks line k)) (Memᴰ.cases_cons m)

pub in-dropped : (n a : ℕ) (marks : List Bool) (m : ℕ) → m < n → slice_get marks m ≡ Some false → a + m ∈ marked false (range_with_len a n) marks
in-dropped zero a marks m h e = absurd (omega arith)
in-dropped (suc n) a [] m h e = absurd cc
in-dropped (suc n) a (true ∷ marks) zero h e = absurd cc
in-dropped (suc n) a (false ∷ marks) zero h e = Memᴰ.head (omega arith)
in-dropped (suc n) a (true ∷ marks) (suc m) h e =
    let s : a + 1 + m ≡ a + suc m = omega arith in
    subst (λ (x : ℕ). x ∈ marked false (range_with_len (a + 1) n) marks) s (in-dropped n (a + 1) marks m (omega arith) e)
in-dropped (suc n) a (false ∷ marks) (suc m) h e =
    let s : a + 1 + m ≡ a + suc m = omega arith in
    Memᴰ.tail (subst (λ (x : ℕ). x ∈ marked false (range_with_len (a + 1) n) marks) s (in-dropped n (a + 1) marks m (omega arith) e))

-- they rise
least : (n a : ℕ) (marks : List Bool) (k : ℕ) → k < length (marked false (range_with_len a n) marks)
    → a ≤ slice_index (marked false (range_with_len a n) marks) k
least zero a marks k h = absurd (omega arith)
least (suc n) a [] k h = absurd (omega arith)
least (suc n) a (true ∷ marks) k h = omega (arith, least n (a + 1) marks k h)
least (suc n) a (false ∷ marks) zero h = omega arith
least (suc n) a (false ∷ marks) (suc k) h = omega (arith, least n (a + 1) marks k (omega arith))

pub rising : (n a : ℕ) (marks : List Bool) (j k : ℕ) → j < k → k < length (marked false (range_with_len a n) marks)
    → slice_index (marked false (range_with_len a n) marks) j < slice_index (marked false (range_with_len a n) marks) k
rising zero a marks j k i h = absurd (omega arith)
rising (suc n) a [] j k i h = absurd (omega arith)
rising (suc n) a (true ∷ marks) j k i h = rising n (a + 1) marks j k i h
rising (suc n) a (false ∷ marks) j zero i h = absurd (omega arith)
rising (suc n) a (false ∷ marks) zero (suc k) i h = omega (arith, least n (a + 1) marks k (omega arith))
rising (suc n) a (false ∷ marks) (suc j) (suc k) i h = rising n (a + 1) marks j k (omega arith) (omega arith)

-- as many as are dropped of any row of so many
pub dropped-many : {F : Type 0} (l : List F) (a : ℕ) (marks : List Bool)
    → length (marked false (range_with_len a (length l)) marks) ≡ length (marked false l marks)
dropped-many [] a marks = refl
dropped-many (x ∷ l) a [] = refl
dropped-many (x ∷ l) a (true ∷ marks) = dropped-many l (a + 1) marks
dropped-many (x ∷ l) a (false ∷ marks) = omega (arith, dropped-many l (a + 1) marks)

-- a number of a row is in it
pub at-place : (l : List ℕ) (k : ℕ) → k < length l → slice_index l k ∈ l
at-place [] k h = absurd (omega arith)
at-place (x ∷ l) zero h = Memᴰ.head refl
at-place (x ∷ l) (suc k) h = Memᴰ.tail (at-place l k (omega arith))

-- the item at a place of a row, and what a function makes of it
pub record ItemAt {F G : Type 0} (g : F → G) (l : List F) (m : ℕ) : Type 0 where
  pub item : F
  pub here : slice_get l m ≡ Some item
  pub made : slice_get (map g l) m ≡ Some (g item)

pub item-at : {F G : Type 0} (g : F → G) (l : List F) (m : ℕ) → m < length l → ItemAt g l m
item-at g [] m h = absurd (omega arith)
item-at g (x ∷ l) zero h = record { item = x; here = refl; made = refl }
item-at g (x ∷ l) (suc m) h =
    let w = item-at g l m (omega arith) in record { item = w.item; here = w.here; made = w.made }

-- of two rows one behind the other, an item past the first is of the second
pub item-past : {F : Type 0} (x y : List F) (m : ℕ) (f : F) → length x ≤ m → slice_get (x ++ y) m ≡ Some f → f ∈ y
item-past [] [] m f h e = absurd cc
item-past [] (z ∷ y) zero f h e = let d : z ≡ f = cc in Memᴰ.head (sym d)
item-past [] (z ∷ y) (suc m) f h e = Memᴰ.tail (item-past [] y m f (omega arith) e)
item-past (z ∷ x) y zero f h e = absurd (omega arith)
item-past (z ∷ x) y (suc m) f h e = item-past x y m f (omega arith) e

-- and what a function makes of an item at a place
pub place-in : {F G : Type 0} (g : F → G) (l : List F) (m : ℕ) (x : F) → slice_get l m ≡ Some x → slice_get (map g l) m ≡ Some (g x)
place-in g [] m x e = absurd cc
place-in g (y ∷ l) zero x e = let d : y ≡ x = cc in ap (λ z. Some (g z)) d
place-in g (y ∷ l) (suc m) x e = place-in g l m x e

-- Those of a row that are marked, moved to its front one after the other.
use Rattle.std.specs.Prelude.{ℕ, zero, suc, min, ◌+◌, ◌<◌, ◌≤◌, ◌≡◌, Bool, true, false, if◌then◌else◌, List, [], ◌∷◌, ◌++◌, length, take, drop, slice_index_or, slice_set}
use Rattle.std.proofs.Common.{refl, sym, ap, ap₂, ◌∙◌, arith, append-nil, get_or-drop}
use Rattle.std.proofs.lemmas.List.{take_more, take_more_set, take-set, drop-set-lt, drop-drop, length-set, length-take-le}
use Rattle.salvage.specs.Salvages.{marked}
use Rattle.salvage.specs.declared.Typed.{Typed}
use Rattle.reading.specs.Records.{marks_of}

pub record KeptSoFar {F : Type 0} (old : List F) (marks : List Bool) (i kept : ℕ) (items : List F) : Type 0 where
  pub within : kept ≤ i
  pub long : length items ≡ length old
  pub front : take kept items ≡ marked true (take i old) marks
  pub behind : drop i items ≡ drop i old

module _ {F : Type 0} where
  -- one more at the end
  abbrev pub last : Bool → F → List F
  last mark x = if mark then x ∷ [] else []

  pub marked-more : (l : List F) (marks : List Bool) (x : F)
      → marked true (l ++ x ∷ []) marks ≡ marked true l marks ++ last (slice_index_or marks (length l) true) x
  marked-more [] [] x = refl
  marked-more [] (true ∷ marks) x = refl
  marked-more [] (false ∷ marks) x = refl
  marked-more (y ∷ l) [] x = refl
  marked-more (y ∷ l) (true ∷ marks) x = ap (λ (m : List F). y ∷ m) (marked-more l marks x)
  marked-more (y ∷ l) (false ∷ marks) x = marked-more l marks x

  -- where the marked one is put, it stands behind those before it
  put : (items : List F) (kept : ℕ) (x : F) (mark : Bool) → kept < length items
      → take (kept + (if mark then 1 else 0)) (slice_set items kept x) ≡ take kept items ++ last mark x
  put items kept x true inside = take_more_set items kept x inside
  put items kept x false inside =
      let e : kept + 0 ≡ kept = omega arith in rw e (take-set items kept x ∙ sym (append-nil (take kept items)))

  module _ {old items : List F} {marks : List Bool} {i kept : ℕ} (s : KeptSoFar old marks i kept items) where
    pub kept-more : (x : F) → i < length old → x ≡ slice_index_or items i x
        → KeptSoFar old marks (i + 1) (kept + (if slice_index_or marks i true then 1 else 0)) (slice_set items kept x)
    kept-more x inside here = record {
      within = within (slice_index_or marks i true);
      long = length-set items kept x ∙ s.long;
      front =
          put items kept x (slice_index_or marks i true) (omega (arith, s.within, s.long))
          ∙ ap (λ l. l ++ last (slice_index_or marks i true) x) s.front
          ∙ sym (rw long at (marked-more (take i old) marks x))
          ∙ ap (λ l. marked true l marks) (sym (take_more old i x inside ∙ ap (λ y. take i old ++ y ∷ []) same));
      behind =
          drop-set-lt (i + 1) items kept x (omega (arith, s.within))
          ∙ sym (drop-drop 1 i items) ∙ ap (drop 1) s.behind ∙ drop-drop 1 i old;
    }
      where
        within : (mark : Bool) → kept + (if mark then 1 else 0) ≤ i + 1
        within true = omega (arith, s.within)
        within false = omega (arith, s.within)

        long : length (take i old) ≡ i
        long = length-take-le i old (omega arith)

        same : slice_index_or old i x ≡ x
        same =
            let e : i + 0 ≡ i = omega arith in
            let a = rw e at (get_or-drop i old 0 x) in
            let b = rw e at (get_or-drop i items 0 x) in
            sym a ∙ ap (λ l. slice_index_or l 0 x) (sym s.behind) ∙ b ∙ sym here

-- the marks of the first lines, of those that type what is asked for
pub record MarksSoFar (asked : Typed → Bool) (typed : List Typed) (marks old : List Bool) (i found : ℕ) (row : List Bool) : Type 0 where
  pub within : found ≤ i
  pub long : length row ≡ length old
  pub front : take found row ≡ marks_of asked (take i typed) (take i marks)

module _ (asked : Typed → Bool) where
  marks-more : (l : List Typed) (m : List Bool) (x : Typed) (b : Bool) → length l ≡ length m
      → marks_of asked (l ++ x ∷ []) (m ++ b ∷ []) ≡ marks_of asked l m ++ last (asked x) b
  marks-more [] [] x b e = by (asked x)
    where
      by : (a : Bool) → (if a then b ∷ [] else []) ≡ [] ++ last a b
      by true = refl
      by false = refl
  marks-more [] (c ∷ m) x b e = absurd (omega arith)
  marks-more (y ∷ l) [] x b e = absurd (omega arith)
  marks-more (y ∷ l) (c ∷ m) x b e = by (asked y) (marks-more l m x b (omega arith))
    where
      by : (a : Bool) → marks_of asked (l ++ x ∷ []) (m ++ b ∷ []) ≡ marks_of asked l m ++ last (asked x) b
          → (if a then c ∷ marks_of asked (l ++ x ∷ []) (m ++ b ∷ []) else marks_of asked (l ++ x ∷ []) (m ++ b ∷ []))
          ≡ (if a then c ∷ marks_of asked l m else marks_of asked l m) ++ last (asked x) b
      by true h = ap (λ (n : List Bool). c ∷ n) h
      by false h = h

  -- those of lines beyond the marks, and marks beyond the lines, are none
  pub marks-all : (l : List Typed) (m : List Bool) (n : ℕ) → n ≡ min (length l) (length m)
      → marks_of asked (take n l) (take n m) ≡ marks_of asked l m
  marks-all [] m n e = let z : n ≡ 0 = omega arith in rw z refl
  marks-all (y ∷ l) [] n e = let z : n ≡ 0 = omega arith in rw z refl
  marks-all (y ∷ l) (c ∷ m) zero e = absurd (omega arith)
  marks-all (y ∷ l) (c ∷ m) (suc n) e = by (asked y) (marks-all l m n (omega arith))
    where
      by : (a : Bool) → marks_of asked (take n l) (take n m) ≡ marks_of asked l m
          → (if a then c ∷ marks_of asked (take n l) (take n m) else marks_of asked (take n l) (take n m))
          ≡ (if a then c ∷ marks_of asked l m else marks_of asked l m)
      by true h = ap (λ (k : List Bool). c ∷ k) h
      by false h = h

  module _ {typed : List Typed} {marks old row : List Bool} {i found : ℕ} (s : MarksSoFar asked typed marks old i found row) where
    pub found-more : (d : Typed) → i < length typed → i < length marks → i < length row
        → MarksSoFar asked typed marks old (i + 1) (found + (if asked (slice_index_or typed i d) then 1 else 0))
        (slice_set row found (slice_index_or marks i false))
    found-more d within_typed within_marks room = record {
      within = within (asked (slice_index_or typed i d));
      long = length-set row found (slice_index_or marks i false) ∙ s.long;
      front =
          put row found (slice_index_or marks i false) (asked (slice_index_or typed i d)) (omega (arith, s.within))
          ∙ ap (λ l. l ++ last (asked (slice_index_or typed i d)) (slice_index_or marks i false)) s.front
          ∙ sym (
          ap₂ (λ k m. marks_of asked k m) (take_more typed i d within_typed) (take_more marks i false within_marks)
          ∙ marks-more (take i typed) (take i marks) (slice_index_or typed i d) (slice_index_or marks i false)
          (length-take-le i typed (omega arith) ∙ sym (length-take-le i marks (omega arith)))
          );
    }
      where
        within : (a : Bool) → found + (if a then 1 else 0) ≤ i + 1
        within true = omega (arith, s.within)
        within false = omega (arith, s.within)

-- those that are marked and those that are not are all
pub kept-and-dropped : {F : Type 0} (l : List F) (marks : List Bool)
    → length (marked true l marks) + length (marked false l marks) ≡ length l
kept-and-dropped [] marks = refl
kept-and-dropped (x ∷ l) [] = omega arith
kept-and-dropped (x ∷ l) (true ∷ marks) = omega (arith, kept-and-dropped l marks)
kept-and-dropped (x ∷ l) (false ∷ marks) = omega (arith, kept-and-dropped l marks)

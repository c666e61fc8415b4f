-- Lines taken one after the other: the one that is next, and some and then more.
use Rattle.std.specs.Prelude.{◌⊎◌}
use Rattle.std.proofs.Common.{◌≡◌, ◌≢◌, ℕ, ◌+◌, ◌≤◌, ◌<◌, ◌^◌, ◌==◌, Bool, true, false, List, [], ◌∷◌, ◌++◌, length, min, take, drop, slice_get, Option, Some, None, refl, sym, ap, ◌∙◌, subst, arith, inl, inr, append-nil, append_assoc, length-append}
use Rattle.std.proofs.Math.Decide.{dec_lt}
use Rattle.std.proofs.lemmas.Bool.Decides.{nat_tests}
use Rattle.std.proofs.lemmas.List.{take_all, take_at, drop_all, take-append-le, take-append-drop}
use Rattle.std.specs.Io.KnownBytes.{IsAtEnd, Keeps, prepend_known}
use Rattle.streams.specs.Lines.{lines, longer, TakesLine}
use Rattle.streams.specs.Input.{Input, left_of}
use Rattle.streams.proofs.FirstLine.{lines_none}
use Rattle.intake.specs.Next.{TakesLines, BeginsOther, TakesAll, StopsAmong}

line_ends : (x : ℕ) (xs : List ℕ) → (x == 0x0A) ≡ true → lines (x ∷ xs) ≡ [] ∷ lines xs
unfolding lines
line_ends x xs e = rw e refl

line_goes : (x : ℕ) (xs : List ℕ) → (x == 0x0A) ≡ false → lines (x ∷ xs) ≡ longer x (lines xs)
unfolding lines
line_goes x xs e = rw e refl

-- an input without a line has no bytes
none-left : (xs : List ℕ) → lines xs ≡ [] → xs ≡ []
none-left [] e = refl
none-left (x ∷ xs) e = absurd (by (x == 0x0A) refl)
  where
    longer_some : (ls : List (List ℕ)) → longer x ls ≡ [] → ⊥
    longer_some [] d = cc
    longer_some (l ∷ ls) d = cc

    by : (b : Bool) → (x == 0x0A) ≡ b → ⊥
    by true t = let d = sym (line_ends x xs t) ∙ e in cc
    by false f = longer_some (lines xs) (sym (line_goes x xs f) ∙ e)

-- an input is its first line, or begins with it and its end
abbrev BeginsWith : List ℕ → List ℕ → Type 0
BeginsWith xs l = (xs ≡ l) ⊎ ((ys : List ℕ) × (xs ≡ l ++ 0x0A ∷ ys))

begins_more : (x : ℕ) (xs l : List ℕ) → BeginsWith xs l → BeginsWith (x ∷ xs) (x ∷ l)
begins_more x xs l (inl e) = inl (ap (λ (k : List ℕ). x ∷ k) e)
begins_more x xs l (inr w) = inr (w.0, ap (λ (k : List ℕ). x ∷ k) w.1)

abbrev BeginsSo : List ℕ → Type 0
BeginsSo xs = (l : List ℕ) (ls : List (List ℕ)) → lines xs ≡ l ∷ ls → BeginsWith xs l

begins-with : (xs l : List ℕ) (ls : List (List ℕ)) → lines xs ≡ l ∷ ls → BeginsWith xs l
begins-with [] l ls e = let d = sym lines_none ∙ e in absurd cc
begins-with (x ∷ xs) l ls e = by (begins-with xs) (x == 0x0A) refl
  where
    longer-begins : BeginsSo xs → (ms : List (List ℕ)) → lines xs ≡ ms → longer x ms ≡ l ∷ ls → BeginsWith (x ∷ xs) l
    longer-begins on [] m d =
        let n = none-left xs m in
        let i : (x ∷ []) ≡ l = cc in
        inl (ap (λ (k : List ℕ). x ∷ k) n ∙ i)
    longer-begins on (m ∷ ms) i d =
        let j : (x ∷ m) ≡ l = cc in
        subst (BeginsWith (x ∷ xs)) j (begins_more x xs m (on m ms i))

    by : BeginsSo xs → (b : Bool) → (x == 0x0A) ≡ b → BeginsWith (x ∷ xs) l
    by on true t =
        let d = sym (line_ends x xs t) ∙ e in
        let n : [] ≡ l = cc in
        let i : x ≡ 0x0A = grind (arith, nat_tests) in
        inr (xs, ap (λ (c : ℕ). c ∷ xs) i ∙ ap (λ (k : List ℕ). k ++ 0x0A ∷ xs) n)
    by on false f = longer-begins on (lines xs) refl (sym (line_goes x xs f) ∙ e)

-- where a line of some characters is first with its end, it is one without it too
alone : (l : List ℕ) → l ≢ [] → lines (l ++ 0x0A ∷ []) ≡ l ∷ [] → lines l ≡ l ∷ []
alone [] n e = absurd (n refl)
alone (x ∷ []) n e = by (x == 0x0A) refl
  where
    by : (b : Bool) → (x == 0x0A) ≡ b → lines (x ∷ []) ≡ (x ∷ []) ∷ []
    by true t = let d = sym (line_ends x (0x0A ∷ []) t) ∙ e in absurd cc
    by false f = line_goes x [] f ∙ ap (longer x) lines_none
alone (x ∷ y ∷ l) n e = by (alone (y ∷ l) (λ i. cc)) (x == 0x0A) refl
  where
    shorter : (ms : List (List ℕ)) → longer x ms ≡ (x ∷ y ∷ l) ∷ [] → ms ≡ (y ∷ l) ∷ []
    shorter [] d = absurd cc
    shorter (m ∷ ms) d = cc

    by : (lines (y ∷ l ++ 0x0A ∷ []) ≡ (y ∷ l) ∷ [] → lines (y ∷ l) ≡ (y ∷ l) ∷ []) → (b : Bool) → (x == 0x0A) ≡ b
        → lines (x ∷ y ∷ l) ≡ (x ∷ y ∷ l) ∷ []
    by on true t = let d = sym (line_ends x (y ∷ l ++ 0x0A ∷ []) t) ∙ e in absurd cc
    by on false f =
        let d = shorter _ (sym (line_goes x (y ∷ l ++ 0x0A ∷ []) f) ∙ e) in
        line_goes x (y ∷ l) f ∙ ap (longer x) (on d)

first_is : (ls : List (List ℕ)) (l : List ℕ) → slice_get ls 0 ≡ Some l → (ms : List (List ℕ)) × (ls ≡ l ∷ ms)
first_is [] l e = absurd cc
first_is (m ∷ ms) l e = let i : m ≡ l = cc in (ms, ap (λ (k : List ℕ). k ∷ ms) i)

-- a line with its end, which is the first of what begins with it, against the bytes that are held: so many of both are
-- looked at, and enough is held
module _ (l line held : List ℕ) (count : ℕ) (is : line ≡ l ++ 0x0A ∷ []) (some : l ≢ [])
    (ends : (rest : List ℕ) → lines (l ++ 0x0A ∷ rest) ≡ l ∷ lines rest) (many : count ≡ min (length line) (length held)) where
  long : length line ≡ length l + 1
  long = ap (λ (k : List ℕ). length k) is ∙ length-append l (0x0A ∷ [])

  -- what begins with the line and its end
  front : (rest : List ℕ) → line ++ rest ≡ l ++ 0x0A ∷ rest
  front rest = ap (λ (k : List ℕ). k ++ rest) is ∙ append_assoc l (0x0A ∷ []) rest

  -- the held bytes begin with it, or are the line without it
  abbrev IsNext : Type 0
  IsNext = (take count held ≡ take count line) × (length line ≤ count + 1)

  long_taken : (y : List ℕ) → IsNext → length line ≤ length held → lines (held ++ y) ≡ l ∷ lines (drop count held ++ y)
  long_taken y w h =
      let all : take count held ≡ line = w.0 ∙ take_all count line (omega arith) in
      let parts : held ≡ line ++ drop count held =
      sym (take-append-drop count held) ∙ ap (λ (k : List ℕ). k ++ drop count held) all in
      ap (λ (k : List ℕ). lines (k ++ y)) parts ∙ ap lines (append_assoc line (drop count held) y ∙ front (drop count held ++ y))
      ∙ ends (drop count held ++ y)

  same_front : count ≡ length l → take count line ≡ l
  same_front n = ap (take count) is ∙ take_at l (0x0A ∷ []) count (sym n)

  short_taken : IsNext → length held < length line → lines (held ++ []) ≡ l ∷ lines (drop count held ++ [])
  short_taken w h =
      let same : held ≡ l = sym (take_all count held (omega arith)) ∙ w.0 ∙ same_front (omega (arith, w.1, long)) in
      let none : drop count held ≡ [] = drop_all count held (omega arith) in
      let first : lines (l ++ 0x0A ∷ []) ≡ l ∷ [] = ends [] ∙ ap (λ (ls : List (List ℕ)). l ∷ ls) lines_none in
      ap lines (append-nil held ∙ same) ∙ alone l some first
      ∙ ap (λ (ls : List (List ℕ)). l ∷ ls) (sym (ap lines (append-nil (drop count held) ∙ none) ∙ lines_none))

  pub next_taken : (b : Option (List ℕ)) → (length line ≤ length held) ⊎ IsAtEnd b → IsNext
      → TakesLine (prepend_known held b) (prepend_known (drop count held) b) l
  next_taken None enough w = tt
  next_taken (Some y) enough w = by (dec_lt (length held) (length line))
    where
      ended : (length line ≤ length held) ⊎ (y ≡ []) → length held < length line → y ≡ []
      ended (inl h) s = absurd (omega arith)
      ended (inr e) s = e

      by : Dec (length held < length line) → lines (held ++ y) ≡ l ∷ lines (drop count held ++ y)
      by (yes s) = rw (ended enough s) (short_taken w s)
      by (no s) = long_taken y w (omega arith)

  pub next_other : (b : Option (List ℕ)) → (length line ≤ length held) ⊎ IsAtEnd b → (IsNext → ⊥)
      → BeginsOther (prepend_known held b) l
  next_other None enough n = tt
  next_other (Some y) enough n = λ e. let f = first_is (lines (held ++ y)) l e in by enough (begins-with (held ++ y) l f.0 f.1)
    where
      -- what is looked at begins with all of the line, or is it without its end
      whole_front : (k rest : List ℕ) → held ++ k ≡ line ++ rest → count ≡ length line → ⊥
      whole_front k rest e m =
          n (sym (take-append-le count held k (omega arith)) ∙ ap (take count) e ∙ take-append-le count line rest (omega arith), omega arith)

      whole_line : y ≡ [] → held ++ y ≡ l → ⊥
      whole_line none i =
          let same : held ≡ l = sym (append-nil held) ∙ ap (λ (k : List ℕ). held ++ k) (sym none) ∙ i in
          let m : count ≡ length l = omega (arith, long, ap (λ (k : List ℕ). length k) same) in
          n (ap (take count) same ∙ take_all count l (omega arith) ∙ sym (same_front m), omega (arith, long))

      by : (length line ≤ length held) ⊎ (y ≡ []) → BeginsWith (held ++ y) l → ⊥
      by (inl h) (inl i) = omega (arith, ap (λ (k : List ℕ). length k) i, length-append held y, long)
      by (inl h) (inr w) = whole_front y w.0 (w.1 ∙ sym (front w.0)) (omega arith)
      by (inr none) (inl i) = whole_line none i
      by (inr none) (inr w) =
          let e = w.1 ∙ sym (front w.0) in
          let m = ap (λ (k : List ℕ). length k) e in
          whole_front y w.0 e
          (omega (arith, m, length-append held y, length-append line w.0, ap (λ (k : List ℕ). length k) none))

-- none are taken by taking none; some, and then more
lines_none_more : (a : Option (List ℕ)) → TakesLines a a []
lines_none_more None = tt
lines_none_more (Some xs) = refl

lines_both : (a b c : Option (List ℕ)) (ls ms : List (List ℕ)) → TakesLines a b ls → TakesLines b c ms → TakesLines a c (ls ++ ms)
lines_both None b c ls ms p q = tt
lines_both (Some x) None c ls ms p q = absurd p
lines_both (Some x) (Some y) None ls ms p q = absurd q
lines_both (Some x) (Some y) (Some z) ls ms p q = p ∙ ap (λ (ns : List (List ℕ)). ls ++ ns) q ∙ sym (append_assoc ls ms (lines z))

lines_kept : (a b c : Option (List ℕ)) (ls : List (List ℕ)) → TakesLines a b ls → Keeps b c → TakesLines a c ls
lines_kept None b c ls p k = tt
lines_kept (Some x) None c ls p k = absurd p
lines_kept (Some x) (Some y) None ls p k = absurd k
lines_kept (Some x) (Some y) (Some z) ls p k = p ∙ ap (λ (zs : List ℕ). ls ++ lines zs) (sym k)

pub takes_none : (old : Input) (n : ℕ) → TakesAll old old n n []
takes_none old n = record { taken = lines_none_more (left_of old); counted = λ h. omega arith }

pub takes_kept : {old mid new : Input} {i j : ℕ} {ls : List (List ℕ)} → TakesAll old mid i j ls → Keeps (left_of mid) (left_of new)
    → TakesAll old new i j ls
takes_kept {old} {mid} {new} {ls = ls} a k =
    record { taken = lines_kept (left_of old) (left_of mid) (left_of new) ls a.taken k; counted = a.counted }

-- it stops at the first line
pub stops-first : {old new : Input} {i : ℕ} {l : List ℕ} → Keeps (left_of old) (left_of new) → BeginsOther (left_of new) l
    → StopsAmong old new i i (l ∷ [])
stops-first {old} {i = i} {l = l} k o =
    record { right = []; line = l; rest = []; parts = refl; taken = takes_kept (takes_none old i) k; other = o }

counts : (i j k : ℕ) (ls ms : List (List ℕ)) → (i + length ls < 2 ^ 64 → j ≡ i + length ls) → (j + length ms < 2 ^ 64 → k ≡ j + length ms)
    → i + length (ls ++ ms) < 2 ^ 64 → k ≡ i + length (ls ++ ms)
counts i j k ls ms a b h =
    let e = length-append ls ms in
    let d : j ≡ i + length ls = a (omega arith) in
    let f : k ≡ j + length ms = b (omega arith) in
    omega arith

module _ {old mid new : Input} {i j k : ℕ} {ls ms : List (List ℕ)} where
  pub takes-both : TakesAll old mid i j ls → TakesAll mid new j k ms → TakesAll old new i k (ls ++ ms)
  takes-both a b = record {
    taken = lines_both (left_of old) (left_of mid) (left_of new) ls ms a.taken b.taken;
    counted = counts i j k ls ms a.counted b.counted;
  }

  -- it stops among the lines after some, or among some with more behind them
  pub stops-after : TakesAll old mid i j ls → StopsAmong mid new j k ms → StopsAmong old new i k (ls ++ ms)
  stops-after a s = record {
    right = ls ++ s.right;
    line = s.line;
    rest = s.rest;
    parts = ap (λ (ns : List (List ℕ)). ls ++ ns) s.parts ∙ sym (append_assoc ls s.right (s.line ∷ s.rest));
    taken = record {
      taken = lines_both (left_of old) (left_of mid) (left_of new) ls s.right a.taken s.taken.taken;
      counted = counts i j k ls s.right a.counted s.taken.counted;
    };
    other = s.other;
  }

pub stops-before : {old new : Input} {i k : ℕ} {ls : List (List ℕ)} (ms : List (List ℕ)) → StopsAmong old new i k ls
    → StopsAmong old new i k (ls ++ ms)
stops-before {ls = ls} ms s = record {
  right = s.right;
  line = s.line;
  rest = s.rest ++ ms;
  parts = ap (λ (ns : List (List ℕ)). ns ++ ms) s.parts ∙ append_assoc s.right (s.line ∷ s.rest) ms;
  taken = s.taken;
  other = s.other;
}

-- Numbers that are put into a row, one part after the other, stand at its front; so does what a listener puts of rounds.
use Rattle.std.specs.Prelude.{◌≡◌, refl, List, [], ◌∷◌, ◌++◌, ℕ, suc, ◌+◌, ◌≤◌, ◌<◌, length, take, drop}
use Rattle.std.proofs.Common.{sym, ap, ◌∙◌, arith, add-zero, zero-add, length-append}
use Rattle.std.proofs.Math.Seq.{take-append_seam, drop-append-add}
use Rattle.std.proofs.lemmas.List.{length-drop, length-take, drop-drop, append_assoc, append-nil, take-append-drop}
use Rattle.sheet.specs.declared.round_marks.RoundMarks.{RoundMarks}
use Rattle.sheet.specs.Told.{Told, Failed, none, next}
use Rattle.lampsaffron.specs.Front.{IsFront, Puts}

-- nothing is put
pub puts-none : (row : List ℕ) (n : ℕ) → Puts [] row n row n
puts-none row n = record { more = omega arith; room = λ h. h; put = λ h. sym (take-append-drop n row) }

-- a row keeps its length
module _ {xs a b : List ℕ} {i j : ℕ} (p : Puts xs a i b j) (h : i ≤ length a) where
  pub puts-long : length b ≡ length a
  puts-long =
      let r = p.room h in
      let m = p.more in
      ap length (p.put h)
      ∙ (length-append (take i a) (xs ++ drop j a)
      ∙ omega (arith, length-append xs (drop j a), length-take i a, length-drop j a))

  -- what stands before and behind what is put
  front-is : b ≡ (take i a ++ xs) ++ drop j a
  front-is = p.put h ∙ sym (append_assoc (take i a) xs (drop j a))

  front-long : length (take i a ++ xs) ≡ j
  front-long = let m = p.more in length-append (take i a) xs ∙ omega (arith, length-take i a)

  take-is : take j b ≡ take i a ++ xs
  take-is = ap (take j) front-is ∙ (let e = take-append_seam (take i a ++ xs) (drop j a) in rw front-long at e)

  drop-is : (n : ℕ) → drop (j + n) b ≡ drop (j + n) a
  drop-is n =
      let e = drop-append-add (take i a ++ xs) (drop j a) n in
      ap (drop (j + n)) front-is ∙ ((rw front-long at e) ∙ drop-drop n j a)

-- one part, and then another
pub puts-both : {xs ys a b c : List ℕ} {i j k : ℕ} → Puts xs a i b j → Puts ys b j c k → Puts (xs ++ ys) a i c k
puts-both {xs} {ys} {a} {b} {c} {i} {j} {k} p q = record {
  more = omega (arith, p.more, q.more, length-append xs ys);
  room = λ h. let l = puts-long p h in let r = p.room h in let g = q.room (omega arith) in omega arith;
  put = λ h.
      let l = puts-long p h in
      let r = p.room h in
      let e : k ≡ j + length ys = q.more in
      let d = drop-is p h (length ys) in
      q.put (omega arith)
      ∙ rw (e, take-is p h, d, append_assoc xs ys (drop (j + length ys) a))
      (append_assoc (take i a) xs (ys ++ drop (j + length ys) a));
}

-- at the front of a row
pub puts-front : {xs a b : List ℕ} {n : ℕ} → Puts xs a 0 b n → IsFront xs n a b
puts-front {xs} {a} {b} {n} p =
    let m = p.more in
    let e : n ≡ length xs = omega arith in
    record { many = e; front = take-is p (omega arith); rest = (let d = drop-is p (omega arith) 0 in rw add-zero at d) }

-- where nothing was put the row is as it was
pub puts-nothing : {a b : List ℕ} {n : ℕ} → Puts [] a 0 b n → b ≡ a
puts-nothing {a} {b} {n} p =
    let m = p.more in
    let e : n ≡ 0 = omega arith in
    let h = p.put (omega arith) in
    rw e at h

-- ---- what a listener puts of rounds

module _ (put : ℕ → RoundMarks → List ℕ) where
  -- of rounds in a row, of which the first is round n
  unfoldable pub all_put : ℕ → List RoundMarks → List ℕ
  all_put n [] = []
  all_put n (marks ∷ rounds) = put n marks ++ all_put (suc n) rounds

  pub all_put-more : (n : ℕ) (rounds : List RoundMarks) (marks : RoundMarks)
      → all_put n (rounds ++ marks ∷ []) ≡ all_put n rounds ++ put (n + length rounds) marks
  unfolding all_put
  all_put-more n [] marks = rw (append-nil (put n marks), add-zero n) refl
  all_put-more n (first ∷ rounds) marks =
      let e : suc n + length rounds ≡ n + suc (length rounds) = omega arith in
      let g = all_put-more (suc n) rounds marks in
      ap (λ l. put n first ++ l) (rw e at g)
      ∙ sym (append_assoc (put n first) (all_put (suc n) rounds) (put (n + suc (length rounds)) marks))

  -- of the first rounds no more is put than of all
  pub all_put-few : (n : ℕ) (rounds rest : List RoundMarks) → length (all_put n rounds) ≤ length (all_put n (rounds ++ rest))
  unfolding all_put
  all_put-few n [] rest = omega arith
  all_put-few n (marks ∷ rounds) rest =
      omega (
        arith,
        all_put-few (suc n) rounds rest,
        length-append (put n marks) (all_put (suc n) rounds),
        length-append (put n marks) (all_put (suc n) (rounds ++ rest)),
      )

  module _ {S N : Type 0} (row : S → List ℕ) (told : S → ℕ) (name : S → N) (hears : S → ℕ → RoundMarks → S → Type 0)
      (puts : (x : S) (r : ℕ) (marks : RoundMarks) (y : S) → hears x r marks y
      → (name y ≡ name x) × Puts (put r marks) (row x) (told x) (row y) (told y)) where
    -- THEOREM: a listener that puts so has put all of it
    pub put-told : {from to : S} {rounds : List RoundMarks} → Told hears from rounds to
        → (name to ≡ name from) × Puts (all_put 0 rounds) (row from) (told from) (row to) (told to)
    unfolding all_put
    put-told none = (refl, puts-none _ _)
    put-told (next {rounds = rounds} {at = at} {to = to} {marks = marks} t h) =
        let v = put-told t in
        let q = puts at (length rounds) marks to h in
        (q.0 ∙ v.0, rw (all_put-more 0 rounds marks, zero-add (length rounds)) (puts-both v.1 q.1))

    -- THEOREM: and it does not fail where there is a place for all of it
    pub no-place : {E : Type 0} {fails : S → ℕ → RoundMarks → E → S → Type 0} {from to : S} {rounds : List RoundMarks} {e : E}
        → ((x : S) (r : ℕ) (marks : RoundMarks) (e : E) (y : S) → fails x r marks e y → length (row x) < told x + length (put r marks))
        → told from ≡ 0 → Failed hears fails from rounds e to → length (all_put 0 rounds) ≤ length (row from) → ⊥
    no-place {from = from} full z f l =
        let v = (put-told f.told).1 in
        let g = full f.at _ _ _ _ f.failed in
        let long = puts-long v (omega arith) in
        let m = v.more in
        let c = ap (λ r. length (all_put 0 r)) f.all in
        let d = ap length (all_put-more 0 f.before f.last) in
        let e = length-append (all_put 0 f.before) (put (0 + length f.before) f.last) in
        let k = ap (λ n. length (put n f.last)) (zero-add (length f.before)) in
        omega arith

-- A loop that drops repeats in place: what it has kept of the elements that it has passed.
use Rattle.std.specs.Prelude.{◌≡◌, refl, Bool, true, false, not, cond, List, [], ◌∷◌, ◌++◌, ℕ, zero, suc, ◌+◌, ◌-◌, ◌<◌, ◌≤◌, length, take, drop, slice_set, slice_index_or}
use Rattle.std.specs.List.{dedup, dedup_from}
use Rattle.std.proofs.Common.{sym, ap, ◌∙◌, arith}
use Rattle.std.proofs.lemmas.List.{take_more, take_more_set, get_or-take, length-take-le, drop-set-lt, get_or-drop, drop-drop, length-set}

module _ {X : Type 0} (E : X → X → Bool) where
  -- the last element that is kept, where k was kept before the elements xs
  last_kept : X → List X → X
  last_kept k [] = k
  last_kept k (x ∷ xs) = cond (E x k) (last_kept k xs) (last_kept x xs)

  some-kept : (k : X) (xs : List X) → 0 < length (dedup_from E k xs)
  some-kept k [] = omega arith
  some-kept k (x ∷ xs) = side (E x k) (some-kept k xs)
    where
      side : (b : Bool) → 0 < length (dedup_from E k xs) → 0 < length (cond b (dedup_from E k xs) (k ∷ dedup_from E x xs))
      side true h = h
      side false h = omega arith

  last-is : (k : X) (xs : List X) (j : ℕ) (d : X) → suc j ≡ length (dedup_from E k xs)
      → slice_index_or (dedup_from E k xs) j d ≡ last_kept k xs
  unfolding last_kept
  last-is k [] zero d h = refl
  last-is k [] (suc j) d h = absurd (omega arith)
  last-is k (x ∷ xs) j d h = side (E x k) j h (last-is k xs) (last-is x xs) (some-kept x xs)
    where
      side : (b : Bool) (j : ℕ) → suc j ≡ length (cond b (dedup_from E k xs) (k ∷ dedup_from E x xs))
          → ((j : ℕ) (d : X) → suc j ≡ length (dedup_from E k xs) → slice_index_or (dedup_from E k xs) j d ≡ last_kept k xs)
          → ((j : ℕ) (d : X) → suc j ≡ length (dedup_from E x xs) → slice_index_or (dedup_from E x xs) j d ≡ last_kept x xs)
          → 0 < length (dedup_from E x xs)
          → slice_index_or (cond b (dedup_from E k xs) (k ∷ dedup_from E x xs)) j d ≡ cond b (last_kept k xs) (last_kept x xs)
      side true j h p q n = p j d h
      side false zero h p q n = absurd (omega arith)
      side false (suc j) h p q n = q j d (omega arith)

  -- one element more at the end
  push-from : (x k : X) (xs : List X)
      → dedup_from E k (xs ++ x ∷ []) ≡ cond (E x (last_kept k xs)) (dedup_from E k xs) (dedup_from E k xs ++ x ∷ [])
  unfolding last_kept
  push-from x k [] = refl
  push-from x k (y ∷ xs) = side (E y k) (push-from x k xs) (push-from x y xs)
    where
      out : (b : Bool) (l : List X) → k ∷ cond b l (l ++ x ∷ []) ≡ cond b (k ∷ l) (k ∷ (l ++ x ∷ []))
      out true l = refl
      out false l = refl

      side : (b : Bool)
          → dedup_from E k (xs ++ x ∷ []) ≡ cond (E x (last_kept k xs)) (dedup_from E k xs) (dedup_from E k xs ++ x ∷ [])
          → dedup_from E y (xs ++ x ∷ []) ≡ cond (E x (last_kept y xs)) (dedup_from E y xs) (dedup_from E y xs ++ x ∷ [])
          → let l = cond b (dedup_from E k xs) (k ∷ dedup_from E y xs) in
          cond b (dedup_from E k (xs ++ x ∷ [])) (k ∷ dedup_from E y (xs ++ x ∷ []))
          ≡ cond (E x (cond b (last_kept k xs) (last_kept y xs))) l (l ++ x ∷ [])
      side true p q = p
      side false p q = ap (λ l. k ∷ l) q ∙ out (E x (last_kept y xs)) (dedup_from E y xs)

  -- the same, by the element that was kept last
  push : (x d : X) (l : List X) (j : ℕ) → suc j ≡ length (dedup E l)
      → dedup E (l ++ x ∷ []) ≡ cond (E x (slice_index_or (dedup E l) j d)) (dedup E l) (dedup E l ++ x ∷ [])
  push x d [] j h = absurd (omega arith)
  push x d (y ∷ l) j h = rw (last-is y l j d h) (push-from x y l)

  none-kept : (l : List X) → dedup E l ≡ [] → l ≡ []
  none-kept [] h = refl
  none-kept (y ∷ l) h = let n = some-kept y l in absurd (omega (arith, n, ap length h))

  -- ys began as xs: what is kept of the first i elements of xs stands in the first n places of ys, and from i on ys is as it was
  pub record DedupsInPlace (xs ys : List X) (n i : ℕ) : Type 0 where
    pub front : take n ys ≡ dedup E (take i xs)
    pub rest : drop i ys ≡ drop i xs
    pub behind : n ≤ i
    pub within : i ≤ length xs
    pub long : length ys ≡ length xs

  module _ {xs ys : List X} {n i : ℕ} {x : X} (h : DedupsInPlace xs ys n i) (l : i < length ys) (is : x ≡ slice_index_or ys i x) where
    stands : slice_index_or xs i x ≡ x
    stands =
        let e : i + 0 ≡ i = omega arith in
        let a : slice_index_or (drop i xs) 0 x ≡ slice_index_or xs i x = get_or-drop i xs 0 x ∙ ap (λ k. slice_index_or xs k x) e in
        let b : slice_index_or (drop i ys) 0 x ≡ slice_index_or ys i x = get_or-drop i ys 0 x ∙ ap (λ k. slice_index_or ys k x) e in
        sym a ∙ ap (λ t. slice_index_or t 0 x) (sym h.rest) ∙ b ∙ sym is

    at-front : take (i + 1) xs ≡ take i xs ++ x ∷ []
    at-front = take_more xs i x (omega (arith, h.long)) ∙ ap (λ y. take i xs ++ y ∷ []) stands

    after : drop (i + 1) ys ≡ drop (i + 1) xs
    after = sym (drop-drop 1 i ys) ∙ ap (drop 1) h.rest ∙ drop-drop 1 i xs

    kept-long : length (dedup E (take i xs)) ≡ n
    kept-long = ap length (sym h.front) ∙ length-take-le n ys (omega (arith, h.behind, h.within, h.long))

    -- the element is kept
    kept : dedup E (take (i + 1) xs) ≡ dedup E (take i xs) ++ x ∷ [] → DedupsInPlace xs (slice_set ys n x) (n + 1) (i + 1)
    kept e = record {
      front = take_more_set ys n x (omega (arith, h.behind)) ∙ ap (λ t. t ++ x ∷ []) h.front ∙ sym e;
      rest = drop-set-lt (i + 1) ys n x (omega (arith, h.behind)) ∙ after;
      behind = omega (arith, h.behind);
      within = omega (arith, h.long);
      long = length-set ys n x ∙ h.long;
    }

    -- it is the first
    pub dedups-first : n ≡ 0 → DedupsInPlace xs (slice_set ys n x) (n + 1) (i + 1)
    dedups-first e =
        let none : take i xs ≡ [] = none-kept (take i xs) (sym h.front ∙ ap (λ k. take k ys) e) in
        kept (ap (dedup E) at-front ∙ (rw none refl))

    module _ (d : X) (some : n ≡ 0 → ⊥) where
      by-last : (b : Bool) → b ≡ not (E x (slice_index_or ys (n - 1) d))
          → dedup E (take (i + 1) xs) ≡ cond b (dedup E (take i xs) ++ x ∷ []) (dedup E (take i xs))
      by-last b e =
          let last : slice_index_or (dedup E (take i xs)) (n - 1) d ≡ slice_index_or ys (n - 1) d =
          ap (λ t. slice_index_or t (n - 1) d) (sym h.front) ∙ get_or-take n ys (n - 1) d (omega arith) in
          ap (dedup E) at-front ∙ push x d (take i xs) (n - 1) (omega (arith, kept-long))
          ∙ side (E x (slice_index_or (dedup E (take i xs)) (n - 1) d)) b (rw last e)
        where
          side : (c b : Bool) → b ≡ not c
              → cond c (dedup E (take i xs)) (dedup E (take i xs) ++ x ∷ []) ≡ cond b (dedup E (take i xs) ++ x ∷ []) (dedup E (take i xs))
          side true b e = rw e refl
          side false b e = rw e refl

      -- it is another than the last that was kept
      pub dedups-next : true ≡ not (E x (slice_index_or ys (n - 1) d)) → DedupsInPlace xs (slice_set ys n x) (n + 1) (i + 1)
      dedups-next e = kept (by-last true e)

      -- it repeats the last that was kept
      pub dedups-repeat : false ≡ not (E x (slice_index_or ys (n - 1) d)) → DedupsInPlace xs ys n (i + 1)
      dedups-repeat e = record {
        front = h.front ∙ sym (by-last false e);
        rest = after;
        behind = omega (arith, h.behind);
        within = omega (arith, h.long);
        long = h.long;
      }

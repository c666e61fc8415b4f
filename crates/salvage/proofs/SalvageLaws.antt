-- Of the salvage of any entries: there is one and only one, the kept ones do not clash, any dropped one brings a clash to all
-- the kept ones, entries that do not clash lose nothing, and equal ones are marked alike.
use Rattle.std.specs.Prelude.{◌≡◌, refl, Bool, true, false, ◌⊎◌, Some, ℕ, zero, suc, List, [], ◌∷◌, ◌++◌, length, take, slice_get}
use Rattle.std.proofs.Common.{sym, ap, ◌∙◌, inl, inr, ⊎_elim, append_assoc, append-nil, arith}
use mathlib.Core.List.Memᴰ
use Rattle.laws.specs.Member.{◌∈◌, Within}
use Rattle.meaning.specs.Collection.{Each}
use Rattle.salvage.specs.Salvages.{◌◂◌, marked, Salvages, done, keeps, drops}

-- what is asked of clashing, for entries that are Good: more entries clash all the more, and whether they clash is known
pub record Growing {F : Type 0} (Clashes : List F → Type 0) (Good : F → Type 0) : Type 0 where
  pub grows : (l m : List F) → Each m Good → Within l m → Clashes l → Clashes m
  pub known : (l : List F) → Each l Good → Dec (Clashes l)

module _ {F : Type 0} where
  -- a longer row, and its members
  pub longer : {l : List F} {x y : F} → y ∈ (l ◂ x) → (y ∈ l) ⊎ (y ≡ x)
  longer {l} m = ⊎_elim (λ k. inl k) (λ k. inr (Memᴰ.eq_of_singleton k)) (Memᴰ.append_cases l m)

  pub in_longer : {l : List F} {y : F} (x : F) → y ∈ l → y ∈ (l ◂ x)
  in_longer x m = Memᴰ.append_left (x ∷ []) m

  pub last_in : (l : List F) (x : F) → x ∈ (l ◂ x)
  last_in l x = Memᴰ.append_right l (Memᴰ.head refl)

  -- what is asked of all entries is so of those read, with the next, whether that is kept or dropped
  module _ {P : F → Type 0} (k r : List F) (y : F) (g : Each (k ++ (y ∷ r)) P) where
    pub with_next : Each (k ◂ y) P
    with_next z i = ⊎_elim (λ j. g z (Memᴰ.append_left (y ∷ r) j)) (λ e. g z (Memᴰ.append_right k (Memᴰ.head e))) (longer i)

    pub after_kept : Each ((k ◂ y) ++ r) P
    after_kept z i = g z (rw (append_assoc k (y ∷ []) r) at i)

    pub after_dropped : Each (k ++ r) P
    after_dropped z i =
        ⊎_elim (λ j. g z (Memᴰ.append_left (y ∷ r) j)) (λ j. g z (Memᴰ.append_right k (Memᴰ.tail j))) (Memᴰ.append_cases k i)

  -- those marked are of the row
  pub marked_within : (w : Bool) (l : List F) (marks : List Bool) → Within (marked w l marks) l
  marked_within true [] bs x m = absurd (Memᴰ.not-nil m)
  marked_within false [] bs x m = absurd (Memᴰ.not-nil m)
  marked_within true (y ∷ l) [] x m = m
  marked_within false (y ∷ l) [] x m = absurd (Memᴰ.not-nil m)
  marked_within true (y ∷ l) (true ∷ bs) x m = ⊎_elim (λ e. Memᴰ.head e) (λ k. Memᴰ.tail (marked_within true l bs x k)) (Memᴰ.cases_cons m)
  marked_within true (y ∷ l) (false ∷ bs) x m = Memᴰ.tail (marked_within true l bs x m)
  marked_within false (y ∷ l) (true ∷ bs) x m = Memᴰ.tail (marked_within false l bs x m)
  marked_within false (y ∷ l) (false ∷ bs) x m =
      ⊎_elim (λ e. Memᴰ.head e) (λ k. Memᴰ.tail (marked_within false l bs x k)) (Memᴰ.cases_cons m)

  -- one more at the end, with its mark
  pub marked_more : (l : List F) (marks : List Bool) (x : F) → length marks ≡ length l
      → (marked true (l ◂ x) (marks ◂ true) ≡ marked true l marks ◂ x) × (marked true (l ◂ x) (marks ◂ false) ≡ marked true l marks)
  marked_more [] [] x e = (refl, refl)
  marked_more [] (b ∷ bs) x e = absurd (omega (arith, e))
  marked_more (y ∷ l) [] x e = absurd (omega (arith, e))
  marked_more (y ∷ l) (true ∷ bs) x e =
      let w = marked_more l bs x (omega (arith, e)) in (ap (λ (k : List F). y ∷ k) w.0, ap (λ (k : List F). y ∷ k) w.1)
  marked_more (y ∷ l) (false ∷ bs) x e = marked_more l bs x (omega (arith, e))

  -- all true: nothing is lost
  pub marked_whole : (l : List F) (marks : List Bool) → ((b : Bool) → b ∈ marks → b ≡ true) → marked true l marks ≡ l
  marked_whole [] bs h = refl
  marked_whole (y ∷ l) [] h = refl
  marked_whole (y ∷ l) (true ∷ bs) h = ap (λ (k : List F). y ∷ k) (marked_whole l bs (λ b m. h b (Memᴰ.tail m)))
  marked_whole (y ∷ l) (false ∷ bs) h = let e : false ≡ true = h false (Memᴰ.head refl) in cc

module _ {F : Type 0} (Clashes : List F → Type 0) where
  -- the kept ones do not clash, if those kept before did not
  pub kept_sane : {kept rest : List F} {marks : List Bool} → ¬ Clashes kept → Salvages Clashes kept rest marks
      → ¬ Clashes (kept ++ marked true rest marks)
  kept_sane n (done {kept = k}) c = n (rw (append-nil k) at c)
  kept_sane n (keeps {kept = k} {rest = r} {x = x} {marks = m} s t) c = kept_sane s t (rw (append_assoc k (x ∷ []) (marked true r m)) c)
  kept_sane n (drops c t) d = kept_sane n t d

  -- a mark for each
  pub marks_each : {kept rest : List F} {marks : List Bool} → Salvages Clashes kept rest marks → length marks ≡ length rest
  marks_each done = refl
  marks_each (keeps n s) = omega (arith, marks_each s)
  marks_each (drops c s) = omega (arith, marks_each s)

  -- one salvage
  pub salvages_once : {kept rest : List F} {marks others : List Bool} → Salvages Clashes kept rest marks
      → Salvages Clashes kept rest others → marks ≡ others
  salvages_once done done = refl
  salvages_once (keeps n s) (keeps m t) = ap (λ (l : List Bool). true ∷ l) (salvages_once s t)
  salvages_once (keeps n s) (drops c t) = absurd (n c)
  salvages_once (drops c s) (keeps n t) = absurd (n c)
  salvages_once (drops c s) (drops d t) = ap (λ (l : List Bool). false ∷ l) (salvages_once s t)

  -- one more at the end
  pub keeps_more : {kept rest : List F} {marks : List Bool} → Salvages Clashes kept rest marks → (x : F)
      → ¬ Clashes ((kept ++ marked true rest marks) ◂ x) → Salvages Clashes kept (rest ◂ x) (marks ◂ true)
  keeps_more (done {kept = k}) x n = keeps (λ c. n (rw (append-nil k) c)) done
  keeps_more (keeps {kept = k} {rest = r} {x = y} {marks = m} s t) x n =
      keeps s (keeps_more t x (λ c. n (rw (append_assoc k (y ∷ []) (marked true r m)) at c)))
  keeps_more (drops c t) x n = drops c (keeps_more t x n)

  pub drops_more : {kept rest : List F} {marks : List Bool} → Salvages Clashes kept rest marks → (x : F)
      → Clashes ((kept ++ marked true rest marks) ◂ x) → Salvages Clashes kept (rest ◂ x) (marks ◂ false)
  drops_more (done {kept = k}) x c = drops (rw (append-nil k) at c) done
  drops_more (keeps {kept = k} {rest = r} {x = y} {marks = m} s t) x c =
      keeps s (drops_more t x (rw (append_assoc k (y ∷ []) (marked true r m)) c))
  drops_more (drops d t) x c = drops d (drops_more t x c)

  -- what comes later changes no mark
  pub starts : (l m : List F) {kept : List F} {marks : List Bool} → Salvages Clashes kept (l ++ m) marks
      → Salvages Clashes kept l (take (length l) marks)
  starts [] m s = done
  starts (x ∷ l) m (keeps n s) = keeps n (starts l m s)
  starts (x ∷ l) m (drops c s) = drops c (starts l m s)

  pub starts_at : (i : ℕ) {kept rest : List F} {marks : List Bool} → Salvages Clashes kept rest marks
      → Salvages Clashes kept (take i rest) (take i marks)
  starts_at zero s = done
  starts_at (suc i) done = done
  starts_at (suc i) (keeps n s) = keeps n (starts_at i s)
  starts_at (suc i) (drops c s) = drops c (starts_at i s)

  -- the mark at a place
  pub kept_at : {kept rest : List F} {marks : List Bool} → Salvages Clashes kept rest marks → (i : ℕ) (x : F) → slice_get rest i ≡ Some x
      → (slice_get marks i ≡ Some true) × ¬ Clashes ((kept ++ marked true (take i rest) (take i marks)) ◂ x)
      ⊎ (slice_get marks i ≡ Some false) × Clashes ((kept ++ marked true (take i rest) (take i marks)) ◂ x)
  kept_at done i x e = cc
  kept_at (keeps {kept = k} {rest = r} {x = y} {marks = m} n s) zero x e = let w : y ≡ x = cc in inl (refl, rw (append-nil k, ← w) n)
  kept_at (drops {kept = k} {rest = r} {x = y} {marks = m} c s) zero x e = let w : y ≡ x = cc in inr (refl, rw (append-nil k, ← w) c)
  kept_at (keeps {kept = k} {rest = r} {x = y} {marks = m} n s) (suc i) x e =
      rw (← append_assoc k (y ∷ []) (marked true (take i r) (take i m))) (kept_at s i x e)
  kept_at (drops c s) (suc i) x e = kept_at s i x e

  module _ {Good : F → Type 0} (growing : Growing Clashes Good) where
    -- any dropped one brings a clash, to all the kept ones and whatever else
    pub back : {kept rest : List F} {marks : List Bool} → Salvages Clashes kept rest marks → (x : F) → x ∈ marked false rest marks
        → (m : List F) → Each m Good → Within (kept ++ marked true rest marks) m → x ∈ m → Clashes m
    back done x i m g w j = absurd (Memᴰ.not-nil i)
    back (keeps {kept = k} {rest = r} {x = y} {marks = bs} n s) x i m g w j =
        back s x i m g (λ z p. w z (rw (append_assoc k (y ∷ []) (marked true r bs)) at p)) j
    back (drops {kept = k} {rest = r} {x = y} {marks = bs} c s) x i m g w j =
        ⊎_elim
        (λ e. growing.grows (k ◂ y) m g
        (λ z p. ⊎_elim (λ q. w z (Memᴰ.append_left (marked true r bs) q)) (λ q. rw (q, ← e) j) (longer p)) c)
        (λ p. back s x p m g w j)
        (Memᴰ.cases_cons i)

    -- entries that do not clash lose nothing
    pub sane_keeps : {kept rest : List F} {marks : List Bool} → Each (kept ++ rest) Good → ¬ Clashes (kept ++ rest)
        → Salvages Clashes kept rest marks → (b : Bool) → b ∈ marks → b ≡ true
    sane_keeps g n done b i = absurd (Memᴰ.not-nil i)
    sane_keeps g n (keeps {kept = k} {rest = r} {x = y} m s) b i =
        ⊎_elim
        (λ e. e)
        (λ p. sane_keeps (after_kept k r y g) (λ c. n (rw (append_assoc k (y ∷ []) r) at c)) s b p)
        (Memᴰ.cases_cons i)
    sane_keeps g n (drops {kept = k} {rest = r} {x = y} c s) b i =
        absurd (n (growing.grows (k ◂ y) (k ++ (y ∷ r)) g
        (λ z j. ⊎_elim (λ p. Memᴰ.append_left (y ∷ r) p) (λ e. Memᴰ.append_right k (Memᴰ.head e)) (longer j)) c))

    -- there is a salvage
    pub salvages_there : (kept rest : List F) → Each (kept ++ rest) Good → (marks : List Bool) × Salvages Clashes kept rest marks
    salvages_there k [] g = ([], done)
    salvages_there k (y ∷ r) g =
        side
        (growing.known (k ◂ y) (with_next k r y g))
        (salvages_there (k ◂ y) r (after_kept k r y g))
        (salvages_there k r (after_dropped k r y g))
      where
        side : Dec (Clashes (k ◂ y)) → ((marks : List Bool) × Salvages Clashes (k ◂ y) r marks)
            → ((marks : List Bool) × Salvages Clashes k r marks) → (marks : List Bool) × Salvages Clashes k (y ∷ r) marks
        side (yes c) a b = (false ∷ b.0, drops c b.1)
        side (no n) a b = (true ∷ a.0, keeps n a.1)

    -- one that is kept already is kept again, and one that clashed clashes again
    again_kept : {kept rest : List F} {marks : List Bool} → Each (kept ++ rest) Good → ¬ Clashes kept → Salvages Clashes kept rest marks
        → (x : F) → x ∈ kept → (i : ℕ) → slice_get rest i ≡ Some x → slice_get marks i ≡ Some true
    again_kept g n done x m i e = cc
    again_kept g n (keeps {x = y} a s) x m zero e = refl
    again_kept g n (keeps {kept = k} {rest = r} {x = y} a s) x m (suc i) e =
        again_kept (after_kept k r y g) a s x (in_longer y m) i e
    again_kept g n (drops {kept = k} {rest = r} {x = y} c s) x m zero e =
        let w : y ≡ x = cc in
        absurd (n (growing.grows (k ◂ y) k (λ z j. g z (Memᴰ.append_left (y ∷ r) j)) (λ z j. ⊎_elim (λ p. p) (λ q. let v : z ≡ x =
        q ∙ w in rw v m) (longer j)) c))
    again_kept g n (drops {kept = k} {rest = r} {x = y} c s) x m (suc i) e =
        again_kept (after_dropped k r y g) n s x m i e

    again_dropped : {kept rest : List F} {marks : List Bool} → Each (kept ++ rest) Good → Salvages Clashes kept rest marks
        → (x : F) (l : List F) → Clashes (l ◂ x) → Within l kept → (i : ℕ) → slice_get rest i ≡ Some x → slice_get marks i ≡ Some false
    again_dropped g done x l c w i e = cc
    again_dropped g (keeps {kept = k} {rest = r} {x = y} a s) x l c w zero e =
        let v : y ≡ x = cc in
        absurd (a (growing.grows (l ◂ x) (k ◂ y)
        (with_next k r y g)
        (λ z j. ⊎_elim (λ p. in_longer y (w z p)) (λ q. let u : z ≡ y = q ∙ sym v in rw u (last_in k y)) (longer j)) c))
    again_dropped g (keeps {kept = k} {rest = r} {x = y} a s) x l c w (suc i) e =
        again_dropped (after_kept k r y g) s x l c (λ z j. in_longer y (w z j)) i e
    again_dropped g (drops d s) x l c w zero e = refl
    again_dropped g (drops {kept = k} {rest = r} {x = y} d s) x l c w (suc i) e =
        again_dropped (after_dropped k r y g) s x l c w i e

    -- equal entries are marked alike
    pub alike : {kept rest : List F} {marks : List Bool} → Each (kept ++ rest) Good → Salvages Clashes kept rest marks
        → (i j : ℕ) (x : F) → slice_get rest i ≡ Some x → slice_get rest j ≡ Some x → slice_get marks i ≡ slice_get marks j
    alike g done i j x a b = cc
    alike g (keeps n s) zero zero x a b = refl
    alike g (drops c s) zero zero x a b = refl
    alike g (keeps {kept = k} {rest = r} {x = y} n s) zero (suc j) x a b =
        let v : y ≡ x = cc in
        sym (again_kept (after_kept k r y g) n s x (rw (← v) (last_in k y)) j b)
    alike g (keeps {kept = k} {rest = r} {x = y} n s) (suc i) zero x a b =
        let v : y ≡ x = cc in
        again_kept (after_kept k r y g) n s x (rw (← v) (last_in k y)) i a
    alike g (keeps {kept = k} {rest = r} {x = y} n s) (suc i) (suc j) x a b = alike (after_kept k r y g) s i j x a b
    alike g (drops {kept = k} {rest = r} {x = y} c s) zero (suc j) x a b =
        let v : y ≡ x = cc in
        sym (again_dropped (after_dropped k r y g) s x k (rw v at c) (λ z p. p) j b)
    alike g (drops {kept = k} {rest = r} {x = y} c s) (suc i) zero x a b =
        let v : y ≡ x = cc in
        again_dropped (after_dropped k r y g) s x k (rw v at c) (λ z p. p) i a
    alike g (drops {kept = k} {rest = r} {x = y} c s) (suc i) (suc j) x a b =
        alike (after_dropped k r y g) s i j x a b

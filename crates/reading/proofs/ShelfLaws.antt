-- What a shelf of records holds, as the flat list that callers see.
use Rattle.std.specs.Prelude.{◌≡◌, refl, Bool, true, false, List, [], ◌∷◌, ◌++◌, ℕ, zero, suc, ◌+◌, ◌*◌, ◌<◌, ◌≤◌, length, take, slice_set}
use Rattle.std.proofs.Common.{ap, ◌∙◌, arith}
use Rattle.std.proofs.Math.Nat.{mul-le-mul_left, lt_of_not-le}
use Rattle.std.proofs.lemmas.List.{take_more_set, length-take-le, append-nil}
use Rattle.std.proofs.lemmas.Grind.{flat_map-append}
use Rattle.laws.specs.Member.{all-out, all-in}
use Rattle.meaning.specs.Lent.{Whole}
use Rattle.sorted.specs.Rows.{rows, flat, AreWide, AreTidied, IsTidied}
use Rattle.sorted.proofs.Chunks.{length-flat, flat-rows, rows-flat, rows-wide, whole-flat}
use Rattle.salvage.specs.Salvages.{marked}
use Rattle.reading.specs.Records.{kept_records}
use Rattle.reading.specs.Shelves.{HoldsRecords}

wide-more : (w : ℕ) (l : List (List ℕ)) (r : List ℕ) → AreWide w l → length r ≡ w → AreWide w (l ++ r ∷ [])
wide-more w [] r h e = (e, tt)
wide-more w (s ∷ l) r h e = (h.0, wide-more w l r h.1 e)

wide-marked : (w : ℕ) (l : List (List ℕ)) (marks : List Bool) → AreWide w l → AreWide w (marked true l marks)
wide-marked w [] marks h = tt
wide-marked w (r ∷ l) [] h = h
wide-marked w (r ∷ l) (true ∷ marks) h = (h.0, wide-marked w l marks h.1)
wide-marked w (r ∷ l) (false ∷ marks) h = wide-marked w l marks h.1

module _ {w n used : ℕ} {records : List (List ℕ)} (h : HoldsRecords w n used records) (long : length records ≡ n) where
  pub held-long : length (flat (take used records)) ≡ w * used
  held-long = length-flat w (take used records) h.wide ∙ ap (λ m. w * m) (length-take-le used records (omega (arith, h.few)))

  -- one more record has room exactly where one more place is free
  pub room-in : used < n → length (flat (take used records)) + w ≤ w * n
  room-in l = let m : w * (used + 1) ≤ w * n = mul-le-mul_left w (omega arith) in omega (arith, held-long, m)

  pub room-out : length (flat (take used records)) + w ≤ w * n → used < n
  room-out l = lt_of_not-le full
    where
      full : n ≤ used → ⊥
      full f = let m : w * n ≤ w * used = mul-le-mul_left w f in let p = h.place.wide in omega (arith, held-long, m, p)

  -- nothing is held where no place is used
  pub none-in : used ≡ 0 → flat (take used records) ≡ []
  none-in e = rw e refl

  pub none-out : flat (take used records) ≡ [] → used ≡ 0
  none-out e = by used refl
    where
      by : (u : ℕ) → used ≡ u → used ≡ 0
      by zero i = i
      by (suc u) i =
          let m : w * 1 ≤ w * used = mul-le-mul_left w (omega arith) in
          let p = h.place.wide in
          absurd (omega (arith, held-long, ap length e, m, p))

  module _ (r : List ℕ) (wide : length r ≡ w) (free : used < n) where
    more : take (used + 1) (slice_set records used r) ≡ take used records ++ r ∷ []
    more = take_more_set records used r (omega arith)

    pub holds-more : HoldsRecords w n (used + 1) (slice_set records used r)
    holds-more = record { place = h.place; few = omega arith; wide = rw more (wide-more w (take used records) r h.wide wide) }

    pub pushed : flat (take (used + 1) (slice_set records used r)) ≡ flat (take used records) ++ r
    pushed = ap flat more ∙ flat_map-append (λ x. x) (take used records) (r ∷ []) ∙ ap (λ t. flat (take used records) ++ t) (append-nil r)

  module _ {k : ℕ} (new : List (List ℕ)) (few : k ≤ n) where
    -- the records of a table in place of those that were held
    module _ (t : List ℕ) (front : take k new ≡ rows w t) where
      pub holds-table : HoldsRecords w n k new
      holds-table = record { place = h.place; few = few; wide = rw front (rows-wide w h.place.wide t) }

      pub table-held : Whole w n t → flat (take k new) ≡ t
      table-held s = ap flat front ∙ flat-rows w h.place.wide t s.unbroken

    -- the records in order, each once
    module _ (a : AreTidied (take used records) (take k new)) where
      kept-wide : AreWide w (take k new)
      kept-wide = all-in (λ r. length r ≡ w) (take k new) (λ r i. all-out (λ r. length r ≡ w) (take used records) h.wide r ((a.same r).1 i))

      pub holds-tidied : HoldsRecords w n k new
      holds-tidied = record { place = h.place; few = few; wide = kept-wide }

      pub held-tidied : IsTidied w (flat (take used records)) (flat (take k new))
      held-tidied = record {
        whole = whole-flat w h.place.wide (take k new) kept-wide;
        tidied = rw (rows-flat w h.place.wide (take used records) h.wide, rows-flat w h.place.wide (take k new) kept-wide) a;
      }

    -- and those that are marked
    module _ (marks : List Bool) (front : take k new ≡ marked true (take used records) marks) where
      pub holds-marked : HoldsRecords w n k new
      holds-marked = record { place = h.place; few = few; wide = rw front (wide-marked w (take used records) marks h.wide) }

      pub held-marked : flat (take k new) ≡ kept_records w (flat (take used records)) marks
      held-marked = rw (rows-flat w h.place.wide (take used records) h.wide) (ap flat front)

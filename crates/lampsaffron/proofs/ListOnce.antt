-- The calls of a list have one outcome each, and one accepts what the other gives.
use Rattle.std.specs.Prelude.{◌≡◌, refl, List, ℕ, ◌*◌, length}
use Rattle.std.proofs.Common.{sym, ap, ◌∙◌, arith}
use Rattle.std.proofs.Math.Decide.{ℕ_discrete}
use Rattle.std.proofs.lemmas.List.{take-append-drop}
use Rattle.kinds.specs.declared.Counts.{Counts}
use Rattle.laws.specs.Departs.{departs-once}
use Rattle.laws.specs.First.{first-once}
use Rattle.theory.proofs.ListingLaws.{listing-once}
use Rattle.meaning.specs.Lent.{Tables, collection}
use Rattle.meaning.specs.Listing.{numbered_lite}
use Rattle.lampsaffron.specs.Listing.{Left, left, entry_width, list_numbers, TellsListing}
use Rattle.lampsaffron.specs.Departs.{DepartsNumber, TellsDeparture}
use Rattle.lampsaffron.proofs.ListingLaws.{listing-number-once}

module _ (c : Counts) (t : Tables) where
  -- THEOREM: all that the call for the list gives and leaves is fixed
  pub giving-once : (old new new' : Left) (number number' : ℕ) → TellsListing c t old number new → TellsListing c t old number' new'
      → (number ≡ number') × (new ≡ new')
  giving-once old new new' number number' a b = (e, by (ℕ_discrete number 0))
    where
      e : number ≡ number'
      e = listing-number-once c t (length old.list) number number' a.number_is b.number_is

      by : Dec (number ≡ 0) → new ≡ new'
      by (yes z) =
          let x = a.told z in
          let y = b.told (rw e at z) in
          let same = listing-once (numbered_lite (collection c t)) x.0 y.0 x.1 y.1 in
          let long = ap (λ l. length (list_numbers l)) same in
          let n : entry_width * new.entries ≡ entry_width * new'.entries = x.2.many ∙ (long ∙ sym y.2.many) in
          let many : new.entries ≡ new'.entries = omega arith in
          let f = sym (take-append-drop (entry_width * new.entries) new.list) in
          let g = take-append-drop (entry_width * new'.entries) new'.list in
          let p = rw (x.2.front, x.2.rest, same, many) at f in
          let q = rw (y.2.front, y.2.rest) at g in
          all (p ∙ q) many
        where
          all : new.list ≡ new'.list → new.entries ≡ new'.entries → left new.list new.entries ≡ left new'.list new'.entries
          all i j = rw (i, j) refl
      by (no n) = a.kept n ∙ sym (b.kept (rw e at n))

  module _ (list : List ℕ) where
    -- THEOREM: one number is given of a list
    pub departs-number-once : (n m : ℕ) → DepartsNumber c t list n → DepartsNumber c t list m → n ≡ m
    departs-number-once =
        first-once (first-once (first-once (first-once (first-once (first-once (first-once (λ n m h k. h ∙ sym k)))))))

    -- THEOREM: all that the call for its place gives and leaves is fixed
    pub departing-once : (old new new' number number' : ℕ) → TellsDeparture c t list old number new
        → TellsDeparture c t list old number' new'
        → (number ≡ number') × (new ≡ new')
    departing-once old new new' number number' a b = (e, by (ℕ_discrete number 15))
      where
        e : number ≡ number'
        e = departs-number-once number number' a.number_is b.number_is

        by : Dec (number ≡ 15) → new ≡ new'
        by (yes z) =
            let x = a.departs z in
            let y = b.departs (rw e at z) in
            let same = listing-once (numbered_lite (collection c t)) x.0 y.0 x.1 y.1 in
            departs-once _ y.0 new new' (let d = x.2 in rw same at d) y.2
        by (no n) = a.kept n ∙ sym (b.kept (rw e at n))

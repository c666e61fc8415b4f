-- A loop over the records of a table, each of which adds pairs to a relation.
use Rattle.std.specs.Prelude.{ℕ, ◌/◌, ◌≤◌, ◌≡◌, Bool, List, length}
use Rattle.std.proofs.Common.{◌∙◌, arith, Bor}
use Rattle.laws.specs.Gains.{OneOf}
use Rattle.sets.specs.Rows.{Adds}
use Rattle.sets.proofs.RowLaws.{adds_none, adds_more}
use Rattle.tables.specs.Every.{IsNext}

module _ (h w width : ℕ) (E : ℕ → ℕ → ℕ → Type 0) (numbers : Bor (List ℕ)) (m : ℕ → ℕ → Bool) where
  -- the iterator goes through these numbers, and r has what m has and what the records before the next one add
  pub record Listing (table : Bor (List ℕ)) (next : ℕ) (r : ℕ → ℕ → Bool) : Type 0 where
    pub same : table ≡ numbers
    pub within : next ≤ length numbers.now / width
    pub adds : Adds h w m (OneOf E next) r

  pub listing_start : (table : Bor (List ℕ)) → table ≡ numbers → Listing table 0 m
  listing_start table e = record { same = e; within = omega arith; adds = adds_none h w m E }

  pub listing_more : {A : Type 0} (read : List ℕ → ℕ → A) (table after : Bor (List ℕ)) (k next : ℕ) (one : A) (s r : ℕ → ℕ → Bool)
      → Listing table k s
      → IsNext width read table.now k one next → after ≡ table → Adds h w s (E k) r → Listing after next r
  listing_more read table after k next one s r l g e a =
      let i = rw l.same at g.inside in
      record { same = e ∙ l.same; within = rw g.after (omega arith); adds = rw g.after (adds_more h w m E k s r l.adds a) }

  pub listing_end : (table : Bor (List ℕ)) (next : ℕ) (r : ℕ → ℕ → Bool) → Listing table next r → length table.now / width ≤ next
      → Adds h w m (OneOf E (length numbers.now / width)) r
  listing_end table next r l g =
      let f = rw l.same at g in
      let e : next ≡ length numbers.now / width = omega (arith, l.within) in
      rw (← e) l.adds

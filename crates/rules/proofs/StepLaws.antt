-- A step as a collection has it, and one step more among those of a table.
use Rattle.std.specs.Prelude.{◌≡◌, refl, ◌⊎◌, List, ℕ, zero, suc, ◌+◌, ◌/◌, ◌≤◌, length}
use Rattle.std.proofs.Common.{inl, inr, ◌∙◌, sym, arith, Bor}
use Rattle.std.proofs.Math.Decide.{ℕ_discrete}
use Rattle.laws.specs.Numbers.{numbered, numbered-in, numbered-out}
use Rattle.meaning.specs.Collection.{Step}
use Rattle.meaning.specs.Lent.{letter_of, records, step_width, step_at, field}
use Rattle.tables.specs.declared.records.Step.{Step as Record}
use Rattle.tables.specs.Every.{IsNext}
use Rattle.tables.specs.Letters.{read_letter}
use Rattle.tables.specs.Records.{read_step}
use Rattle.rules.specs.Steps.{letter_meant, step_of, Just, Among}

same_letter : (kind x : ℕ) → letter_meant (read_letter kind x) ≡ letter_of kind x
same_letter zero x = refl
same_letter (suc kind) x = refl

-- a record of the table is the collection's step
pub same_step : (t : List ℕ) (k : ℕ) (one : Record) → one ≡ read_step t k → step_of one ≡ step_at t k
same_step t k one e = rw (e, same_letter (field step_width t 0 k) (field step_width t 2 k)) refl

module _ (f : ℕ → Step) where
  pub none_among : {e : Step} → Among (numbered f 0) e → ⊥
  none_among m = let v = numbered-out f 0 m in absurd (omega (arith, v.1))

  module _ (k : ℕ) (one : Step) (is : one ≡ f k) where
    pub among_more : {e : Step} → Among (numbered f k) e ⊎ Just one e → Among (numbered f (k + 1)) e
    among_more (inl m) = let v = numbered-out f k m in rw v.2 (numbered-in f (k + 1) v.0 (omega (arith, v.1)))
    among_more (inr j) = rw (j, is) (numbered-in f (k + 1) k (omega arith))

    pub more_among : {e : Step} → Among (numbered f (k + 1)) e → Among (numbered f k) e ⊎ Just one e
    more_among {e} m =
        let v = numbered-out f (k + 1) m in
        elim (ℕ_discrete v.0 k) [
          | yes q ↦ let g : e ≡ f k = rw q at v.2 in inr (g ∙ sym is)
          | no q ↦ let l = v.1 in inl (rw v.2 (numbered-in f k v.0 (omega arith)))
        ]

-- a loop over the records of a table: P holds of the steps before the next one
pub record Reading (P : (Step → Type 0) → Type 0) (numbers table : Bor (List ℕ)) (next : ℕ) : Type 0 where
  pub same : table ≡ numbers
  pub within : next ≤ length numbers.now / step_width
  pub done : P (Among (numbered (step_at numbers.now) next))

module _ {P : (Step → Type 0) → Type 0} {numbers table : Bor (List ℕ)} where
  pub reading_start : table ≡ numbers → P (Among (numbered (step_at numbers.now) 0)) → Reading P numbers table 0
  reading_start e p = record { same = e; within = omega arith; done = p }

  pub reading_end : {next : ℕ} → Reading P numbers table next → length table.now / step_width ≤ next
      → P (Among (records step_width step_at numbers.now))
  unfolding records
  reading_end {next} r h =
      let l = rw r.same at h in
      let e : next ≡ length numbers.now / step_width = omega (arith, l, r.within) in
      rw e at r.done

  pub reading_more : {Q : (Step → Type 0) → Type 0} {after : Bor (List ℕ)} {k next : ℕ} {one : Record} → Reading P numbers table k
      → IsNext step_width read_step table.now k one next
      → after ≡ table
      → (step_of one ≡ step_at numbers.now k → P (Among (numbered (step_at numbers.now) k))
      → Q (Among (numbered (step_at numbers.now) (k + 1))))
      → Reading Q numbers after next
  reading_more {k = k} {one = one} r i e turn =
      let is = rw r.same at i.is in
      let l = rw r.same at i.inside in
      record { same = e ∙ r.same; within = rw i.after (omega (arith, l)); done = rw i.after (turn (same_step numbers.now k one is) r.done) }

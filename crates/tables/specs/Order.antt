-- Three tests in a row, each with its refusal: which answer comes when.
use Rattle.std.specs.Prelude.{◌≡◌, refl, ◌↔◌, Result, Ok, Err, IsOk}
use Rattle.tables.specs.declared.collection.Refusal.{Refusal}
use Rattle.tables.specs.declared.collection.Refusal.TheVariants.{BadCount, BadTable, BadNumber}

-- the three tests hold
pub record AllPass (Counts Tables Numbers : Type 0) : Type 0 where
  pub counts : Counts
  pub tables : Tables
  pub numbers : Numbers

-- the second or the third is the first that does not
pub record SecondFails (Counts Tables : Type 0) : Type 0 where
  pub counts : Counts
  pub tables : ¬ Tables

pub record ThirdFails (Counts Tables Numbers : Type 0) : Type 0 where
  pub counts : Counts
  pub tables : Tables
  pub numbers : ¬ Numbers

module _ (A B C : Type 0) where
  -- the four clauses about an answer: passed, or refused by the first test that fails
  pub record InOrder (r : Result (Unit {0}) Refusal) : Type 0 where
    pub ok : IsOk r ↔ AllPass A B C
    pub bad_count : (r ≡ Err BadCount) ↔ (¬ A)
    pub bad_table : (r ≡ Err BadTable) ↔ SecondFails A B
    pub bad_number : (r ≡ Err BadNumber) ↔ ThirdFails A B C

  pub no-count : (¬ A) → InOrder (Err BadCount)
  no-count n = record {
    ok = (λ e. cc, λ h. absurd (n h.counts));
    bad_count = (λ e. n, λ h. refl);
    bad_table = (λ e. cc, λ h. absurd (n h.counts));
    bad_number = (λ e. cc, λ h. absurd (n h.counts));
  }

  pub no-table : A → (¬ B) → InOrder (Err BadTable)
  no-table a n = record {
    ok = (λ e. cc, λ h. absurd (n h.tables));
    bad_count = (λ e. cc, λ h. absurd (h a));
    bad_table = (λ e. record { counts = a; tables = n }, λ h. refl);
    bad_number = (λ e. cc, λ h. absurd (n h.tables));
  }

  pub no-number : A → B → (¬ C) → InOrder (Err BadNumber)
  no-number a b n = record {
    ok = (λ e. cc, λ h. absurd (n h.numbers));
    bad_count = (λ e. cc, λ h. absurd (h a));
    bad_table = (λ e. cc, λ h. absurd (h.tables b));
    bad_number = (λ e. record { counts = a; tables = b; numbers = n }, λ h. refl);
  }

  pub passed : A → B → C → InOrder (Ok tt)
  passed a b d = record {
    ok = (λ k. record { counts = a; tables = b; numbers = d }, λ h. refl);
    bad_count = (λ k. cc, λ h. absurd (h a));
    bad_table = (λ k. cc, λ h. absurd (h.tables b));
    bad_number = (λ k. cc, λ h. absurd (h.numbers d));
  }

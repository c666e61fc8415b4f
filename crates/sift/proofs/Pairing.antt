-- The loop that writes the pair of each role fact.
use Rattle.std.specs.Prelude.{◌≡◌, ℕ, ◌<◌, ◌≤◌, ◌/◌, List, length, slice_index}
use Rattle.std.proofs.Common.{Bor}
use Rattle.meaning.specs.Lent.{role_fact_width, most_role_facts}
use Rattle.sift.specs.Pairs.{pair_at}

-- the iterator goes through these numbers, and the pair of each fact before the next one is written
pub record Pairing (numbers table : Bor (List ℕ)) (next : ℕ) (room : List ℕ) (used : ℕ) : Type 0 where
  pub same : table ≡ numbers
  pub count : used ≡ next
  pub long : length room ≡ most_role_facts
  pub within : next ≤ length numbers.now / role_fact_width
  pub written : (k : ℕ) → k < next → slice_index room k ≡ pair_at numbers.now k

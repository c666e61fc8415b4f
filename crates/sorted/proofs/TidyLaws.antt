-- Records in order, each once: what two lists of records come to is equal exactly where the same records stand in both.
use Rattle.std.specs.Prelude.{◌≡◌, ◌↔◌, List, ℕ, ◌<◌, IsTrue, nat_eq}
use Rattle.std.specs.List.{Any, Contains}
use Rattle.std.specs.List.Sorted.{IsStrictlySortedBy}
use Rattle.std.specs.Ordering.{nat_cmp}
use Rattle.std.specs.Cmp.Lexicographic.{slice_cmp, pointwise, pointwise_decides, bytes_decides}
use Rattle.std.proofs.Common.{sym, ap, ◌∙◌, subst}
use Rattle.std.proofs.lemmas.Cmp.{nat_list_cmp_total}
use Rattle.sorted.specs.Rows.{rows, flat, SameMembers, SameRecords, AreTidied, IsTidied}
use Rattle.sorted.proofs.Members.{placed-in, contains-in, in-contains}
use Rattle.laws.specs.Rises.{strict-once}
use Rattle.sorted.proofs.Chunks.{flat-rows}

pub members-turned : {l m : List (List ℕ)} → SameMembers l m → SameMembers m l
members-turned s r = ((s r).1, (s r).0)

pub members-then : {l m n : List (List ℕ)} → SameMembers l m → SameMembers m n → SameMembers l n
members-then s t r = (λ i. (t r).0 ((s r).0 i), λ i. (s r).1 ((t r).1 i))

-- two lists of records that rise strictly and have the same members are equal
pub rise-once : {l m : List (List ℕ)} → IsStrictlySortedBy (slice_cmp nat_cmp) l → IsStrictlySortedBy (slice_cmp nat_cmp) m
    → SameMembers l m → l ≡ m
rise-once {l} {m} a b s = strict-once (slice_cmp nat_cmp) nat_list_cmp_total l m a b (λ r. (s r).0) (λ r. (s r).1)

module _ {l m u v : List (List ℕ)} (a : AreTidied l u) (b : AreTidied m v) where
  -- THEOREM: what they come to is equal exactly where the same records stand in both
  pub tidied-alike : (u ≡ v) ↔ SameMembers l m
  tidied-alike = (
    λ e. members-then a.same (subst (λ x. SameMembers x m) (sym e) (members-turned b.same)),
    λ s. rise-once a.rises b.rises (members-then (members-turned a.same) (members-then s b.same)),
  )

-- and so it is of tables of them
module _ (w : ℕ) (wide : 0 < w) {t u v x : List ℕ} (a : IsTidied w t v) (b : IsTidied w u x) where
  pub tables-alike : (v ≡ x) ↔ SameRecords w t u
  tables-alike = (
    λ e. (tidied-alike a.tidied b.tidied).0 (ap (rows w) e),
    λ s. sym (flat-rows w wide v a.whole) ∙ ap flat ((tidied-alike a.tidied b.tidied).1 s) ∙ flat-rows w wide x b.whole,
  )

-- two lists of numbers that the test of arrays calls equal are equal
pub same-numbers : (r s : List ℕ) → IsTrue (pointwise nat_eq r s) → r ≡ s
same-numbers r s e = (bytes_decides r s).0 e

-- what `tidy` says of records that are arrays of numbers
pub tidied-by : {old new : List (List ℕ)} → IsStrictlySortedBy (slice_cmp nat_cmp) new
    → ((r : List ℕ) → Contains old r → Any (λ s. IsTrue (pointwise nat_eq r s)) new)
    → ((r : List ℕ) → Contains new r → Contains old r) → AreTidied old new
tidied-by {old} {new} rises keeps adds_none = record {
  rises = rises;
  same = λ r. (
    λ i. let w = keeps r (in-contains old r i) in let e = same-numbers r w.1 w.4 in rw e (placed-in new w.0 w.1 w.2 w.3),
    λ i. contains-in old r (adds_none r (in-contains new r i)),
  );
}

-- the test of slices of arrays
pub same-rows : (l m : List (List ℕ)) → IsTrue (pointwise (pointwise nat_eq) l m) ↔ (l ≡ m)
same-rows l m = pointwise_decides bytes_decides l m

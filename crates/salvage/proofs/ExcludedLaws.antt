-- Of what the rules exclude: either way round, of inverses, and of what stands below.
use Rattle.std.specs.Prelude.{List}
use Rattle.std.proofs.Common.{inl, inr, ⊎_elim}
use Rattle.kinds.specs.declared.SignedRole.{SignedRole}
use Rattle.kinds.specs.declared.Concept.{Concept}
use Rattle.kinds.specs.Kinds.{inverse, inverse-inverse}
use Rattle.meaning.specs.Orders.{then, turned}
use Rattle.salvage.specs.Excluded.{Rules, IsListed, Under, RoleUnder, Apart, Conflict, Barred, itself, sinks}

listed_back : {A : Type 0} (l : List (A × A)) (x y : A) → IsListed l x y → IsListed l y x
listed_back l x y (inl m) = inr m
listed_back l x y (inr m) = inl m

module _ (𝓡 : Rules) where
  pub apart_back : {C D : Concept} → Apart 𝓡 C D → Apart 𝓡 D C
  apart_back a = record {
    over_first = a.over_second;
    over_second = a.over_first;
    excluded = listed_back 𝓡.concept-exclusions a.over_first a.over_second a.excluded;
    first = a.second;
    second = a.first;
  }

  pub conflict_back : {R S : SignedRole} → Conflict 𝓡 R S → Conflict 𝓡 S R
  conflict_back a = record {
    over_first = a.over_second;
    over_second = a.over_first;
    excluded =
        ⊎_elim
        (λ m. inl (listed_back 𝓡.role-exclusions a.over_first a.over_second m))
        (λ m. inr (listed_back 𝓡.role-exclusions (inverse a.over_first) (inverse a.over_second) m))
        a.excluded;
    first = a.second;
    second = a.first;
  }

  -- a conflict of two roles is one of their inverses
  pub conflict_turned : {R S : SignedRole} → Conflict 𝓡 R S → Conflict 𝓡 (inverse R) (inverse S)
  conflict_turned a = record {
    over_first = inverse a.over_first;
    over_second = inverse a.over_second;
    excluded = ⊎_elim (λ m. inr (rw (inverse-inverse a.over_first, inverse-inverse a.over_second) m)) (λ m. inl m) a.excluded;
    first = turned a.first;
    second = turned a.second;
  }

  -- what is below two that are apart is apart
  pub apart_below : {B C D E : Concept} → Under 𝓡 B C → Under 𝓡 D E → Apart 𝓡 C E → Apart 𝓡 B D
  apart_below l m a =
      record {
        over_first = a.over_first;
        over_second = a.over_second;
        excluded = a.excluded;
        first = then l a.first;
        second = then m a.second;
      }

  pub conflict_below : {P R Q S : SignedRole} → RoleUnder 𝓡 P R → RoleUnder 𝓡 Q S → Conflict 𝓡 R S → Conflict 𝓡 P Q
  conflict_below l m a =
      record {
        over_first = a.over_first;
        over_second = a.over_second;
        excluded = a.excluded;
        first = then l a.first;
        second = then m a.second;
      }

  pub barred_below : {B C : Concept} → Under 𝓡 B C → Barred 𝓡 C → Barred 𝓡 B
  barred_below l (itself a) = itself (apart_below l l a)
  barred_below l (sinks R m d) = sinks R (then l m) d

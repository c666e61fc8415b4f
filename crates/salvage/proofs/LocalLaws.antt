-- A contradiction is found at one individual, or at one ordered pair of individuals, from what is typed of them and what the
-- rules exclude.
use Rattle.std.specs.Prelude.{◌⊎◌, ◌↔◌}
use Rattle.std.proofs.Common.{inl, inr}
use Rattle.kinds.specs.declared.Individual.{Individual}
use Rattle.kinds.specs.declared.SignedRole.{SignedRole}
use Rattle.kinds.specs.declared.Concept.{Concept}
use Rattle.kinds.specs.declared.Concept.TheVariants.{Exists}
use Rattle.kinds.specs.Kinds.{inverse, inverse-inverse, inverse-forward, inverse-backward, forward, backward}
use Rattle.meaning.specs.Collection.{Collection, NumbersDeclared}
use Rattle.meaning.specs.Orders.{RoleLe, ConceptLe, turned}
use Rattle.meaning.specs.Model.{IndividualHas, FactEdge, ahead, behind, Contradiction}
use Rattle.meaning.specs.Clash.{Alive, sprouts, grows, Clash, individual-clash, unnamed-clash, fact-clash, down-clash, up-clash}
use Rattle.meaning.proofs.ClashShown.{contradiction↔clash}
use Rattle.salvage.specs.Excluded.{rules_of, IsListed, Doomed, breaks, crosses, deeper, itself, sinks}
use Rattle.salvage.specs.Local.{TypedRole, onward, back, Local, one, two, pair}

module _ (𝓒 : Collection) where
  -- from a clash to what is typed
  rises : {R : SignedRole} → Alive 𝓒 R → Doomed (rules_of 𝓒) R → Local 𝓒
  rises (sprouts a R h) d = one a h.0 h.1 (sinks R h.2 d)
  rises (grows R S l k) d = rises l (deeper k d)

  edge_typed : {a b : Individual} {S : SignedRole} → FactEdge 𝓒 a S b → (R : SignedRole) × TypedRole 𝓒 a R b × RoleLe 𝓒 R S
  edge_typed (ahead {r = r} m l) = (forward r, onward m, l)
  edge_typed (behind {r = r} {S = S} m l) =
      let k : RoleLe 𝓒 (inverse (forward r)) (inverse S) = turned l in
      (backward r, back m, rw (inverse-forward r) at k)

  found : Clash 𝓒 → Local 𝓒
  found (individual-clash a C D m h k) =
      two a h.0 k.0 h.1 k.1 (record { over_first = C; over_second = D; excluded = inl m; first = h.2; second = k.2 })
  found (unnamed-clash R C D m l h k) =
      rises l (breaks (record { over_first = C; over_second = D; excluded = inl m; first = h; second = k }))
  found (fact-clash a b R S m f g) =
      let x = edge_typed f in
      let y = edge_typed g in
      pair a b x.0 y.0 x.1 y.1 (record { over_first = R; over_second = S; excluded = inl (inl m); first = x.2; second = y.2 })
  found (down-clash Q R S m l h k) =
      rises l (crosses (record { over_first = R; over_second = S; excluded = inl (inl m); first = h; second = k }))
  found (up-clash Q R S m l h k) =
      rises l (crosses (record { over_first = R; over_second = S; excluded = inr (inl m); first = h; second = k }))

  -- and back
  at_one : (a : Individual) (C D E F : Concept) → IndividualHas 𝓒 a E → IndividualHas 𝓒 a F → IsListed 𝓒.concept-exclusions E F → Clash 𝓒
  at_one a C D E F h k (inl m) = individual-clash a E F m h k
  at_one a C D E F h k (inr m) = individual-clash a F E m k h

  below_one : (R : SignedRole) (E F : Concept) → Alive 𝓒 R → ConceptLe 𝓒 (Exists (inverse R)) E → ConceptLe 𝓒 (Exists (inverse R)) F
      → IsListed 𝓒.concept-exclusions E F → Clash 𝓒
  below_one R E F l h k (inl m) = unnamed-clash R E F m l h k
  below_one R E F l h k (inr m) = unnamed-clash R F E m l k h

  at_edge : (Q R S : SignedRole) → Alive 𝓒 Q → RoleLe 𝓒 Q R → RoleLe 𝓒 Q S
      → IsListed 𝓒.role-exclusions R S ⊎ IsListed 𝓒.role-exclusions (inverse R) (inverse S) → Clash 𝓒
  at_edge Q R S l h k (inl (inl m)) = down-clash Q R S m l h k
  at_edge Q R S l h k (inl (inr m)) = down-clash Q S R m l k h
  at_edge Q R S l h k (inr (inl m)) = up-clash Q R S m l h k
  at_edge Q R S l h k (inr (inr m)) = up-clash Q S R m l k h

  sunk : {R : SignedRole} → Doomed (rules_of 𝓒) R → Alive 𝓒 R → Clash 𝓒
  sunk (breaks {R = R} a) l = below_one R a.over_first a.over_second l a.first a.second a.excluded
  sunk (crosses {R = R} a) l = at_edge R a.over_first a.over_second l a.first a.second a.excluded
  sunk (deeper {R = R} {S = S} k d) l = sunk d (grows R S l k)

  turn_edge : {a b : Individual} {S : SignedRole} → FactEdge 𝓒 a S b → FactEdge 𝓒 b (inverse S) a
  turn_edge (ahead m l) = behind m l
  turn_edge (behind {S = S} m l) = rw (inverse-inverse S) (ahead m l)

  typed_edge : {a b : Individual} {R : SignedRole} → TypedRole 𝓒 a R b → (S : SignedRole) → RoleLe 𝓒 R S → FactEdge 𝓒 a S b
  typed_edge (onward m) S l = ahead m l
  typed_edge (back {r = r} {a = a} {b = b} m) S l =
      let k : RoleLe 𝓒 (inverse (backward r)) (inverse S) = turned l in
      let f : FactEdge 𝓒 b (inverse (inverse S)) a = behind m (rw (inverse-backward r) at k) in
      rw (inverse-inverse S) at f

  at_two : (a b : Individual) (R S : SignedRole) → FactEdge 𝓒 a R b → FactEdge 𝓒 a S b
      → IsListed 𝓒.role-exclusions R S ⊎ IsListed 𝓒.role-exclusions (inverse R) (inverse S) → Clash 𝓒
  at_two a b R S f g (inl (inl m)) = fact-clash a b R S m f g
  at_two a b R S f g (inl (inr m)) = fact-clash a b S R m g f
  at_two a b R S f g (inr (inl m)) = fact-clash b a (inverse R) (inverse S) m (turn_edge f) (turn_edge g)
  at_two a b R S f g (inr (inr m)) = fact-clash b a (inverse S) (inverse R) m (turn_edge g) (turn_edge f)

  shown : Local 𝓒 → Clash 𝓒
  shown (one a C t (itself x)) = at_one a C C x.over_first x.over_second (C, t, x.first) (C, t, x.second) x.excluded
  shown (one a C t (sinks R l d)) = sunk d (sprouts a R (C, t, l))
  shown (two a C D t u x) = at_one a C D x.over_first x.over_second (C, t, x.first) (D, u, x.second) x.excluded
  shown (pair a b R S t u x) =
      at_two a b x.over_first x.over_second (typed_edge t x.over_first x.first) (typed_edge u x.over_second x.second) x.excluded

  -- the canonical model breaks an exclusion exactly where something typed of one individual, or of one ordered pair, is
  -- excluded by the rules
  pub local_is : NumbersDeclared 𝓒 → Contradiction 𝓒 ↔ Local 𝓒
  local_is ok = (λ c. found ((contradiction↔clash 𝓒 ok).0 c), λ l. (contradiction↔clash 𝓒 ok).1 (shown l))

-- What is computed as contradiction is a contradiction of the canonical model.
use Rattle.std.specs.Prelude.{◌≡◌, refl, ◌↔◌, ◌⊎◌, List, IsTrue}
use Rattle.std.proofs.Math.Logic.{inl, inr}
use Rattle.std.proofs.Math.Dec.{T}
use Rattle.kinds.specs.declared.Individual.{Individual}
use Rattle.kinds.specs.declared.SignedRole.{SignedRole}
use Rattle.kinds.specs.declared.Concept.{Concept}
use Rattle.kinds.specs.declared.Concept.TheVariants.{Exists}
use Rattle.kinds.specs.Kinds.{inverse, inverse-inverse, inverse-declared, SignedDeclared}
use Rattle.laws.specs.Member.{◌∈◌}
use Rattle.laws.specs.Search.{any}
use Rattle.laws.specs.Truth.{test-of, test-in, test-out, test-same, test-and, test-or, test-any}
use Rattle.laws.specs.Pairs.{pairs, pairs-in}
use Rattle.laws.specs.Chain.{Chain, link, chain, closed, closed_in, closed-out}
use Rattle.meaning.specs.Collection.{Collection, WellFormed}
use Rattle.meaning.specs.Orders.{RoleLe, ConceptLe}
use Rattle.meaning.specs.Lite.{signed_roles}
use Rattle.meaning.specs.Model.{IndividualHas, FactEdge, Contradiction}
use Rattle.meaning.proofs.ModelWalk.{edge-declared}
use Rattle.meaning.specs.Clash.{Alive, sprouts, grows, Clash, individual-clash, unnamed-clash, fact-clash, down-clash, up-clash}
use Rattle.meaning.proofs.Clash.{typed-declared}
use Rattle.meaning.proofs.ClashShown.{contradiction↔clash}
use Rattle.meaning.proofs.Declared.{signed-in, signed-out, concept-declared}
use Rattle.meaning.proofs.LiteTests.{same_role, role_same, role-equal, role_le-is, concept_le-is}
use Rattle.meaning.proofs.Reply.{declared_individuals, follows, alive_by, alive_at, alive, clash_at, clash_under, concept_clash, clash_between, clash_below, role_clash, clash}
use Rattle.meaning.proofs.ReplyLaws.{individual-in, individual_has-is, edge-is, has-declared}

module _ (𝓒 : Collection) (ok : WellFormed 𝓒) where
  abbrev everyone : List Individual
  everyone = declared_individuals 𝓒.counts

  abbrev roles : List SignedRole
  roles = signed_roles 𝓒.counts

  abbrev Follows : SignedRole → SignedRole → Type 0
  Follows R S = T (follows 𝓒 R S)

  abbrev FollowsBy : SignedRole → SignedRole → Type 0
  FollowsBy R S = (R ≡ S) ⊎ ConceptLe 𝓒 (Exists (inverse R)) (Exists S)

  follows-is : (R S : SignedRole) → SignedDeclared 𝓒.counts R → IsTrue (follows 𝓒 R S) ↔ FollowsBy R S
  unfolding follows
  follows-is R S d = test-or (role-equal R S) (concept_le-is 𝓒 ok.numbers (Exists (inverse R)) (Exists S) (inverse-declared 𝓒.counts R d))

  next : (R S : SignedRole) → SignedDeclared 𝓒.counts R → FollowsBy R S → SignedDeclared 𝓒.counts S
  next R S h (inl e) = rw (← e) h
  next R S h (inr l) = concept-declared 𝓒 ok.numbers l (inverse-declared 𝓒.counts R h)

  follows_to : (R S : SignedRole) → R ∈ roles → Follows R S → S ∈ roles
  follows_to R S m h = let d = signed-out 𝓒.counts R m in signed-in 𝓒.counts S (next R S d (test-out (follows-is R S d) h))

  grow : (Q R : SignedRole) → FollowsBy Q R → Alive 𝓒 Q → Alive 𝓒 R
  grow Q R (inl e) a = rw e at a
  grow Q R (inr l) a = grows Q R a l

  onward : {Q R : SignedRole} → Chain Follows Q R → SignedDeclared 𝓒.counts Q → Alive 𝓒 Q → SignedDeclared 𝓒.counts R × Alive 𝓒 R
  onward (link {x = Q} {y = R} h) d a = let f = test-out (follows-is Q R d) h in (next Q R d f, grow Q R f a)
  onward (chain c e) d a = let w = onward c d a in onward e w.0 w.1

  led-is : (Q R : SignedRole) → Q ∈ roles → IsTrue (closed same_role roles (follows 𝓒) Q R) ↔ Chain Follows Q R
  led-is Q R m =
      test-of (closed same_role roles (follows 𝓒) Q R) (closed-out same_role roles (follows 𝓒) role_same.is follows_to Q R)
      (closed_in same_role roles (follows 𝓒) role_same.is follows_to Q R m)

  -- where a living role comes from
  comes : {R : SignedRole} → Alive 𝓒 R
      → (a : Individual) × (Q : SignedRole) × IndividualHas 𝓒 a (Exists Q) × SignedDeclared 𝓒.counts Q × SignedDeclared 𝓒.counts R × Chain Follows Q R
  comes (sprouts a R h) =
      let d = has-declared 𝓒 ok a (Exists R) h in
      (a, R, h, d, d, link (test-in (follows-is R R d) (inl refl)))
  comes (grows R S l k) =
      let w = comes l in
      (w.0, w.1, w.2, w.3, next R S w.4 (inr k), chain w.5 (link (test-in (follows-is R S w.4) (inr k))))

  known : (a : Individual) {C : Concept} → IndividualHas 𝓒 a C → a ∈ everyone
  known a h = individual-in 𝓒.counts a (typed-declared 𝓒 ok.numbers h.1)

  alive-is : (R : SignedRole) → IsTrue (alive 𝓒 R) ↔ Alive 𝓒 R
  unfolding alive alive_at alive_by
  alive-is R =
      test-same (test-any everyone (λ a i. test-any roles (λ Q m. test-and (individual_has-is 𝓒 ok a (Exists Q)) (led-is Q R m))))
      (λ w. let v = w.2 in (onward v.2.1 (signed-out 𝓒.counts v.0 v.1) (sprouts w.0 v.0 v.2.0)).1)
      (λ l. let w = comes l in (w.0, known w.0 w.2, (w.1, signed-in 𝓒.counts w.1 w.3, (w.2, w.5))))

  lives : {R : SignedRole} → Alive 𝓒 R → R ∈ roles
  lives {R} l = signed-in 𝓒.counts R (comes l).4

  -- an exclusion that is broken, as it is looked for
  abbrev ConceptBroken : Concept × Concept → Type 0
  ConceptBroken p =
      ((a : Individual) × (a ∈ everyone) × (IndividualHas 𝓒 a p.0 × IndividualHas 𝓒 a p.1)) ⊎ ((R : SignedRole) × (R ∈ roles)
      × (ConceptLe 𝓒 (Exists (inverse R)) p.0 × (ConceptLe 𝓒 (Exists (inverse R)) p.1 × Alive 𝓒 R)))

  abbrev BrokenBelow : SignedRole × SignedRole → Type 0
  BrokenBelow p = (Q : SignedRole) × (Q ∈ roles) × (RoleLe 𝓒 Q p.0 × (RoleLe 𝓒 Q p.1 × Alive 𝓒 Q))

  abbrev RoleBroken : SignedRole × SignedRole → Type 0
  RoleBroken p =
      ((q : Individual × Individual) × (q ∈ pairs everyone everyone) × (FactEdge 𝓒 q.0 p.0 q.1 × FactEdge 𝓒 q.0 p.1 q.1))
      ⊎ (BrokenBelow p ⊎ BrokenBelow (inverse p.0, inverse p.1))

  abbrev Broken : Type 0
  Broken =
      ((p : Concept × Concept) × (p ∈ 𝓒.concept-exclusions) × ConceptBroken p)
      ⊎ ((p : SignedRole × SignedRole) × (p ∈ 𝓒.role-exclusions) × RoleBroken p)

  concept-is : (p : Concept × Concept) → IsTrue (concept_clash 𝓒 p) ↔ ConceptBroken p
  unfolding concept_clash clash_at clash_under
  concept-is p =
      test-or (test-any everyone (λ a i. test-and (individual_has-is 𝓒 ok a p.0) (individual_has-is 𝓒 ok a p.1)))
      (test-any roles (λ R i.
      let d = inverse-declared 𝓒.counts R (signed-out 𝓒.counts R i) in
      let E = Exists (inverse R) in
      test-and (concept_le-is 𝓒 ok.numbers E p.0 d) (test-and (concept_le-is 𝓒 ok.numbers E p.1 d) (alive-is R))))

  below-is : (p : SignedRole × SignedRole) → IsTrue (any roles (clash_below 𝓒 p)) ↔ BrokenBelow p
  unfolding clash_below
  below-is p =
      test-any roles (λ Q i.
      let d = signed-out 𝓒.counts Q i in
      test-and (role_le-is 𝓒 ok.numbers Q p.0 d) (test-and (role_le-is 𝓒 ok.numbers Q p.1 d) (alive-is Q)))

  role-is : (p : SignedRole × SignedRole) → IsTrue (role_clash 𝓒 p) ↔ RoleBroken p
  unfolding role_clash clash_between
  role-is p =
      test-or (test-any (pairs everyone everyone) (λ q i. test-and (edge-is 𝓒 ok q.0 p.0 q.1) (edge-is 𝓒 ok q.0 p.1 q.1)))
      (test-or (below-is p) (below-is (inverse p.0, inverse p.1)))

  by_broken : Broken → Clash 𝓒
  by_broken (inl (p, m, inl (a, i, h))) = individual-clash a p.0 p.1 m h.0 h.1
  by_broken (inl (p, m, inr (R, i, h))) = unnamed-clash R p.0 p.1 m h.1.1 h.0 h.1.0
  by_broken (inr (p, m, inl (q, i, h))) = fact-clash q.0 q.1 p.0 p.1 m h.0 h.1
  by_broken (inr (p, m, inr (inl (Q, i, h)))) = down-clash Q p.0 p.1 m h.1.1 h.0 h.1.0
  by_broken (inr (p, m, inr (inr (Q, i, h)))) =
      up-clash Q (inverse p.0) (inverse p.1) (rw (inverse-inverse p.0, inverse-inverse p.1) m) h.1.1 h.0 h.1.0

  broken_by : Clash 𝓒 → Broken
  broken_by (individual-clash a C D m h k) = inl ((C, D), m, inl (a, known a h, (h, k)))
  broken_by (unnamed-clash R C D m l h k) = inl ((C, D), m, inr (R, lives l, (h, (k, l))))
  broken_by (fact-clash a b R S m f g) =
      let d = edge-declared 𝓒 ok f in
      inr ((R, S), m, inl ((a, b), pairs-in (individual-in 𝓒.counts a d.0) (individual-in 𝓒.counts b d.1), (f, g)))
  broken_by (down-clash Q R S m l h k) = inr ((R, S), m, inr (inl (Q, lives l, (h, (k, l)))))
  broken_by (up-clash Q R S m l h k) =
      inr ((inverse R, inverse S), m, inr (inr (Q, lives l, (rw (inverse-inverse R) h, (rw (inverse-inverse S) k, l)))))

  pub clash-is : IsTrue (clash 𝓒) ↔ Contradiction 𝓒
  unfolding clash
  clash-is =
      let w = contradiction↔clash 𝓒 ok.numbers in
      test-same (test-or (test-any 𝓒.concept-exclusions (λ p m. concept-is p)) (test-any 𝓒.role-exclusions (λ p m. role-is p)))
      (λ b. w.1 (by_broken b)) (λ c. broken_by (w.0 c))

-- What the answer means to a caller: of a collection whose numbers are declared, the marks clash exactly when its canonical model has a
-- contradiction.
use Rattle.std.specs.Prelude.{ℕ, ◌+◌, ◌/◌, ◌<◌, ◌≡◌, refl, ◌⊎◌, ◌↔◌, IsTrue, List, length}
use Rattle.std.proofs.Common.{ap, arith, inl, inr, ⊎_elim}
use Rattle.kinds.specs.declared.Individual.{Individual}
use Rattle.kinds.specs.declared.SignedRole.{SignedRole}
use Rattle.kinds.specs.declared.Concept.{Concept}
use Rattle.kinds.specs.declared.Concept.TheVariants.{Exists}
use Rattle.kinds.specs.declared.Counts.{Counts}
use Rattle.kinds.specs.Kinds.{most_individuals, base, flip, flip-below, most_roles, inverse, inverse-inverse, signed, individual}
use Rattle.kinds.specs.Kinds.{number_of, concept_of, number-concept, concept-number, role-concept, CountsFit, SignedDeclared}
use Rattle.kinds.specs.Kinds.{ConceptDeclared}
use Rattle.laws.specs.Member.{◌∈◌}
use Rattle.meaning.specs.Collection.{NumbersDeclared}
use Rattle.meaning.specs.Lent.{Tables, collection, records, rule_width, role_fact_width}
use Rattle.meaning.specs.Orders.{RoleFollows, RoleLe, ConceptLe, turned}
use Rattle.meaning.specs.Model.{IndividualHas, FactEdge as ModelEdge, Contradiction}
use Rattle.meaning.specs.Clash.{Alive, Clash, individual-clash, unnamed-clash, fact-clash, down-clash, up-clash}
use Rattle.meaning.proofs.Clash.{typed-declared}
use Rattle.meaning.proofs.ClashShown.{contradiction↔clash}
use Rattle.sets.specs.Bits.{concept_width, role_width, has}
use Rattle.sets.proofs.RowLaws.{has_fact}
use Rattle.orders.specs.Marks.{Listed}
use Rattle.orders.proofs.Table.{pair_of, rules_of, rules-all, rule-in, rule-out}
use Rattle.orders.proofs.Mean.{role-below, concept-below, all-role-rules, all-concept-rules}
use Rattle.elements.proofs.Mean.{shown-declared, concepts-mean}
use Rattle.elements.proofs.GeneratingMean.{generating-mean, generating-below}
use Rattle.clash.specs.Clashes.{BothSides, Marked, ConceptsClash, ChildClashes, IsMade, HasAny, PairHas, RolesClash}
use Rattle.clash.specs.Conflicts.{IsConcerned}
use Rattle.clash.proofs.SeekLaws.{sides_same}
use Rattle.clash.proofs.PastLaws.{made-role, made-from}
use Rattle.clash.proofs.FactMean.{made-means, model-made}
use Rattle.clash.specs.Meant.{Computed, Clashes, IsOf}

-- P holds of both sides of an exclusion
record Both {A : Type 0} (l : List (A × A)) (P : A → Type 0) : Type 0 where
  left : A
  right : A
  listed : (left, right) ∈ l
  has_left : P left
  has_right : P right

-- a table of exclusions of numbered things, each of which D holds: where M holds their numbers exactly as P holds them, both break the same
module _ {A : Type 0} (of : ℕ → A) (number : A → ℕ) (n : ℕ) (back : (i : ℕ) → number (of i) ≡ i) (table : List ℕ) (D : A → Type 0)
    (known : (r : A × A) → r ∈ records rule_width (pair_of of number n) table → D r.0 × D r.1) (below : (a : A) → D a → number a < n)
    (M : ℕ → Type 0) (P : A → Type 0) (same : (a : A) → D a → M (number a) ↔ P a) where
  all : rules_of of number n table ≡ records rule_width (pair_of of number n) table
  all = rules-all of number n table (λ r m. let d = known r m in (below r.0 d.0, below r.1 d.1))

  sides-out : BothSides n table M → Both (records rule_width (pair_of of number n) table) P
  sides-out x =
      let m = rw all at (rule-in of number n back table x.left_row x.right_row x.listed) in
      let d = known (of x.left, of x.right) m in
      record {
        left = of x.left;
        right = of x.right;
        listed = m;
        has_left = (same (of x.left) d.0).0 (rw (back x.left) x.has_left);
        has_right = (same (of x.right) d.1).0 (rw (back x.right) x.has_right);
      }

  sides-in : Both (records rule_width (pair_of of number n) table) P → BothSides n table M
  sides-in b =
      let d = known (b.left, b.right) b.listed in
      let w = rule-out of number n back table (rw all b.listed) in
      record {
        left = number b.left;
        right = number b.right;
        left_row = w.0;
        right_row = w.1;
        listed = w.2;
        has_left = (same b.left d.0).1 b.has_left;
        has_right = (same b.right d.1).1 b.has_right;
      }

-- an unnamed element that ends by R has what follows from this concept
inverse-concept : (R : ℕ) → concept_of (base + flip R) ≡ Exists (inverse (signed R))
unfolding inverse
inverse-concept R = role-concept (flip R)

-- S follows from the inverse of R, said the other way round
turned-back : {rules : List (SignedRole × SignedRole)} (R S : SignedRole) → RoleFollows rules (inverse R) S
    → RoleFollows rules R (inverse S)
turned-back R S l = rw (inverse-inverse R) at (turned l)

module _ (c : Counts) (t : Tables) (fit : CountsFit c) (ok : NumbersDeclared (collection c t))
    (m : Computed) (o : IsOf t m) where
  -- the row of a role, and that of the concept of an unnamed element, whether the role is declared or not
  role-le : (Q : ℕ) (S : SignedRole) → Q < role_width → SignedDeclared c S → IsTrue (m.roles Q S.0) ↔ RoleLe (collection c t) (signed Q) S
  role-le Q S hQ hS = rw (all-role-rules c t fit ok) at (o.roles.at Q S.0 hQ (role-below c t fit ok S hS))

  unnamed-has : (R : ℕ) (C : Concept) → R < role_width → ConceptDeclared c C
      → IsTrue (m.concepts (base + flip R) (number_of C)) ↔ ConceptLe (collection c t) (Exists (inverse (signed R))) C
  unnamed-has R C hR hC =
      rw (all-concept-rules c t fit ok, all-role-rules c t fit ok, concept-number c fit.names C hC, inverse-concept R)
      at (o.concepts.at (base + flip R) (number_of C) (omega arith) (concept-below c t fit ok C hC))

  -- a generating role is one by which an unnamed element ends
  alive : (R : ℕ) → R < role_width → IsTrue (has m.generating R) → Alive (collection c t) (signed R)
  alive R h p = (generating-mean c t fit ok m.concepts m.individuals o.concepts o.individuals (signed R)).0 ((o.generating.at R h).0 p)

  lives : (R : SignedRole) → Alive (collection c t) R → (R.0 < role_width) × IsTrue (has m.generating R.0)
  lives R a =
      let l = (generating-mean c t fit ok m.concepts m.individuals o.concepts o.individuals R).1 a in
      let h = generating-below l in
      (h, (o.generating.at R.0 h).1 l)

  abbrev many : ℕ
  many = length t.role-facts / role_fact_width

  -- the roles that facts give a pair, by edges of whatever role, are those of its edges in the model
  abbrev AnyPairHas : ℕ → ℕ → ℕ → Type 0
  AnyPairHas a = PairHas (IsMade t.role-facts many a) m.roles

  fact→edge : (a b : ℕ) (S : SignedRole) → SignedDeclared c S → AnyPairHas a b S.0
      → ModelEdge (collection c t) (individual a) S (individual b)
  fact→edge a b S h f =
      let e : f.edge.to ≡ individual b = ap individual f.to in
      let row = made-role t.role-facts many a f.edge f.has in
      rw e at (made-means c t (individual a) f.edge f.has S ((role-le f.edge.role.0 S row h).0 f.follows))

  edge→fact : (a b : Individual) (S : SignedRole) → SignedDeclared c S → ModelEdge (collection c t) a S b → AnyPairHas a.0 b.0 S.0
  edge→fact a b S h e =
      let w = model-made c t fit ok a b S e in
      let p = w.1 in
      record {
        edge = w.0;
        has = p.is;
        to = ap (λ (i : Individual). i.0) p.to;
        follows = (role-le w.0.role.0 S (made-role t.role-facts many a.0 w.0 p.is) h).1 p.below;
      }

  -- of both sides of an exclusion, each edge is by a role that the exclusion concerns
  all→among : (a b i j : ℕ) → i < role_width → j < role_width → Listed t.role-exclusions i j ⊎ Listed t.role-exclusions j i
      → AnyPairHas a b i
      → PairHas (HasAny t.role-facts m.among a) m.roles b i
  all→among a b i j hi hj l f =
      let w : IsConcerned t.role-exclusions m.roles f.edge.role.0 = record {
        within = made-role t.role-facts many a f.edge f.has;
        from = j;
        row = hj;
        excluded = record { by = i; row = hi; above = f.follows; sides = l };
      } in
      record {
        edge = f.edge;
        has = record { is = f.has; member = o.among f.edge.role.0 (rw o.role_exclusions w) };
        to = f.to;
        follows = f.follows;
      }

  concept-sides : (M : ℕ → Type 0) (P : Concept → Type 0) → ((C : Concept) → ConceptDeclared c C → M (number_of C) ↔ P C)
      → BothSides concept_width t.concept-exclusions M ↔ Both (collection c t).concept-exclusions P
  concept-sides M P same =
      let below = concept-below c t fit ok in (
        sides-out concept_of number_of concept_width number-concept t.concept-exclusions
            (ConceptDeclared c) ok.concept-exclusions below M P same,
        sides-in concept_of number_of concept_width number-concept t.concept-exclusions
            (ConceptDeclared c) ok.concept-exclusions below M P same,
      )

  role-sides : (M : ℕ → Type 0) (P : SignedRole → Type 0) → ((S : SignedRole) → SignedDeclared c S → M S.0 ↔ P S)
      → BothSides role_width t.role-exclusions M ↔ Both (collection c t).role-exclusions P
  role-sides M P same =
      let below = role-below c t fit ok in (
        sides-out signed (λ R. R.0) role_width (λ i. refl) t.role-exclusions (SignedDeclared c) ok.role-exclusions below M P same,
        sides-in signed (λ R. R.0) role_width (λ i. refl) t.role-exclusions (SignedDeclared c) ok.role-exclusions below M P same,
      )

  -- the exclusions of which each kind of row has both sides
  named-breaks : (a : ℕ) → a < most_individuals → BothSides concept_width t.concept-exclusions (Marked (m.individuals a))
      ↔ Both (collection c t).concept-exclusions (IndividualHas (collection c t) (individual a))
  named-breaks a h =
      concept-sides (Marked (m.individuals a)) (IndividualHas (collection c t) (individual a)) (λ C hC. (
        λ p.
            let d = shown-declared c t fit ok ((o.individuals.at a (number_of C) h (concept-below c t fit ok C hC)).0 p) in
            (concepts-mean c t fit ok m.concepts o.concepts C hC o.individuals (individual a) d).0 p,
        λ w. (concepts-mean c t fit ok m.concepts o.concepts C hC o.individuals (individual a)
            (typed-declared (collection c t) ok w.1)).1 w,
      ))

  unnamed-breaks : (R : ℕ) → R < role_width → BothSides concept_width t.concept-exclusions (Marked (m.concepts (base + flip R)))
      ↔ Both (collection c t).concept-exclusions (ConceptLe (collection c t) (Exists (inverse (signed R))))
  unnamed-breaks R h =
      concept-sides (Marked (m.concepts (base + flip R))) (ConceptLe (collection c t) (Exists (inverse (signed R))))
      (λ C hC. unnamed-has R C h hC)

  pair-sides : (a b : ℕ) → BothSides role_width t.role-exclusions (AnyPairHas a b)
      ↔ Both (collection c t).role-exclusions (λ S. ModelEdge (collection c t) (individual a) S (individual b))
  pair-sides a b =
      role-sides (AnyPairHas a b) (λ S. ModelEdge (collection c t) (individual a) S (individual b)) (λ S hS. (
        fact→edge a b S hS,
        edge→fact (individual a) (individual b) S hS,
      ))

  role-breaks : (Q : ℕ) → Q < role_width → BothSides role_width t.role-exclusions (Marked (m.roles Q))
      ↔ Both (collection c t).role-exclusions (RoleLe (collection c t) (signed Q))
  role-breaks Q h = role-sides (Marked (m.roles Q)) (RoleLe (collection c t) (signed Q)) (λ S hS. role-le Q S h hS)

  concepts→clash : ConceptsClash m.concept_exclusions m.individuals m.concepts m.generating → Clash (collection c t)
  concepts→clash (inl s) =
      let w = (named-breaks s.one s.within).0 (rw o.concept_exclusions at s.has.sides) in
      individual-clash (individual s.one) w.left w.right w.listed w.has_left w.has_right
  concepts→clash (inr s) =
      let w = (unnamed-breaks s.one s.within).0 (rw o.concept_exclusions at s.has.sides) in
      unnamed-clash (signed s.one) w.left w.right w.listed
      (alive s.one s.within ((has_fact m.generating s.one).1 s.member)) w.has_left w.has_right

  child→clash : (Q : ℕ) → Q < role_width → IsTrue (has m.generating Q) → ChildClashes m.role_exclusions m.roles Q → Clash (collection c t)
  unfolding inverse
  child→clash Q h l (inl b) =
      let w = (role-breaks Q h).0 (rw o.role_exclusions at b.sides) in
      down-clash (signed Q) w.left w.right w.listed (alive Q h l) w.has_left w.has_right
  child→clash Q h l (inr b) =
      let w = (role-breaks (flip Q) (flip-below Q most_roles h)).0 (rw o.role_exclusions at b.sides) in
      up-clash (signed Q) (inverse w.left) (inverse w.right) (rw (inverse-inverse w.left, inverse-inverse w.right) w.listed) (alive Q h l)
      (turned-back (signed Q) w.left w.has_left) (turned-back (signed Q) w.right w.has_right)

  roles→clash : RolesClash m.role_exclusions m.roles m.generating m.facts m.among → Clash (collection c t)
  roles→clash (inl s) = child→clash s.one s.within ((has_fact m.generating s.one).1 s.member) s.has
  roles→clash (inr s) =
      let y = rw (o.role_exclusions, o.facts) at s.has.sides in
      let w = (pair-sides s.one s.has.to).0
      (sides_same _ _ _ (AnyPairHas s.one s.has.to)
      (λ i j hi hj l f. record { edge = f.edge; has = f.has.is; to = f.to; follows = f.follows }) y) in
      fact-clash (individual s.one) (individual s.has.to) w.left w.right w.listed w.has_left w.has_right

  by-child : (Q : ℕ) → Q < role_width → IsTrue (has m.generating Q) → ChildClashes m.role_exclusions m.roles Q → Clashes m
  by-child Q h l x = inr (inl (record { one = Q; within = h; member = (has_fact m.generating Q).0 l; has = x }))

  clash→clashes : Clash (collection c t) → Clashes m
  unfolding inverse
  clash→clashes (individual-clash a C D e h k) =
      let l : a.0 < most_individuals = omega (arith, typed-declared (collection c t) ok h.1, fit.individuals) in
      let w = (named-breaks a.0 l).1 (record { left = C; right = D; listed = e; has_left = h; has_right = k }) in
      inl (inl (record { one = a.0; within = l; has = record { sides = rw o.concept_exclusions w } }))
  clash→clashes (unnamed-clash R C D e a h k) =
      let l = lives R a in
      let w = (unnamed-breaks R.0 l.0).1 (record { left = C; right = D; listed = e; has_left = h; has_right = k }) in
      inl (inr (record {
        one = R.0;
        within = l.0;
        member = (has_fact m.generating R.0).0 l.1;
        has = record { sides = rw o.concept_exclusions w };
      }))
  clash→clashes (fact-clash a b R S e f g) =
      let w = (pair-sides a.0 b.0).1 (record { left = R; right = S; listed = e; has_left = f; has_right = g }) in
      let l = made-from t.role-facts many a.0 w.has_left.edge w.has_left.has in
      inr (inr (record {
        one = a.0;
        within = l;
        has = record { to = b.0; sides = rw (o.role_exclusions, o.facts) (sides_same _ _ _ _ (all→among a.0 b.0) w) };
      }))
  clash→clashes (down-clash Q R S e a h k) =
      let l = lives Q a in
      let w = (role-breaks Q.0 l.0).1 (record { left = R; right = S; listed = e; has_left = h; has_right = k }) in
      by-child Q.0 l.0 l.1 (inl (record { sides = rw o.role_exclusions w }))
  clash→clashes (up-clash Q R S e a h k) =
      let l = lives Q a in
      let w = (role-breaks (flip Q.0) (flip-below Q.0 most_roles l.0)).1
      (record { left = inverse R; right = inverse S; listed = e; has_left = turned h; has_right = turned k }) in
      by-child Q.0 l.0 l.1 (inr (record { sides = rw o.role_exclusions w }))

  -- THEOREM: a test says yes exactly when an element or an ordered pair of elements of the canonical model, to any depth, has both
  -- sides of an
  -- exclusion
  pub clash-mean : Clashes m ↔ Contradiction (collection c t)
  clash-mean =
      let w = contradiction↔clash (collection c t) ok in
      (λ p. w.1 (⊎_elim (λ q. concepts→clash q) (λ q. roles→clash q) p), λ p. clash→clashes (w.0 p))

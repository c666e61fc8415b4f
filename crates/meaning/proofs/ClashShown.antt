-- A clash that one of the five finite tests finds is a contradiction of the canonical model.
use Rattle.std.specs.Prelude.{◌↔◌}
use Rattle.kinds.specs.declared.SignedRole.{SignedRole}
use Rattle.kinds.specs.declared.Concept.{Concept}
use Rattle.kinds.specs.Kinds.{inverse}
use Rattle.laws.specs.Member.{◌∈◌}
use Rattle.meaning.specs.Collection.{Collection, NumbersDeclared}
use Rattle.meaning.specs.Orders.{ConceptLe}
use Rattle.theory.specs.Tree.{root, ◌▹◌}
use Rattle.meaning.specs.Model.{HasConcept, Belongs, bare, grown, fact, child, parent, individuals, Element, Contradiction, at-element, at_pair}
use Rattle.meaning.specs.LawsOfModel.{NothingExcluded}
use Rattle.meaning.proofs.ModelLaws.{has_above}
use Rattle.meaning.specs.Clash.{Alive, sprouts, grows, Clash, individual-clash, unnamed-clash, fact-clash, down-clash, up-clash}
use Rattle.meaning.proofs.Clash.{find, typed-declared}

module _ (𝓒 : Collection) where
  module _ (ok : NumbersDeclared 𝓒) where
    lives : {R : SignedRole} → Alive 𝓒 R → (x : Element 𝓒) × Belongs 𝓒 (individuals 𝓒) (x ▹ R)
    lives (sprouts a R h) = (root a, grown (bare (typed-declared 𝓒 ok h.1)) h)
    lives (grows R S l k) = let w = lives l in (w.0 ▹ R, grown w.1 k)

    -- THEOREM: a clash is a contradiction
    show : Clash 𝓒 → Contradiction 𝓒
    show (individual-clash a C D m h k) = at-element (root a) C D m (bare (typed-declared 𝓒 ok h.1)) h k
    show (unnamed-clash R C D m l h k) = let w = lives l in at-element (w.0 ▹ R) C D m w.1 h k
    show (fact-clash a b R S m f g) = at_pair (root a) (root b) R S m (fact f) (fact g)
    show (down-clash Q R S m l h k) = let w = lives l in at_pair w.0 (w.0 ▹ Q) R S m (child w.1 h) (child w.1 k)
    show (up-clash Q R S m l h k) = let w = lives l in at_pair (w.0 ▹ Q) w.0 (inverse R) (inverse S) m (parent w.1 h) (parent w.1 k)

    -- THEOREM: the canonical model, of any depth, breaks an exclusion exactly when one of the five finite tests finds a clash
    pub contradiction↔clash : Contradiction 𝓒 ↔ Clash 𝓒
    contradiction↔clash = (find 𝓒, show)

  -- THEOREM: an element, individual or unnamed, of a concept that is excluded from itself is a contradiction,
  -- so that it need not imply everything: no answer differs
  pub self-exclusion : (x : Element 𝓒) (C : Concept) → (C, C) ∈ 𝓒.concept-exclusions → Belongs 𝓒 (individuals 𝓒) x → HasConcept 𝓒 (individuals 𝓒) x C
      → Contradiction 𝓒
  self-exclusion x C m b h = at-element x C C m b h h

  -- THEOREM: the same of a concept from which two follow that exclude each other
  pub empty-concept : (x : Element 𝓒) (C D E : Concept) → ConceptLe 𝓒 C D → ConceptLe 𝓒 C E → (D, E) ∈ 𝓒.concept-exclusions
      → Belongs 𝓒 (individuals 𝓒) x → HasConcept 𝓒 (individuals 𝓒) x C → Contradiction 𝓒
  empty-concept x C D E d e m b h = at-element x D E m b (has_above 𝓒 x h d) (has_above 𝓒 x h e)

  -- THEOREM: where nobody has what is excluded there is no contradiction
  pub nothing-excluded : NothingExcluded 𝓒 → Contradiction 𝓒 → ⊥
  nothing-excluded n (at-element x C D m b h k) = n.concepts C D m x b h k
  nothing-excluded n (at_pair x y R S m e f) = n.roles R S m x y e f

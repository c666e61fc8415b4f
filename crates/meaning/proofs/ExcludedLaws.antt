-- Concepts that are excluded from themselves may imply everything: no answer differs for it.
use Rattle.std.specs.Prelude.{◌≡◌, refl, ◌↔◌, ◌⊎◌, Bool, List, ℕ, ◌≤◌}
use Rattle.std.proofs.Common.{⊎_elim, sym, ◌∙◌, subst, arith}
use Rattle.std.proofs.Math.Bool.{true, false}
use Rattle.kinds.specs.declared.Individual.{Individual}
use Rattle.kinds.specs.declared.State.{State}
use Rattle.kinds.specs.declared.SignedRole.{SignedRole}
use Rattle.kinds.specs.declared.Concept.{Concept}
use Rattle.kinds.specs.declared.Concept.TheVariants.{Name, Exists}
use Rattle.kinds.specs.declared.Ask.{Ask}
use Rattle.kinds.specs.declared.Ask.TheVariants.{Pair, From}
use Rattle.kinds.specs.Asks.{AskDeclared}
use Rattle.kinds.specs.declared.Answer.{Answer}
use Rattle.kinds.specs.Answer.{answer_number}
use Rattle.kinds.specs.Kinds.{IndividualDeclared}
use Rattle.laws.specs.Truth.{test-false}
use Rattle.laws.specs.Member.{◌∈◌}
use Rattle.meaning.specs.Collection.{Collection, Each, NumbersDeclared, WellFormed}
use Rattle.meaning.specs.Orders.{ConceptLe, same, then, rule, wider}
use Rattle.theory.specs.Tree.{root, ◌▹◌}
use Rattle.theory.specs.Run.{stop, go}
use Rattle.meaning.specs.Model.{HasConcept, Belongs, bare, grown, ModelEdge, fact, child, parent, individuals, Element, canonical, Typed, named, first, second, FactEdge, ahead, behind, Contradiction, at-element, at_pair}
use Rattle.meaning.specs.Question.{along-role, at_name, PathIn, Yes}
use Rattle.meaning.specs.Leaving.{Leaves}
use Rattle.meaning.specs.Asks.{IsYes}
use Rattle.meaning.specs.Lent.{Call, collection_of, Sound}
use Rattle.meaning.specs.Outcome.{Outcome, bad-count, bad-table, bad-number, bad-ask, contradiction, spent, says-yes, says-no}
use Rattle.meaning.specs.Demands.{Larger}
use Rattle.meaning.specs.Excluded.{SelfExcluded, RoleSelfExcluded, ImpliesMore, AsksWhereMore, IsDecided}
use Rattle.meaning.proofs.ModelLaws.{born, has_above, edge-above, has-neighbour}
use Rattle.meaning.proofs.Larger.{yes-grows, leaves-grows, contradiction-grows}
use Rattle.meaning.proofs.Reply.{clash}
use Rattle.meaning.proofs.ClashLaws.{clash-is}
use Rattle.meaning.proofs.OutcomeExists.{sound-well-formed}
use Rattle.meaning.proofs.Demands.{Verdict, is-contradiction, is-yes, is-no}

module _ (𝓒 : Collection) where
  -- THEOREM: whoever has a forbidden concept makes a contradiction
  pub concept-forbidden : (x : Element 𝓒) (C : Concept) → SelfExcluded 𝓒 C → Belongs 𝓒 (individuals 𝓒) x → HasConcept 𝓒 (individuals 𝓒) x C → Contradiction 𝓒
  concept-forbidden x C f b h = let k = has_above 𝓒 x h f.1 in at-element x f.0 f.0 f.2 b k k

  -- THEOREM: so does a pair that has a forbidden role,
  pub role-forbidden : (x y : Element 𝓒) (R : SignedRole) → RoleSelfExcluded 𝓒 R → ModelEdge 𝓒 (individuals 𝓒) x R y → Contradiction 𝓒
  role-forbidden x y R f e = let g = edge-above 𝓒 e f.1 in at_pair x y f.0 f.0 f.2 g g

  -- THEOREM: and whoever has a neighbour by it
  pub neighbour-forbidden : (x : Element 𝓒) (R : SignedRole) → RoleSelfExcluded 𝓒 R → Belongs 𝓒 (individuals 𝓒) x → HasConcept 𝓒 (individuals 𝓒) x (Exists R) → Contradiction 𝓒
  neighbour-forbidden x R f b h = let w = has-neighbour 𝓒 x R b h in role-forbidden x w.0 R f w.2

-- the same collection with other concept rules
abbrev with_rules : Collection → List (Concept × Concept) → Collection
with_rules 𝓒 κ = record 𝓒 { concept-rules = κ }

module _ (𝓒 : Collection) (κ : List (Concept × Concept)) where
  abbrev 𝓓 : Collection
  𝓓 = with_rules 𝓒 κ

  typed-back : {a : Individual} {C : Concept} → Typed 𝓓 a C → Typed 𝓒 a C
  typed-back (named m) = named m
  typed-back (first m) = first m
  typed-back (second m) = second m

  fact-back : {a b : Individual} {S : SignedRole} → FactEdge 𝓓 a S b → FactEdge 𝓒 a S b
  fact-back (ahead m l) = ahead m l
  fact-back (behind m l) = behind m l

  -- where nothing is broken nobody has a concept that is forbidden, so that the added rules never apply
  module _ (added : Each κ (λ r. (r ∈ 𝓒.concept-rules) ⊎ SelfExcluded 𝓒 r.0)) (sane : Contradiction 𝓒 → ⊥) where
    above-back : (x : Element 𝓒) → Belongs 𝓒 (individuals 𝓒) x → {C D : Concept} → HasConcept 𝓒 (individuals 𝓒) x C → ConceptLe 𝓓 C D → HasConcept 𝓒 (individuals 𝓒) x D
    above-back x b h same = h
    above-back x b h (then l m) = above-back x b (above-back x b h l) m
    above-back x b {C} {D} h (rule m) =
        ⊎_elim (λ k. has_above 𝓒 x h (rule k)) (λ f. absurd (sane (concept-forbidden 𝓒 x C f b h))) (added (C, D) m)
    above-back x b h (wider l) = has_above 𝓒 x h (wider l)

    has-back : (x : Element 𝓒) (D : Concept) → Belongs 𝓒 (individuals 𝓒) x → HasConcept 𝓓 (individuals 𝓓) x D → HasConcept 𝓒 (individuals 𝓒) x D
    has-back (root a) D b h = above-back (root a) b (h.0, typed-back h.1, same) h.2
    has-back (x ▹ R) D b h = above-back (x ▹ R) b same h

    belongs-back : {x : Element 𝓒} → Belongs 𝓓 (individuals 𝓓) x → Belongs 𝓒 (individuals 𝓒) x
    belongs-back (bare i) = bare i
    belongs-back (grown {x = x} {R = R} b h) = let k = belongs-back b in grown k (has-back x (Exists R) k h)

    edge-back : {x y : Element 𝓒} {S : SignedRole} → ModelEdge 𝓓 (individuals 𝓓) x S y → ModelEdge 𝓒 (individuals 𝓒) x S y
    edge-back (fact f) = fact (fact-back f)
    edge-back (child b l) = child (belongs-back b) l
    edge-back (parent b l) = parent (belongs-back b) l

    sane-still : Contradiction 𝓓 → ⊥
    sane-still (at-element x C D m b h k) = let w = belongs-back b in sane (at-element x C D m w (has-back x C w h) (has-back x D w k))
    sane-still (at_pair x y R S m g h) = sane (at_pair x y R S m (edge-back g) (edge-back h))

    module _ (ok : NumbersDeclared 𝓒) where
      -- an edge leads to an element that belongs
      edge-to : {x y : Element 𝓒} {S : SignedRole} → ModelEdge 𝓒 (individuals 𝓒) x S y → Belongs 𝓒 (individuals 𝓒) y
      edge-to (fact (ahead {r = r} {a = a} {b = b} m l)) = bare (ok.role-facts (r, a, b) m).2
      edge-to (fact (behind {r = r} {a = a} {b = b} m l)) = bare (ok.role-facts (r, a, b) m).1
      edge-to (child b l) = b
      edge-to (parent b l) = (born 𝓒 (individuals 𝓒) b).0

      path-back : {x y : Element 𝓒} {s t : State} → Belongs 𝓒 (individuals 𝓒) x → PathIn 𝓓 (canonical 𝓓) x s y t → PathIn 𝓒 (canonical 𝓒) x s y t
      path-back b stop = stop
      path-back b (go (along-role S m e) p) = let g = edge-back e in go (along-role S m g) (path-back (edge-to g) p)
      path-back b (go (at_name {x = x} A m h) p) = go (at_name A m (has-back x (Name A) b h)) (path-back b p)

module _ {𝓒 𝓓 : Collection} (w : ImpliesMore 𝓒 𝓓) where
  but-rules : 𝓓 ≡ with_rules 𝓒 𝓓.concept-rules
  but-rules = rw (w.counts, w.concept-exclusions, w.role-rules, w.role-exclusions, w.concept-facts, w.role-facts, w.steps, w.finals) refl

  implies-larger : Larger 𝓒 𝓓
  implies-larger = subst (λ 𝓔. Larger 𝓒 𝓔) (sym but-rules) (record {
    start = refl;
    concept-rules = w.kept;
    concept-exclusions = λ r m. m;
    role-rules = λ r m. m;
    role-exclusions = λ r m. m;
    concept-facts = λ r m. m;
    role-facts = λ r m. m;
    steps = λ r m. m;
    finals = λ r m. m;
  })

  module _ (ok : WellFormed 𝓒) (ok' : WellFormed 𝓓) where
    -- THEOREM: the one breaks an exclusion exactly when the other does
    pub breaks-alike : Contradiction 𝓒 ↔ Contradiction 𝓓
    breaks-alike = (contradiction-grows implies-larger ok ok', λ k. by k (clash 𝓒) refl)
      where
        by : Contradiction 𝓓 → (b : Bool) → clash 𝓒 ≡ b → Contradiction 𝓒
        by k true e = (clash-is 𝓒 ok).0 e
        by k false e =
            let sane : Contradiction 𝓒 → ⊥ = test-false (clash-is 𝓒 ok) e in
            absurd (sane-still 𝓒 𝓓.concept-rules w.added sane (subst (λ 𝓔. Contradiction 𝓔) but-rules k))

    -- THEOREM: and where nothing is broken a pair is yes in the one exactly when it is in the other
    pub yes-alike : (Contradiction 𝓒 → ⊥) → (a b : Individual) → IndividualDeclared 𝓒.counts a → Yes 𝓒 a b ↔ Yes 𝓓 a b
    yes-alike sane a b i = (
      yes-grows implies-larger ok ok' a b i (rw (← w.counts) i),
      λ y.
          let z = subst (λ 𝓔. Yes 𝓔 a b) but-rules y in
          (z.0, z.1, path-back 𝓒 𝓓.concept-rules w.added sane ok.numbers (bare i) z.2),
    )

    -- THEOREM: and a path leaves an individual in the one exactly when one does in the other
    pub leaves-alike : (Contradiction 𝓒 → ⊥) → (a : Individual) → IndividualDeclared 𝓒.counts a → Leaves 𝓒 a ↔ Leaves 𝓓 a
    leaves-alike sane a i = (
      leaves-grows implies-larger ok ok' a,
      λ l.
          let z = subst (λ 𝓔. Leaves 𝓔 a) but-rules l in
          (z.0, z.1, z.2, path-back 𝓒 𝓓.concept-rules w.added sane ok.numbers (bare i) z.3),
    )

    ask-alike : (Contradiction 𝓒 → ⊥) → (ask : Ask) → AskDeclared 𝓒.counts ask → IsYes 𝓒 ask ↔ IsYes 𝓓 ask
    ask-alike sane (Pair a b) d = yes-alike sane a b d.0
    ask-alike sane (From a) d = leaves-alike sane a d

-- an answer of 0, 1 or 2 is as the model says
decided-says : (c : Call) {r : Answer} {x y : List ℕ} → Outcome c r x y → answer_number r ≤ 2 → Sound c × Verdict c r
decided-says c (bad-count k) l = absurd (omega arith)
decided-says c (bad-table k t) l = absurd (omega arith)
decided-says c (bad-number k t u) l = absurd (omega arith)
decided-says c (bad-ask k t u v) l = absurd (omega arith)
decided-says c (contradiction s b) l = (s, is-contradiction refl b)
decided-says c (spent s sane need k lays) l = absurd (omega arith)
decided-says c (says-yes s sane need k lays reached) l = (s, is-yes refl sane reached)
decided-says c (says-no s sane need k lays missed) l = (s, is-no refl sane missed)

module _ (c d : Call) (w : AsksWhereMore c d) (s : Sound c) (s' : Sound d) where
  breaks : Contradiction (collection_of c) ↔ Contradiction (collection_of d)
  breaks = breaks-alike w.more (sound-well-formed c s) (sound-well-formed d s')

  reached : (Contradiction (collection_of c) → ⊥) → IsYes (collection_of c) c.ask ↔ IsYes (collection_of d) d.ask
  reached sane = rw (← w.ask) (ask-alike w.more (sound-well-formed c s) (sound-well-formed d s') sane c.ask s.ask)

  alike : {r q : Answer} → Verdict c r → Verdict d q → answer_number r ≡ answer_number q
  alike (is-contradiction n b) (is-contradiction m k) = n ∙ sym m
  alike (is-contradiction n b) (is-yes m k y) = absurd (k (breaks.0 b))
  alike (is-contradiction n b) (is-no m k y) = absurd (k (breaks.0 b))
  alike (is-yes n b y) (is-contradiction m k) = absurd (b (breaks.1 k))
  alike (is-yes n b y) (is-yes m k z) = n ∙ sym m
  alike (is-yes n b y) (is-no m k z) = absurd (z ((reached b).0 y))
  alike (is-no n b y) (is-contradiction m k) = absurd (b (breaks.1 k))
  alike (is-no n b y) (is-yes m k z) = absurd (y ((reached b).1 z))
  alike (is-no n b y) (is-no m k z) = n ∙ sym m

-- THEOREM: no answer differs; the count may, since the sheet has marks of concepts that nobody has
pub no-answer-differs : (c d : Call) (r q : Answer) → AsksWhereMore c d → IsDecided c r → IsDecided d q → answer_number r ≡ answer_number q
no-answer-differs c d r q w h k =
    let a = decided-says c h.2 h.3 in
    let b = decided-says d k.2 k.3 in
    alike c d w a.0 b.0 a.1 b.1

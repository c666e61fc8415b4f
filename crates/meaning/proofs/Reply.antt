-- Calculation: who has which concept, contradiction, the walk and the answer to an ask, as tests that compute.
use Rattle.std.specs.Prelude.{Bool, List}
use Rattle.kinds.specs.declared.ConceptName.{ConceptName}
use Rattle.kinds.specs.declared.RoleName.{RoleName}
use Rattle.kinds.specs.declared.Individual.{Individual}
use Rattle.kinds.specs.declared.State.{State}
use Rattle.kinds.specs.declared.SignedRole.{SignedRole}
use Rattle.kinds.specs.declared.Concept.{Concept}
use Rattle.kinds.specs.declared.Concept.TheVariants.{Name, Exists}
use Rattle.kinds.specs.declared.Counts.{Counts}
use Rattle.kinds.specs.declared.Ask.{Ask}
use Rattle.kinds.specs.declared.Ask.TheVariants.{Pair, From}
use Rattle.kinds.specs.Kinds.{inverse, forward, backward, individual}
use Rattle.laws.specs.Search.{any, or, and}
use Rattle.laws.specs.Same.{both}
use Rattle.laws.specs.Pairs.{pairs}
use Rattle.laws.specs.Numbers.{numbered}
use Rattle.laws.specs.Chain.{closed}
use Rattle.meaning.specs.Collection.{Collection}
use Rattle.meaning.specs.Lite.{signed_roles, valid_concepts, declared_states, lite}
use Rattle.theory.proofs.OnwardTests.{onward}
use Rattle.meaning.proofs.LiteTests.{same_individual, same_state, same_role, same_concept, leads, role_letter, role_le, concept_le, lite_tests}

unfoldable pub declared_individuals : Counts → List Individual
declared_individuals c = numbered individual c.individuals

-- what a fact types of an individual
unfoldable pub fact_types : Individual → Concept → ConceptName × Individual → Bool
fact_types a C f = let b = same_concept (Name f.0) C in and (same_individual f.1 a) b

unfoldable pub end_types : Individual → Concept → RoleName × Individual × Individual → Bool
end_types a C f =
    let b = and (same_individual f.2 a) (same_concept (Exists (backward f.0)) C) in
    or (and (same_individual f.1 a) (same_concept (Exists (forward f.0)) C)) b

module _ (𝓒 : Collection) where
  unfoldable pub is_typed : Individual → Concept → Bool
  is_typed a C = let b = any 𝓒.role-facts (end_types a C) in or (any 𝓒.concept-facts (fact_types a C)) b

  unfoldable pub typed_to : Individual → Concept → Concept → Bool
  typed_to a D C = let b = concept_le 𝓒 C D in and (is_typed a C) b

  unfoldable pub individual_has : Individual → Concept → Bool
  individual_has a D = any (valid_concepts 𝓒.counts) (typed_to a D)

  -- a fact joins a to b by S, forwards or backwards
  unfoldable pub joins_by : Individual → SignedRole → Individual → RoleName × Individual × Individual → Bool
  joins_by a S b f =
      let x = and (same_individual f.2 b) (role_le 𝓒 (forward f.0) S) in
      let y = and (same_individual f.1 b) (role_le 𝓒 (forward f.0) (inverse S)) in
      let z = and (same_individual f.2 a) y in
      or (and (same_individual f.1 a) x) z

  unfoldable pub fact_edge : Individual → SignedRole → Individual → Bool
  fact_edge a S b = any 𝓒.role-facts (joins_by a S b)

  -- a row that ends in R may go on with S
  unfoldable pub follows : SignedRole → SignedRole → Bool
  follows R S = let b = concept_le 𝓒 (Exists (inverse R)) (Exists S) in or (same_role R S) b

  -- a signed role by which some unnamed element ends
  unfoldable pub alive_by : SignedRole → Individual → SignedRole → Bool
  alive_by R a Q = let b = closed same_role (signed_roles 𝓒.counts) follows Q R in and (individual_has a (Exists Q)) b

  unfoldable pub alive_at : SignedRole → Individual → Bool
  alive_at R a = any (signed_roles 𝓒.counts) (alive_by R a)

  unfoldable pub alive : SignedRole → Bool
  alive R = any (declared_individuals 𝓒.counts) (alive_at R)

  -- a concept exclusion broken at an individual, or at unnamed elements that end in R
  unfoldable pub clash_at : Concept × Concept → Individual → Bool
  clash_at p a = let b = individual_has a p.1 in and (individual_has a p.0) b

  unfoldable pub clash_under : Concept × Concept → SignedRole → Bool
  clash_under p R =
      let c = alive R in
      let b = and (concept_le 𝓒 (Exists (inverse R)) p.1) c in
      and (concept_le 𝓒 (Exists (inverse R)) p.0) b

  unfoldable pub concept_clash : Concept × Concept → Bool
  concept_clash p = let b = any (signed_roles 𝓒.counts) (clash_under p) in or (any (declared_individuals 𝓒.counts) (clash_at p)) b

  -- a role exclusion broken at a pair joined by a fact, or at an element and its child by Q
  unfoldable pub clash_between : SignedRole × SignedRole → Individual × Individual → Bool
  clash_between p q = let b = fact_edge q.0 p.1 q.1 in and (fact_edge q.0 p.0 q.1) b

  unfoldable pub clash_below : SignedRole × SignedRole → SignedRole → Bool
  clash_below p Q =
      let c = alive Q in
      let b = and (role_le 𝓒 Q p.1) c in
      and (role_le 𝓒 Q p.0) b

  unfoldable pub role_clash : SignedRole × SignedRole → Bool
  role_clash p =
      let c = any (signed_roles 𝓒.counts) (clash_below (inverse p.0, inverse p.1)) in
      let b = or (any (signed_roles 𝓒.counts) (clash_below p)) c in
      or (any (pairs (declared_individuals 𝓒.counts) (declared_individuals 𝓒.counts)) (clash_between p)) b

  unfoldable pub clash : Bool
  clash = let b = any 𝓒.role-exclusions role_clash in or (any 𝓒.concept-exclusions concept_clash) b

  -- the individuals' walk over a closed sheet
  unfoldable pub marked : (State → State → Concept → Bool) → Individual → State → State → Concept → Bool
  marked f a s t B = let b = individual_has a B in and (f s t B) b

  unfoldable pub stride : (State → State → Concept → Bool) → Individual × State → Individual × State → Bool
  stride f p q =
      let s = p.1 in
      let t = q.1 in
      let x = any 𝓒.steps (leads s t (role_letter (λ S. fact_edge p.0 S q.0))) in
      let y = any (valid_concepts 𝓒.counts) (marked f p.0 s t) in
      let z = and (same_individual p.0 q.0) (or (same_state s t) y) in
      or z x

  unfoldable pub walks : (State → State → Concept → Bool) → Individual × State → Individual × State → Bool
  walks f = closed (both same_individual same_state) (pairs (declared_individuals 𝓒.counts) (declared_states 𝓒.counts)) (stride f)

  unfoldable pub reaches_in : (State → State → Concept → Bool) → Individual → Individual → State → Bool
  reaches_in f a b t = walks f (a, 𝓒.counts.start) (b, t)

  unfoldable pub reaches : (State → State → Concept → Bool) → Individual → Individual → Bool
  reaches f a b = any 𝓒.finals (reaches_in f a b)

  -- the walk leads out: to a final state, or to an individual below which the way leads on to one
  unfoldable pub is_final : State → Bool
  is_final s = any 𝓒.finals (same_state s)

  abbrev pub leads_on : (State → State → Concept → Bool) → State → Concept → Bool
  leads_on f = onward (lite 𝓒) (lite_tests 𝓒) f is_final

  unfoldable pub goes_on : (State → Concept → Bool) → Individual → State → Concept → Bool
  goes_on g a s B = let b = g s B in and (individual_has a B) b

  unfoldable pub out_from : (State → State → Concept → Bool) → (State → Concept → Bool) → Individual → Individual × State → Bool
  out_from f g a p =
      let o = or (is_final p.1) (any (valid_concepts 𝓒.counts) (goes_on g p.0 p.1)) in
      and (walks f (a, 𝓒.counts.start) p) o

  unfoldable pub leaves : (State → State → Concept → Bool) → Individual → Bool
  leaves f a = any (pairs (declared_individuals 𝓒.counts) (declared_states 𝓒.counts)) (out_from f (leads_on f) a)

  abbrev pub is_yes : (State → State → Concept → Bool) → Ask → Bool
  is_yes f (Pair a b) = reaches f a b
  is_yes f (From a) = leaves f a

-- Laws of R ≤ S and C ≤ D: each is the smallest relation of its kind, and can be computed.
use Rattle.std.specs.Prelude.{◌↔◌, Bool, [], IsTrue}
use Rattle.kinds.specs.declared.SignedRole.{SignedRole}
use Rattle.kinds.specs.declared.Concept.{Concept}
use Rattle.kinds.specs.declared.Concept.TheVariants.{Exists}
use Rattle.kinds.specs.Kinds.{inverse, SignedDeclared, ConceptDeclared}
use Rattle.laws.specs.Member.{◌∈◌}
use Rattle.meaning.specs.Collection.{Collection, NumbersDeclared}
use Rattle.meaning.specs.Orders.{RoleLe, ConceptLe}

-- a reflexive and transitive relation that holds every role rule and, with R ≤ S, also inverse of
-- R ≤ inverse of S
pub record OrdersRoles (𝓒 : Collection) (f : SignedRole → SignedRole → Type 0) : Type 0 where
  pub reflexive : (R : SignedRole) → f R R
  pub transitive : (R S U : SignedRole) → f R S → f S U → f R U
  pub rules : (R S : SignedRole) → (R, S) ∈ 𝓒.role-rules → f R S
  pub inverses : (R S : SignedRole) → f R S → f (inverse R) (inverse S)

-- a reflexive and transitive relation that holds every concept rule, and ∃R ≤ ∃S whenever R ≤ S
pub record OrdersConcepts (𝓒 : Collection) (f : Concept → Concept → Type 0) : Type 0 where
  pub reflexive : (C : Concept) → f C C
  pub transitive : (C D E : Concept) → f C D → f D E → f C E
  pub rules : (C D : Concept) → (C, D) ∈ 𝓒.concept-rules → f C D
  pub neighbours : (R S : SignedRole) → RoleLe 𝓒 R S → f (Exists R) (Exists S)

-- R ≤ S is such a relation, and so is C ≤ D
abbrev pub RolesOrdered : Type 0
RolesOrdered = (𝓒 : Collection) → OrdersRoles 𝓒 (RoleLe 𝓒)

abbrev pub ConceptsOrdered : Type 0
ConceptsOrdered = (𝓒 : Collection) → OrdersConcepts 𝓒 (ConceptLe 𝓒)

-- and the smallest: what it holds, each such relation f holds
abbrev pub RolesLeast : (SignedRole → SignedRole → Type 0) → Type 0
RolesLeast f = (𝓒 : Collection) → OrdersRoles 𝓒 f → (R S : SignedRole) → RoleLe 𝓒 R S → f R S

abbrev pub ConceptsLeast : (Concept → Concept → Type 0) → Type 0
ConceptsLeast f = (𝓒 : Collection) → OrdersConcepts 𝓒 f → (C D : Concept) → ConceptLe 𝓒 C D
    → f C D

-- only rules derive: without its exclusions a collection has the same two orders
abbrev pub plain : Collection → Collection
plain 𝓒 = record 𝓒 { concept-exclusions = []; role-exclusions = [] }

abbrev pub OnlyRulesDerive : Type 0
OnlyRulesDerive = (𝓒 : Collection)
    → ((R S : SignedRole) → RoleLe 𝓒 R S ↔ RoleLe (plain 𝓒) R S)
    × ((C D : Concept) → ConceptLe 𝓒 C D ↔ ConceptLe (plain 𝓒) C D)

-- R ≤ S exactly when inverse of R ≤ inverse of S
abbrev pub InversesOrdered : Type 0
InversesOrdered = (𝓒 : Collection) (R S : SignedRole)
    → RoleLe 𝓒 R S ↔ RoleLe 𝓒 (inverse R) (inverse S)

-- a test computes a relation: what it says is so, whatever is declared, and of what is declared it
-- says all that is so
pub record Computes {A : Type 0} (IsDeclared : A → Type 0) (f : A → A → Type 0)
    (test : A → A → Bool) : Type 0 where
  pub only : (x y : A) → IsTrue (test x y) → f x y
  pub each : (x y : A) → IsDeclared x → f x y → IsTrue (test x y)

-- there is one for each
abbrev pub RolesComputed : Type 0
RolesComputed = (𝓒 : Collection) → NumbersDeclared 𝓒
    → (test : SignedRole → SignedRole → Bool)
    × Computes (SignedDeclared 𝓒.counts) (RoleLe 𝓒) test

abbrev pub ConceptsComputed : Type 0
ConceptsComputed = (𝓒 : Collection) → NumbersDeclared 𝓒
    → (test : Concept → Concept → Bool)
    × Computes (ConceptDeclared 𝓒.counts) (ConceptLe 𝓒) test

-- Laws of deed numbers: nothing that is decided depends on them.
use Rattle.std.specs.Prelude.{◌≡◌, ◌↔◌, List, ℕ}
use Rattle.kinds.specs.declared.Counts.{Counts}
use Rattle.kinds.specs.declared.Answer.{Answer}
use Rattle.meaning.specs.Lent.{Tables, Call, collection, field, concept_fact, concept_fact_width, role_fact, role_fact_width}
use Rattle.meaning.specs.Outcome.{Outcome}
use Rattle.meaning.specs.Demands.{Larger}
use Rattle.meaning.specs.Deeds.{SameButDeeds, lent_with}

-- no outcome does: of two calls that differ only in them each has the outcome of the other, refused
-- or not: answer, count and every byte of both areas
abbrev pub DeedsDecideNothing : Type 0
DeedsDecideNothing = (c : Call) (t : Tables) → SameButDeeds c.tables t
    → (r : Answer) (x y : List ℕ) → Outcome c r x y ↔ Outcome (lent_with c t) r x y

-- one collection is meant by both
abbrev pub DeedsMeanNothing : Type 0
DeedsMeanNothing = (c : Counts) (t u : Tables) → SameButDeeds t u
    → collection c t ≡ collection c u

-- two facts that differ only there, in one table or two, mean one thing
abbrev pub ConceptFactsMeanOne : Type 0
ConceptFactsMeanOne = (t u : List ℕ) (k l : ℕ)
    → field concept_fact_width t 0 k ≡ field concept_fact_width u 0 l
    → field concept_fact_width t 1 k ≡ field concept_fact_width u 1 l
    → concept_fact t k ≡ concept_fact u l

abbrev pub RoleFactsMeanOne : Type 0
RoleFactsMeanOne = (t u : List ℕ) (k l : ℕ)
    → field role_fact_width t 0 k ≡ field role_fact_width u 0 l
    → field role_fact_width t 1 k ≡ field role_fact_width u 1 l
    → field role_fact_width t 2 k ≡ field role_fact_width u 2 l
    → role_fact t k ≡ role_fact u l

-- growth compares facts without them: whatever is larger than the one is larger than the other, and
-- what the one is larger than, the other is
abbrev pub GrowthWithoutDeeds : Type 0
GrowthWithoutDeeds = (c d : Counts) (t t' u u' : Tables) → SameButDeeds t t' → SameButDeeds u u'
    → Larger (collection c t) (collection d u) → Larger (collection c t') (collection d u')

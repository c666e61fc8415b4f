-- The contract of `elements` leaves one answer of the types it fills.
use Rattle.std.specs.Prelude.{ℕ, ◌≡◌, ◌<◌, ◌^◌, Bool, List}
use Rattle.kinds.specs.Kinds.{most_individuals}
use Rattle.laws.specs.Truth.{test-once}
use Rattle.sets.specs.Bits.{has, role_width}
use Rattle.sets.specs.Rows.{concept_marks, ConceptRows}
use Rattle.sets.specs.declared.concepts.ConceptSet.{ConceptSet}
use Rattle.sets.proofs.Once.{concept_rows_once, below-once, set-once}
use Rattle.elements.specs.Concepts.{Concepts, Gathers}
use Rattle.elements.specs.Generating.{AreGenerating}

-- THEOREM: of two tables and one order there is one set of concepts for each individual
pub concepts-once : {cf rf : List ℕ} {order : ℕ → ℕ → Bool} (m n : List ConceptSet) → Concepts cf rf order (concept_marks m)
    → Concepts cf rf order (concept_marks n) → ConceptRows most_individuals m → ConceptRows most_individuals n → m ≡ n
concepts-once m n o p s u =
    concept_rows_once most_individuals m n s u
    (λ i j hi hj. test-once (concept_marks m i j) (concept_marks n i j) (o.at i j hi hj) (p.at i j hi hj))

-- THEOREM: and one set of generating roles
pub generating-once : {concepts order : ℕ → ℕ → Bool} (m n : ℕ) → AreGenerating concepts order (has m)
    → AreGenerating concepts order (has n)
    → m < 2 ^ role_width → n < 2 ^ role_width → m ≡ n
generating-once m n o p hm hn = below-once role_width m n hm hn (λ i hi. test-once (has m i) (has n i) (o.at i hi) (p.at i hi))

-- THEOREM: and one set of all that the rows have
pub gathered-once : {h : ℕ} {m : ℕ → ℕ → Bool} (n r : ℕ) → Gathers h m n → Gathers h m r → n ≡ r
gathered-once n r g s = set-once _ n r g.member s.member

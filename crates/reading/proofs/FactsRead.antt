-- The facts of the collection that frames type are the facts of the frames, in their order.
use Rattle.std.specs.Prelude.{ℕ, zero, suc, ◌+◌, ◌*◌, ◌/◌, ◌≡◌, List, [], ◌∷◌, ◌++◌, Option, None, map, cond, count_by, length}
use Rattle.std.proofs.Common.{refl, sym, ap, arith, add-one}
use Rattle.std.proofs.lemmas.List.Sums.{sum_by-cons}
use Rattle.kinds.specs.declared.ConceptName.{ConceptName}
use Rattle.kinds.specs.declared.RoleName.{RoleName}
use Rattle.kinds.specs.declared.Individual.{Individual}
use Rattle.laws.specs.Numbers.{upto, numbered}
use Rattle.meaning.specs.Lent.{concept_fact_width, role_fact_width, records, concept_fact, role_fact}
use Rattle.salvage.specs.declared.Typed.{Typed}
use Rattle.salvage.specs.declared.Typed.TheVariants as typed
use Rattle.salvage.specs.Facts.{Fact, concept_facts_in, role_facts_in, facts_among, entries_by, is_concept_fact, is_role_fact}
use Rattle.frames.specs.declared.Frame.{Frame}
use Rattle.frames.specs.declared.Frame.TheVariants.{ConceptFact, RoleFact, ListedMark}
use Rattle.reading.specs.Salvage.{fact_in}
use Rattle.reading.specs.Tables.{concept_facts, role_facts, table, list_in, typed_lines}
use Rattle.reading.proofs.RetainedLaws.{IsEnded}

-- the records of a table, one more at its front
module _ {A : Type 0} where
  shifted : (f g : ℕ → A) → ((k : ℕ) → f (suc k) ≡ g k) → (n i : ℕ) → map f (upto n (suc i)) ≡ map g (upto n i)
  unfolding upto
  shifted f g h zero i = refl
  shifted f g h (suc n) i = rw (h i) (ap (λ (l : List A). g i ∷ l) (shifted f g h n (suc i)))

  numbered-front : (f g : ℕ → A) → ((k : ℕ) → f (suc k) ≡ g k) → (n : ℕ) → numbered f (suc n) ≡ f 0 ∷ numbered g n
  unfolding numbered upto
  numbered-front f g h n = ap (λ (l : List A). f 0 ∷ l) (shifted f g h n 0)

concept-more : (A a n : ℕ) (t : List ℕ) (k : ℕ) → concept_fact (A ∷ a ∷ n ∷ t) (suc k) ≡ concept_fact t k
concept-more A a n t k =
    let e : 3 * suc k + 0 ≡ suc (suc (suc (3 * k + 0))) = omega arith in
    let d : 3 * suc k + 1 ≡ suc (suc (suc (3 * k + 1))) = omega arith in
    rw (e, d) refl

role-more : (r a b n : ℕ) (t : List ℕ) (k : ℕ) → role_fact (r ∷ a ∷ b ∷ n ∷ t) (suc k) ≡ role_fact t k
role-more r a b n t k =
    let c : 4 * suc k + 0 ≡ suc (suc (suc (suc (4 * k + 0)))) = omega arith in
    let d : 4 * suc k + 1 ≡ suc (suc (suc (suc (4 * k + 1)))) = omega arith in
    let e : 4 * suc k + 2 ≡ suc (suc (suc (suc (4 * k + 2)))) = omega arith in
    rw (c, d, e) refl

concepts-front : (A a n : ℕ) (t : List ℕ)
    → records concept_fact_width concept_fact (A ∷ a ∷ n ∷ t) ≡ concept_fact (A ∷ a ∷ n ∷ t) 0 ∷ records concept_fact_width concept_fact t
unfolding records
concepts-front A a n t =
    let e : length (A ∷ a ∷ n ∷ t) / 3 ≡ length t / 3 + 1 = omega arith in
    rw (e, add-one (length t / 3))
    (numbered-front (concept_fact (A ∷ a ∷ n ∷ t)) (concept_fact t) (concept-more A a n t) (length t / 3))

roles-front : (r a b n : ℕ) (t : List ℕ)
    → records role_fact_width role_fact (r ∷ a ∷ b ∷ n ∷ t) ≡ role_fact (r ∷ a ∷ b ∷ n ∷ t) 0 ∷ records role_fact_width role_fact t
unfolding records
roles-front r a b n t =
    let e : length (r ∷ a ∷ b ∷ n ∷ t) / 4 ≡ length t / 4 + 1 = omega arith in
    rw (e, add-one (length t / 4))
    (numbered-front (role_fact (r ∷ a ∷ b ∷ n ∷ t)) (role_fact t) (role-more r a b n t) (length t / 4))

none-concepts : records concept_fact_width concept_fact [] ≡ []
unfolding records numbered upto
none-concepts = refl

none-roles : records role_fact_width role_fact [] ≡ []
unfolding records numbered upto
none-roles = refl

abbrev pub facts_of : List Frame → List Fact
facts_of fs = facts_among (map fact_in fs)

pub concepts-read : (fs : List Frame) → concept_facts_in (facts_of fs) ≡ records concept_fact_width concept_fact (table concept_facts fs)
unfolding concept_facts_in table
concepts-read [] = sym none-concepts
concepts-read (ConceptFact A a n ∷ fs) =
    rw (concepts-front A.0 a.0 n.0 (table concept_facts fs))
    (ap (λ (l : List (ConceptName × Individual)). (A, a) ∷ l) (concepts-read fs))
concepts-read (RoleFact r a b n ∷ fs) = concepts-read fs
concepts-read (f ∷ fs) = concepts-read fs

pub roles-read : (fs : List Frame) → role_facts_in (facts_of fs) ≡ records role_fact_width role_fact (table role_facts fs)
unfolding role_facts_in table
roles-read [] = sym none-roles
roles-read (RoleFact r a b n ∷ fs) =
    rw (roles-front r.0 a.0 b.0 n.0 (table role_facts fs))
    (ap (λ (l : List (RoleName × Individual × Individual)). (r, a, b) ∷ l) (roles-read fs))
roles-read (ConceptFact A a n ∷ fs) = roles-read fs
roles-read (f ∷ fs) = roles-read fs

-- what the lines type names each of them
concept-counted : (x : Typed) (l : List Typed)
    → count_by is_concept_fact (x ∷ l) ≡ cond (is_concept_fact x) 1 0 + count_by is_concept_fact l
concept-counted x l = sum_by-cons (λ y. cond (is_concept_fact y) 1 0) x l

role-counted : (x : Typed) (l : List Typed)
    → count_by is_role_fact (x ∷ l) ≡ cond (is_role_fact x) 1 0 + count_by is_role_fact l
role-counted x l = sum_by-cons (λ y. cond (is_role_fact y) 1 0) x l

pub concepts-named : (fs : List Frame) → count_by is_concept_fact (typed_lines fs) ≡ length (concept_facts_in (facts_of fs))
unfolding typed_lines concept_facts_in
concepts-named [] = refl
concepts-named (ListedMark n s t B ∷ fs) = concepts-named fs
concepts-named (ConceptFact A a n ∷ fs) = omega (arith, concept-counted typed.ConceptFact (typed_lines fs), concepts-named fs)
concepts-named (RoleFact r a b n ∷ fs) = omega (arith, concept-counted typed.RoleFact (typed_lines fs), concepts-named fs)
concepts-named (f ∷ fs) = omega (arith, concept-counted typed.Other (typed_lines fs), concepts-named fs)

pub roles-named : (fs : List Frame) → count_by is_role_fact (typed_lines fs) ≡ length (role_facts_in (facts_of fs))
unfolding typed_lines role_facts_in
roles-named [] = refl
roles-named (ListedMark n s t B ∷ fs) = roles-named fs
roles-named (ConceptFact A a n ∷ fs) = omega (arith, role-counted typed.ConceptFact (typed_lines fs), roles-named fs)
roles-named (RoleFact r a b n ∷ fs) = omega (arith, role-counted typed.RoleFact (typed_lines fs), roles-named fs)
roles-named (f ∷ fs) = omega (arith, role-counted typed.Other (typed_lines fs), roles-named fs)

-- and makes the entries of the frames of them, up to the list
all-listed : (fs : List Frame) → typed_lines fs ≡ [] → map (λ entry. None) (list_in fs) ≡ map fact_in fs
unfolding typed_lines list_in
all-listed [] e = refl
all-listed (ListedMark n s t B ∷ fs) e = ap (λ (l : List (Option Fact)). None ∷ l) (all-listed fs e)
all-listed (f ∷ fs) e = absurd cc

pub entries-read : (fs : List Frame) → IsEnded fs
    → entries_by (typed_lines fs) (concept_facts_in (facts_of fs)) (role_facts_in (facts_of fs)) ++ map (λ entry. None) (list_in fs)
    ≡ map fact_in fs
unfolding typed_lines list_in concept_facts_in role_facts_in
entries-read [] e = refl
entries-read (ListedMark n s t B ∷ fs) e = rw e (ap (λ (l : List (Option Fact)). None ∷ l) (all-listed fs e))
entries-read (ConceptFact A a n ∷ fs) e = ap (λ (l : List (Option Fact)). fact_in (ConceptFact A a n) ∷ l) (entries-read fs e)
entries-read (RoleFact r a b n ∷ fs) e = ap (λ (l : List (Option Fact)). fact_in (RoleFact r a b n) ∷ l) (entries-read fs e)
entries-read (f ∷ fs) e = ap (λ (l : List (Option Fact)). None ∷ l) (entries-read fs e)

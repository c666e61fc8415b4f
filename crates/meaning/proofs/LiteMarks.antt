-- How many marks the rounds of a collection make, and how many stand in the area that holds its sheet.
use Rattle.std.specs.Prelude.{◌≡◌, refl, Bool, true, false, List, ◌∷◌, T, eqb, ℕ, zero, suc, ◌+◌, ◌*◌, ◌≤◌, length, sum, map, leb}
use Rattle.std.proofs.Common.{sym, ap, ◌∙◌, arith, eqb→eq, le→leb}
use Rattle.std.proofs.Math.Dec.{eqb_refl}
use Rattle.std.proofs.Math.Decide.{dec_lt}
use Rattle.std.proofs.lemmas.List.{length-map}
use Rattle.kinds.specs.declared.State.{State}
use Rattle.kinds.specs.declared.Concept.{Concept}
use Rattle.kinds.specs.declared.Concept.TheVariants.{Name, Exists}
use Rattle.kinds.specs.declared.ConceptName.{ConceptName}
use Rattle.kinds.specs.declared.SignedRole.{SignedRole}
use Rattle.kinds.specs.Kinds.{concept_name, signed, state}
use Rattle.laws.specs.Member.{◌∈◌, map-in, map-out}
use Rattle.laws.specs.Numbers.{upto, upto-in, numbered}
use Rattle.laws.specs.Once.{AtMostOne}
use Rattle.laws.specs.Search.{and_both, pick}
use Rattle.laws.specs.Select.{select, select_in, select-out, rises_from, rising}
use Rattle.laws.specs.Distinct.{Distinct, distinct-both, distinct-long, distinct-map, distinct-numbered, rising-distinct}
use Rattle.meaning.specs.Collection.{Collection, WellFormed}
use Rattle.theory.specs.Sheet.{Needed}
use Rattle.theory.specs.Marks.{Stands, Adds, RoundCounts}
use Rattle.meaning.specs.Lite.{signed_roles, valid_concepts, declared_states, lite}
use Rattle.meaning.specs.Layout.{place, place_count, bit_in, Lays, Ones, Standing}
use Rattle.meaning.specs.Demands.{most_rounds}
use Rattle.meaning.specs.LawsOfSheet.{Marked}
use Rattle.theory.specs.LawsOfMarks.{Countable}
use Rattle.meaning.specs.LawsOfMarks.{first_marks}
use Rattle.meaning.proofs.Declared.{concepts-count, states-count, lite-sane}
use Rattle.meaning.proofs.LiteTests.{lite_tests, lite-decides}
use Rattle.meaning.proofs.LayoutLaws.{place-once, bit_past}
use Rattle.meaning.proofs.RoundLaws.{marked-valid}
use Rattle.theory.proofs.MarksLaws.{adds-most, stands-sum, counts-make-sheet, counts-most}

-- one number of marks stands in an area
ones-long : (area x y : List ℕ) → Ones area x → Ones area y → length x ≡ length y
ones-long area x y a b =
    distinct-long x y (rising-distinct x a.rising) (rising-distinct y b.rising) (λ p i. (b.ones p).0 ((a.ones p).1 i)) (λ p i. (a.ones p).0 ((b.ones p).1 i))

pub standing-once : (area : List ℕ) → AtMostOne (Standing area)
standing-once area m k a b = sym a.2 ∙ ones-long area a.0 b.0 a.1 b.1 ∙ b.2

-- the numbers from one on that pass rise
rises : (f : ℕ → Bool) (n i low : ℕ) → low ≤ i → T (rises_from low (select (upto n i) f))
unfolding select upto rises_from
rises f zero i low h = tt
rises f (suc n) i low h = side (f i) (rises f n (suc i) low (omega arith)) (rises f n (suc i) (suc i) (omega arith))
  where
    side : (b : Bool) → T (rises_from low (select (upto n (suc i)) f)) → T (rises_from (suc i) (select (upto n (suc i)) f))
        → T (rises_from low (pick b (i ∷ select (upto n (suc i)) f) (select (upto n (suc i)) f)))
    side true p q = and_both (leb low i) (rises_from (suc i) (select (upto n (suc i)) f)) (le→leb low i h) q
    side false p q = p

-- the name of a concept, and its role
abbrev name_in : Concept → ConceptName
name_in (Name A) = A
name_in (Exists R) = concept_name 0

abbrev role_in : Concept → SignedRole
role_in (Name A) = signed 0
role_in (Exists R) = R

abbrev sort_of : Concept → ℕ
sort_of (Name A) = 0
sort_of (Exists R) = 1

module _ (𝓒 : Collection) where
  concepts-once : Distinct (valid_concepts 𝓒.counts)
  unfolding valid_concepts signed_roles
  concepts-once =
      distinct-both (map Name (numbered concept_name 𝓒.counts.names)) (map Exists (numbered signed (2 * 𝓒.counts.roles)))
      (distinct-map Name (numbered concept_name 𝓒.counts.names) (λ A B i j e. ap name_in e) (distinct-numbered concept_name 𝓒.counts.names (λ i j e. ap (λ (A : ConceptName). A.0) e)))
      (distinct-map Exists (numbered signed (2 * 𝓒.counts.roles)) (λ R S i j e. ap role_in e) (distinct-numbered signed (2 * 𝓒.counts.roles) (λ i j e. ap (λ (R : SignedRole). R.0) e)))
      (λ C i j.
      let w = map-out Name (numbered concept_name 𝓒.counts.names) i in
      let v = map-out Exists (numbered signed (2 * 𝓒.counts.roles)) j in
      let e : 0 ≡ 1 = ap sort_of (sym w.2 ∙ v.2) in
      omega arith)

  states-once : Distinct (declared_states 𝓒.counts)
  unfolding declared_states
  states-once = distinct-numbered state 𝓒.counts.states (λ i j e. ap (λ (s : State). s.0) e)

module _ (𝓒 : Collection) (ok : WellFormed 𝓒) where
  -- THEOREM: the sheet of a collection is countable
  pub lite-countable : Countable (lite 𝓒)
  lite-countable = record {
    tests = lite_tests 𝓒;
    decide = lite-decides 𝓒 ok.numbers;
    sane = lite-sane 𝓒 ok.numbers;
    states-once = states-once 𝓒;
    concepts-once = concepts-once 𝓒;
  }

  -- THEOREM: what the rounds added and states × concepts make the number of marks standing in the sheet
  pub lite-make : (n : ℕ) (counts : List ℕ) (m : ℕ) → RoundCounts (lite 𝓒) n counts → Stands (lite 𝓒) n m → m ≡ sum counts + first_marks 𝓒.counts
  lite-make n counts m r s =
      let e = counts-make-sheet (lite 𝓒) lite-countable n counts m r s in
      rw (states-count 𝓒.counts, concepts-count 𝓒.counts) at e

  -- THEOREM: no round adds more marks than concepts × states × (states − 1)
  pub lite-few : (n m : ℕ) → Adds (lite 𝓒) n m → m ≤ most_rounds 𝓒.counts
  lite-few n m a =
      let e = adds-most (lite 𝓒) lite-countable n m a in
      rw (states-count 𝓒.counts, concepts-count 𝓒.counts) at e

  -- THEOREM: and there are no more counts than that
  pub lite-most : (n : ℕ) → Needed (lite 𝓒) n → (k : ℕ) → k ≤ n → (counts : List ℕ) → RoundCounts (lite 𝓒) k counts → length counts ≤ most_rounds 𝓒.counts
  lite-most n needed k h counts r =
      let e = counts-most (lite 𝓒) lite-countable n needed k h counts r in
      rw (states-count 𝓒.counts, concepts-count 𝓒.counts) at e

  -- THEOREM: and so many stand in an area that holds the sheet
  module _ (n : ℕ) (area : List ℕ) (lays : Lays (Marked 𝓒 n) area) where
    one_at : ℕ → Bool
    one_at p = eqb (bit_in area p) 1

    places : List ℕ
    places = select (upto place_count 0) one_at

    ones : Ones area places
    unfolding places one_at
    ones = record { rising = rising places (rises one_at place_count 0 0 (omega arith)); ones = λ p. (into p, λ i. eqb→eq (bit_in area p) 1 ((select-out (upto place_count 0) one_at i).1)) }
      where
        into : (p : ℕ) → bit_in area p ≡ 1 → p ∈ places
        into p e =
            elim (dec_lt p place_count) [
              | yes l ↦ select_in (upto place_count 0) one_at (upto-in place_count 0 p (omega arith) (omega arith)) (rw e (eqb_refl 1))
              | no g ↦ let z = bit_past area p lays.long (omega arith) in absurd (omega (arith, e, z))
            ]

    mark_place : State × State × Concept → ℕ
    mark_place m = place m.0 m.1 m.2

    pub sheet-standing : (m : ℕ) → Stands (lite 𝓒) n m → Standing area m
    unfolding mark_place
    sheet-standing m s = (places, ones, long ∙ (length-map s.marks mark_place ∙ s.many))
      where
        one : (p q : State × State × Concept) → p ∈ s.marks → q ∈ s.marks → mark_place p ≡ mark_place q → p ≡ q
        one (s₁, t₁, B₁) (s₂, t₂, B₂) i j e =
            let a = marked-valid 𝓒 n s₁ t₁ B₁ ((s.are s₁ t₁ B₁).0 i) in
            let b = marked-valid 𝓒 n s₂ t₂ B₂ ((s.are s₂ t₂ B₂).0 j) in
            let w = place-once 𝓒.counts ok.counts s₁ t₁ B₁ s₂ t₂ B₂ a.to a.of b.to b.of e in
            rw (w.0, w.1, w.2) refl

        long : length places ≡ length (map mark_place s.marks)
        long = distinct-long places (map mark_place s.marks) (rising-distinct places ones.rising) (distinct-map mark_place s.marks one s.once) to from
          where
            to : (p : ℕ) → p ∈ places → p ∈ map mark_place s.marks
            to p i = let w = (lays.marks p).0 ((ones.ones p).1 i) in rw (← w.4) (map-in mark_place ((s.are w.0 w.1 w.2).1 w.3))

            from : (p : ℕ) → p ∈ map mark_place s.marks → p ∈ places
            from p i =
                let w = map-out mark_place s.marks i in
                (ones.ones p).0 ((lays.marks p).1 (w.0.0, w.0.1, w.0.2, (s.are w.0.0 w.0.1 w.0.2).0 w.1, sym w.2))

    pub area-stands : (counts : List ℕ) → RoundCounts (lite 𝓒) n counts → Standing area (sum counts + first_marks 𝓒.counts)
    area-stands counts r =
        let s = stands-sum (lite 𝓒) lite-countable n counts r in
        let e = rw (states-count 𝓒.counts, concepts-count 𝓒.counts) at s in
        sheet-standing _ e

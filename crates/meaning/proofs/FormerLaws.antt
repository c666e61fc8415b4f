-- An area of 16 states and the area of today that it is moved to hold the same marks.
use Rattle.std.specs.Prelude.{◌≡◌, refl, ◌↔◌, Bool, true, false, List, ℕ, ◌-◌, ◌/◌, ◌%◌, ◌≤◌, ◌<◌, T, ltb, eqb, if◌then◌else◌}
use Rattle.std.proofs.Common.{inl, inr, ⊎_elim, arith, ltb→lt, lt→ltb, eqb→eq, ltb-false}
use Rattle.std.proofs.Math.Dec.{eqb_refl}
use Rattle.std.proofs.Math.Decide.{dec_lt}
use Rattle.std.proofs.Math.Nat.{mod-lt, div-lt_iff_lt-mul, mul_assoc}
use Rattle.std.proofs.lemmas.Nat.Bits.{bit_at-lt}
use Rattle.kinds.specs.declared.State.{State}
use Rattle.kinds.specs.declared.Concept.{Concept}
use Rattle.kinds.specs.declared.Concept.TheVariants.{Name, Exists}
use Rattle.kinds.specs.Kinds.{most_states, base, concept_name, signed, number_of, concept_of, CountsFit, ConceptDeclared}
use Rattle.laws.specs.Search.{and, and_left, and_right, and_both}
use Rattle.meaning.specs.Collection.{Collection, WellFormed}
use Rattle.meaning.specs.Layout.{concept_numbers, place_by, place, place_count_by, bit_in, IsPlaceBy, LaysBy}
use Rattle.meaning.specs.LawsOfSheet.{Marked}
use Rattle.meaning.specs.Former.{former_states, former_place, IsArea, most_counts, Placed, StandsIn, IsMoved, MarksAbove, IsFormer}
use Rattle.meaning.specs.Former.{MovedThere, MovedOnce, MovedSame, BackSays, BackOnce, MovedExactly, HeldIsMoved, HeldIsMovedBack, FormerThere, MovedAfterRounds, BackAfterRounds}
use Rattle.meaning.proofs.CalculateLaws.{sheet-lays-by}
use Rattle.meaning.proofs.LayoutLaws.{bit_past_by, same_bit, lays-once-by, lays-once, state_of, next_of, concept_at, place_of, concept_declared, concept_declared-in, concept_declared-out, number-below, place-once-by, tested-lays, same-lays}
use Rattle.meaning.proofs.RoundLaws.{marked-valid}

fits : CountsFit most_counts
fits = record { names = omega arith; roles = omega arith; individuals = omega arith; states = omega arith; start = omega arith }

abbrev Sheet : Type 1
Sheet = State → State → Concept → Type 0

turned : {A B : Type 0} → A ↔ B → B ↔ A
turned e = (e.1, e.0)

-- each place is that of some mark
declared : (n : ℕ) → n < concept_numbers → ConceptDeclared most_counts (concept_of n)
unfolding concept_of
declared n h = by (ltb n base) refl
  where
    by : (b : Bool) → ltb n base ≡ b → ConceptDeclared most_counts (if b then Name (concept_name n) else Exists (signed (n - base)))
    by true e = ltb→lt n base (rw e tt)
    by false e = omega (arith, ltb-false n base e)

module _ (n : ℕ) where
  pub placed : (p : ℕ) → 0 < n → p < place_count_by n → Placed n (state_of n p) (next_of n p) (concept_at p)
  placed p some h = record {
    from = (div-lt_iff_lt-mul some).1 (let e = mul_assoc n n concept_numbers in omega (arith, e));
    to = mod-lt (p / concept_numbers) some;
    of = declared (p % concept_numbers) (omega arith);
  }

  -- each area holds the sheet of the marks that stand in it
  own-lays : 0 < n → (area : List ℕ) → IsArea n area → LaysBy n (StandsIn n area) area
  own-lays some area a = record { long = a.long; bytes = a.bytes; marks = λ p. (to p (dec_lt p (place_count_by n)), from p) }
    where
      to : (p : ℕ) → Dec (p < place_count_by n) → bit_in area p ≡ 1 → IsPlaceBy n (StandsIn n area) p
      to p (yes l) e = (state_of n p, next_of n p, concept_at p, record { placed = placed p some l; one = rw (place_of n p) e }, place_of n p)
      to p (no l) e = let z = bit_past_by n area p a.long (omega arith) in absurd (omega (arith, e, z))

      from : (p : ℕ) → IsPlaceBy n (StandsIn n area) p → bit_in area p ≡ 1
      from p w = let o = w.3.one in rw w.4 at o

  -- and of no other sheet: what stands in an area that holds a sheet is what the sheet has
  standing : (f : Sheet) → ((s t : State) (B : Concept) → f s t B → Placed n s t B) → (area : List ℕ) → LaysBy n f area
      → (s t : State) (B : Concept) → StandsIn n area s t B ↔ f s t B
  standing f low area lays s t B = (
    λ w.
        let v = (lays.marks (place_by n s t B)).0 w.one in
        let k = low v.0 v.1 v.2 v.3 in
        let e = place-once-by most_counts fits n v.0 v.1 v.2 s t B k.to k.of w.placed.to w.placed.of v.4 in
        let m = v.3 in
        rw (e.0, e.1, e.2) at m,
    λ m. record { placed = low s t B m; one = (lays.marks (place_by n s t B)).1 (s, t, B, m, refl) },
  )

  -- whether a mark stands in an area, as a test
  stands : List ℕ → State → State → Concept → Bool
  stands area s t B =
      let d = eqb (bit_in area (place_by n s t B)) 1 in
      let b = and (concept_declared most_counts B) d in
      let a = and (ltb t.0 n) b in
      and (ltb s.0 n) a

  stands-in : (area : List ℕ) (s t : State) (B : Concept) → StandsIn n area s t B → T (stands area s t B)
  unfolding stands
  stands-in area s t B w =
      let p = w.placed in
      and_both (ltb s.0 n) _ (lt→ltb s.0 n p.from)
      (and_both (ltb t.0 n) _ (lt→ltb t.0 n p.to)
      (and_both (concept_declared most_counts B) (eqb (bit_in area (place_by n s t B)) 1) (concept_declared-in most_counts B p.of) (rw w.one (eqb_refl 1))))

  stands-out : (area : List ℕ) (s t : State) (B : Concept) → T (stands area s t B) → StandsIn n area s t B
  unfolding stands
  stands-out area s t B h =
      let d = eqb (bit_in area (place_by n s t B)) 1 in
      let b = and (concept_declared most_counts B) d in
      let a = and (ltb t.0 n) b in
      let g = and_right (ltb s.0 n) a h in
      let k = and_right (ltb t.0 n) b g in
      record {
        placed = record {
          from = ltb→lt s.0 n (and_left (ltb s.0 n) a h);
          to = ltb→lt t.0 n (and_left (ltb t.0 n) b g);
          of = concept_declared-out most_counts B (and_left (concept_declared most_counts B) d k);
        };
        one = eqb→eq (bit_in area (place_by n s t B)) 1 (and_right (concept_declared most_counts B) d k);
      }

  -- an area for m states that holds what stands in one for n, where those are marks of so many states
  there : (m : ℕ) (area : List ℕ) → ((s t : State) (B : Concept) → StandsIn n area s t B → Placed m s t B)
      → (new : List ℕ) × LaysBy m (StandsIn n area) new
  there m area low =
      (_, tested-lays most_counts fits m (StandsIn n area) (stands area) (λ s t B w. let p = low s t B w in (p.from, p.to, p.of)) (stands-in area) (stands-out area))

-- a mark of states below 16 has a place today
pub more : (s t : State) (B : Concept) → Placed former_states s t B → Placed most_states s t B
more s t B p = record { from = (let l = p.from in omega arith); to = (let l = p.to in omega arith); of = p.of }

former : (area : List ℕ) (s t : State) (B : Concept) → StandsIn former_states area s t B → Placed most_states s t B
former area s t B w = more s t B w.placed

-- what stands in the moved area is what stands in the stored one
moved-stands : (stored area : List ℕ) → IsMoved stored area → (s t : State) (B : Concept)
    → StandsIn most_states area s t B ↔ StandsIn former_states stored s t B
moved-stands stored area v = standing most_states (StandsIn former_states stored) (former stored) area v.holds

-- an area of today in which the same stands is the moved one
pub moved-by : (stored area : List ℕ) → IsArea former_states stored → IsArea most_states area
    → ((s t : State) (B : Concept) → StandsIn most_states area s t B ↔ StandsIn former_states stored s t B) → IsMoved stored area
moved-by stored area w a same = record {
  whole = w;
  holds = same-lays most_states (StandsIn most_states area) (StandsIn former_states stored) area same (own-lays most_states (omega arith) area a);
}

pub number_low : (s t : State) (B : Concept) → Placed most_states s t B → number_of B < concept_numbers
number_low s t B p = number-below most_counts fits B p.of

pub moved-there : MovedThere
moved-there stored a = let w = there former_states most_states stored (former stored) in (w.0, record { whole = a; holds = w.1 })

pub moved-once : MovedOnce
moved-once stored x y v w = lays-once (StandsIn former_states stored) x y v.holds w.holds

pub moved-same : MovedSame
moved-same stored area v s t B p =
    let e = moved-stands stored area v s t B in
    same_bit (bit_in area (place s t B)) (bit_in stored (former_place s t B)) (bit_at-lt _ _) (bit_at-lt _ _)
    (λ one. (e.0 (record { placed = more s t B p; one = one })).one) (λ one. (e.1 (record { placed = p; one = one })).one)

pub back-says : BackSays
back-says stored area v =
    same-lays former_states (StandsIn former_states stored) (StandsIn most_states area) stored (λ s t B. turned (moved-stands stored area v s t B))
    (own-lays former_states (omega arith) stored v.whole)

pub back-once : BackOnce
back-once x y area v w = lays-once-by former_states (StandsIn most_states area) x y (back-says x area v) (back-says y area w)

pub moved-exactly : MovedExactly
moved-exactly area a = (to, from)
  where
    to : (stored : List ℕ) × IsMoved stored area → MarksAbove area → ⊥
    to w k =
        let p = ((moved-stands w.0 area w.1 k.s k.t k.B).0 k.stands).placed in
        let l = p.from in
        let m = p.to in
        ⊎_elim (λ h. absurd (omega arith)) (λ h. absurd (omega arith)) k.above

    low : (MarksAbove area → ⊥) → (s t : State) (B : Concept) → StandsIn most_states area s t B → Placed former_states s t B
    low none s t B w = record {
      from = elim (dec_lt s.0 former_states) [
        | yes l ↦ l
        | no g ↦ absurd (none (record { s = s; t = t; B = B; stands = w; above = inl (omega arith) }))
      ];
      to = elim (dec_lt t.0 former_states) [
        | yes l ↦ l
        | no g ↦ absurd (none (record { s = s; t = t; B = B; stands = w; above = inr (omega arith) }))
      ];
      of = w.placed.of;
    }

    from : (MarksAbove area → ⊥) → (stored : List ℕ) × IsMoved stored area
    from none =
        let w = there most_states former_states area (low none) in (
          w.0,
          moved-by w.0 area (record { long = w.1.long; bytes = w.1.bytes }) a
              (λ s t B. turned (standing former_states (StandsIn most_states area) (low none) w.0 w.1 s t B)),
        )

module _ (f : Sheet) where
  pub held-is-moved : HeldIsMoved f
  held-is-moved low stored area h = (
    λ v. same-lays most_states (StandsIn former_states stored) f area (standing former_states f low stored h) v.holds,
    λ l. record {
      whole = record { long = h.long; bytes = h.bytes };
      holds = same-lays most_states f (StandsIn former_states stored) area (λ s t B. turned (standing former_states f low stored h s t B)) l;
    },
  )

  pub held-is-moved-back : HeldIsMovedBack f
  held-is-moved-back low stored area l = (
    λ v. same-lays former_states (StandsIn most_states area) f stored
        (standing most_states f (λ s t B m. more s t B (low s t B m)) area l) (back-says stored area v),
    λ h. (held-is-moved low stored area h).1 l,
  )

-- the marks of a collection of so few states have a place in such an area
marked-former : (𝓒 : Collection) → WellFormed 𝓒 → 𝓒.counts.states ≤ former_states → (n : ℕ) → IsFormer (Marked 𝓒 n)
marked-former 𝓒 ok few n s t B m =
    let v = marked-valid 𝓒 n s t B m in
    let h = v.from in
    let k = v.to in
    record { from = omega arith; to = omega arith; of = of B v.of }
  where
    of : (B : Concept) → ConceptDeclared 𝓒.counts B → ConceptDeclared most_counts B
    of (Name A) d = omega (arith, ok.counts.names)
    of (Exists R) d = omega (arith, ok.counts.roles)

pub former-there : FormerThere
former-there 𝓒 ok few n = (_, sheet-lays-by 𝓒 ok former_states few n)

pub moved-after-rounds : MovedAfterRounds
moved-after-rounds 𝓒 ok few n = held-is-moved (Marked 𝓒 n) (marked-former 𝓒 ok few n)

pub back-after-rounds : BackAfterRounds
back-after-rounds 𝓒 ok few n = held-is-moved-back (Marked 𝓒 n) (marked-former 𝓒 ok few n)

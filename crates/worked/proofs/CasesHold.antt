-- The cases worked on paper hold: a test that the checker computes over the whole table, and what it means.
use Rattle.std.specs.Prelude.{◌≡◌, refl, Bool, true, false, List, [], ◌∷◌, map, ℕ, zero, suc, ◌+◌, ◌<◌, ◌≤◌, ◌⊎◌, T, eqb, leb, length, slice_index}
use Rattle.std.proofs.Common.{arith, inl, inr, leb→le}
use Rattle.std.proofs.Math.Path.{sym}
use Rattle.std.proofs.Math.Dec.{eqb→eq}
use Rattle.kinds.specs.declared.Answer.{Answer}
use Rattle.kinds.specs.declared.Answer.TheVariants.{No, Yes, Contradiction, AllowanceSpent, BadCount, BadTable, BadNumber, BadAsk}
use Rattle.kinds.specs.Kinds.{inverse, number_of, concept_of}
use Rattle.kinds.specs.Answer.{answer_number, answer_count}
use Rattle.laws.specs.Member.{◌∈◌, map-in, map-out}
use Rattle.laws.specs.Search.{and, and_left, and_right, or, or_case, any, every, every-out}
use Rattle.laws.specs.Same.{both}
use Rattle.laws.specs.Truth.{test-and, test-out}
use Rattle.laws.specs.Pairs.{pairs}
use Rattle.laws.specs.Numbers.{upto, numbered}
use Rattle.laws.specs.Select.{select, select_in, select-out, rises_from, rising}
use Rattle.laws.specs.Fixpoint.{memo, fixpoint, stays, new}
use Rattle.laws.specs.Chain.{via, compose, tab, closing}
use Rattle.meaning.specs.Collection.{Collection, WellFormed}
use Rattle.meaning.specs.Lite.{signed_roles, valid_concepts, declared_states, lite}
use Rattle.theory.specs.Sheet.{Mark}
use Rattle.theory.proofs.SheetLaws.{mark-markable}
use Rattle.theory.proofs.Tests.{joins, hangs_to, hangs_from, hangs, round, places, spot_in, spot_out, table, work, after}
use Rattle.meaning.proofs.LiteTests.{role_base, role_le, concept_base, concept_le, lite_tests}
use Rattle.meaning.proofs.Reply.{declared_individuals, fact_types, end_types, is_typed, typed_to, individual_has, joins_by, fact_edge, follows, alive_by, alive_at, alive, clash_at, clash_under, concept_clash, clash_between, clash_below, role_clash, clash, marked, stride, walks, reaches_in, reaches, is_final, goes_on, out_from, leaves}
use Rattle.theory.proofs.OnwardTests.{goes_round, goes_to, goes_down, further, nodes, kept, onward_work}
use Rattle.meaning.specs.Lent.{records, collection, Sound}
use Rattle.meaning.specs.Layout.{place, area_length, bit_in, Lays, Standing}
use Rattle.meaning.proofs.OutcomeExists.{outcome-exists, passes-all, sound-well-formed, holds-sheet}
use Rattle.meaning.proofs.Calculate.{counts_fit, whole, shapes_ok, concepts_declared, roles_declared, concept_fact_declared, role_fact_declared, numbers_declared, numbers_ok, ask_ok, sound_answer, after_clash, after_rounds, sheet_area, area_after, spare_after}
use Rattle.meaning.proofs.CalculateLaws.{sheet-lays, counts-test, shapes-test, numbers-test, ask-test}
use Rattle.theory.specs.Marks.{Stands, Adds, RoundCounts}
use Rattle.theory.proofs.MarksLaws.{counted-once, stands-there, adds-there, one-more}
use Rattle.meaning.proofs.LiteMarks.{standing-once, lite-countable, sheet-standing}
use Rattle.worked.specs.Cases.{Case, cases, lend, RoundsAdd, MarksStand, Says}
use Rattle.worked.proofs.SheetComputed.{Spots, spot_marked, marked-in, marked-out}

-- where the marks of the sheet after n rounds stand, in order
module _ (𝓒 : Collection) where
  abbrev spot_place : Spots 𝓒 → ℕ
  spot_place p = place p.0.0 p.0.1 p.1

  unfoldable stands_at : ℕ → List ℕ
  stands_at n = map spot_place (select (places (lite 𝓒) (lite_tests 𝓒)) (spot_marked 𝓒 n))

  unfoldable list_ok : ℕ → ℕ → Bool
  list_ok n m = let b = eqb (length (stands_at n)) m in and (rises_from 0 (stands_at n)) b

  abbrev marks_ok : Answer → ℕ → Bool
  marks_ok (No rounds) m = list_ok rounds m
  marks_ok (Yes rounds) m = list_ok rounds m
  marks_ok (AllowanceSpent allowance) m = list_ok allowance m
  marks_ok Contradiction m = true
  marks_ok BadCount m = true
  marks_ok BadTable m = true
  marks_ok BadNumber m = true
  marks_ok BadAsk m = true

  -- from k rounds on to n: so many stand, and after one round more as many as it is said to add
  unfoldable adds_ok : ℕ → List ℕ → ℕ → Bool
  adds_ok k [] n = eqb k n
  adds_ok k (m ∷ l) n =
      let many = length (stands_at k) in
      let c = adds_ok (suc k) l n in
      let b = and (list_ok (suc k) (many + m)) c in
      and (list_ok k many) b

  abbrev none_ok : List ℕ → Bool
  none_ok [] = true
  none_ok (m ∷ l) = false

  abbrev added_ok : Answer → List ℕ → Bool
  added_ok (No rounds) l = adds_ok 0 l rounds
  added_ok (Yes rounds) l = adds_ok 0 l rounds
  added_ok (AllowanceSpent allowance) l = adds_ok 0 l allowance
  added_ok other l = none_ok l

  unfoldable answer_ok : Answer → ℕ → ℕ → ℕ → List ℕ → Bool
  answer_ok r number count marks added =
      let d = added_ok r added in
      let b = and (marks_ok r marks) d in
      let a = and (eqb (answer_count r) count) b in
      and (eqb (answer_number r) number) a

-- the test of a row, as it is computed
abbrev given : Case → Collection
given k = collection k.counts k.tables

unfoldable sound_ok : Case → Bool
sound_ok k =
    let e = ask_ok k.counts k.ask in
    let b = and (numbers_ok k.counts k.tables) e in
    let a = and (shapes_ok k.tables) b in
    and (counts_fit k.counts) a

abbrev computed : Case → Answer
computed k = sound_answer (given k) k.ask k.allowance

unfoldable holds : Case → Bool
holds k = let b = answer_ok (given k) (computed k) k.number k.count k.marks k.added in and (sound_ok k) b

-- the rows of at most 16 states, those of 17 to 31, and those of more, each in a declaration: the checker takes only so many steps for one
unfoldable few_ok : Case → Bool
few_ok k = or (leb 17 k.counts.states) (holds k)

unfoldable more_ok : Case → Bool
more_ok k = or (or (leb k.counts.states 16) (leb 32 k.counts.states)) (holds k)

unfoldable most_ok : Case → Bool
most_ok k = or (leb k.counts.states 31) (holds k)

few-compute : every cases few_ok ≡ true
unfolding every cases few_ok holds sound_ok answer_ok adds_ok list_ok rises_from stands_at select counts_fit whole shapes_ok concepts_declared roles_declared concept_fact_declared role_fact_declared numbers_declared numbers_ok ask_ok sound_answer after_clash after_rounds records concept_of number_of inverse any upto numbered pairs memo fixpoint stays new via compose tab closing both signed_roles valid_concepts declared_states joins hangs_to hangs_from hangs round places table work after role_base role_le concept_base concept_le declared_individuals fact_types end_types is_typed typed_to individual_has joins_by fact_edge follows alive_by alive_at alive clash_at clash_under concept_clash clash_between clash_below role_clash clash marked stride walks reaches_in reaches is_final goes_on out_from leaves goes_round goes_to goes_down further nodes kept onward_work
few-compute = refl

more-compute : every cases more_ok ≡ true
unfolding every cases more_ok holds sound_ok answer_ok adds_ok list_ok rises_from stands_at select counts_fit whole shapes_ok concepts_declared roles_declared concept_fact_declared role_fact_declared numbers_declared numbers_ok ask_ok sound_answer after_clash after_rounds records concept_of number_of inverse any upto numbered pairs memo fixpoint stays new via compose tab closing both signed_roles valid_concepts declared_states joins hangs_to hangs_from hangs round places table work after role_base role_le concept_base concept_le declared_individuals fact_types end_types is_typed typed_to individual_has joins_by fact_edge follows alive_by alive_at alive clash_at clash_under concept_clash clash_between clash_below role_clash clash marked stride walks reaches_in reaches is_final goes_on out_from leaves goes_round goes_to goes_down further nodes kept onward_work
more-compute = refl

most-compute : every cases most_ok ≡ true
unfolding every cases most_ok holds sound_ok answer_ok adds_ok list_ok rises_from stands_at select counts_fit whole shapes_ok concepts_declared roles_declared concept_fact_declared role_fact_declared numbers_declared numbers_ok ask_ok sound_answer after_clash after_rounds records concept_of number_of inverse any upto numbered pairs memo fixpoint stays new via compose tab closing both signed_roles valid_concepts declared_states joins hangs_to hangs_from hangs round places table work after role_base role_le concept_base concept_le declared_individuals fact_types end_types is_typed typed_to individual_has joins_by fact_edge follows alive_by alive_at alive clash_at clash_under concept_clash clash_between clash_below role_clash clash marked stride walks reaches_in reaches is_final goes_on out_from leaves goes_round goes_to goes_down further nodes kept onward_work
most-compute = refl

-- so every row passes
row-computes : (k : Case) → k ∈ cases → T (holds k)
unfolding few_ok more_ok most_ok
row-computes k m =
    let s = k.counts.states in
    let a = or_case (leb 17 s) (holds k) (every-out cases few_ok (rw few-compute tt) m) in
    let b = or_case (or (leb s 16) (leb 32 s)) (holds k) (every-out cases more_ok (rw more-compute tt) m) in
    let c = or_case (leb s 31) (holds k) (every-out cases most_ok (rw most-compute tt) m) in
    elim a [ inl x ↦ elim b [ inl y ↦ elim c [ inl z ↦ absurd (between (or_case (leb s 16) (leb 32 s) y) (leb→le 17 s x) (leb→le s 31 z)) | inr z ↦ z ] | inr y ↦ y ] | inr x ↦ x ]
  where
    between : T (leb k.counts.states 16) ⊎ T (leb 32 k.counts.states) → 17 ≤ k.counts.states → k.counts.states ≤ 31 → ⊥
    between (inl y) x z = omega (arith, leb→le k.counts.states 16 y, x)
    between (inr y) x z = omega (arith, leb→le 32 k.counts.states y, z)

-- the list that is computed is that of the places that hold 1, in any area that holds the sheet
module _ (𝓒 : Collection) (ok : WellFormed 𝓒) (n : ℕ) (x : List ℕ) (lays : Lays (Mark (lite 𝓒) n) x) where
  stands-out : (p : ℕ) → p ∈ stands_at 𝓒 n → bit_in x p ≡ 1
  unfolding stands_at
  stands-out p m =
      let w = map-out (spot_place 𝓒) (select (places (lite 𝓒) (lite_tests 𝓒)) (spot_marked 𝓒 n)) m in
      let q = w.0 in
      let v = select-out (places (lite 𝓒) (lite_tests 𝓒)) (spot_marked 𝓒 n) w.1 in
      let k = marked-out 𝓒 ok.numbers n q.0.0 q.0.1 q.1 (spot_out (lite 𝓒) (lite_tests 𝓒) q v.0) v.1 in
      (lays.marks p).1 (q.0.0, q.0.1, q.1, k, sym w.2)

  stands-in : (p : ℕ) → bit_in x p ≡ 1 → p ∈ stands_at 𝓒 n
  unfolding stands_at
  stands-in p e =
      let w = (lays.marks p).0 e in
      let q : Spots 𝓒 = ((w.0, w.1), w.2) in
      let i = spot_in (lite 𝓒) (lite_tests 𝓒) w.0 w.1 w.2 (mark-markable (lite 𝓒) n w.0 w.1 w.2 w.3) in
      let h = marked-in 𝓒 ok.numbers n w.0 w.1 w.2 w.3 in
      let m = map-in (spot_place 𝓒) (select_in (places (lite 𝓒) (lite_tests 𝓒)) (spot_marked 𝓒 n) {x = q} i h) in
      rw w.4 at m

  standing : (m : ℕ) → T (list_ok 𝓒 n m) → Standing x m
  unfolding list_ok
  standing m h =
      let l = stands_at 𝓒 n in
      (l, record { rising = rising l (and_left (rises_from 0 l) (eqb (length l) m) h); ones = λ p. (stands-in p, stands-out p) }, eqb→eq (length l) m (and_right (rises_from 0 l) (eqb (length l) m) h))

-- what passes is what the rounds added: so many stand before a round and after it
module _ (𝓒 : Collection) (ok : WellFormed 𝓒) where
  stood-by : (k m : ℕ) → T (list_ok 𝓒 k m) → Stands (lite 𝓒) k m
  stood-by k m h =
      let lays = sheet-lays 𝓒 ok k in
      let s = stands-there (lite 𝓒) (lite-countable 𝓒 ok) k in
      let e = standing-once _ s.0 m (sheet-standing 𝓒 ok k _ lays s.0 s.1) (standing 𝓒 ok k _ lays m h) in
      rw e at s.1

  -- a round that takes as many to so many more adds the difference
  adds-by : (k a m : ℕ) → Stands (lite 𝓒) k a → Stands (lite 𝓒) (suc k) (a + m) → Adds (lite 𝓒) k m
  adds-by k a m x y =
      let w = adds-there (lite 𝓒) (lite-countable 𝓒 ok) k in
      let z = one-more (lite 𝓒) (lite-countable 𝓒 ok) k a w.0 x w.1 in
      let e = counted-once (lite 𝓒) (Mark (lite 𝓒) (suc k)) (a + w.0) (a + m) z y in
      let f : w.0 ≡ m = omega (arith, e) in
      rw f at w.1

  record Adding (k : ℕ) (l : List ℕ) (n : ℕ) : Type 0 where
    pub long : length l + k ≡ n
    pub each : (j : ℕ) → j < length l → Adds (lite 𝓒) (k + j) (slice_index l j)

  adding : (k : ℕ) (l : List ℕ) (n : ℕ) → T (adds_ok 𝓒 k l n) → Adding k l n
  unfolding adds_ok
  adding k [] n h = record { long = omega (arith, eqb→eq k n h); each = λ j l. absurd (omega (arith, l)) }
  adding k (m ∷ l) n h =
      let many = length (stands_at 𝓒 k) in
      let c = adds_ok 𝓒 (suc k) l n in
      let b = and (list_ok 𝓒 (suc k) (many + m)) c in
      let v = and_right (list_ok 𝓒 k many) b h in
      let x = stood-by k many (and_left (list_ok 𝓒 k many) b h) in
      let y = stood-by (suc k) (many + m) (and_left (list_ok 𝓒 (suc k) (many + m)) c v) in
      let r = adding (suc k) l n (and_right (list_ok 𝓒 (suc k) (many + m)) c v) in
      record { long = omega (arith, r.long); each = at_place r (adds-by k many m x y) }
    where
      at_place : Adding (suc k) l n → Adds (lite 𝓒) k m → (j : ℕ) → j < length (m ∷ l) → Adds (lite 𝓒) (k + j) (slice_index (m ∷ l) j)
      at_place r a zero h = rw (let e : k + 0 ≡ k = omega arith in e) a
      at_place r a (suc j) h = rw (let e : k + suc j ≡ suc k + j = omega arith in e) (r.each j (omega (arith, h)))

  counted : (l : List ℕ) (n : ℕ) → T (adds_ok 𝓒 0 l n) → RoundCounts (lite 𝓒) n l
  counted l n h = let w = adding 0 l n h in record { long = omega (arith, w.long); each = λ j g. let a = w.each j (omega (arith, w.long, g)) in let e : 0 + j ≡ j = omega arith in rw e at a }

  none-out : (l : List ℕ) → T (none_ok 𝓒 l) → l ≡ []
  none-out [] h = refl
  none-out (x ∷ l) h = elim h [ ]

  rounds-add : (r : Answer) (l : List ℕ) → T (added_ok 𝓒 r l) → RoundsAdd 𝓒 r l
  rounds-add (No rounds) l h = counted l rounds h
  rounds-add (Yes rounds) l h = counted l rounds h
  rounds-add (AllowanceSpent allowance) l h = counted l allowance h
  rounds-add Contradiction l h = none-out l h
  rounds-add BadCount l h = none-out l h
  rounds-add BadTable l h = none-out l h
  rounds-add BadNumber l h = none-out l h
  rounds-add BadAsk l h = none-out l h

module _ (area spare : List ℕ) (long : length area ≡ area_length) (long' : length spare ≡ area_length) where
  sound : (k : Case) → T (sound_ok k) → Sound (lend area spare k)
  unfolding sound_ok
  sound k h =
      let w = test-out (test-and (counts-test k.counts) (test-and (shapes-test k.tables) (test-and (numbers-test (lend area spare k)) (ask-test (lend area spare k))))) h in
      record { counts = w.0; tables = record { tables = w.1.0; area = long; spare = long' }; numbers = w.1.1.0; ask = w.1.1.1 }

  stood : (k : Case) → Sound (lend area spare k) → (n : ℕ) → T (list_ok (given k) n k.marks) → Standing (sheet_area (lend area spare k) n) k.marks
  stood k s n h = standing (given k) (sound-well-formed (lend area spare k) s) n (sheet_area (lend area spare k) n) (holds-sheet (lend area spare k) s n) k.marks h

  marks-stand : (k : Case) → Sound (lend area spare k) → (r : Answer) → T (marks_ok (given k) r k.marks)
      → MarksStand area spare r (area_after (lend area spare k) r) k.marks
  marks-stand k s (No rounds) h = stood k s rounds h
  marks-stand k s (Yes rounds) h = stood k s rounds h
  marks-stand k s (AllowanceSpent allowance) h = stood k s allowance h
  marks-stand k s Contradiction h = refl
  marks-stand k s BadCount h = refl
  marks-stand k s BadTable h = refl
  marks-stand k s BadNumber h = refl
  marks-stand k s BadAsk h = refl

  says : (k : Case) → T (holds k) → Says area spare k
  unfolding holds answer_ok
  says k h =
      let r = computed k in
      let d = added_ok (given k) r k.added in
      let b = and (marks_ok (given k) r k.marks) d in
      let a = and (eqb (answer_count r) k.count) b in
      let o = and (eqb (answer_number r) k.number) a in
      let s = sound k (and_left (sound_ok k) o h) in
      let v = and_right (sound_ok k) o h in
      let w = and_right (eqb (answer_number r) k.number) a v in
      let u = and_right (eqb (answer_count r) k.count) b w in
      let done = outcome-exists (lend area spare k) in
      record {
        answer = r;
        area-after = area_after (lend area spare k) r;
        spare-after = spare_after (lend area spare k) r;
        outcome = rw (passes-all (lend area spare k) s) at done;
        number = eqb→eq (answer_number r) k.number (and_left (eqb (answer_number r) k.number) a v);
        count = eqb→eq (answer_count r) k.count (and_left (eqb (answer_count r) k.count) b w);
        marks = marks-stand k s r (and_left (marks_ok (given k) r k.marks) d u);
        added = rounds-add (given k) (sound-well-formed (lend area spare k) s) r k.added (and_right (marks_ok (given k) r k.marks) d u);
      }

  -- THEOREM: the cases worked on paper: for any two areas of the right length, whatever they hold, each row's call has the
  -- outcome that the row says: the answer has the row's number and count, in the first area stand as many marks as the row
  -- says, and each round added as many as it says
  pub cases-hold : (k : Case) → k ∈ cases → Says area spare k
  cases-hold k m = says k (row-computes k m)

-- The number of the call that tells how many marks each round made, and the row that it leaves.
use Rattle.std.specs.Prelude.{◌≡◌, ◌≢◌, refl, List, [], ◌∷◌, ℕ, zero, suc, ◌+◌, ◌-◌, ◌≤◌, length, take, drop}
use Rattle.std.specs.Prelude.{map, min, sum}
use Rattle.std.proofs.Math.Decide.{ℕ_discrete}
use Rattle.std.proofs.Common.{⊎_elim, sym, subst, ap, ◌∙◌, inl, inr, arith}
use Rattle.std.proofs.lemmas.List.{length-drop, length-map, take-append-drop}
use Rattle.kinds.specs.declared.Answer.{Answer}
use Rattle.kinds.specs.declared.Counts.{Counts}
use Rattle.kinds.specs.Answer.{answer_number}
use Rattle.kinds.specs.Kinds.{CountsFit}
use Rattle.laws.specs.First.{fails, holds, first-once}
use Rattle.meaning.specs.Lent.{Tables}
use Rattle.meaning.specs.Layout.{zeros, Standing}
use Rattle.meaning.specs.LawsOfMarks.{first_marks}
use Rattle.meaning.specs.Lite.{lite}
use Rattle.theory.specs.Sheet.{Mark}
use Rattle.meaning.proofs.Demands.{rounds-suffice}
use Rattle.meaning.proofs.LayoutLaws.{lays-once}
use Rattle.theory.proofs.SheetLaws.{rounds-unique}
use Rattle.tables.specs.Lists.{lists}
use Rattle.theory.specs.Listing.{counts_of}
use Rattle.sheet.specs.declared.round_marks.RoundMarks.{RoundMarks}
use Rattle.index.specs.declared.lent.Lent as index
use Rattle.index.specs.Preparation.{Preparation, made_of, preparation, collection_in, HasSheet, RoundsNeeded, HoldsSheet}
use Rattle.index.specs.Rounds.{HasRounds, NoRounds}
use Rattle.index.proofs.ToldOnce.{counts-once, told-make}
use Rattle.index.proofs.Unique.{well}
use Rattle.lampsaffron.proofs.Told.{lent-is}
use Rattle.lampsaffron.specs.Front.{IsFront}
use Rattle.lampsaffron.specs.Marks.{MarksNumber, WorksRounds, TellsFront, count_put, Lent, left, TellsMarks}
use Rattle.lampsaffron.proofs.Front.{all_put}

module _ (p : Preparation) (room : ℕ) where
  -- the number by why there are no rounds, or by what they are
  pub number-none : CountsFit p.counts → p.allowance ≤ room → {r : Answer} → NoRounds p r → MarksNumber p room (answer_number r)
  number-none c le (fails n) = absurd (n c)
  number-none c le (holds a (fails t)) = holds c (holds le (fails t))
  number-none c le (holds a (holds t (fails n))) = holds c (holds le (holds t (fails n)))
  number-none c le (holds a (holds t (holds n (fails k)))) = holds c (holds le (holds t (holds n (fails k))))
  number-none c le (holds a (holds t (holds n (holds k w)))) =
      rw w.0 (holds c
      (holds le (holds t
      (holds n (holds k
      (fails (λ v. let g = rounds-unique (lite (collection_in p)) v.0 w.1.0 v.1 w.1.1 in omega (arith, g, v.2, w.1.2))))))))

  pub number-has : p.allowance ≤ room → (n : ℕ) → HasRounds p n → MarksNumber p room 0
  number-has le n h =
      let f = h.sheet.fits in
      holds f.counts (holds le (holds f.tables (holds f.numbers (holds h.sheet.sane (holds (n, h.needed, h.allowed) refl)))))

  idles : (number : ℕ) → (number ≡ 0 → ⊥) → (number ≡ 3 → ⊥) → {A : Type 0} → WorksRounds number → A
  idles number n m (inl e) = absurd (n e)
  idles number n m (inr e) = absurd (m e)

  -- after 0 and 3 there is a sheet
  pub worked : {number : ℕ} → MarksNumber p room number → WorksRounds number → HasSheet p
  worked (fails n) w = idles 4 (λ e. omega arith) (λ e. omega arith) w
  worked (holds c (fails n)) w = idles 5 (λ e. omega arith) (λ e. omega arith) w
  worked (holds c (holds le (fails n))) w = idles 5 (λ e. omega arith) (λ e. omega arith) w
  worked (holds c (holds le (holds t (fails n)))) w = idles 6 (λ e. omega arith) (λ e. omega arith) w
  worked (holds c (holds le (holds t (holds n (fails k))))) w = idles 2 (λ e. omega arith) (λ e. omega arith) w
  worked (holds c (holds le (holds t (holds n (holds k r))))) w = record { fits = record { counts = c; tables = t; numbers = n }; sane = k }

  -- and after all else none, where the row has room
  pub idle : {number : ℕ} → MarksNumber p room number → (WorksRounds number → ⊥) → p.allowance ≤ room → HasSheet p → ⊥
  idle (fails n) w le s = n s.fits.counts
  idle (holds c (fails n)) w le s = n le
  idle (holds c (holds le (fails n))) w l s = n s.fits.tables
  idle (holds c (holds le (holds t (fails n)))) w l s = n s.fits.numbers
  idle (holds c (holds le (holds t (holds n (fails k))))) w l s = k s.sane
  idle (holds c (holds le (holds t (holds n (holds k (fails f)))))) w l s = w (inr refl)
  idle (holds c (holds le (holds t (holds n (holds k (holds f q)))))) w l s = w (inl q)

  -- 7 is never given
  pub never-seven : {number : ℕ} → MarksNumber p room number → number ≢ 7
  never-seven (fails n) e = omega arith
  never-seven (holds c (fails n)) e = omega arith
  never-seven (holds c (holds le (fails n))) e = omega arith
  never-seven (holds c (holds le (holds t (fails n)))) e = omega arith
  never-seven (holds c (holds le (holds t (holds n (fails k))))) e = omega arith
  never-seven (holds c (holds le (holds t (holds n (holds k (fails f)))))) e = omega arith
  never-seven (holds c (holds le (holds t (holds n (holds k (holds f q)))))) e = omega (arith, q)

  -- THEOREM: one number is given
  pub number-once : (n m : ℕ) → MarksNumber p room n → MarksNumber p room m → n ≡ m
  number-once = first-once (first-once (first-once (first-once (first-once (first-once (λ n m h k. h ∙ sym k))))))

-- what is put of rounds are the counts of those after round 0
abbrev pub put_count : ℕ → RoundMarks → List ℕ
put_count round marks = count_put round (length marks)

counts-after : (n : ℕ) (rounds : List RoundMarks) → all_put put_count (suc n) rounds ≡ map length rounds
unfolding all_put
counts-after n [] = refl
counts-after n (marks ∷ rounds) = ap (λ l. length marks ∷ l) (counts-after (suc n) rounds)

pub counts-put : (rounds : List RoundMarks) → all_put put_count 0 rounds ≡ counts_of rounds
unfolding all_put
counts-put [] = refl
counts-put (marks ∷ rounds) = counts-after 0 rounds

pub counts-long : (rounds : List RoundMarks) → length (counts_of rounds) ≡ length rounds - 1
counts-long rounds = length-map (drop 1 rounds) length ∙ length-drop 1 rounds

-- of a further round
pub count-is : (round many : ℕ) → round ≢ 0 → count_put round many ≡ many ∷ []
count-is zero many n = absurd (n refl)
count-is (suc round) many n = refl

-- no count leaves a row as it was
pub none-put : (rounds : ℕ) (old new : List ℕ) → IsFront [] rounds old new → new ≡ old
none-put rounds old new f = let r = f.rest in rw f.many at r

-- where there is no sheet, the row stays
pub none-kept : (p : Preparation) {rounds : ℕ} {old new : List ℕ} → TellsFront p rounds old new → (HasSheet p → ⊥) → new ≡ old
none-kept p {rounds} {old} {new} t n = let e = t.1.none n in let f = t.2 in none-put rounds old new (rw e at f)

module _ (l : index.Lent) {counts : Counts} {tables : Tables} {allowance : ℕ} (e : l.collection.counts ≡ counts)
    (f : lists l.collection ≡ tables) (g : l.allowance ≡ allowance)
    (old : Lent) where
  abbrev worked_from : Preparation
  worked_from = preparation l (length old.area) (length old.spare)

  abbrev lent_from : Preparation
  lent_from = made_of counts tables allowance (length old.area) (length old.spare)

  module _ {number r : ℕ} {x y m : List ℕ} (n : MarksNumber worked_from (length old.marks) number) where
    -- all of it, where rounds were worked
    pub tells-worked : WorksRounds number
        → (HasSheet worked_from → (n : ℕ) → RoundsNeeded worked_from n → HoldsSheet worked_from (min n worked_from.allowance) x)
        → (HasSheet worked_from → y ≡ zeros) → TellsFront worked_from r old.marks m → TellsMarks lent_from old number (left x y m r)
    tells-worked w sheet cleared told =
        let s = worked worked_from (length old.marks) n w in
        let all : TellsMarks worked_from old number (left x y m r) =
        record { number_is = n; sheet = λ v. sheet s; cleared = λ v. cleared s; told = λ v. told; kept = λ v. absurd (v w) } in
        subst (λ p. TellsMarks p old number (left x y m r)) (lent-is l e f g (length old.area) (length old.spare)) all

    -- and where none were, as what was lent is left
    pub tells-left : (WorksRounds number → ⊥) → allowance ≤ length old.marks → ((HasSheet worked_from → ⊥) → x ≡ old.area)
        → ((HasSheet worked_from → ⊥) → y ≡ old.spare)
        → TellsFront worked_from r old.marks m → TellsMarks lent_from old number (left x y m old.rounds)
    tells-left w le a b told =
        let h = idle worked_from (length old.marks) n w (omega (arith, g, le)) in
        let all : TellsMarks worked_from old number (left x y m old.rounds) = record {
          number_is = n;
          sheet = λ v. absurd (w v);
          cleared = λ v. absurd (w v);
          told = λ v. absurd (w v);
          kept = λ v i. record { area = a h i; spare = b h i; marks = none-kept worked_from told h i; rounds = old.rounds };
        } in
        subst (λ p. TellsMarks p old number (left x y m old.rounds)) (lent-is l e f g (length old.area) (length old.spare)) all

-- where nothing was worked and nothing is written
pub tells-kept : (p : Preparation) (old : Lent) {number : ℕ} → MarksNumber p (length old.marks) number → (WorksRounds number → ⊥)
    → TellsMarks p old number old
tells-kept p old n w = record {
  number_is = n;
  sheet = λ v. absurd (w v);
  cleared = λ v. absurd (w v);
  told = λ v. absurd (w v);
  kept = λ v. refl;
}

-- 4 and 5 are numbers of no work
pub idle-four : WorksRounds 4 → ⊥
idle-four (inl h) = omega arith
idle-four (inr h) = omega arith

pub idle-five : WorksRounds 5 → ⊥
idle-five (inl h) = omega arith
idle-five (inr h) = omega arith

-- the row that is left may be named otherwise
pub row-named : {p : Preparation} {old : Lent} {number r : ℕ} {x y m m' : List ℕ} → TellsMarks p old number (left x y m r) → m' ≡ m
    → TellsMarks p old number (left x y m' r)
row-named t e = rw e t

-- THEOREM: what is told and states × concepts make the marks that stand in the first area
pub tells-makes : {p : Preparation} {old new : Lent} {number : ℕ} → TellsMarks p old number new → WorksRounds number
    → Standing new.area (sum (take new.rounds new.marks) + first_marks p.counts)
tells-makes {p} {old} {new} t w =
    let s = worked p (length old.marks) t.number_is w in
    let n = rounds-suffice (collection_in p) (well p s.fits) in
    let v = t.told w in
    rw v.2.front (told-make p v.0 new.area v.1 s n.0 n.2 (t.sheet w n.0 n.2))

-- THEOREM: all that the call gives and leaves is fixed
module _ (p : Preparation) (old : Lent) where
  pub marks-once : (number number' : ℕ) (new new' : Lent) → TellsMarks p old number new → TellsMarks p old number' new'
      → (number ≡ number') × (new ≡ new')
  marks-once number number' new new' a b = (e, by (ℕ_discrete number 0) (ℕ_discrete number 3))
    where
      e : number ≡ number'
      e = number-once p (length old.marks) number number' a.number_is b.number_is

      works : WorksRounds number → new ≡ new'
      works w =
          let v = rw e at w in
          let s = worked p (length old.marks) a.number_is w in
          let n = rounds-suffice (collection_in p) (well p s.fits) in
          let area = lays-once (Mark (lite (collection_in p)) (min n.0 p.allowance)) new.area new'.area (a.sheet w n.0 n.2)
          (b.sheet v n.0 n.2) in
          let spare = a.cleared w ∙ sym (b.cleared v) in
          let x = a.told w in
          let y = b.told v in
          let c = counts-once p x.0 y.0 x.1 y.1 in
          let r = x.2.many ∙ (ap length c ∙ sym y.2.many) in
          let f = sym (take-append-drop new.rounds new.marks) in
          let g = take-append-drop new'.rounds new'.marks in
          let m = rw (x.2.front, x.2.rest, c, r) at f in
          let m' = rw (y.2.front, y.2.rest) at g in
          same area spare (m ∙ m') r
        where
          same : new.area ≡ new'.area → new.spare ≡ new'.spare → new.marks ≡ new'.marks → new.rounds ≡ new'.rounds
              → left new.area new.spare new.marks new.rounds ≡ left new'.area new'.spare new'.marks new'.rounds
          same i j k l = rw (i, j, k, l) refl

      by : Dec (number ≡ 0) → Dec (number ≡ 3) → new ≡ new'
      by (yes h) d = works (inl h)
      by (no n) (yes h) = works (inr h)
      by (no n) (no m) =
          let idle : WorksRounds number → ⊥ = ⊎_elim n m in
          let g = rw e at idle in
          a.kept idle ∙ sym (b.kept g)

-- With tables that differ only in deed numbers each call gives and leaves the same.
use Rattle.std.specs.Prelude.{◌≡◌, List, ℕ, ◌≤◌, min}
use Rattle.std.proofs.Common.{sym, subst}
use Rattle.kinds.specs.declared.Ask.{Ask}
use Rattle.kinds.specs.declared.Answer.{Answer}
use Rattle.laws.specs.First.{First, fails, holds}
use Rattle.theory.specs.Sheet.{Mark, Needed}
use Rattle.theory.specs.Marks.{RoundCounts}
use Rattle.meaning.specs.Collection.{Collection, NumbersDeclared}
use Rattle.meaning.specs.Lent.{Tables, Call, TablesFit, NumbersFit}
use Rattle.meaning.specs.Layout.{Lays}
use Rattle.meaning.specs.Lite.{lite}
use Rattle.meaning.specs.Model.{Contradiction}
use Rattle.meaning.specs.Deeds.{SameButDeeds, lent_with}
use Rattle.meaning.proofs.DeedLaws.{one-collection, turned, shapes_kept, deeds-decide-nothing}
use Rattle.index.specs.Preparation.{Preparation, collection_in, HasSheet}
use Rattle.index.specs.Asked.{asked}
use Rattle.index.specs.Marks.{CountsTold}
use Rattle.index.specs.Row.{InTurn, none, next}
use Rattle.lampsaffron.specs.Boundary.{passed_with, Gives}
use Rattle.lampsaffron.specs.Marks.{MarksNumber, Lent, TellsMarks}

-- THEOREM: one ask has the same number and count, and leaves the same bytes
pub gives-deeds : (c : Call) (t : Tables) → SameButDeeds c.tables t → {n k : ℕ} {x y : List ℕ} → Gives c n k x y
    → Gives (lent_with c t) n k x y
gives-deeds c t s g = record {
  answer = g.answer;
  outcome = (deeds-decide-nothing c t s _ _ _).0 g.outcome;
  number_is = g.number_is;
  count_is = g.count_is;
}

-- THEOREM: asks in turn have the same answers, and leave the same bytes
pub in-turn-deeds : {p : Preparation} {ask : ℕ → Ask} {tells : ℕ → Answer → Type 0} {area spare : List ℕ} {n : ℕ}
    {x y : List ℕ} (t : Tables)
    → SameButDeeds p.tables t → InTurn p ask tells area spare n x y → InTurn (passed_with p t) ask tells area spare n x y
in-turn-deeds t s none = none
in-turn-deeds {p} {ask} t s (next {n = n} {x = x} {y = y} r before told o) =
    next r (in-turn-deeds t s before) told ((deeds-decide-nothing (asked p (ask n) x y) t s r _ _).0 o)

-- the tests 5 and 6 pass the one as the other
module _ (p : Preparation) (t : Tables) (s : SameButDeeds p.tables t) where
  abbrev q : Preparation
  q = passed_with p t

  same : collection_in p ≡ collection_in q
  same = one-collection p.counts p.tables t s

  tables-to : TablesFit p.tables p.area p.spare → TablesFit t p.area p.spare
  tables-to f = record { tables = shapes_kept s f.tables; area = f.area; spare = f.spare }

  numbers-to : NumbersFit p.counts p.tables → NumbersFit p.counts t
  numbers-to f = record { declared = subst NumbersDeclared same f.declared; step-kinds = rw (← s.steps) f.step-kinds }

  sheet-to : HasSheet p → HasSheet q
  sheet-to h = record {
    fits = record { counts = h.fits.counts; tables = tables-to h.fits.tables; numbers = numbers-to h.fits.numbers };
    sane = subst (λ 𝓒. Contradiction 𝓒 → ⊥) same h.sane;
  }

module _ (p : Preparation) (t : Tables) (s : SameButDeeds p.tables t) where
  abbrev r : Preparation
  r = passed_with p t

  back : SameButDeeds t p.tables
  back = turned s

  alike : collection_in p ≡ collection_in r
  alike = one-collection p.counts p.tables t s

  -- whether the rounds needed are allowed
  abbrev Allows : ℕ → Collection → Type 0
  Allows number 𝓒 = First ((n : ℕ) × Needed (lite 𝓒) n × (n ≤ p.allowance)) 3 (λ k. k ≡ 0) number

  number-deeds : {room n : ℕ} → MarksNumber p room n → MarksNumber r room n
  number-deeds (fails n) = fails n
  number-deeds (holds c (fails n)) = holds c (fails n)
  number-deeds (holds c (holds le (fails n))) = holds c (holds le (fails (λ f. n (tables-to r p.tables back f))))
  number-deeds (holds c (holds le (holds f (fails n)))) =
      holds c (holds le (holds (tables-to p t s f) (fails (λ f. n (numbers-to r p.tables back f)))))
  number-deeds (holds c (holds le (holds f (holds n (fails k))))) =
      holds c (holds le (holds (tables-to p t s f) (holds (numbers-to p t s n) (fails (subst (λ 𝓒. (Contradiction 𝓒 → ⊥) → ⊥) alike k)))))
  number-deeds (holds c (holds le (holds f (holds n (holds k m))))) =
      holds c (holds le
      (holds (tables-to p t s f)
      (holds (numbers-to p t s n) (holds (subst (λ 𝓒. Contradiction 𝓒 → ⊥) alike k) (subst (Allows _) alike m)))))

  told-deeds : {counts : List ℕ} → CountsTold p counts → CountsTold r counts
  told-deeds {counts} m = record {
    rounds = λ h n need.
        subst (λ 𝓒. RoundCounts (lite 𝓒) (min n p.allowance) counts) alike
        (m.rounds (sheet-to r p.tables back h) n (subst (λ 𝓒. Needed (lite 𝓒) n) (sym alike) need));
    none = λ n. m.none (λ h. n (sheet-to p t s h));
  }

  -- THEOREM: the same number, counts and bytes of the marks of rounds
  pub marks-deeds : {old new : Lent} {number : ℕ} → TellsMarks p old number new → TellsMarks r old number new
  marks-deeds {new = new} m = record {
    number_is = number-deeds m.number_is;
    sheet = λ w n need. subst (λ 𝓒. Lays (Mark (lite 𝓒) (min n p.allowance)) new.area) alike
        (m.sheet w n (subst (λ 𝓒. Needed (lite 𝓒) n) (sym alike) need));
    cleared = m.cleared;
    told = λ w. let v = m.told w in (v.0, told-deeds v.1, v.2);
    kept = m.kept;
  }

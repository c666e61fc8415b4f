-- What was found gives the answer to each ask.
use Rattle.std.specs.Prelude.{◌≡◌, refl, List, ℕ, ◌≤◌, Result, Err, Ok, length, Bool, true, false, ◌↔◌}
use Rattle.std.proofs.Common.{◌∙◌, subst}
use Rattle.std.proofs.lemmas.Bool.{false≢true}
use Rattle.kinds.specs.declared.Answer.{Answer}
use Rattle.kinds.specs.declared.Answer.TheVariants as answer
use Rattle.meaning.specs.Lent.{TablesFit, Sound}
use Rattle.meaning.specs.Model.{Contradiction}
use Rattle.meaning.specs.Asks.{IsYes}
use Rattle.meaning.specs.Layout.{zeros}
use Rattle.meaning.specs.Outcome.{bad-count, bad-table, bad-number, bad-ask, contradiction, spent, says-yes, says-no}
use Rattle.meaning.proofs.OutcomeExists.{holds-sheet}
use Rattle.meaning.proofs.Calculate.{sheet_area}
use Rattle.tables.specs.declared.collection.Refusal.{Refusal}
use Rattle.tables.specs.declared.collection.Refusal.TheVariants.{BadCount, BadTable, BadNumber}
use Rattle.tables.specs.Lists.{lists}
use Rattle.tables.specs.Refusals.{answer_of}
use Rattle.kinds.specs.declared.Ask.{Ask}
use Rattle.index.specs.declared.lent.Lent.{Lent}
use Rattle.index.specs.declared.work.Found.{Found}
use Rattle.index.specs.Works.{meant, Passes, HasAreas, Needs, NeedsMore, IsFound}
use Rattle.kinds.specs.Asks.{AskDeclared}
use Rattle.index.specs.Preparation.{Preparation, preparation}
use Rattle.index.specs.Asked.{asked, IsAnswer}
use Rattle.index.specs.Worked.{IsRefused, IsSettled, IsWorked}

-- where a test fails its fact does not hold
pub fails : {b : Bool} {P : Type 0} → (b ≡ true) ↔ P → b ≡ false → P → ⊥
fails h e p = false≢true (rw e at (h.1 p))

module _ (l : Lent) (area spare : ℕ) where
  abbrev of : Preparation
  of = preparation l area spare

  -- a refusal of the collection
  pub refused : (e : Refusal) → IsRefused l area spare e → (ask : Ask) → IsAnswer of ask (answer_of e)
  refused BadCount h ask x y e f = let w = h.bad_count.0 refl in (x, y, bad-count w)
  refused BadTable h ask x y e f = let w = h.bad_table.0 refl in (x, y, bad-table w.counts (rw (e, f) w.tables))
  refused BadNumber h ask x y e f = let w = h.bad_number.0 refl in (x, y, bad-number w.counts (rw (e, f) w.tables) w.numbers)

  module _ (passes : Passes l.collection) (areas : HasAreas area spare) where
    fits : (x y : List ℕ) → length x ≡ area → length y ≡ spare → TablesFit (lists l.collection) (length x) (length y)
    fits x y e f = record { tables = passes.tables; area = e ∙ areas.area; spare = f ∙ areas.spare }

    pub undeclared : (ask : Ask) → (AskDeclared l.collection.counts ask → ⊥) → IsAnswer of ask answer.BadAsk
    undeclared ask n x y e f = (x, y, bad-ask passes.counts (fits x y e f) passes.numbers n)

    sound : (ask : Ask) → AskDeclared l.collection.counts ask → (x y : List ℕ) → length x ≡ area → length y ≡ spare
        → Sound (asked of ask x y)
    sound ask d x y e f = record { counts = passes.counts; tables = fits x y e f; numbers = passes.numbers; ask = d }

    pub broken : (ask : Ask) → AskDeclared l.collection.counts ask → Contradiction (meant l.collection)
        → IsAnswer of ask answer.Contradiction
    broken ask d h x y e f = (x, y, contradiction (sound ask d x y e f) h)

    pub beyond : (ask : Ask) → AskDeclared l.collection.counts ask → (n : ℕ) → NeedsMore l n
        → IsAnswer of ask (answer.AllowanceSpent l.allowance)
    beyond ask d n k x y e f =
        let s = sound ask d x y e f in
        (sheet_area (asked of ask x y) l.allowance, zeros, spent s k.sane k.needed k.more (holds-sheet (asked of ask x y) s l.allowance))

    module _ (sane : Contradiction (meant l.collection) → ⊥) (n : ℕ) (need : Needs (meant l.collection) n) (enough : n ≤ l.allowance) where
      pub yes : (ask : Ask) → AskDeclared l.collection.counts ask → IsYes (meant l.collection) ask → IsAnswer of ask (answer.Yes n)
      yes ask d h x y e f =
          let s = sound ask d x y e f in
          (sheet_area (asked of ask x y) n, zeros, says-yes s sane need enough (holds-sheet (asked of ask x y) s n) h)

      pub no : (ask : Ask) → AskDeclared l.collection.counts ask → (IsYes (meant l.collection) ask → ⊥) → IsAnswer of ask (answer.No n)
      no ask d h x y e f =
          let s = sound ask d x y e f in
          (sheet_area (asked of ask x y) n, zeros, says-no s sane need enough (holds-sheet (asked of ask x y) s n) h)

module _ (l : Lent) (area spare : ℕ) (r : Result Found Refusal) (h : IsWorked l area spare r) where
  pub settled-as : {f : Found} → r ≡ Ok f → IsSettled l area spare f
  settled-as e = subst (λ r. IsWorked l area spare r) e h

  pub refused-as : {e : Refusal} → r ≡ Err e → IsRefused l area spare e
  refused-as e = subst (λ r. IsWorked l area spare r) e h

pub found-as : {l : Lent} {area spare : ℕ} {f g : Found} → IsSettled l area spare f → f ≡ g → IsFound l g
found-as {l} h e = subst (λ f. IsFound l f) e h.found

-- one preparation is as good as another that is equal
pub seen : {p q : Preparation} (ask : Ask) (r : Answer) → p ≡ q → IsAnswer p ask r → IsAnswer q ask r
seen ask r e h = subst (λ (p : Preparation). IsAnswer p ask r) e h

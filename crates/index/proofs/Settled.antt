-- What was found says whether there are rounds needed that are allowed.
use Rattle.std.specs.Prelude.{◌≡◌, refl, ℕ, ◌≤◌}
use Rattle.std.proofs.Common.{subst, sym, ◌∙◌, arith}
use Rattle.kinds.specs.declared.Answer.{Answer}
use Rattle.kinds.specs.declared.Answer.TheVariants as answer
use Rattle.laws.specs.First.{fails, holds, first-once}
use Rattle.laws.specs.Once.{AtMostOne}
use Rattle.meaning.specs.Lite.{lite}
use Rattle.meaning.specs.Model.{Contradiction}
use Rattle.tables.specs.declared.collection.Refusal.{Refusal}
use Rattle.tables.specs.declared.collection.Refusal.TheVariants.{BadCount, BadTable, BadNumber}
use Rattle.tables.specs.Refusals.{answer_of}
use Rattle.index.specs.declared.lent.Lent.{Lent}
use Rattle.theory.proofs.SheetLaws.{rounds-unique}
use Rattle.index.specs.Preparation.{Preparation, preparation, collection_in, Fits}
use Rattle.index.specs.Rounds.{HasRounds, NoRounds}
use Rattle.index.specs.Works.{meant, Passes, HasAreas, Needs, NeedsMore}
use Rattle.index.specs.Worked.{IsRefused}

module _ (l : Lent) (area spare : ℕ) where
  abbrev of : Preparation
  of = preparation l area spare

  pub none-refused : (e : Refusal) → IsRefused l area spare e → NoRounds of (answer_of e)
  none-refused BadCount h = fails (h.bad_count.0 refl)
  none-refused BadTable h = let w = h.bad_table.0 refl in holds w.counts (fails w.tables)
  none-refused BadNumber h = let w = h.bad_number.0 refl in holds w.counts (holds w.tables (fails w.numbers))

  module _ (p : Passes l.collection) (a : HasAreas area spare) where
    fits : Fits of
    fits = record { counts = p.counts; tables = record { tables = p.tables; area = a.area; spare = a.spare }; numbers = p.numbers }

    pub none-broken : Contradiction (meant l.collection) → NoRounds of answer.Contradiction
    none-broken k = holds fits.counts (holds fits.tables (holds fits.numbers (fails (λ s. s k))))

    pub none-beyond : (n : ℕ) → NeedsMore l n → NoRounds of (answer.AllowanceSpent l.allowance)
    none-beyond n k = holds fits.counts (holds fits.tables (holds fits.numbers (holds k.sane (refl, (n, k.needed, k.more)))))

    pub has-rounds : (n : ℕ) → (Contradiction (meant l.collection) → ⊥) → Needs (meant l.collection) n → n ≤ l.allowance → HasRounds of n
    has-rounds n sane need le = record { sheet = record { fits = fits; sane = sane }; needed = need; allowed = le }

-- one preparation is as good as another that is equal
pub none-seen : {p q : Preparation} (r : Answer) → p ≡ q → NoRounds p r → NoRounds q r
none-seen r e h = subst (λ (p : Preparation). NoRounds p r) e h

pub rounds-seen : {p q : Preparation} (n : ℕ) → p ≡ q → HasRounds p n → HasRounds q n
rounds-seen n e h = subst (λ (p : Preparation). HasRounds p n) e h

-- THEOREM: one number of rounds, one reason for none, and not both
module _ (p : Preparation) where
  pub one-needed : AtMostOne (HasRounds p)
  one-needed n m a b = rounds-unique (lite (collection_in p)) n m a.needed b.needed

  pub one-reason : AtMostOne (NoRounds p)
  one-reason = first-once (first-once (first-once (first-once (λ r q h k. h.0 ∙ sym k.0))))

  pub not-both : (n : ℕ) (r : Answer) → HasRounds p n → NoRounds p r → ⊥
  not-both n r h (fails c) = c h.sheet.fits.counts
  not-both n r h (holds c (fails t)) = t h.sheet.fits.tables
  not-both n r h (holds c (holds t (fails m))) = m h.sheet.fits.numbers
  not-both n r h (holds c (holds t (holds m (fails s)))) = s h.sheet.sane
  not-both n r h (holds c (holds t (holds m (holds s w)))) =
      let g = rounds-unique (lite (collection_in p)) n w.1.0 h.needed w.1.1 in
      omega (arith, g, h.allowed, w.1.2)

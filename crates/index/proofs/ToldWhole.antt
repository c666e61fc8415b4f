-- What is told of a closed sheet: every round that is needed, since so many are always allowed; and it is the sheet's list.
use Rattle.std.specs.Prelude.{◌≡◌, refl, Bool, true, false, List, ℕ, ◌+◌, ◌-◌, ◌*◌, ◌^◌, ◌≤◌, ◌<◌, min}
use Rattle.std.proofs.Common.{sym, ◌∙◌, arith}
use Rattle.std.proofs.Math.Nat.{mul-le-mul}
use Rattle.kinds.specs.declared.Answer.{Answer}
use Rattle.kinds.specs.declared.Counts.{Counts}
use Rattle.kinds.specs.Kinds.{CountsFit}
use Rattle.laws.specs.Once.{AtMostOne}
use Rattle.theory.specs.Sheet.{Needed}
use Rattle.theory.proofs.SheetLaws.{rounds-unique}
use Rattle.theory.proofs.ListingLaws.{rounds-once, rounds-listing}
use Rattle.meaning.specs.Collection.{Collection, WellFormed}
use Rattle.meaning.specs.Demands.{most_rounds}
use Rattle.meaning.specs.Layout.{area_length}
use Rattle.meaning.specs.Listing.{numbered_lite}
use Rattle.meaning.specs.Lite.{lite}
use Rattle.meaning.specs.Model.{Contradiction}
use Rattle.meaning.proofs.ClashLaws.{clash-is}
use Rattle.meaning.proofs.Demands.{rounds-suffice}
use Rattle.meaning.proofs.Reply.{clash}
use Rattle.sheet.specs.declared.round_marks.RoundMarks.{RoundMarks}
use Rattle.index.specs.declared.lent.Lent.{Lent}
use Rattle.index.specs.Preparation.{Preparation, fitting_of, HasSheet}
use Rattle.index.specs.Marks.{MarksTold, SheetTold, SheetIsListed}
use Rattle.index.specs.Rounds.{HasRounds, NoRounds}
use Rattle.index.specs.Works.{meant, Passes}
use Rattle.index.proofs.Areas.{fits}
use Rattle.index.proofs.Joined.{well}
use Rattle.index.proofs.Replies.{fails}
use Rattle.index.proofs.Settled.{not-both}

-- no more rounds are needed than 32 bits hold
few-rounds : (c : Counts) → CountsFit c → most_rounds c < 2 ^ 32
few-rounds c fit =
    let a : c.names + 2 * c.roles ≤ 128 = omega (arith, fit.names, fit.roles) in
    let b : c.states - 1 ≤ 31 = omega (arith, fit.states) in
    let m = mul-le-mul (mul-le-mul a fit.states) b in
    omega (arith, m)

module _ (l : Lent) (p : Passes l.collection) (all : l.allowance ≡ 2 ^ 32 - 1) where
  abbrev 𝓒 : Collection
  𝓒 = meant l.collection

  abbrev of : Preparation
  of = fitting_of l

  enough : (n : ℕ) → Needed (lite 𝓒) n → n ≤ l.allowance
  enough n need =
      let w = rounds-suffice 𝓒 (well l.collection p) in
      let e = rounds-unique (lite 𝓒) n w.0 need w.2 in
      omega (arith, e, w.1, few-rounds l.collection.counts p.counts)

  has-sheet : (Contradiction 𝓒 → ⊥) → HasSheet of
  has-sheet sane = record { fits = fits l area_length area_length p (record { area = refl; spare = refl }); sane = sane }

  -- THEOREM: what is told is told of the whole sheet
  pub told-sheet : {rounds : List RoundMarks} → MarksTold of rounds → SheetTold 𝓒 rounds
  told-sheet t = record {
    marks = λ sane n need.
        let e : min n l.allowance ≡ n = omega (arith, enough n need) in
        rw e at (t.marks (has-sheet sane) n need);
    none = λ k. t.none (λ h. h.sane k);
  }

  -- THEOREM: rounds are needed where there is no contradiction, and there alone
  pub there : {n : ℕ} → HasRounds of n → Contradiction 𝓒 → ⊥
  there h = h.sheet.sane

  pub nowhere : {r : Answer} → NoRounds of r → (Contradiction 𝓒 → ⊥) → ⊥
  nowhere {r} none sane =
      let w = rounds-suffice 𝓒 (well l.collection p) in
      not-both of w.0 r (record { sheet = has-sheet sane; needed = w.2; allowed = enough w.0 w.2 }) none

module _ (𝓒 : Collection) (ok : WellFormed 𝓒) where
  -- THEOREM: one thing is told of a closed sheet
  pub sheet-once : AtMostOne (SheetTold 𝓒)
  sheet-once x y a b = by (clash 𝓒) refl
    where
      by : (k : Bool) → clash 𝓒 ≡ k → x ≡ y
      by true e = let k = (clash-is 𝓒 ok).0 e in a.none k ∙ sym (b.none k)
      by false e =
          let sane = fails (clash-is 𝓒 ok) e in
          let w = rounds-suffice 𝓒 ok in
          rounds-once (numbered_lite 𝓒) w.0 x y (a.marks sane w.0 w.2) (b.marks sane w.0 w.2)

  -- THEOREM: and it is the sheet's list
  pub sheet-listed : SheetIsListed 𝓒
  sheet-listed rounds t sane =
      let w = rounds-suffice 𝓒 ok in
      rounds-listing (numbered_lite 𝓒) w.0 rounds w.2 (t.marks sane w.0 w.2)

-- A stored area that is moved, and one that is moved back: one outcome each, and each call undoes the other.
use Rattle.std.specs.Prelude.{◌≡◌, refl, ◌↔◌, List, ℕ, Result, Ok, Err, IsOk}
use Rattle.std.proofs.Common.{sym, ap, ◌∙◌}
use Rattle.std.proofs.lemmas.Bool.{false≢true}
use Rattle.std.proofs.Math.Decide.{ℕ_discrete}
use Rattle.laws.specs.First.{fails, holds, first-once}
use Rattle.meaning.specs.Former.{IsMoved, MarksAbove}
use Rattle.meaning.proofs.FormerLaws.{moved-once, back-once, moved-exactly, former-there, moved-after-rounds, back-after-rounds}
use Rattle.sheet.specs.Former.{AreLong, GoesAbove}
use Rattle.sheet.specs.declared.former.Unmoved.{Unmoved}
use Rattle.sheet.specs.declared.former.Unmoved.TheVariants as unmoved
use Rattle.lampsaffron.specs.Areas.{number_of, MovesNumber, BackNumber, TellsMoved, TellsBack}
use Rattle.lampsaffron.specs.Areas.{ThereAndBack, BackAndThere, RoundsMoved, RoundsMovedBack}

-- the number of a call that comes to this
abbrev number-in : {A : Type 0} → Result A Unmoved → ℕ
number-in (Ok x) = 0
number-in (Err u) = number_of u

module _ (stored area : List ℕ) where
  -- THEOREM: one number is given
  pub moves-once : (n m : ℕ) → MovesNumber stored area n → MovesNumber stored area m → n ≡ m
  moves-once = first-once (λ n m h k. h ∙ sym k)

  pub back-number-once : (n m : ℕ) → BackNumber stored area n → BackNumber stored area m → n ≡ m
  back-number-once = first-once (first-once (λ n m h k. h ∙ sym k))

  -- it is 0 where nothing stands against it
  moves-zero : AreLong stored area → {n : ℕ} → MovesNumber stored area n → n ≡ 0
  moves-zero long (fails f) = absurd (f long)
  moves-zero long (holds h z) = z

  back-zero : AreLong stored area → (MarksAbove area → ⊥) → {n : ℕ} → BackNumber stored area n → n ≡ 0
  back-zero long none (fails f) = absurd (f long)
  back-zero long none (holds h (fails f)) = absurd (f none)
  back-zero long none (holds h (holds k z)) = z

  -- and else that of why nothing is moved
  pub moves-not : {A : Type 0} (r : Result A Unmoved) (u : Unmoved) → r ≡ Err u → IsOk r ↔ AreLong stored area
      → (r ≡ Err unmoved.BadLength) ↔ (AreLong stored area → ⊥) → MovesNumber stored area (number_of u)
  moves-not r u e ok bad =
      let short : AreLong stored area → ⊥ = λ l. let h = ok.1 l in false≢true (rw e at h) in
      let z : number_of u ≡ 5 = ap number-in (sym e ∙ bad.1 short) in
      rw z (fails short)

  pub back-not : (u : Unmoved) → (u ≡ unmoved.BadLength → AreLong stored area → ⊥)
      → (u ≡ unmoved.StateAbove15 → GoesAbove stored area) → BackNumber stored area (number_of u)
  back-not unmoved.BadLength a b = fails (a refl)
  back-not unmoved.StateAbove15 a b = let w = b refl in holds w.long (fails (λ n. n w.above))

-- THEOREM: all that each call gives and leaves is fixed
pub moving-once : (stored old new new' : List ℕ) (number number' : ℕ) → TellsMoved stored old number new
    → TellsMoved stored old number' new'
    → (number ≡ number') × (new ≡ new')
moving-once stored old new new' number number' a b = (e, by (ℕ_discrete number 0))
  where
    e : number ≡ number'
    e = moves-once stored old number number' a.number_is b.number_is

    by : Dec (number ≡ 0) → new ≡ new'
    by (yes z) = moved-once stored new new' (a.moved z) (b.moved (sym e ∙ z))
    by (no n) = a.kept n ∙ sym (b.kept (λ z. n (e ∙ z)))

pub moving-back-once : (area old new new' : List ℕ) (number number' : ℕ) → TellsBack area old number new → TellsBack area old number' new'
    → (number ≡ number') × (new ≡ new')
moving-back-once area old new new' number number' a b = (e, by (ℕ_discrete number 0))
  where
    e : number ≡ number'
    e = back-number-once old area number number' a.number_is b.number_is

    by : Dec (number ≡ 0) → new ≡ new'
    by (yes z) = back-once new new' area (a.moved z) (b.moved (sym e ∙ z))
    by (no n) = a.kept n ∙ sym (b.kept (λ z. n (e ∙ z)))

-- no state above 15 is marked in a moved area
none-above : (stored area : List ℕ) → IsMoved stored area → MarksAbove area → ⊥
none-above stored area v = (moved-exactly area (record { long = v.holds.long; bytes = v.holds.bytes })).0 (stored, v)

-- THEOREM: each call undoes the other
pub there-and-back : ThereAndBack
there-and-back stored before area old new number a long b =
    let v = a.moved refl in
    let z = back-zero old area (record { stored-long = long; area-long = v.holds.long }) (none-above stored area v) b.number_is in
    (z, back-once new stored area (b.moved z) v)

pub back-and-there : BackAndThere
back-and-there area before stored old new number a long b =
    let v = a.moved refl in
    let z = moves-zero stored old (record { stored-long = v.whole.long; area-long = long }) b.number_is in
    (z, moved-once stored new area (b.moved z) v)

-- THEOREM: and both keep the sheet of a collection
pub rounds-moved : RoundsMoved
rounds-moved 𝓒 ok few n stored old new number lays long a =
    let z = moves-zero stored old (record { stored-long = lays.long; area-long = long }) a.number_is in
    (z, (moved-after-rounds 𝓒 ok few n stored new lays).0 (a.moved z))

pub rounds-moved-back : RoundsMovedBack
rounds-moved-back 𝓒 ok few n area old new number lays long a =
    let s = former-there 𝓒 ok few n in
    let v = (back-after-rounds 𝓒 ok few n s.0 area lays).1 s.1 in
    let z = back-zero old area (record { stored-long = long; area-long = lays.long }) (none-above s.0 area v) a.number_is in
    (z, (back-after-rounds 𝓒 ok few n new area lays).0 (a.moved z))

-- What is known of frames that were taken one after the other, whatever their order.
use Rattle.std.specs.Prelude.{◌≡◌, ◌≢◌, refl, ◌⊎◌, ℕ, None, Some, IfSome}
use Rattle.std.proofs.Common.{sym, ap, ◌∙◌, inl, inr}
use mathlib.Core.List.Memᴰ
use mathlib.Core.List.{List, [], ◌∷◌, ◌++◌}
use Rattle.laws.specs.Member.{◌∈◌}
use Rattle.kinds.specs.declared.Counts.{Counts}
use Rattle.frames.specs.declared.Frame.{Frame}
use Rattle.frames.specs.declared.Frame.TheVariants.{Declared, RoleStep, TestStep, Final, Allowance, Expression, Salvage, ListedMark}
use Rattle.reading.specs.Tables.{steps, finals, table, declared_by, allowance_given, expression_given}
use Rattle.reading.specs.Judged.{InPlace, NumbersOk, AskOk}
use Rattle.reading.specs.Reading.{Taken}
use Rattle.reading.proofs.TableLaws.{table-more}
use Rattle.reading.proofs.Bounds.{or_else, allowance-more, expression-more}
use Rattle.reading.proofs.Kept.{declared-later, declared-first, same-expression}
use Rattle.reading.proofs.Passed.{Passed, taken-keeps}

-- a frame's place: line 1, which declares, or a later line
data Place (before : List Frame) : Frame → Type 0 where
  line_1 : (c : Counts) → before ≡ [] → Place before (Declared c)
  later : {f : Frame} → before ≢ [] → Place before f

place-of : (before : List Frame) (f : Frame) → InPlace before f → Place before f
place-of before (Declared c) h = line_1 c h
place-of before (Allowance n) h = later h.0.begun
place-of before (RoleStep s R t) h = later h.0.begun
place-of before (TestStep s A t) h = later h.0.begun
place-of before (Final s) h = later h.0.begun
place-of before (Expression row) h = later h.0.begun
place-of before Salvage h = later h.0.begun
place-of before (ListedMark n s t B) h = later h
place-of before f h = later h.begun

-- one more frame is among them
among : (before : List Frame) (f : Frame) → f ∈ (before ++ f ∷ [])
among before f = Memᴰ.append_right before (Memᴰ.head refl)

-- a member of one frame more is one of those before, or that frame
one-of : (before : List Frame) (f : Frame) {g : Frame} → g ∈ (before ++ f ∷ []) → (g ∈ before) ⊎ (g ≡ f)
one-of before f {g} m = side (Memᴰ.append_cases before m)
  where
    side : (g ∈ before) ⊎ (g ∈ (f ∷ [])) → (g ∈ before) ⊎ (g ≡ f)
    side (inl i) = inl i
    side (inr i) = inr (Memᴰ.eq_of_singleton i)

some-among : {f : Frame} (fs : List Frame) → f ∈ fs → fs ≢ []
some-among [] m e = Memᴰ.not-nil m
some-among (g ∷ fs) m e = cc

-- line 1 is among them, with what is declared,
abbrev Begins : List Frame → Type 0
Begins fs = fs ≢ [] → Declared (declared_by fs) ∈ fs

begins-more : (before : List Frame) (f : Frame) → Taken before → Passed before f → Begins before → Begins (before ++ f ∷ [])
begins-more before f t p h n = by (place-of before f p.in_place)
  where
    by : {g : Frame} → Place before g → Declared (declared_by (before ++ g ∷ [])) ∈ (before ++ g ∷ [])
    by (line_1 c e) = rw (declared-first before c e) (among before (Declared c))
    by {g} (later m) = rw (declared-later before g m) (Memᴰ.append_left (g ∷ []) (h m))

pub line-1-there : (fs : List Frame) → Taken fs → fs ≢ [] → Declared (declared_by fs) ∈ fs
line-1-there = taken-keeps Begins (λ n. absurd (n refl)) begins-more

-- and no other frame declares; every number is declared, and each asked individual
abbrev pub IsDeclared : Counts → Frame → Type 0
IsDeclared c (Declared d) = d ≡ c
IsDeclared c f = NumbersOk c f × AskOk c f

abbrev AllDeclared : List Frame → Type 0
AllDeclared fs = (f : Frame) → f ∈ fs → IsDeclared (declared_by fs) f

passed-declared : (before : List Frame) (f : Frame) → Passed before f → before ≢ [] → IsDeclared (declared_by before) f
passed-declared before (Declared c) p n = absurd (n p.in_place)
passed-declared before f p n = (p.numbers, p.ask)

declared-more : (before : List Frame) (f : Frame) → Taken before → Passed before f → AllDeclared before → AllDeclared (before ++ f ∷ [])
declared-more before f t p h g m = side (one-of before f m)
  where
    last : {o : Frame} → Place before o → Passed before o → IsDeclared (declared_by (before ++ o ∷ [])) o
    last (line_1 c e) q = sym (declared-first before c e)
    last {o} (later n) q = rw (declared-later before o n) (passed-declared before o q n)

    side : (g ∈ before) ⊎ (g ≡ f) → IsDeclared (declared_by (before ++ f ∷ [])) g
    side (inl i) = rw (declared-later before f (some-among before i)) (h g i)
    side (inr e) = rw e (last (place-of before f p.in_place) p)

pub all-declared : (fs : List Frame) → Taken fs → (f : Frame) → f ∈ fs → IsDeclared (declared_by fs) f
all-declared = taken-keeps AllDeclared (λ f m. absurd (Memᴰ.not-nil m)) declared-more

-- the allowance is that of the one frame that gives one
abbrev OneAllowance : List Frame → Type 0
OneAllowance fs = (n : ℕ) → Allowance n ∈ fs → allowance_given fs ≡ Some n

allowance-kept : (before : List Frame) (f : Frame) → Taken before → Passed before f → OneAllowance before → OneAllowance (before ++ f ∷ [])
allowance-kept before f t p h n m = side (one-of before f m)
  where
    last : (g : Frame) → InPlace before g → Allowance n ≡ g → allowance_given (before ++ g ∷ []) ≡ Some n
    last (Allowance k) q e =
        let same : n ≡ k = cc in
        allowance-more before (Allowance k) ∙ ap (λ o. or_else o (Some k)) q.1 ∙ ap Some (sym same)
    last g q e = absurd cc

    side : (Allowance n ∈ before) ⊎ (Allowance n ≡ f) → allowance_given (before ++ f ∷ []) ≡ Some n
    side (inl i) = allowance-more before f ∙ ap (λ o. or_else o (allowance_given (f ∷ []))) (h n i)
    side (inr e) = last f p.in_place e

pub allowance-there : (fs : List Frame) → Taken fs → (n : ℕ) → Allowance n ∈ fs → allowance_given fs ≡ Some n
allowance-there = taken-keeps OneAllowance (λ n m. absurd (Memᴰ.not-nil m)) allowance-kept

pub given-allowance : (fs : List Frame) (n : ℕ) → allowance_given fs ≡ Some n → Allowance n ∈ fs
given-allowance [] n e = absurd cc
given-allowance (Allowance m ∷ fs) n e = let same : m ≡ n = cc in Memᴰ.head (ap Allowance (sym same))
given-allowance (f ∷ fs) n e = Memᴰ.tail (given-allowance fs n e)

-- an expression stands for steps and final states, so that none is typed
abbrev Alone : List Frame → Type 0
Alone fs = IfSome (expression_given fs) (λ row. (table steps fs ≡ []) × (table finals fs ≡ []))

alone-more : (before : List Frame) (f : Frame) → Taken before → Passed before f → Alone before → Alone (before ++ f ∷ [])
alone-more before f t p h = by f p.in_place
  where
    none : (g : Frame) → expression_given before ≡ None → expression_given (g ∷ []) ≡ None → Alone (before ++ g ∷ [])
    none g e d = let n = same-expression before g d ∙ e in rw n tt

    by : (g : Frame) → InPlace before g → Alone (before ++ g ∷ [])
    by (RoleStep s R u) q = none (RoleStep s R u) q.1 refl
    by (TestStep s A u) q = none (TestStep s A u) q.1 refl
    by (Final s) q = none (Final s) q.1 refl
    by (Expression row) q =
        let e = expression-more before (Expression row) ∙ ap (λ o. or_else o (Some row)) q.1 in
        rw (e, table-more steps before (Expression row), table-more finals before (Expression row)) (q.2, q.3)
    by g q = rw (same-expression before g refl, table-more steps before g, table-more finals before g) h

pub expressed-alone : (fs : List Frame) → Taken fs → Alone fs
expressed-alone = taken-keeps Alone tt alone-more

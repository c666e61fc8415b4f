-- A frame that is taken has passed every test, and what one more taken frame keeps, all keep.
use Rattle.std.specs.Prelude.{ℕ, refl, List, [], ◌∷◌, ◌++◌, Ok}
use Rattle.laws.specs.First.{first-passed, holds}
use Rattle.frames.specs.declared.Frame.{Frame}
use Rattle.reading.specs.Tables.{declared_by}
use Rattle.reading.specs.Reading.{Finds, taken, Taken, none, more}
use Rattle.reading.specs.Judged.{InPlace, CountsOk, HasRoom, NumbersOk, AskOk, IsShallow, IsExpressed, IsShaped, Judged}

pub record Passed (before : List Frame) (f : Frame) : Type 0 where
  pub in_place : InPlace before f
  pub counts : CountsOk f
  pub room : HasRoom before f
  pub numbers : NumbersOk (declared_by before) f
  pub ask : AskOk (declared_by before) f
  pub shallow : IsShallow f
  pub expressed : IsExpressed f
  pub shaped : IsShaped (declared_by before) f

pub passed : (before : List Frame) (f : Frame) → Judged before f (Ok tt) → Passed before f
passed before f j =
    let a = first-passed j (λ e. cc) in
    let b = first-passed a.1 (λ e. cc) in
    let c = first-passed b.1 (λ e. cc) in
    let d = first-passed c.1 (λ e. cc) in
    let g = first-passed d.1 (λ e. cc) in
    let h = first-passed g.1 (λ e. cc) in
    let i = first-passed h.1 (λ e. cc) in
    let k = first-passed i.1 (λ e. cc) in
    record { in_place = a.0; counts = b.0; room = c.0; numbers = d.0; ask = g.0; shallow = h.0; expressed = i.0; shaped = k.0 }

pub judged_passed : (before : List Frame) (f : Frame) → Passed before f → Judged before f (Ok tt)
judged_passed before f p =
    holds p.in_place (holds p.counts (holds p.room (holds p.numbers (holds p.ask
    (holds p.shallow (holds p.expressed (holds p.shaped refl)))))))

pub judged_ok : {before : List Frame} {line : List ℕ} {f : Frame} → Finds before line (Ok f) → Judged before f (Ok tt)
judged_ok (taken f o j) = j

pub taken-keeps : (P : List Frame → Type 0) → P []
    → ((before : List Frame) (f : Frame) → Taken before → Passed before f → P before → P (before ++ f ∷ []))
    → (fs : List Frame) → Taken fs → P fs
taken-keeps P start step fs none = start
taken-keeps P start step fs (more before f t j) = step before f t (passed before f j) (taken-keeps P start step before t)

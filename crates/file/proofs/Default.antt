-- A file that gives no allowance: the rounds needed are allowed, so that each line is decided and every round is told of.
use Rattle.std.specs.Prelude.{ℕ, ◌≡◌, List, Option, None, min, unwrap_or}
use Rattle.std.proofs.Common.{ap, ◌∙◌, subst, arith}
use Rattle.meaning.specs.Lite.{lite}
use Rattle.meaning.specs.Lent.{Call}
use Rattle.meaning.specs.Outcome.{Breaks}
use Rattle.meaning.specs.Demands.{most_rounds, Spelled}
use Rattle.theory.proofs.SheetLaws.{rounds-unique}
use Rattle.frames.specs.declared.Frame.{Frame}
use Rattle.reading.specs.Tables.{declared_by, allowance_given, rounds_allowed}
use Rattle.reading.specs.File.{asked}
use Rattle.intake.specs.Verdicts.{collection_read}
use Rattle.file.specs.Told.{number_on, line_at}
use Rattle.file.specs.Laws.{TellsRounds}
use Rattle.file.specs.Demands.{IsAsModelSays}
use Rattle.file.specs.Default.{DefaultSuffices, NeverSpent, DefaultSaysAsModel, DefaultTellsAll}
use Rattle.file.proofs.Decided.{allowance-over}
use Rattle.file.proofs.Told.{over, question, asking, same-asks, rounds-are-told}
use Rattle.file.proofs.Demanded.{lines-say-as-model, rounds-enough}

allowed : (fs : List Frame) → allowance_given fs ≡ None → rounds_allowed fs ≡ most_rounds (declared_by fs)
allowed fs none = ap (λ (o : Option ℕ). unwrap_or o (most_rounds (declared_by fs))) none

-- THEOREM: concepts × states × (states − 1) rounds are allowed, which are enough
pub default-suffices : DefaultSuffices
default-suffices input fs q s none k h = rounds-enough input fs q s k h (omega (arith, allowed fs none))

-- THEOREM: so each line is as the canonical model says
pub default-model : DefaultSaysAsModel
default-model input text w fs q s none k h = lines-say-as-model input text w fs q s k h (default-suffices input fs q s none k h)

-- which is contradiction, yes or no
module _ (call : Call) (Found : Type 0) (line : List ℕ) (m : IsAsModelSays call Found line) (e : number_on line ≡ 3) where
  sane : ¬ Breaks call
  sane b = omega (arith, m.contradiction.1 b, e)

  missed : ¬ Found
  missed p = omega (arith, (m.yes sane).1 p, e)

  decided : ⊥
  decided = omega (arith, (m.no sane).1 missed, e)

-- THEOREM: and never the allowance spent
pub never-spent : NeverSpent
never-spent input text w fs s none k h =
    let gs = over w fs s in
    let q = question w fs s in
    let its = asking w fs s in
    let same = same-asks w fs s in
    let m = default-model input text w gs q its (allowance-over its.decided ∙ none) k (omega (arith, same)) in
    decided _ _ _ (subst (λ (n : ℕ). IsAsModelSays (asked gs q k) (Spelled (asked gs q k)) (line_at n text k)) same m)

-- THEOREM: the rounds that are told of are those needed
pub default-rounds : DefaultTellsAll
default-rounds input text w fs q s none some sane n need =
    let enough = default-suffices input fs q s none 0 some in
    let same = rounds-unique (lite (collection_read fs q)) enough.0 n enough.1 need in
    let all : min n (rounds_allowed fs) ≡ n = omega (arith, same, enough.2) in
    subst (λ (m : ℕ). TellsRounds fs (collection_read fs q) m text) all (rounds-are-told w fs q s some sane n need)

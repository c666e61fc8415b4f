-- What is put for what reading found of an input is what is written of the input.
use Rattle.std.specs.Prelude.{ℕ, ◌≡◌, ◌<◌, List, [], ◌++◌, Option, None, Some, IfSome, IfNone, Result, Ok, Err, length, take}
use Rattle.std.proofs.Common.{sym, subst}
use Rattle.streams.specs.Lines.{lines}
use Rattle.streams.specs.Takes.{TakesBut, TakesStart}
use Rattle.streams.proofs.Parts.{starts_ended}
use Rattle.reading.specs.declared.File.{File}
use Rattle.reading.specs.declared.Fault.{Fault}
use Rattle.reading.specs.File.{file_of}
use Rattle.reading.specs.Reading.{Verdict, faulty, sound, frames_of}
use Rattle.reading.specs.Reads.{told_of}
use Rattle.intake.specs.Verdicts.{Verdicts}
use Rattle.intake.specs.TakesIn.{TakesIn}
use Rattle.intake.proofs.VerdictLaws.{verdict-taken}
use Rattle.shell.specs.Reports.{OneOf, TellsFound}
use Rattle.shell.specs.Writes.{Saying, WritesOf, fault, said}

-- what follows from P of a text
pub one_so : {Texts P Q : List ℕ → Type 0} → ((x : List ℕ) → P x → Q x) → OneOf Texts P → OneOf Texts Q
one_so f o = record { text = o.text; is = o.is; so = f o.text o.so }

module _ (Says : Saying) (found : Result (Unit {0}) Fault) (file : File) where
  -- what follows from P of the text that is put
  pub tells_so : (P Q : List ℕ → Type 0) → ((x : List ℕ) → P x → Q x) → TellsFound Says found file P → TellsFound Says found file Q
  tells_so P Q f = by found
    where
      by : (found : Result (Unit {0}) Fault) → TellsFound Says found file P → TellsFound Says found file Q
      by (Ok u) t = record { by = λ fs taken e. one_so f (t.by fs taken e) }
      by (Err wrong) t = f _ t

  -- THEOREM: what is put for what reading finds of an input is written of the input
  pub of-input : (input : List ℕ) (P : List ℕ → Type 0) → TakesIn (lines input) found file → TellsFound Says found file P
      → OneOf (WritesOf Says input) P
  of-input input P r t = by r.verdict r.is r.kept (subst (λ (found : Result (Unit {0}) Fault). TellsFound Says found file P) r.told t)
    where
      by : (v : Verdict) → Verdicts (lines input) v → file ≡ file_of (frames_of v) → TellsFound Says (told_of v) file P
          → OneOf (WritesOf Says input) P
      by (sound fs) h kept t =
          let o = t.by fs (verdict-taken (lines input) (sound fs) h) kept in
          record { text = o.text; is = said fs o.text h o.is; so = o.so }
      by (faulty before r) h kept t = record { text = _; is = fault before r h; so = t }

  -- where the input is known
  pub of-known : (known : Option (List ℕ)) (P : List ℕ → Type 0) → IfSome known (λ input. TakesIn (lines input) found file)
      → TellsFound Says found file P → IfSome known (λ input. OneOf (WritesOf Says input) P)
  of-known None P r t = tt
  of-known (Some input) P r t = of-input input P r t

  -- in memory: as much was put as is told, or had no room
  module _ (input text : List ℕ) (r : TakesIn (lines input) found file) where
    pub copied : (n : ℕ) → TellsFound Says found file (λ out. take n text ≡ out) → WritesOf Says input (take n text)
    copied n t =
        let o = of-input input (λ out. take n text ≡ out) r t in
        subst (WritesOf Says input) (sym o.so) o.is

    pub no-room : (result : Option ℕ) → IfNone result (TellsFound Says found file (λ out. length text < length out))
        → IfNone result (OneOf (WritesOf Says input) (λ out. length text < length out))
    no-room None t = of-input input (λ out. length text < length out) r t
    no-room (Some n) t = tt

-- where the sink failed at what was pending it has taken a start of the text
pub ended-early : (Says : Saying) (found : Result (Unit {0}) Fault) (file : File) (a b c : Option (List ℕ)) (held pending : List ℕ)
    → held ≡ []
    → TellsFound Says found file (λ out. TakesBut pending a b (held ++ out)) → TakesStart b c pending
    → TellsFound Says found file (TakesStart a c)
ended-early Says found file a b c held pending none t s =
    tells_so Says found file (λ out. TakesBut pending a b (held ++ out)) (TakesStart a c)
    (λ x w. starts_ended a b c x pending (subst (λ (l : List ℕ). TakesBut pending a b (l ++ x)) none w) s) t

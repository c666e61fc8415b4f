-- All that holds of the copy of an input.
use Rattle.std.specs.Prelude.{ℕ, List}
use Rattle.std.proofs.Common.{subst}
use Rattle.shell.specs.Reports.{OneOf}
use Rattle.fair_copy.specs.Copy.{WritesCopy}
use Rattle.fair_copy.specs.Kept.{IsFairCopy}
use Rattle.fair_copy.proofs.Inputs.{input-once, reads-as-copy, its-copy-again, same-copies}
use Rattle.fair_copy.proofs.Answering.{copy-answers, faulty-alike}

pub kept : {input text : List ℕ} → WritesCopy input text → IsFairCopy input text
kept {input} {text} w = record {
  written = w;
  faulty = λ before r f. (faulty-alike input before r f text).0 w;
  reads = λ fs q a. reads-as-copy input text w fs q a;
  again = λ fs s. its-copy-again input text w fs s;
  same = λ fs q a other out v gs r b. same-copies input text other out w v fs q a gs r b;
  answered = λ fs s. copy-answers input text w fs s;
}

-- P holds of the one copy of an input
pub kept_one : {input : List ℕ} {P : List ℕ → Type 0} → OneOf (WritesCopy input) P → OneOf (IsFairCopy input) P
kept_one o = record { text = o.text; is = kept o.is; so = o.so }

pub kept_only : {input : List ℕ} {P : List ℕ → Type 0} → OneOf (WritesCopy input) P → (out : List ℕ) → WritesCopy input out → P out
kept_only {input} {P} o out w = subst P (input-once input o.text out o.is w) o.so

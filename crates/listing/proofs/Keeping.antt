-- All that holds of what the lister writes of an input.
use Rattle.std.specs.Prelude.{ℕ, List}
use Rattle.std.proofs.Common.{subst}
use Rattle.shell.specs.Reports.{OneOf}
use Rattle.listing.specs.Lists.{WritesListing}
use Rattle.listing.specs.Kept.{IsItsListing}
use Rattle.listing.proofs.Inputs.{input-listed-once, reads-as-listed, list-kept-as-is, its-text-again, its-copy, its-answers, faulty-alike}

pub kept : {input text : List ℕ} → WritesListing input text → IsItsListing input text
kept {input} {text} w = record {
  written = w;
  faulty = λ before r f. (faulty-alike input before r f text).0 w;
  reads = λ fs q a. reads-as-listed input text w fs q a;
  copied = λ fs s. its-copy input text w fs s;
  again = λ fs s. its-text-again input text w fs s;
  its_list = λ fs q a. list-kept-as-is input text w fs q a;
  answered = λ fs s. its-answers input text w fs s;
}

-- P holds of the one text of an input
pub kept_one : {input : List ℕ} {P : List ℕ → Type 0} → OneOf (WritesListing input) P → OneOf (IsItsListing input) P
kept_one o = record { text = o.text; is = kept o.is; so = o.so }

pub kept_only : {input : List ℕ} {P : List ℕ → Type 0} → OneOf (WritesListing input) P → (out : List ℕ) → WritesListing input out → P out
kept_only {input} {P} o out w = subst P (input-listed-once input o.text out o.is w) o.so

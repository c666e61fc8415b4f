-- What is put for a file that was read is what is written of it; and what follows of what an input writes.
use Rattle.std.specs.Prelude.{ℕ, ◌≡◌, refl, List, Option, None}
use Rattle.std.proofs.Common.{subst}
use Rattle.std.specs.Io.KnownBytes.{Appends}
use Rattle.reading.specs.declared.File.{File}
use Rattle.frames.specs.declared.Frame.{Frame}
use Rattle.reading.specs.Tables.{asks, entries, allowance_given, rounds_allowed}
use Rattle.reading.specs.File.{file_of, asked}
use Rattle.shell.specs.Reports.{OneOf, Tells}
use Rattle.shell.specs.Writes.{IsSound}
use Rattle.file.specs.Rounds.{RoundsTold}
use Rattle.intake.specs.Verdicts.{collection_read}
use Rattle.file.specs.Writes.{Answered, frames_width, SameButDeeds, RepliesTo, Writes}
use Rattle.file.specs.Former.{WasSound}
use Rattle.file.specs.LeftOut.{LeavesOutList}
use Rattle.file.specs.Serves.{Serves, FormerServes, AppendsUnspent}
use Rattle.file.specs.Replying.{AnswersAll}
use Rattle.file.proofs.Asks.{ask_entries}
use Rattle.file.proofs.WritesLaws.{writes-once}
use Rattle.file.proofs.DeedLaws.{writes-without-deeds}
use Rattle.file.proofs.FormerLaws.{writes-as-it-did}
use Rattle.file.proofs.Default.{never-spent}
use Rattle.file.proofs.LeftOut.{list-changes-nothing}

-- THEOREM: what is put for a file that was read is a text of the frames that it holds, once what they drop has left them
pub replies-tell : (file : File) {P : List ℕ → Type 0} → AnswersAll file P → Tells (RepliesTo frames_width) file P
replies-tell file {P} t = record { by = λ fs taken e. of fs (subst (λ (f : File). AnswersAll f P) e t) }
  where
    of : (fs : List Frame) → AnswersAll (file_of fs) P → OneOf (RepliesTo frames_width fs) P
    of fs t =
        let q = t.question in
        record {
          text = _;
          is = record {
            question = q;
            is = t.is;
            counts = t.counts;
            told = subst (λ (n : ℕ). RoundsTold (collection_read fs q) (rounds_allowed fs) n t.counts) (ask_entries fs) t.told;
            out = t.text;
            answered = subst (λ (n : ℕ). Answered (frames_width fs) (asked fs q) n t.text) (ask_entries fs) t.answered;
            whole = refl;
          };
          so = t.so;
        }

-- what follows of the text that an input writes: it writes no other,
module _ {input : List ℕ} {P : List ℕ → Type 0} (o : Serves input P) where
  pub served-only : (out : List ℕ) → Writes input out → P out
  served-only out w = subst P (writes-once o.is w) o.so

  -- one that differs in deed numbers alone writes it too,
  pub served-deeds : (other : List ℕ) → SameButDeeds input other → Serves other P
  served-deeds other s = record { text = o.text; is = (writes-without-deeds input other s o.text).0 o.is; so = o.so }

  -- where it is sound, so does one without its list,
  pub served-unlisted : (other : List ℕ) → LeavesOutList input other → (fs : List Frame) → IsSound input fs → Serves other P
  served-unlisted other l fs s = record { text = o.text; is = (list-changes-nothing input other l fs s o.text).0 o.is; so = o.so }

  -- and one that was read whole wrote it
  pub served-former : (fs : List Frame) → WasSound input fs → FormerServes input P
  served-former fs s = record { text = o.text; is = (writes-as-it-did input fs s o.text).0 o.is; so = o.so }

-- and without an allowance none of its answers has number 3
pub served-unspent : {input : List ℕ} {a b : Option (List ℕ)} → Serves input (Appends a b)
    → (fs : List Frame) → IsSound input fs → allowance_given fs ≡ None → Serves input (AppendsUnspent (entries asks fs) a b)
served-unspent {input} o fs s none =
    record { text = o.text; is = o.is; so = record { appends = o.so; unspent = never-spent input o.text o.is fs s none } }

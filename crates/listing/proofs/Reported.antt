-- What is put behind the copy of a file is the list of whatever frames it was read from.
use Rattle.std.specs.Prelude.{Bool, true, false, ℕ, ◌<◌, ◌≡◌, refl, List, ◌++◌, map}
use Rattle.std.proofs.Common.{sym, subst}
use Rattle.kinds.specs.declared.Counts.{Counts}
use Rattle.kinds.specs.Kinds.{CountsFit}
use Rattle.meaning.specs.Collection.{Collection, WellFormed}
use Rattle.meaning.specs.Lent.{collection, ShapesOk, NumbersFit}
use Rattle.meaning.specs.Listing.{numbered_lite}
use Rattle.meaning.specs.Model.{Contradiction}
use Rattle.meaning.proofs.ClashLaws.{clash-is}
use Rattle.meaning.proofs.Reply.{clash}
use Rattle.theory.specs.Listing.{entries_of}
use Rattle.sheet.specs.declared.round_marks.RoundMarks.{RoundMarks}
use Rattle.tables.specs.declared.collection.Collection as code
use Rattle.frames.specs.declared.Frame.{Frame}
use Rattle.reading.specs.declared.File.{File}
use Rattle.reading.specs.Tables.{Entry, frame_of}
use Rattle.reading.specs.File.{file_of, lent_tables, IsQuestion}
use Rattle.reading.specs.Reads.{IsRead}
use Rattle.reading.specs.Reading.{Taken}
use Rattle.reading.proofs.Accepted.{tables-ok, numbers-ok}
use Rattle.reading.proofs.Turns.{fitting}
use Rattle.index.specs.Marks.{SheetTold}
use Rattle.index.specs.Works.{meant, Passes}
use Rattle.index.proofs.ToldWhole.{sheet-listed}
use Rattle.intake.specs.Verdicts.{collection_read}
use Rattle.shell.specs.Reports.{OneOf, Tells}
use Rattle.fair_copy.specs.Copy.{frames_text}
use Rattle.fair_copy.specs.Framed.{typed_out}
use Rattle.fair_copy.specs.Ready.{IsMadeReady}
use Rattle.fair_copy.proofs.Putting.{text-append}
use Rattle.fair_copy.proofs.Reported.{some, question_is, fair}
use Rattle.listing.specs.Held.{typed_tables, typed_collection, IsTypedOut, ListAll}
use Rattle.listing.specs.Lists.{IsListOf, no-sheet, of-sheet, CopiesAndLists}
use Rattle.listing.proofs.Alike.{list-kept}
use Rattle.listing.proofs.There.{list-there}
use Rattle.listing.proofs.Tidied.{sets, same-counts, typed-out}

-- a collection that passes the library's tests is well-formed
module _ (c : code.Collection) (p : Passes c) where
  meant-formed : WellFormed (meant c)
  meant-formed = record { counts = p.counts; numbers = p.numbers.declared }

  -- THEOREM: the marks that are told of its sheet are its list
  pub told-list : (rounds : List RoundMarks) → SheetTold (meant c) rounds → IsListOf (meant c) (entries_of (numbered_lite (meant c)) rounds)
  told-list rounds t = by (clash (meant c)) refl
    where
      by : (b : Bool) → clash (meant c) ≡ b → IsListOf (meant c) (entries_of (numbered_lite (meant c)) rounds)
      by true e =
          let k = (clash-is (meant c) meant-formed).0 e in
          subst (λ (r : List RoundMarks). IsListOf (meant c) (entries_of (numbered_lite (meant c)) r)) (sym (t.none k)) (no-sheet k)
      by false e =
          let sane : Contradiction (meant c) → ⊥ = λ k. let d = (clash-is (meant c) meant-formed).1 k in cc in
          of-sheet sane (sheet-listed (meant c) meant-formed rounds t sane)

module _ (file : File) (w : IsTypedOut file) where
  formed : WellFormed (typed_collection file)
  formed = record { counts = w.counts; numbers = w.numbers.declared }

  -- P holds of some list, where it holds of any text
  pub some-list : (P : List ℕ → Type 0) → ((x : List ℕ) → P x) → ListAll (typed_collection file) P
  some-list P all = let l = list-there (typed_collection file) formed in record { list = l.0; is = l.1; so = all _ }

-- what follows from P of the list
pub list-so : {𝓒 : Collection} {P Q : List ℕ → Type 0} → ((x : List ℕ) → P x → Q x) → ListAll 𝓒 P → ListAll 𝓒 Q
list-so f l = record { list = l.list; is = l.is; so = f _ l.so }

module _ (file tidied : File) (ready : IsMadeReady file tidied) (begun : 0 < file.lines) where
  module _ (fs : List Frame) (t : Taken fs) (e : file ≡ file_of fs) where
    asked : IsQuestion (file_of fs) ready.spells.question
    asked = question_is file tidied ready begun fs t e

    counts : CountsFit file.counts
    counts = subst (λ (f : File). CountsFit f.counts) (sym e) (fitting fs t (some file tidied ready begun fs t e))

    shapes : ShapesOk (lent_tables file ready.spells.question)
    shapes = subst (λ (f : File). ShapesOk (lent_tables f ready.spells.question)) (sym e) (tables-ok t ready.spells.question asked 0).tables

    numbers : NumbersFit file.counts (lent_tables file ready.spells.question)
    numbers =
        subst (λ (f : File). NumbersFit f.counts (lent_tables f ready.spells.question)) (sym e) (numbers-ok t ready.spells.question asked 0)

    ready-typed : IsTypedOut tidied
    ready-typed = typed-out file tidied ready counts shapes numbers

    -- the list of what is held then is that of the frames
    list-of : {list : List Entry} → IsListOf (typed_collection tidied) list → IsListOf (collection_read fs ready.spells.question) list
    list-of {list} l =
        let c = same-counts file tidied ready counts shapes numbers in
        let s = sets file tidied ready counts shapes numbers in
        let a : IsListOf (collection file.counts (typed_tables tidied)) list =
        subst (λ (c : Counts). IsListOf (collection c (typed_tables tidied)) list) c l in
        let f : WellFormed (collection file.counts (typed_tables tidied)) =
        subst (λ (c : Counts). WellFormed (collection c (typed_tables tidied))) c (formed tidied ready-typed) in
        let g : WellFormed (collection file.counts (lent_tables file ready.spells.question)) =
        record { counts = counts; numbers = numbers.declared } in
        let b = list-kept file.counts (typed_tables tidied) (lent_tables file ready.spells.question) s.fewer s.more f g a in
        subst (λ (h : File). IsListOf (collection h.counts (lent_tables h ready.spells.question)) list) e b

    listed : {P : List ℕ → Type 0} → ListAll (typed_collection tidied) (λ list. P (frames_text (typed_out tidied) ++ list))
        → OneOf (CopiesAndLists fs) P
    listed l = record {
      text = frames_text (typed_out tidied) ++ frames_text (map frame_of l.list);
      is = record {
        question = ready.spells.question;
        is = asked;
        copy = typed_out tidied;
        fair = fair file tidied ready begun fs t e;
        list = l.list;
        listed = list-of l.is;
        written = sym (text-append (typed_out tidied) (map frame_of l.list));
      };
      so = l.so;
    }

  -- THEOREM: what was read is typed out then,
  pub typed-then : IsRead file → IsTypedOut tidied
  typed-then read = ready-typed read.frames read.taken read.kept

  -- THEOREM: and its copy and its list are told of the file
  pub told : {P : List ℕ → Type 0} → ListAll (typed_collection tidied) (λ list. P (frames_text (typed_out tidied) ++ list))
      → Tells CopiesAndLists file P
  told l = record { by = λ fs t e. listed fs t e l }

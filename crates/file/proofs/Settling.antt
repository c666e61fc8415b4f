-- A file that is settled: what it drops is told, and what is then held is what is answered.
use Rattle.std.specs.Prelude.{ℕ, zero, suc, ◌+◌, ◌<◌, ◌≤◌, ◌≡◌, ◌≢◌, refl, Bool, true, false, List, [], ◌∷◌, ◌++◌, length, take, drop, slice_index_or}
use Rattle.std.specs.List.{range_with_len}
use Rattle.std.proofs.Common.{sym, ap, ap₂, ◌∙◌, subst, append_assoc, append-nil, take-append-drop, arith}
use Rattle.std.proofs.lemmas.List.{take_more, length-take-le}
use Rattle.meaning.specs.Collection.{Collection}
use Rattle.meaning.specs.Lent.{collection}
use Rattle.salvage.specs.declared.Typed.{Typed}
use Rattle.salvage.specs.Facts.{IsSalvage, NamesAll, entries_of}
use Rattle.salvage.specs.Salvages.{marked}
use Rattle.tables.specs.declared.collection.Collection as code
use Rattle.tables.specs.Lists.{lists}
use Rattle.sift.specs.Excludes.{meant}
use Rattle.sift.specs.Salvage.{Passes, Marks}
use Rattle.expression.specs.Listed.{Listed}
use Rattle.frames.specs.declared.Frame.{Frame}
use Rattle.reading.specs.declared.File.{File}
use Rattle.reading.specs.File.{file_of, lent_tables, tables_of, IsQuestion, IsQuestionOf, LendsTables}
use Rattle.reading.specs.Reading.{Taken}
use Rattle.reading.specs.Reads.{IsRead}
use Rattle.reading.specs.Retained.{KeepsMarked}
use Rattle.reading.specs.Salvage.{kept_frames, dropped_lines, Decides, plain}
use Rattle.reading.specs.Tables.{declared_by, typed_lines}
use Rattle.reading.proofs.Accepted.{tables-ok, numbers-ok}
use Rattle.reading.proofs.Questions.{question-once}
use Rattle.reading.proofs.SalvageLaws.{names-all, salvage-decides, salvage-drops_facts, decides-says, decides-taken}
use Rattle.reading.proofs.Turns.{fitting}
use Rattle.reading.proofs.TypedLaws.{typed-length}
use Rattle.intake.specs.Verdicts.{collection_read}
use Rattle.shell.specs.Reports.{OneOf, Tells}
use Rattle.file.specs.Text.{dropped_line, dropped_text}
use Rattle.file.specs.Settling.{mark_text, marks_text, IsSifted, Settled, Settles, AsksSome, HoldsOver}
use Rattle.file.specs.Replying.{AnswersAll}
use Rattle.file.specs.Writes.{frames_width, Reports}
use Rattle.file.proofs.Decided.{reports-of}
use Rattle.file.proofs.RoundsThere.{replies-there}
use Rattle.file.proofs.Served.{replies-tell}

-- ---- the texts of marks

marks-both : (line : ℕ) (x y : List Bool) → marks_text line (x ++ y) ≡ marks_text line x ++ marks_text (line + length x) y
unfolding marks_text
marks-both line [] y = ap (λ n. marks_text n y) (omega arith)
marks-both line (b ∷ x) y =
    let n : line + 1 + length x ≡ line + suc (length x) = omega arith in
    ap (λ (l : List ℕ). mark_text b line ++ l) (marks-both (line + 1) x y ∙ ap (λ i. marks_text (line + 1) x ++ marks_text i y) n)
    ∙ sym (append_assoc (mark_text b line) (marks_text (line + 1) x) (marks_text (line + suc (length x)) y))

marks-one : (line : ℕ) (b : Bool) → marks_text line (b ∷ []) ≡ mark_text b line
unfolding marks_text
marks-one line b = append-nil (mark_text b line)

pub marks-none : (line : ℕ) → marks_text line [] ≡ []
unfolding marks_text
marks-none line = refl

-- one more
pub marks-more : (line : ℕ) (x : List Bool) (b : Bool) → marks_text line (x ++ b ∷ []) ≡ marks_text line x ++ mark_text b (line + length x)
marks-more line x b = marks-both line x (b ∷ []) ∙ ap (λ (l : List ℕ). marks_text line x ++ l) (marks-one (line + length x) b)

-- the first so many, and those behind
pub marks-parts : (line i : ℕ) (marks : List Bool) → marks_text line marks ≡ marks_text line (take i marks) ++ marks_text (line + length (take i marks)) (drop i marks)
marks-parts line i marks = ap (marks_text line) (sym (take-append-drop i marks)) ∙ marks-both line (take i marks) (drop i marks)

-- one turn more, and all that are left
module _ (kept : List Bool) (i : ℕ) (d : Bool) (inside : i < length kept) where
  abbrev pub mark : Bool
  mark = slice_index_or kept i d

  pub marks-next : marks_text 1 (take (i + 1) kept) ≡ marks_text 1 (take i kept) ++ mark_text mark (i + 1)
  marks-next =
      let n : 1 + length (take i kept) ≡ i + 1 = omega (arith, length-take-le i kept (omega arith)) in
      ap (λ (l : List Bool). marks_text 1 l) (take_more kept i d inside)
      ∙ marks-more 1 (take i kept) mark ∙ ap (λ k. marks_text 1 (take i kept) ++ mark_text mark k) n

  abbrev pub rest : List ℕ
  rest = marks_text (1 + length (take (i + 1) kept)) (drop (i + 1) kept)

  pub marks-all : marks_text 1 kept ≡ (marks_text 1 (take i kept) ++ mark_text mark (i + 1)) ++ rest
  marks-all = marks-parts 1 (i + 1) kept ∙ ap (λ (l : List ℕ). l ++ rest) marks-next

-- they are the lines of the facts that are dropped
pub marks-dropped : (line n : ℕ) (marks : List Bool) → length marks ≤ n → marks_text line marks ≡ dropped_text (marked false (range_with_len line n) marks)
unfolding marks_text dropped_text
marks-dropped line zero [] h = refl
marks-dropped line (suc n) [] h = refl
marks-dropped line zero (b ∷ marks) h = absurd (omega arith)
marks-dropped line (suc n) (true ∷ marks) h = marks-dropped (line + 1) n marks (omega arith)
marks-dropped line (suc n) (false ∷ marks) h = ap (λ (l : List ℕ). dropped_line line ++ l) (marks-dropped (line + 1) n marks (omega arith))

-- ---- what was read passes the tests of salvage

module _ (fs : List Frame) (t : Taken fs) (begun : fs ≢ []) (q : Listed) (is : IsQuestionOf fs q) where
  frames-pass : (c : code.Collection) (n : ℕ) → c.counts ≡ declared_by fs → lists c ≡ tables_of fs q → n ≡ length (typed_lines fs)
      → Passes c (typed_lines fs) n
  frames-pass c n a b e =
      let same : meant c ≡ collection_read fs q = ap₂ collection a b in
      record {
        counts = rw a (fitting fs t begun);
        tables = record {
          tables = rw b (tables-ok t q is 0).tables;
          fits = record { names = subst (λ (𝓒 : Collection). NamesAll (typed_lines fs) 𝓒.concept-facts 𝓒.role-facts) (sym same) (names-all fs q); long = sym e };
        };
        numbers = rw (a, b) (numbers-ok t q is 0);
      }

begun-frames : {file : File} {fs : List Frame} → file ≡ file_of fs → 0 < file.lines → fs ≢ []
begun-frames kept h e = let n = ap (λ (f : File). f.lines) kept in let m = ap (λ (l : List Frame). length l) e in omega (arith, n, m)

pub file-passes : (file : File) → IsRead file → 0 < file.lines → (c : code.Collection) → c.counts ≡ file.counts → LendsTables file (lists c)
    → (order : List Typed) → order ≡ file.typed → (n : ℕ) → n ≡ length order → Passes c order n
file-passes file read begun c a its order o n e =
    let kept = read.kept in
    let typed : order ≡ typed_lines read.frames = o ∙ ap (λ (f : File). f.typed) kept in
    rw typed (frames-pass read.frames read.taken (begun-frames kept begun) its.question (rw kept at its.is) c n
    (a ∙ ap (λ (f : File). f.counts) kept) (its.are ∙ ap (λ (f : File). lent_tables f its.question) kept) (e ∙ ap (λ (l : List Typed). length l) typed))

pub file-sifted : (file : File) (c : code.Collection) → c.counts ≡ file.counts → LendsTables file (lists c) → (order : List Typed)
    → order ≡ file.typed → (marks : List Bool) → Marks c order marks → IsSifted file marks
file-sifted file c a its order o marks m =
    let same : meant c ≡ collection file.counts (lent_tables file its.question) = ap₂ collection a its.are in
    record {
      question = its.question;
      is = its.is;
      marked =
          subst (λ (l : List Typed). IsSalvage (collection file.counts (lent_tables file its.question)) (entries_of (collection file.counts (lent_tables file its.question)) l) marks)
          o (subst (λ (𝓒 : Collection). IsSalvage 𝓒 (entries_of 𝓒 order) marks) same m);
    }

-- ---- what the salvage of a file's facts decides

module _ (file : File) (chosen : file.salvages ≡ true) (marks : List Bool) (long : length marks ≡ length file.typed) (m : IsSifted file marks) where
  module _ (fs : List Frame) (t : Taken fs) (e : file ≡ file_of fs) where
    abbrev q : Listed
    q = m.question

    is : IsQuestionOf fs q
    is = subst (λ (f : File). IsQuestion f m.question) e m.is

    salvage : IsSalvage (collection_read fs q) (entries_of (collection_read fs q) (typed_lines fs)) marks
    salvage =
        subst (λ (f : File). IsSalvage (collection f.counts (lent_tables f q)) (entries_of (collection f.counts (lent_tables f q)) f.typed) marks) e m.marked

    decides : Decides fs q (dropped_lines fs marks) (kept_frames fs marks)
    decides = salvage-decides fs t q marks salvage (sym (ap (λ (f : File). f.salvages) e) ∙ chosen)

    text-is : marks_text 1 marks ≡ dropped_text (dropped_lines fs marks)
    text-is = marks-dropped 1 (length fs) marks (omega (arith, long, ap (λ (f : File). length f.typed) e, typed-length fs))

    every : (r : Listed) → IsQuestionOf (kept_frames fs marks) r → Decides fs r (dropped_lines fs marks) (kept_frames fs marks)
    every r h =
        let s = decides-says fs t q (dropped_lines fs marks) (kept_frames fs marks) decides in
        subst (λ (p : Listed). Decides fs p (dropped_lines fs marks) (kept_frames fs marks)) (question-once (file_of fs) q r is ((s.question r).1 h)) decides

    over-asks : IsQuestionOf (kept_frames fs marks) q
    over-asks = ((decides-says fs t q (dropped_lines fs marks) (kept_frames fs marks) decides).question q).0 is

    settled : (P : List ℕ → List Frame → Type 0) → P (dropped_lines fs marks) (kept_frames fs marks) → Settled fs P
    settled P so = record {
      dropped = dropped_lines fs marks;
      over = kept_frames fs marks;
      taken = decides-taken fs t q (dropped_lines fs marks) (kept_frames fs marks) decides;
      decided = every;
      so = so;
    }

  -- THEOREM: where its lines are put, and the facts leave the file, it is settled
  pub settles : {P : List ℕ → Type 0} (new : File) → KeepsMarked file marks new → P (marks_text 1 marks) → Settles file (HoldsOver new P)
  settles {P} new k p = record {
    by = λ fs t e.
        settled fs t e (HoldsOver new P)
        (record { held = k.by fs t e (salvage-drops_facts fs t (q fs t e) marks (salvage fs t e)); so = subst P (text-is fs t e) p });
  }

  -- and so it is where putting them fails
  pub settles-not : {P : List ℕ → Type 0} → P (marks_text 1 marks) → Settles file (AsksSome P)
  settles-not {P} p = record {
    by = λ fs t e.
        settled fs t e (AsksSome P) (record { question = q fs t e; is = over-asks fs t e; so = subst P (text-is fs t e) p });
  }

-- ---- without the choice of salvage nothing is dropped

pub settled-plain : (file : File) {P : List ℕ → Type 0} → file.salvages ≡ false → P [] → Settles file (HoldsOver file P)
unfolding dropped_text
settled-plain file free p = record {
  by = λ fs t e. record {
    dropped = [];
    over = fs;
    taken = t;
    decided = λ q is. plain (sym (ap (λ (f : File). f.salvages) e) ∙ free);
    so = record { held = e; so = p };
  };
}

-- what is held then is read
pub settled-read : {old new : File} {P : List ℕ → Type 0} → IsRead old → Settles old (HoldsOver new P) → IsRead new
settled-read read s =
    let w = s.by read.frames read.taken read.kept in
    record { frames = w.over; taken = w.taken; kept = w.so.held }

-- ---- and what is written of it

module _ (old : File) where
  -- THEOREM: what is put for it, and then for what is held, is a text of its frames
  pub settled-tells : {new : File} (P Q R : List ℕ → Type 0) → ((x y : List ℕ) → P x → Q y → R (x ++ y)) → Settles old (HoldsOver new P)
      → AnswersAll new Q → Tells (Reports frames_width) old R
  settled-tells {new} P Q R more s a = record { by = λ fs t e. of fs (s.by fs t e) }
    where
      of : (fs : List Frame) → Settled fs (HoldsOver new P) → OneOf (Reports frames_width fs) R
      of fs w =
          let o = (replies-tell new a).by w.over w.taken w.so.held in
          record {
            text = dropped_text w.dropped ++ o.text;
            is = reports-of (w.decided o.is.question o.is.is) o.is.is o.is;
            so = more _ _ w.so.so o.so;
          }

  -- THEOREM: and where that fails, it fails at such a text
  pub settled-fails : (R : List ℕ → Type 0) → ((x y : List ℕ) → R x → R (x ++ y)) → Settles old (AsksSome R) → Tells (Reports frames_width) old R
  settled-fails R more s = record { by = λ fs t e. of fs (s.by fs t e) }
    where
      of : (fs : List Frame) → Settled fs (AsksSome R) → OneOf (Reports frames_width fs) R
      of fs w =
          let q = w.so.question in
          let o = replies-there w.over w.taken q w.so.is frames_width in
          record {
            text = dropped_text w.dropped ++ o.0;
            is = reports-of (w.decided q w.so.is) w.so.is o.1;
            so = more _ _ w.so.so;
          }

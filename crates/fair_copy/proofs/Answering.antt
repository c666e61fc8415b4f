-- What the desk answers to the copy with the asks of the file behind it is what it answers to the file.
use Rattle.std.specs.Prelude.{◌≡◌, refl, ◌↔◌, false, ℕ, zero, suc, List, ◌++◌}
use Rattle.std.proofs.Common.{sym, ap, ◌∙◌, subst}
use Rattle.kinds.specs.declared.Counts.{Counts}
use Rattle.meaning.specs.Collection.{WellFormed}
use Rattle.meaning.specs.Deeds.{lent_with}
use Rattle.meaning.specs.Lent.{Call, Tables, collection, ShapesOk}
use Rattle.meaning.specs.SameSets.{SameSets}
use Rattle.meaning.proofs.Larger.{contradiction-grows}
use Rattle.sorted.specs.Same.{SameTables}
use Rattle.sorted.proofs.SetLaws.{same-to-the-library, answered-alike}
use Rattle.expression.specs.Listed.{Listed}
use Rattle.frames.specs.declared.Frame.{Frame}
use Rattle.reading.specs.declared.Refusal.{Refusal}
use Rattle.reading.specs.Tables.{asks, entries, table, declared_by, salvages, rounds_allowed}
use Rattle.reading.specs.File.{file_of, tables_of, asked}
use Rattle.reading.proofs.Accepted.{tables-ok}
use Rattle.reading.proofs.Questions.{question-once}
use Rattle.intake.specs.Verdicts.{collection_read}
use Rattle.intake.proofs.VerdictLaws.{well-formed}
use Rattle.shell.specs.Writes.{IsSound, IsFaulty}
use Rattle.shell.proofs.WritesLaws.{fault-written, said-written}
use Rattle.file.specs.Text.{count_width}
use Rattle.file.specs.Rounds.{round_lines, RoundsTold, no-ask, contradiction, rounds}
use Rattle.file.specs.Writes.{Answers, Answered, FileRounds, frames_width, RepliesTo, Reports, Writes}
use Rattle.file.proofs.Decided.{plain-reports}
use Rattle.fair_copy.specs.Copy.{IsReadAs, IsCopyOf, frames_text, Copies, WritesCopy}
use Rattle.fair_copy.specs.Asking.{asks_of}
use Rattle.fair_copy.specs.Laws.{SameCollection}
use Rattle.fair_copy.proofs.Copied.{typed_by}
use Rattle.fair_copy.proofs.Inputs.{the_whole, the_copy, its-question}
use Rattle.fair_copy.proofs.Asked.{behind, behind-asks, behind-many, behind-declared, behind-allowed, behind-plain, behind-whole, behind-tables, behind-read}
use Rattle.fair_copy.proofs.Rounds.{needed-same, counts-same}
use Rattle.fair_copy.proofs.Same.{same-turned, copy-same}
use Rattle.fair_copy.proofs.Stands.{AreWhole}

module _ {fs : List Frame} {q : Listed} (w : AreWhole fs q) where
  pub its-shapes : ShapesOk (tables_of fs q)
  its-shapes = (tables-ok w.are.taken q w.are.asks 0).tables

  pub its-form : WellFormed (collection_read fs q)
  its-form = well-formed fs w.are.taken w.are.begun q w.are.asks

-- two files that are the same collection, and ask the same in the same order
module _ (fs : List Frame) (q : Listed) (w : AreWhole fs q) (gs : List Frame) (r : Listed) (v : AreWhole gs r)
    (s : SameCollection fs q gs r) (same-asks : table asks fs ≡ table asks gs) (same-many : entries asks fs ≡ entries asks gs) where
  sets : SameSets (asked fs q 0) (tables_of gs r)
  sets = same-to-the-library (asked fs q 0) (tables_of gs r) (its-shapes w) (its-shapes v) s.records

  rounds-allowed : rounds_allowed fs ≡ rounds_allowed gs
  rounds-allowed = rw (s.allowance, s.declared) refl

  -- ask k is the same call, with the tables of the other
  asked-same : (k : ℕ) → lent_with (asked fs q k) (tables_of gs r) ≡ asked gs r k
  asked-same k = rw (s.declared, s.allowance, same-asks) refl

  answer-same : (width k : ℕ) (x : List ℕ) → Answers width (asked fs q k) x → Answers width (asked gs r k) x
  answer-same width k x a =
      let same = answered-alike (asked fs q k) (tables_of gs r) (its-shapes w) (its-shapes v) s.records a.answer a.outcome.0 a.outcome.1 in
      subst (λ (c : Call). Answers width c x) (asked-same k)
      (record { answer = a.answer; outcome = (a.outcome.0, a.outcome.1, same.0 a.outcome.2); written = a.written })

  answered-same : (width n : ℕ) (out : List ℕ) → Answered width (asked fs q) n out → Answered width (asked gs r) n out
  unfolding Answered
  answered-same width zero out e = e
  answered-same width (suc n) out (x, y, a, b, e) = (x, y, answered-same width n x a, answer-same width n y b, e)

  -- the same rounds are told
  other-read : collection (declared_by fs) (tables_of gs r) ≡ collection_read gs r
  other-read = ap (λ (c : Counts). collection c (tables_of gs r)) s.declared

  other-formed : WellFormed (collection (declared_by fs) (tables_of gs r))
  other-formed = rw other-read (its-form v)

  told-same : (allowance many : ℕ) (counts : List ℕ) → RoundsTold (collection_read fs q) allowance many counts
      → RoundsTold (collection (declared_by fs) (tables_of gs r)) allowance many counts
  told-same allowance many counts (no-ask e) = no-ask e
  told-same allowance many counts (contradiction h) = contradiction (contradiction-grows sets.more (its-form w) other-formed h)
  told-same allowance many counts (rounds some sane need each) =
      rounds some (λ h. sane (contradiction-grows sets.fewer other-formed (its-form w) h))
      (needed-same (declared_by fs) (tables_of fs q) (tables_of gs r) sets.more sets.fewer _ need)
      (counts-same (declared_by fs) (tables_of fs q) (tables_of gs r) sets.more sets.fewer _ counts each)

  rounds-same : (counts : List ℕ) → FileRounds fs q counts → FileRounds gs r counts
  rounds-same counts t =
      subst (λ (c : Counts). RoundsTold (collection c (tables_of gs r)) (rounds_allowed gs) (entries asks gs) counts) s.declared
      (rw (rounds-allowed, same-many) at (told-same (rounds_allowed fs) (entries asks fs) counts t))

  width-same : frames_width fs ≡ frames_width gs
  width-same = ap count_width s.declared

  -- THEOREM: what is said of the one is said of the other
  replies-same : (text : List ℕ) → RepliesTo frames_width fs text → RepliesTo frames_width gs text
  replies-same text a =
      let e = question-once (file_of fs) a.question q a.is w.are.asks in
      let out = answered-same (frames_width fs) (entries asks fs) a.out
      (subst (λ (p : Listed). Answered (frames_width fs) (asked fs p) (entries asks fs) a.out) e a.answered) in
      record {
        question = r;
        is = v.are.asks;
        counts = a.counts;
        told = rounds-same a.counts (subst (λ (p : Listed). FileRounds fs p a.counts) e a.told);
        out = a.out;
        answered = rw (same-many, width-same) at out;
        whole = a.whole ∙ ap (λ n. round_lines n 0 a.counts ++ a.out) width-same;
      }

module _ (fs : List Frame) (q : Listed) (w : AreWhole fs q) (copy : List Frame) (k : IsCopyOf fs q copy) where
  abbrev gs : List Frame
  gs = behind fs q w copy k

  pub behind-same : SameCollection fs q gs (typed_by gs)
  behind-same =
      let s = copy-same fs q w copy k in
      record {
        declared = sym (behind-declared fs q w copy k);
        allowance = s.allowance ∙ sym (behind-allowed fs q w copy k);
        records = subst (λ (t : Tables). SameTables (tables_of fs q) t) (sym (behind-tables fs q w copy k)) s.records;
      }

  pub behind-replies : (text : List ℕ) → RepliesTo frames_width gs text ↔ RepliesTo frames_width fs text
  behind-replies text = (
    replies-same gs (typed_by gs) (behind-whole fs q w copy k) fs q w (same-turned fs q gs (typed_by gs) behind-same)
        (behind-asks fs q w copy k) (behind-many fs q w copy k) text,
    replies-same fs q w gs (typed_by gs) (behind-whole fs q w copy k) behind-same (sym (behind-asks fs q w copy k))
        (sym (behind-many fs q w copy k)) text,
  )

-- THEOREM: the desk writes of the copy, with the asks of the file behind it, what it writes of the file
module _ (input out : List ℕ) (wrote : WritesCopy input out) (fs : List Frame) (h : IsSound input fs) (none : salvages fs ≡ false) where
  pub copy-answers : (text : List ℕ) → Writes (out ++ frames_text (asks_of fs)) text ↔ Writes input text
  copy-answers text =
      let q = (its-question input out wrote fs h).0 in
      let asking : IsReadAs input fs q = record { sound = h; question = (its-question input out wrote fs h).1 } in
      let w = the_whole input out wrote fs q asking in
      let c = the_copy input out wrote fs q asking in
      let gs = behind fs q w c.copy c.fair in
      let read = subst (λ (x : List ℕ). IsSound (x ++ frames_text (asks_of fs)) gs) (sym c.written) (behind-read fs q w c.copy c.fair) in
      let to = said-written (Reports frames_width) (out ++ frames_text (asks_of fs)) gs read text in
      let from = said-written (Reports frames_width) input fs h text in
      let same = behind-replies fs q w c.copy c.fair text in
      let a = plain-reports {width = frames_width} {fs = gs} {text = text} (behind-plain fs q w c.copy c.fair) in
      let b = plain-reports {width = frames_width} {fs = fs} {text = text} none in
      (λ x. from.1 (b.1 (same.0 (a.0 (to.0 x)))), λ x. to.1 (a.1 (same.1 (b.0 (from.0 x)))))

-- THEOREM: of a faulty input the copyist writes what the desk writes
pub faulty-alike : (input : List ℕ) (before : List Frame) (r : Refusal) → IsFaulty input before r → (text : List ℕ)
    → WritesCopy input text ↔ Writes input text
faulty-alike input before r h text =
    let a = fault-written Copies input before r h text in
    let b = fault-written (Reports frames_width) input before r h text in
    (λ x. b.1 (a.0 x), λ x. a.1 (b.0 x))

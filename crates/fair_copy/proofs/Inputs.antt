-- Laws of the fair copy of an input.
use Rattle.std.specs.Prelude.{◌≡◌, ◌↔◌, ◌+◌, ◌≤◌, ℕ, List, length}
use Rattle.std.proofs.Common.{sym, ap, ◌∙◌, subst, arith}
use Rattle.laws.specs.Member.{◌∈◌}
use Rattle.expression.specs.Listed.{Listed}
use Rattle.frames.specs.declared.Frame.{Frame}
use Rattle.streams.specs.Lines.{lines}
use Rattle.reading.specs.File.{file_of, IsQuestionOf}
use Rattle.reading.specs.Reading.{sound}
use Rattle.reading.specs.Refusal.{refusal_number}
use Rattle.reading.proofs.Bounds.{taken-within}
use Rattle.intake.proofs.VerdictLaws.{verdict-once}
use Rattle.reading.proofs.Questions.{question-once}
use Rattle.shell.specs.Writes.{fault, said, IsSound}
use Rattle.shell.proofs.WritesLaws.{said-written, writes-once}
use Rattle.file.proofs.Widths.{fault-few}
use Rattle.fair_copy.specs.Copy.{IsReadAs, IsCopyOf, frames_text, Copies, WritesCopy}
use Rattle.fair_copy.specs.Laws.{most_copy, SameCollection, ReadsAsCopy}
use Rattle.fair_copy.proofs.Order.{copy-once}
use Rattle.fair_copy.proofs.Lengths.{text-few}
use Rattle.fair_copy.proofs.Stands.{AreWhole}
use Rattle.fair_copy.proofs.Fits.{are-whole}
use Rattle.fair_copy.proofs.Copied.{typed_by, stands-copied, copy-asks, copy-taken, copy-plain, copy-read}
use Rattle.fair_copy.proofs.Same.{same-turned, same-then, copy-same, same-copied, copy-again}

-- frames have one copy, so one text
pub copies-once : (fs : List Frame) (text out : List ℕ) → Copies fs text → Copies fs out → text ≡ out
copies-once fs text out a b =
    let e = question-once (file_of fs) b.question a.question b.is a.is in
    let k = subst (λ (q : Listed). IsCopyOf fs q b.copy) e b.fair in
    a.written ∙ ap frames_text (copy-once fs a.question a.copy b.copy a.fair k) ∙ sym b.written

-- THEOREM: an input has one copy
pub input-once : (input text out : List ℕ) → WritesCopy input text → WritesCopy input out → text ≡ out
input-once = writes-once Copies (λ fs t. copies-once fs)

-- what is written of a sound input is the text of its copy
module _ (input out : List ℕ) (wrote : WritesCopy input out) (fs : List Frame) (q : Listed) (h : IsReadAs input fs q) where
  pub the_whole : AreWhole fs q
  the_whole = are-whole input fs q h.sound h.question

  pub record ItsCopy : Type 0 where
    pub copy : List Frame
    pub fair : IsCopyOf fs q copy
    pub written : out ≡ frames_text copy

  pub the_copy : ItsCopy
  the_copy =
      let c = (said-written Copies input fs h.sound out).0 wrote in
      record {
        copy = c.copy;
        fair = subst (λ (r : Listed). IsCopyOf fs r c.copy) (question-once (file_of fs) c.question q c.is h.question) c.fair;
        written = c.written;
      }

  copy-sound : IsSound out the_copy.copy
  copy-sound =
      subst (λ (text : List ℕ). IsSound text the_copy.copy) (sym the_copy.written)
      (copy-read fs q the_whole the_copy.copy the_copy.fair)

  -- THEOREM: it is read as the copy, which is the same collection,
  pub reads-as-copy : ReadsAsCopy fs q out
  reads-as-copy = record {
    copy = the_copy.copy;
    fair = the_copy.fair;
    sound = copy-sound;
    plain = copy-plain fs q the_whole the_copy.copy the_copy.fair;
    question = typed_by the_copy.copy;
    asks = copy-asks fs q the_whole the_copy.copy the_copy.fair;
    same = copy-same fs q the_whole the_copy.copy the_copy.fair;
  }

  -- THEOREM: and its copy is the copy itself
  copied-again : WritesCopy out out
  copied-again =
      said the_copy.copy out copy-sound
      (record {
        question = typed_by the_copy.copy;
        is = copy-asks fs q the_whole the_copy.copy the_copy.fair;
        copy = the_copy.copy;
        fair = copy-again fs q the_whole the_copy.copy the_copy.fair;
        written = the_copy.written;
      })

-- the question of a sound input that has a copy
module _ (input out : List ℕ) (wrote : WritesCopy input out) (fs : List Frame) (h : IsSound input fs) where
  pub its-question : (q : Listed) × IsQuestionOf fs q
  its-question = let c = (said-written Copies input fs h out).0 wrote in (c.question, c.is)

  pub its-copy-again : WritesCopy out out
  its-copy-again = copied-again input out wrote fs its-question.0 (record { sound = h; question = its-question.1 })

-- THEOREM: two sound inputs have the same copy exactly where they are the same collection
module _ (input out other text : List ℕ) (wrote : WritesCopy input out) (wrote' : WritesCopy other text)
    (fs : List Frame) (q : Listed) (h : IsReadAs input fs q) (gs : List Frame) (r : Listed) (k : IsReadAs other gs r) where
  alike-from : SameCollection fs q gs r → out ≡ text
  alike-from s =
      let c = the_copy input out wrote fs q h in
      let d = the_copy other text wrote' gs r k in
      let w = the_whole input out wrote fs q h in
      let v = the_whole other text wrote' gs r k in
      let e = copy-once gs r c.copy d.copy (same-copied fs q w gs r v s c.copy c.fair) d.fair in
      c.written ∙ ap frames_text e ∙ sym d.written

  alike-to : out ≡ text → SameCollection fs q gs r
  alike-to e =
      let a = reads-as-copy input out wrote fs q h in
      let b = reads-as-copy other text wrote' gs r k in
      let i = verdict-once (lines text) (sound a.copy) (sound b.copy) (subst (λ (x : List ℕ). IsSound x a.copy) e a.sound) b.sound in
      let c : a.copy ≡ b.copy = cc in
      let d = question-once (file_of b.copy) a.question b.question (rw c at a.asks) b.asks in
      same-then fs q b.copy b.question gs r (rw (c, d) at a.same) (same-turned gs r b.copy b.question b.same)

  pub same-copies : (out ≡ text) ↔ SameCollection fs q gs r
  same-copies = (alike-to, alike-from)

-- THEOREM: no copy is longer than the longest, nor is the line of a fault
pub input-fits : {input out : List ℕ} → WritesCopy input out → length out ≤ most_copy
input-fits (fault before r h) = omega (arith, fault-few (length before + 1) (refusal_number r))
input-fits {input} (said fs out h c) =
    let w = are-whole input fs c.question h c.is in
    let in-copy = λ (f : Frame) (m : f ∈ c.copy). stands-copied ((c.fair.same f).0 m) in
    rw c.written (text-few c.copy in-copy (taken-within c.copy (copy-taken fs c.question w c.copy c.fair)))

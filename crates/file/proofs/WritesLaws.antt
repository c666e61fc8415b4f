-- An input writes one text, which is no longer than its room.
use Rattle.std.specs.Prelude.{ℕ, zero, suc, ◌+◌, ◌<◌, ◌≤◌, ◌≡◌, List, ◌++◌, length}
use Rattle.std.proofs.Math.Path.{ap₂}
use Rattle.std.proofs.Common.{mul-le-mul, sym, ap, ◌∙◌, subst, length-append, arith}
use Rattle.meaning.specs.Collection.{WellFormed}
use Rattle.meaning.specs.Lent.{Call}
use Rattle.meaning.proofs.OutcomeExists.{sound-well-formed}
use Rattle.meaning.proofs.OutcomeLaws.{outcome-unique}
use Rattle.expression.specs.Listed.{Listed}
use Rattle.frames.specs.declared.Frame.{Frame}
use Rattle.reading.specs.Tables.{asks, entries, declared_by}
use Rattle.reading.specs.File.{file_of, asked}
use Rattle.reading.specs.Reading.{Verdict, faulty, sound, Reading}
use Rattle.reading.specs.Reading as read
use Rattle.reading.specs.Refusal.{refusal_number}
use Rattle.reading.proofs.Questions.{question-once}
use Rattle.reading.proofs.Bounds.{few}
use Rattle.reading.proofs.Accepted.{accepted, reading-taken}
use Rattle.reading.specs.Salvage.{Decides}
use Rattle.reading.specs.Reading.{Taken}
use Rattle.reading.proofs.SalvageLaws.{decides-once}
use Rattle.file.specs.declared.TheConstants.{MOST_TEXT}
use Rattle.shell.specs.Writes.{fault, said}
use Rattle.shell.proofs.WritesLaws as any
use Rattle.file.specs.Text.{answer_line, dropped_text}
use Rattle.file.specs.Rounds.{round_lines}
use Rattle.intake.specs.Verdicts.{collection_read}
use Rattle.file.specs.Writes.{Answers, Answered, frames_width, FileRounds, RepliesTo, Reports, Writes}
use Rattle.file.proofs.Sound.{sound-read}
use Rattle.file.proofs.Decided.{question-over, taken-over, few-dropped}
use Rattle.file.proofs.Dropped.{dropped-long}
use Rattle.file.proofs.Widths.{fault-few, is-width, round-room}
use Rattle.file.proofs.Turns.{answered-length, answers-room}
use Rattle.file.proofs.Rounds.{rounds-length, told-once, few-most}

answers-once : (width : ℕ) (call : Call) (x y : List ℕ) → Answers width call x → Answers width call y → x ≡ y
answers-once width call x y a b =
    let e = (outcome-unique call a.outcome.2 b.outcome.2).0 in
    a.written ∙ ap (answer_line width call.ask) e ∙ sym b.written

answered-once : (width : ℕ) (call : ℕ → Call) (k : ℕ) (x y : List ℕ) → Answered width call k x → Answered width call k y → x ≡ y
unfolding Answered
answered-once width call zero x y a b = a ∙ sym b
answered-once width call (suc k) x y (p, q, a, b, e) (u, v, c, d, i) =
    e ∙ ap₂ (λ (l m : List ℕ). l ++ m) (answered-once width call k p u a c) (answers-once width (call k) q v b d) ∙ sym i

-- THEOREM: frames that are answered have one text
pub replies-once : {width : List Frame → ℕ} {fs : List Frame} {x y : List ℕ} → RepliesTo width fs x → RepliesTo width fs y → x ≡ y
replies-once {width} {fs} a b =
    let e = question-once (file_of fs) b.question a.question b.is a.is in
    let counts = told-once a.told (subst (λ (q : Listed). FileRounds fs q b.counts) e b.told) in
    let out = answered-once (width fs) (asked fs a.question) (entries asks fs) a.out b.out a.answered
    (subst (λ (q : Listed). Answered (width fs) (asked fs q) (entries asks fs) b.out) e b.answered) in
    a.whole ∙ ap₂ (λ (c o : List ℕ). round_lines (width fs) 0 c ++ o) counts out ∙ sym b.whole

-- THEOREM: and so have frames that are read
pub reports-once : {width : List Frame → ℕ} (fs : List Frame) → Taken fs → {x y : List ℕ} → Reports width fs x → Reports width fs y → x ≡ y
reports-once {width} fs t a b =
    let p = a.replies.question in
    let e = question-once (file_of fs) b.replies.question p ((question-over b.decided t b.replies.question).0 b.replies.is)
    ((question-over a.decided t p).0 a.replies.is) in
    let same = decides-once fs p a.dropped b.dropped a.over b.over a.decided (subst (λ (q : Listed). Decides fs q b.dropped b.over) e b.decided) in
    let other = subst (λ (gs : List Frame). RepliesTo width gs b.out) (sym same.1) b.replies in
    a.whole ∙ ap₂ (λ (d : List ℕ) (o : List ℕ). dropped_text d ++ o) same.0 (replies-once a.replies other) ∙ sym b.whole

-- THEOREM: an input writes one text
pub writes-once : {input x y : List ℕ} → Writes input x → Writes input y → x ≡ y
writes-once {input} {x} {y} = any.writes-once (Reports frames_width) (λ fs taken x y. reports-once fs taken) input x y

-- THEOREM: no text is longer than its room
pub writes-length : {input out : List ℕ} → Writes input out → length out ≤ MOST_TEXT
writes-length (fault before r k) = omega (arith, fault-few (length before + 1) (refusal_number r))
writes-length {input} (said hs x k r) =
    let taken = reading-taken (sound-read k) read.none in
    let fs = r.over in
    let over = taken-over r.decided taken in
    let s = r.replies in
    let q = s.question in
    let fine : 0 < entries asks fs → WellFormed (collection_read fs q) =
    λ some. sound-well-formed (asked fs q 0) (accepted fs over q s.is 0 some) in
    let wide = is-width (declared_by fs) in
    let rounds = few-most s.told fine in
    omega (
      arith,
      ap (λ (l : List ℕ). length l) r.whole,
      length-append (dropped_text r.dropped) r.out,
      dropped-long r.dropped,
      few-dropped r.decided taken,
      ap (λ (l : List ℕ). length l) s.whole,
      length-append (round_lines (frames_width fs) 0 s.counts) s.out,
      rounds-length (frames_width fs) wide 0 s.counts,
      mul-le-mul (round-room wide) rounds,
      answered-length wide (asked fs q) (entries asks fs) s.out s.answered,
      answers-room wide (λ k. (asked fs q k).ask) (entries asks fs),
      few asks fs over,
    )

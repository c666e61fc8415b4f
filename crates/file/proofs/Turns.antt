-- Asks answered one after the other: what was put after some of them.
use Rattle.std.specs.Prelude.{ℕ, zero, suc, ◌+◌, ◌*◌, ◌-◌, ◌≤◌, ◌≡◌, refl, List, [], ◌++◌, Result, Ok, Err, IfErr, IsErrAnd, length}
use Rattle.std.proofs.Common.{sym, ap, ◌∙◌, subst, append_assoc, append-nil, length-append, add-zero, add-suc, add-one, arith}
use Rattle.kinds.specs.declared.Ask.{Ask}
use Rattle.meaning.specs.Lent.{Call}
use Rattle.meaning.proofs.OutcomeExists.{outcome-exists}
use Rattle.expression.specs.Listed.{Listed}
use Rattle.reading.specs.declared.File.{File}
use Rattle.reading.specs.File.{held_ask, held_call, IsQuestion}
use Rattle.file.specs.Text.{answer_line}
use Rattle.file.specs.declared.text.TheConstants.{ANSWER_LINE}
use Rattle.file.specs.Rounds.{round_lines}
use Rattle.file.specs.Told.{answer_length, answers_length}
use Rattle.file.specs.Writes.{Answers, Answered}
use Rattle.file.proofs.Widths.{IsWidth, answer-length, answer-room}
use Rattle.kinds.specs.declared.Counts.{Counts}
use Rattle.file.specs.Replying.{ask_count, held_width, HeldRounds, RoundsAll, AnswersAll}

-- an error that is passed on as it came
pub passed_on : {A E : Type 0} (r : Result A E) (e : E) (Q : E → Type 0) → IsErrAnd r (λ d. d ≡ e) → Q e → IfErr r Q
passed_on (Ok x) e Q h q = tt
passed_on (Err d) e Q h q = rw h q

module _ {c : Counts} {width : ℕ} (w : IsWidth c width) where
  -- answers' lines have as many characters as they are said to have, and no more than there is room for
  pub answered-length : (call : ℕ → Call) (k : ℕ) (out : List ℕ) → Answered width call k out
      → length out ≡ answers_length width (λ j. (call j).ask) k
  unfolding Answered answers_length
  answered-length call zero out e = rw e refl
  answered-length call (suc k) out (x, y, a, b, e) =
      let l = answered-length call k x a in
      let m : length y ≡ answer_length width (call k).ask = ap (λ (l : List ℕ). length l) b.written ∙ answer-length w (call k).ask b.answer in
      rw e (omega (arith, length-append x y, l, m))

  pub answers-room : (ask : ℕ → Ask) (k : ℕ) → answers_length width ask k ≤ ANSWER_LINE * k
  unfolding answers_length
  answers-room ask zero = omega arith
  answers-room ask (suc k) = omega (arith, answers-room ask k, answer-room w (ask k))

module _ (file : File) (q : Listed) where
  answered_none : Answered (held_width file) (held_call file q) 0 []
  unfolding Answered
  answered_none = refl

  answered_more : (k : ℕ) (out line : List ℕ) → Answered (held_width file) (held_call file q) k out → Answers (held_width file) (held_call file q k) line
      → Answered (held_width file) (held_call file q) (k + 1) (out ++ line)
  unfolding Answered
  answered_more k out line a w = rw (add-one k) (out, line, a, w, refl)

  -- the answers to the first k asks go on to those of j more
  answered_on : (k j : ℕ) (out : List ℕ) → Answered (held_width file) (held_call file q) k out
      → (rest : List ℕ) × Answered (held_width file) (held_call file q) (k + j) (out ++ rest)
  unfolding Answered
  answered_on k zero out a = ([], rw (append-nil, add-zero) a)
  answered_on k (suc j) out a =
      let w = answered_on k j out a in
      let o = outcome-exists (held_call file q (k + j)) in
      let line = answer_line (held_width file) (held_ask file (k + j)) _ in
      rw add-suc
      (w.0 ++ line, (out ++ w.0, line, w.1, record { answer = _; outcome = (_, _, o); written = refl }, sym (append_assoc out w.0 line)))

  -- P of the lines for the rounds and the first k asks
  pub record Done (k : ℕ) (P : List ℕ → Type 0) : Type 0 where
    pub is : IsQuestion file q
    pub counts : List ℕ
    pub told : HeldRounds file q counts
    pub text : List ℕ
    pub answered : Answered (held_width file) (held_call file q) k text
    pub so : P (round_lines (held_width file) 0 counts ++ text)

  module _ (P Q : List ℕ → Type 0) where
    -- one more
    pub more_done : (k : ℕ) (line : List ℕ) → Answers (held_width file) (held_call file q k) line → ((x : List ℕ) → P x → Q (x ++ line)) → Done k P
        → Done (k + 1) Q
    more_done k line l so d = record {
      is = d.is;
      counts = d.counts;
      told = d.told;
      text = d.text ++ line;
      answered = answered_more k d.text line d.answered l;
      so = subst Q (append_assoc (round_lines (held_width file) 0 d.counts) d.text line) (so _ d.so);
    }

  -- where P of some lines is P of more behind them, it is P of those for all asks
  pub all_from : (P : List ℕ → Type 0) → ((x y : List ℕ) → P x → P (x ++ y)) → (k : ℕ) → k ≤ ask_count file → Done k P → AnswersAll file P
  all_from P more k h d =
      let w = answered_on k (ask_count file - k) d.text d.answered in
      let n : k + (ask_count file - k) ≡ ask_count file = omega arith in
      record {
        question = q;
        is = d.is;
        counts = d.counts;
        told = d.told;
        text = d.text ++ w.0;
        answered = subst (λ (n : ℕ). Answered (held_width file) (held_call file q) n (d.text ++ w.0)) n w.1;
        so = subst P (append_assoc (round_lines (held_width file) 0 d.counts) d.text w.0) (more _ w.0 d.so);
      }

  pub all_done : (P : List ℕ → Type 0) (k : ℕ) → k ≡ ask_count file → Done k P → AnswersAll file P
  all_done P k e d =
      record { question = q; is = d.is; counts = d.counts; told = d.told; text = d.text; answered = rw e at d.answered; so = d.so }

-- where the rounds are told no ask is answered yet
pub none_done : (file : File) (P : List ℕ → Type 0) (r : RoundsAll file P) → Done file r.question 0 P
none_done file P r = record {
  is = r.is;
  counts = r.counts;
  told = r.told;
  text = [];
  answered = answered_none file r.question;
  so = subst P (sym (append-nil (round_lines (held_width file) 0 r.counts))) r.so;
}

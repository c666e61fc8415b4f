-- What stands on the lines that an input writes: each line at its place, and its bytes read back.
use Rattle.std.specs.Prelude.{ℕ, zero, suc, ◌+◌, ◌-◌, ◌*◌, ◌^◌, ◌<◌, ◌≤◌, ◌≡◌, ◌⊎◌, refl, Bool, true, false, nat_lt}
use Rattle.std.specs.Prelude.{List, [], ◌∷◌, ◌++◌, if◌then◌else◌, length, min, slice_index}
use Rattle.std.specs.Int.{bytes_high_first}
use Rattle.std.proofs.Common.{sym, ap, ◌∙◌, subst, append-nil, length-append, arith}
use Rattle.std.proofs.lemmas.Bool.Decides.{nat_tests}
use Rattle.kinds.specs.declared.Answer.{Answer}
use Rattle.kinds.specs.declared.Ask.{Ask}
use Rattle.kinds.specs.declared.Counts.{Counts}
use Rattle.kinds.specs.Answer.{answer_number, answer_count, number-listed}
use Rattle.meaning.specs.Collection.{WellFormed}
use Rattle.meaning.specs.Model.{Contradiction}
use Rattle.theory.specs.Sheet.{Needed}
use Rattle.meaning.specs.Lite.{lite}
use Rattle.theory.specs.Marks.{RoundCounts}
use Rattle.meaning.specs.Lent.{Call, Sound}
use Rattle.meaning.proofs.OutcomeExists.{sound-well-formed}
use Rattle.meaning.proofs.LiteMarks.{lite-make, lite-few}
use Rattle.kinds.specs.declared.Ask.TheVariants.{Pair, From}
use Rattle.frames.specs.Digits.{byte_of}
use Rattle.frames.specs.declared.Frame.{Frame}
use Rattle.reading.specs.declared.Refusal.{Refusal}
use Rattle.reading.specs.Refusal.{refusal_number}
use Rattle.streams.specs.Lines.{lines}
use Rattle.expression.specs.Listed.{Listed}
use Rattle.reading.specs.Tables.{asks, entries, table, declared_by, rounds_allowed}
use Rattle.reading.specs.File.{asked}
use Rattle.reading.proofs.Listed.{refusals-listed}
use Rattle.frames.specs.Text.{text}
use Rattle.shell.specs.Faults.{line_width, fault_line}
use Rattle.shell.specs.Writes.{IsSound, IsFaulty}
use Rattle.shell.proofs.WritesLaws.{faults-near, fault-written, said-written}
use Rattle.file.specs.Text.{count_width, dropped_line, dropped_text, round_line, answer_line, IsInBytes}
use Rattle.file.specs.Rounds.{round_lines}
use Rattle.intake.specs.Verdicts.{collection_read}
use Rattle.file.specs.Writes.{Answers, Answered, IsAsking, frames_width, FileRounds, Reports, Writes}
use Rattle.frames.specs.Frames.{number_in}
use Rattle.file.specs.Told.{line_in, dropped_in, rounds_in, round_at, line_at, dropped_length, round_length, answers_length, number_on, refusal_on, count_on}
use Rattle.file.specs.Told.{Names, TellsOutcome, IsDroppedLine, IsRoundLine, IsFaultLine}
use Rattle.file.specs.Laws.{AnswersEachAsk, TellsRounds}
use Rattle.tables.specs.Asks.{read_ask}
use Rattle.file.proofs.Asks.{small}
use Rattle.file.proofs.Decided.{asking-once, asking-sound, read-taken, dropped-small, entries-over}
use Rattle.file.proofs.Bytes.{byte-at}
use Rattle.file.proofs.Dropped.{dropped_lined, dropped-is, dropped-length, dropped-long, dropped-both, dropped-all, dropped-rounds, dropped-answers}
use Rattle.file.proofs.Widths.{IsWidth, two, four, is-width, narrow, rounds-fit, high-long, bytes-at, number-back, round-length, answer-length}
use Rattle.file.proofs.Turns.{answered-length}
use Rattle.file.proofs.Lined.{AreLines, both_lines, line_before, line_after, rounds_lined, round-is, answers_lined, answer-at}
use Rattle.file.proofs.Rounds.{rounds-length, told-once, none-told, rounds-told, few-told}
use Rattle.file.proofs.Listed.{sound-listed, count-fits}

-- and a number among them
high-below : (width n i : ℕ) → slice_index (bytes_high_first width n) i < 256
high-below zero n i = omega arith
high-below (suc zero) n zero = omega arith
high-below (suc (suc width)) n zero = omega arith
high-below (suc width) n (suc i) = high-below width n i

module _ (front rest : List ℕ) {c : Counts} {width : ℕ} (w : IsWidth c width) (n : ℕ) (fits : n < 2 ^ (8 * width)) where
  abbrev around : List ℕ
  around = front ++ (bytes_high_first width n ++ rest)

  number-at : number_in width (byte_of (text around)) (length front) ≡ n
  number-at =
      number-back (byte_of (text around)) (length front) n w fits (λ i h.
      let at = bytes-at front rest width n i h in
      let long = length-append front (bytes_high_first width n ++ rest) in
      let more = length-append (bytes_high_first width n) rest in
      byte-at around (length front + i) (omega (arith, long, more, high-long width n)) (omega (arith, at, high-below width n i)) ∙ at)

-- the bytes of a line of an answer
module _ (width : ℕ) (r : Answer) where
  names-is : (ask : Ask) → IsInBytes ask → Names ask (answer_line width ask r)
  unfolding answer_line
  names-is (Pair a b) h = (byte-at _ 0 (omega arith) (omega arith), byte-at _ 1 (omega arith) h.0, byte-at _ 2 (omega arith) h.1)
  names-is (From a) h = (byte-at _ 0 (omega arith) (omega arith), byte-at _ 1 (omega arith) h)

  number-is : (ask : Ask) → number_on (answer_line width ask r) ≡ answer_number r
  unfolding answer_line
  number-is (Pair a b) =
      let k : byte_of (answer_line width (Pair a b) r) 0 ≡ 0x8B = byte-at _ 0 (omega arith) (omega arith) in
      rw k (byte-at _ 3 (omega arith) (omega (arith, number-listed r)))
  number-is (From a) =
      let k : byte_of (answer_line width (From a) r) 0 ≡ 0x8E = byte-at _ 0 (omega arith) (omega arith) in
      rw k (byte-at _ 2 (omega arith) (omega (arith, number-listed r)))

  module _ {c : Counts} (w : IsWidth c width) (h : answer_count r < 2 ^ (8 * width)) where
    count-is : (ask : Ask) → count_on width (answer_line width ask r) ≡ answer_count r
    unfolding answer_line
    count-is (Pair a b) =
        let k : byte_of (answer_line width (Pair a b) r) 0 ≡ 0x8B = byte-at _ 0 (omega arith) (omega arith) in
        let n = number-at (0x8B ∷ a.0 ∷ b.0 ∷ answer_number r ∷ []) [] w (answer_count r) h in
        rw k (rw (append-nil (bytes_high_first width (answer_count r))) at n)
    count-is (From a) =
        let k : byte_of (answer_line width (From a) r) 0 ≡ 0x8E = byte-at _ 0 (omega arith) (omega arith) in
        let n = number-at (0x8E ∷ a.0 ∷ answer_number r ∷ []) [] w (answer_count r) h in
        rw k (rw (append-nil (bytes_high_first width (answer_count r))) at n)

-- and of a line of a fault
module _ (line : ℕ) (r : Refusal) where
  -- its bytes, where the number of the faulty line has so many
  abbrev fault_bytes : ℕ → List ℕ
  fault_bytes width = 0x8F ∷ bytes_high_first width line ++ refusal_number r ∷ []

  -- its last byte is the number that refuses the line
  refusal-is : {width : ℕ} → IsWidth (declared_by []) width → refusal_on (text (fault_bytes width)) ≡ refusal_number r
  unfolding text
  refusal-is (two s) = byte-at (fault_bytes 2) 3 (omega arith) (omega (arith, (refusals-listed r).1))
  refusal-is four = byte-at (fault_bytes 4) 5 (omega arith) (omega (arith, (refusals-listed r).1))

  long-is : {width : ℕ} → IsWidth (declared_by []) width → length (text (fault_bytes width)) ≡ 2 * (2 + width) + 1
  unfolding text
  long-is (two s) = refl
  long-is four = refl

  -- the number of a line goes into as many bytes as it has
  number-wide : line < 2 ^ 32 → IsWidth (declared_by []) (line_width line) × (line < 2 ^ (8 * line_width line))
  number-wide h = by (nat_lt line (2 ^ 16)) refl
    where
      by : (b : Bool) → nat_lt line (2 ^ 16) ≡ b
          → IsWidth (declared_by []) (if b then 2 else 4) × (line < 2 ^ (8 * (if b then 2 else 4)))
      by true e = (narrow, grind (arith, nat_tests))
      by false e = (four, omega arith)

  fault-is : line < 2 ^ 32 → IsFaultLine line r (fault_line line (refusal_number r))
  unfolding fault_line
  fault-is h =
      let (wide, fits) = number-wide h in
      let told = refusal-is wide in
      let l = refusals-listed r in
      record {
        long = long-is wide;
        kind = byte-at (fault_bytes (line_width line)) 0 (omega arith) (omega arith);
        place = number-at (0x8F ∷ []) (refusal_number r ∷ []) wide line fits;
        refused = told;
        listed = (omega (arith, told, l.0), omega (arith, told, l.1), λ e. l.2 (sym told ∙ e));
      }

-- and of a line of a round
module _ {c : Counts} {width : ℕ} (w : IsWidth c width) (round marks : ℕ) where
  round-line-is : round < 2 ^ (8 * width) → marks < 2 ^ (8 * width) → IsRoundLine width round marks (round_line width round marks)
  unfolding round_line
  round-line-is h k =
      let front = 0x8A ∷ bytes_high_first width round in
      let e : length front ≡ 1 + width = omega (arith, high-long width round) in
      let n = number-at front [] w marks k in
      record {
        long = round-length w round marks;
        kind = byte-at _ 0 (omega arith) (omega arith);
        round = number-at (0x8A ∷ []) (bytes_high_first width marks) w round h;
        marks = rw (e, append-nil (bytes_high_first width marks)) at n;
      }

-- and of a line of a fact that is dropped
dropped-line-is : (n : ℕ) → n < 2 ^ 16 → IsDroppedLine n (dropped_line n)
unfolding dropped_line
dropped-line-is n h =
    let place = number-at (0x92 ∷ []) [] narrow n h in
    record {
      long = dropped-length n;
      kind = byte-at (0x92 ∷ bytes_high_first 2 n) 0 (omega arith) (omega arith);
      place = place;
    }

-- the lines for the dropped facts, the rounds and the asks of frames that ask a question
pub record IsAnswered (dropped : List ℕ) (fs : List Frame) (q : Listed) (x : List ℕ) : Type 0 where
  pub counts : List ℕ
  pub told : FileRounds fs q counts
  pub out : List ℕ
  pub lines-are : Answered (frames_width fs) (asked fs q) (entries asks fs) out
  pub whole : x ≡ dropped_text dropped ++ (round_lines (frames_width fs) 0 counts ++ out)

module _ {input text : List ℕ} (w : Writes input text) where
  pub reports : (fs : List Frame) → IsSound input fs → Reports frames_width fs text
  reports fs s = (said-written (Reports frames_width) input fs s text).0 w

  -- the frames that are answered, and their question
  abbrev pub over : (fs : List Frame) → IsSound input fs → List Frame
  over fs s = (reports fs s).over

  abbrev pub question : (fs : List Frame) → IsSound input fs → Listed
  question fs s = (reports fs s).replies.question

  abbrev pub asking : (fs : List Frame) (s : IsSound input fs) → IsAsking input (over fs s) (question fs s)
  asking fs s =
      let r = reports fs s in
      record { read = fs; sound = s; dropped = r.dropped; decided = r.decided; question = r.replies.is }

  module _ (fs : List Frame) (q : Listed) (s : IsAsking input fs q) where
    pub answered : IsAnswered s.dropped fs q text
    answered =
        let r = reports s.read s.sound in
        let same = asking-once (asking s.read s.sound) s in
        let its : IsAnswered r.dropped r.over r.replies.question text = record {
          counts = r.replies.counts;
          told = r.replies.told;
          out = r.replies.out;
          lines-are = r.replies.answered;
          whole = r.whole ∙ ap (λ (l : List ℕ). dropped_text r.dropped ++ l) r.replies.whole;
        } in
        subst (λ (p : Listed). IsAnswered s.dropped fs p text) same.question
        (subst (λ (gs : List Frame). IsAnswered s.dropped gs r.replies.question text) same.over
        (subst (λ (d : List ℕ). IsAnswered d r.over r.replies.question text) same.dropped its))

    abbrev behind : List ℕ
    behind = round_lines (frames_width fs) 0 answered.counts ++ answered.out

    answers-lined : AreLines answered.out (entries asks fs)
    answers-lined = answers_lined (frames_width fs) (asked fs q) (entries asks fs) answered.out answered.lines-are

    wide : IsWidth (declared_by fs) (frames_width fs)
    wide = is-width (declared_by fs)

    rounds-lined : AreLines (round_lines (frames_width fs) 0 answered.counts) (length answered.counts)
    rounds-lined = rounds_lined (frames_width fs) 0 answered.counts

    front-lined : AreLines (dropped_text s.dropped) (length s.dropped)
    front-lined = dropped_lined s.dropped

    lined : AreLines text (length s.dropped + (length answered.counts + entries asks fs))
    lined = subst (λ (l : List ℕ). AreLines l (length s.dropped + (length answered.counts + entries asks fs))) (sym answered.whole)
        (both_lines front-lined (both_lines rounds-lined answers-lined))

    -- THEOREM: the first lines, and no others, tell of the facts that are dropped
    pub dropped-many : dropped_in text ≡ length s.dropped
    dropped-many =
        let a = dropped-both front-lined behind in
        let b = dropped-both rounds-lined answered.out in
        let r = dropped-rounds (frames_width fs) 0 answered.counts in
        let o = dropped-answers (frames_width fs) (asked fs q) (entries asks fs) answered.out answered.lines-are in
        ap dropped_in answered.whole ∙ omega (arith, a, b, r, o, dropped-all s.dropped)

    pub dropped-told : (k : ℕ) → k < length s.dropped → IsDroppedLine (slice_index s.dropped k) (line_in text k)
    dropped-told k h =
        let here : line_in text k ≡ dropped_line (slice_index s.dropped k) =
        ap (λ (l : List ℕ). line_in l k) answered.whole ∙ line_before front-lined behind k h ∙ dropped-is s.dropped k h in
        subst (IsDroppedLine (slice_index s.dropped k)) (sym here)
        (dropped-line-is (slice_index s.dropped k) (dropped-small s k h))

    the-rounds : rounds_in (entries asks fs) text ≡ length answered.counts
    the-rounds = omega (arith, lined.many, dropped-many)

    -- line k of a sound input's answers is the library's outcome for ask k
    pub line-answers : (k : ℕ) → k < entries asks fs → Answers (frames_width fs) (asked fs q k) (line_at (entries asks fs) text k)
    line-answers k h =
        let n : length (lines text) - entries asks fs + k ≡ length s.dropped + (length answered.counts + k) = omega (arith, lined.many) in
        let here : line_at (entries asks fs) text k ≡ line_in answered.out k =
        ap (λ (i : ℕ). line_in text i) n
        ∙ ap (λ (l : List ℕ). line_in l (length s.dropped + (length answered.counts + k))) answered.whole
        ∙ line_after front-lined behind (length answered.counts + k) ∙ line_after rounds-lined answered.out k in
        subst (Answers (frames_width fs) (asked fs q k)) (sym here) (answer-at (frames_width fs) (asked fs q) (entries asks fs) answered.out answered.lines-are k h)

    pub text-long : (counts : List ℕ) → FileRounds fs q counts
        → length text ≡ dropped_length * length s.dropped + round_length (frames_width fs) * length counts
        + answers_length (frames_width fs) (read_ask (table asks fs)) (entries asks fs)
    text-long counts t =
        omega (
          arith,
          ap (λ (l : List ℕ). length l) answered.whole,
          length-append (dropped_text s.dropped) behind,
          dropped-long s.dropped,
          length-append (round_lines (frames_width fs) 0 answered.counts) answered.out,
          rounds-length (frames_width fs) wide 0 answered.counts,
          ap (λ (l : List ℕ). round_length (frames_width fs) * length l) (told-once t answered.told),
          answered-length wide (asked fs q) (entries asks fs) answered.out answered.lines-are,
        )

    -- as many lines as facts are dropped, rounds are told and asks are answered
    pub text-lines : (counts : List ℕ) → FileRounds fs q counts
        → length (lines text) ≡ length s.dropped + length counts + entries asks fs
    text-lines counts t = omega (arith, lined.many, ap (λ (l : List ℕ). length l) (told-once t answered.told))

    -- THEOREM: no line of a round stands where nothing is asked, and in a contradiction
    pub no-round : (entries asks fs ≡ 0) ⊎ Contradiction (collection_read fs q) → rounds_in (entries asks fs) text ≡ 0
    no-round h = the-rounds ∙ ap (λ (l : List ℕ). length l) (none-told answered.told h)

    -- THEOREM: else there is one for each of rounds 1 to the lesser of the rounds needed and the allowance, in order, with the marks that
    -- it added
    module _ (some : 0 < entries asks fs) (sane : Contradiction (collection_read fs q) → ⊥) (n : ℕ)
        (need : Needed (lite (collection_read fs q)) n) where
      well : WellFormed (collection_read fs q)
      well = sound-well-formed (asked fs q 0) (asking-sound s 0 some)

      added : RoundCounts (lite (collection_read fs q)) (min n (rounds_allowed fs)) answered.counts
      added = rounds-told answered.told some sane n need

      round-told : (k : ℕ) → k < min n (rounds_allowed fs)
          → IsRoundLine (frames_width fs) (k + 1) (slice_index answered.counts k) (round_at text k)
      round-told k h =
          let i : k < length answered.counts = omega (arith, added.long, h) in
          let few = rounds-fit (declared_by fs) well.counts _ (lite-few (collection_read fs q) well k _ (added.each k h)) in
          let late = rounds-fit (declared_by fs) well.counts (k + 1) (omega (arith, i, few-told answered.told (λ _. well))) in
          let here : round_at text k ≡ round_line (frames_width fs) (0 + k + 1) (slice_index answered.counts k) =
          ap (λ (n : ℕ). line_in text (n + k)) dropped-many ∙ ap (λ (l : List ℕ). line_in l (length s.dropped + k)) answered.whole
          ∙ line_after front-lined behind k ∙ line_before rounds-lined answered.out k i
          ∙ round-is (frames_width fs) 0 answered.counts k i in
          let e : 0 + k + 1 ≡ k + 1 = omega arith in
          subst (IsRoundLine (frames_width fs) (k + 1) (slice_index answered.counts k))
          (sym (here ∙ ap (λ r. round_line (frames_width fs) r (slice_index answered.counts k)) e))
          (round-line-is wide (k + 1) (slice_index answered.counts k) late few)

      pub rounds-are-told : TellsRounds fs (collection_read fs q) (min n (rounds_allowed fs)) text
      rounds-are-told = record {
        many = omega (arith, the-rounds, added.long);
        counts = answered.counts;
        added = added;
        each = round-told;
        stand = λ m st. lite-make (collection_read fs q) well _ answered.counts m added st;
      }

  -- THEOREM: a faulty input writes the line of its first faulty line's number, and the number that refuses that line
  pub fault-told : (before : List Frame) (r : Refusal) → IsFaulty input before r → IsFaultLine (length before + 1) r text
  fault-told before r s =
      subst (IsFaultLine (length before + 1) r) (sym ((fault-written (Reports frames_width) input before r s text).0 w))
      (fault-is (length before + 1) r (omega (arith, faults-near input before r s)))

-- what stands on a line of an answer to a call
module _ {width : ℕ} {call : Call} {line : List ℕ} (w : Answers width call line) where
  pub number-of : number_on line ≡ answer_number w.answer
  number-of = ap number_on w.written ∙ number-is width w.answer call.ask

  pub names-of : Sound call → Names call.ask line
  names-of s = subst (Names call.ask) (sym w.written) (names-is width w.answer call.ask (small call.counts s.counts.individuals call.ask s.ask))

module _ {call : Call} {line : List ℕ} (w : Answers (count_width call.counts) call line) (s : Sound call) where
  pub tells-outcome : TellsOutcome call line
  tells-outcome =
      let width = count_width call.counts in
      let wide = is-width call.counts in
      record {
        answer = w.answer;
        outcome = w.outcome;
        told = record {
          long = ap (λ (l : List ℕ). length l) w.written ∙ answer-length wide call.ask w.answer;
          names = names-of w s;
          number = number-of w;
          count = ap (count_on width) w.written ∙ count-is width w.answer wide (count-fits call s w.outcome.2) call.ask;
        };
        listed = omega (arith, number-of w, sound-listed call s w.outcome.2);
      }

module _ {input text : List ℕ} (w : Writes input text) (fs : List Frame) (s : IsSound input fs) where
  abbrev its : IsAsking input (over w fs s) (question w fs s)
  its = asking w fs s

  -- the frames that are answered ask as many
  pub same-asks : entries asks (over w fs s) ≡ entries asks fs
  same-asks = entries-over its.decided (read-taken its)

  -- THEOREM: a sound input writes a line for each ask, which tells its outcome, with an answer from 0 to 3
  pub asks-answered : AnswersEachAsk fs text
  asks-answered = record {
    question = question w fs s;
    dropped = its.dropped;
    over = over w fs s;
    decided = its.decided;
    is = its.question;
    enough = omega (arith, (lined w (over w fs s) (question w fs s) its).many, same-asks);
    each = λ k h.
        let i : k < entries asks (over w fs s) = omega (arith, same-asks) in
        let t = tells-outcome (line-answers w (over w fs s) (question w fs s) its k i) (asking-sound its k i) in
        subst (λ (n : ℕ). TellsOutcome (asked (over w fs s) (question w fs s) k) (line_at n text k)) same-asks t;
  }

  pub listed : (k : ℕ) → k < entries asks fs → number_on (line_at (entries asks fs) text k) ≤ 3
  listed k h = (asks-answered.each k h).listed

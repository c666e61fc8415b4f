-- The lines of facts that are dropped, and how many lines of a text are such lines.
use Rattle.std.specs.Prelude.{ℕ, zero, suc, ◌+◌, ◌*◌, ◌<◌, ◌≡◌, refl, nat_eq, List, [], ◌∷◌, ◌++◌, if◌then◌else◌, length, slice_index, count_by}
use Rattle.std.specs.Int.{bytes_high_first}
use Rattle.std.specs.List.{flat_map}
use Rattle.std.proofs.Common.{ap, ◌∙◌, subst, length-append, arith}
use Rattle.std.proofs.lemmas.List.Sums.{sum_by-append}
use Rattle.kinds.specs.declared.Answer.{Answer}
use Rattle.kinds.specs.declared.Ask.{Ask}
use Rattle.kinds.specs.declared.Ask.TheVariants.{Pair, From}
use Rattle.kinds.specs.Answer.{answer_number, answer_count}
use Rattle.meaning.specs.Lent.{Call}
use Rattle.streams.specs.Lines.{lines}
use Rattle.frames.specs.Digits.{byte_of}
use Rattle.frames.specs.Text.{characters, text}
use Rattle.file.specs.Text.{dropped_line, dropped_text, round_line, answer_line}
use Rattle.file.specs.Rounds.{round_lines}
use Rattle.file.specs.Told.{line_in, tells_dropped, dropped_in, dropped_length}
use Rattle.file.specs.Writes.{Answered}
use Rattle.file.proofs.Bytes.{byte-within}
use Rattle.file.proofs.Lined.{IsLine, AreLines, lone-text, text_line, no_lines, one_line, both_lines, line_before, line_after, line_of_one, answers_lined}

-- ---- the lines

dropped_is_line : (n : ℕ) → IsLine (dropped_line n)
unfolding dropped_line
dropped_is_line n = text_line _

pub dropped_lined : (dropped : List ℕ) → AreLines (dropped_text dropped) (length dropped)
unfolding dropped_text
dropped_lined [] = no_lines
dropped_lined (n ∷ dropped) =
    let e : 1 + length dropped ≡ suc (length dropped) = omega arith in
    rw e at (both_lines (one_line (dropped_is_line n)) (dropped_lined dropped))

pub dropped-is : (dropped : List ℕ) (k : ℕ) → k < length dropped
    → line_in (dropped_text dropped) k ≡ dropped_line (slice_index dropped k)
unfolding dropped_text
dropped-is [] k h = absurd (omega arith)
dropped-is (n ∷ dropped) zero h =
    let l = dropped_is_line n in
    line_before (one_line l) (dropped_text dropped) 0 (omega arith) ∙ line_of_one l
dropped-is (n ∷ dropped) (suc k) h =
    let e : suc k ≡ 1 + k = omega arith in
    ap (λ i. line_in (dropped_line n ++ dropped_text dropped) i) e
    ∙ line_after (one_line (dropped_is_line n)) (dropped_text dropped) k ∙ dropped-is dropped k (omega arith)

-- how long they are
pub dropped-length : (n : ℕ) → length (dropped_line n) ≡ dropped_length
unfolding dropped_line text
dropped-length n = refl

pub dropped-long : (dropped : List ℕ) → length (dropped_text dropped) ≡ dropped_length * length dropped
unfolding dropped_text
dropped-long [] = omega arith
dropped-long (n ∷ dropped) =
    omega (arith, length-append (dropped_line n) (dropped_text dropped), dropped-length n, dropped-long dropped)

-- ---- how many lines of a text are such

count-append : (x y : List (List ℕ)) → count_by tells_dropped (x ++ y) ≡ count_by tells_dropped x + count_by tells_dropped y
count-append x y = sum_by-append (λ l. if tells_dropped l then 1 else 0) x y

pub dropped-both : {x : List ℕ} {n : ℕ} → AreLines x n → (y : List ℕ) → dropped_in (x ++ y) ≡ dropped_in x + dropped_in y
unfolding dropped_in
dropped-both {x} a y = ap (λ (ls : List (List ℕ)). count_by tells_dropped ls) (a.before y) ∙ count-append (lines x) (lines y)

none-dropped : dropped_in [] ≡ 0
unfolding dropped_in lines
none-dropped = refl

counted : (front : List ℕ) (kind : ℕ) → byte_of front 0 ≡ kind
    → count_by tells_dropped (front ∷ []) ≡ (if nat_eq kind 0x92 then 1 else 0)
counted front kind e = subst (λ (n : ℕ). count_by tells_dropped (front ∷ []) ≡ (if nat_eq n 0x92 then 1 else 0)) e (omega arith)

-- a line of bytes is one exactly where its first byte is 92
of-kind : (kind : ℕ) (bytes : List ℕ) → kind < 256 → dropped_in (text (kind ∷ bytes)) ≡ (if nat_eq kind 0x92 then 1 else 0)
unfolding dropped_in
of-kind kind bytes h =
    ap (λ (ls : List (List ℕ)). count_by tells_dropped ls) (lone-text (kind ∷ bytes))
    ∙ counted (flat_map characters (kind ∷ bytes)) kind (byte-within (kind ∷ bytes) 0 (omega arith) h)

pub dropped-all : (dropped : List ℕ) → dropped_in (dropped_text dropped) ≡ length dropped
unfolding dropped_text dropped_line
dropped-all [] = none-dropped
dropped-all (n ∷ dropped) =
    dropped-both (one_line (dropped_is_line n)) (dropped_text dropped)
    ∙ omega (arith, of-kind 0x92 (bytes_high_first 2 n) (omega arith), dropped-all dropped)

pub dropped-rounds : (width before : ℕ) (counts : List ℕ) → dropped_in (round_lines width before counts) ≡ 0
unfolding round_lines round_line
dropped-rounds width before [] = none-dropped
dropped-rounds width before (m ∷ counts) =
    dropped-both (one_line (text_line (0x8A ∷ bytes_high_first width (suc before) ++ bytes_high_first width m))) (round_lines width (suc before) counts)
    ∙ omega (
      arith,
      of-kind 0x8A (bytes_high_first width (suc before) ++ bytes_high_first width m) (omega arith),
      dropped-rounds width (suc before) counts,
    )

dropped-answer : (width : ℕ) (ask : Ask) (r : Answer) → dropped_in (answer_line width ask r) ≡ 0
unfolding answer_line
dropped-answer width (Pair a b) r = of-kind 0x8B (a.0 ∷ b.0 ∷ answer_number r ∷ bytes_high_first width (answer_count r)) (omega arith)
dropped-answer width (From a) r = of-kind 0x8E (a.0 ∷ answer_number r ∷ bytes_high_first width (answer_count r)) (omega arith)

pub dropped-answers : (width : ℕ) (call : ℕ → Call) (n : ℕ) (out : List ℕ) → Answered width call n out → dropped_in out ≡ 0
unfolding Answered
dropped-answers width call zero out e = ap dropped_in e ∙ none-dropped
dropped-answers width call (suc n) out (x, y, a, b, e) =
    ap dropped_in e ∙ dropped-both (answers_lined width call n x a) y
    ∙ omega (arith, dropped-answers width call n x a, ap dropped_in b.written, dropped-answer width (call n).ask b.answer)

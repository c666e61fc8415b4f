-- A text of whole lines: how many there are, and each at its place.
use Rattle.std.specs.Prelude.{ℕ, zero, suc, ◌+◌, ◌/◌, ◌%◌, ◌<◌, ◌≤◌, ◌≡◌, refl, Bool, true, false, nat_lt, ◌==◌, List, []}
use Rattle.std.specs.Prelude.{◌∷◌, ◌++◌, if◌then◌else◌, length, slice_index, slice_index_or}
use Rattle.std.specs.List.{flat_map}
use Rattle.std.proofs.Common.{sym, ap, ◌∙◌, subst, append_assoc, append-nil, length-append, arith}
use Rattle.std.proofs.lemmas.Bool.Decides.{nat_tests}
use Rattle.std.proofs.Math.ListN.{get_or-append}
use Rattle.std.proofs.lemmas.List.{get_or-append-add}
use Rattle.kinds.specs.declared.Answer.{Answer}
use Rattle.kinds.specs.declared.Ask.{Ask}
use Rattle.kinds.specs.declared.Ask.TheVariants.{Pair, From}
use Rattle.meaning.specs.Lent.{Call}
use Rattle.streams.specs.Lines.{lines, longer}
use Rattle.frames.specs.Text.{character, characters, text}
use Rattle.file.specs.Text.{round_line, answer_line}
use Rattle.file.specs.Rounds.{round_lines}
use Rattle.file.specs.Writes.{Answers, Answered}
use Rattle.file.specs.Told.{line_in}

-- no character of a digit ends a line
line_goes : (x : ℕ) (xs : List ℕ) → 48 ≤ x → lines (x ∷ xs) ≡ longer x (lines xs)
unfolding lines
line_goes x xs h = let e : (x == 0x0A) ≡ false = grind (arith, nat_tests) in rw e refl

digit_high : (d : ℕ) → 48 ≤ character d
digit_high d = by (nat_lt d 10)
  where
    by : (b : Bool) → 48 ≤ (if b then 48 + d else 55 + d)
    by true = omega arith
    by false = omega arith

line_ends : (xs : List ℕ) → lines (0x0A ∷ xs) ≡ [] ∷ lines xs
unfolding lines
line_ends xs = refl

-- a line of bytes is the first of what it begins
bytes_first : (bytes rest : List ℕ) → lines (flat_map characters bytes ++ 0x0A ∷ rest) ≡ flat_map characters bytes ∷ lines rest
bytes_first [] rest = line_ends rest
bytes_first (b ∷ bytes) rest =
    let more = flat_map characters bytes ++ 0x0A ∷ rest in
    let low = character (b % 16) in
    let high = character (b / 16) in
    line_goes high (low ∷ more) (digit_high (b / 16))
    ∙ ap (longer high) (line_goes low more (digit_high (b % 16)) ∙ ap (longer low) (bytes_first bytes rest))

-- a whole line, without its end
pub record IsLine (line : List ℕ) : Type 0 where
  pub front : List ℕ
  pub is : front ++ 0x0A ∷ [] ≡ line
  pub first : (rest : List ℕ) → lines (line ++ rest) ≡ front ∷ lines rest

pub text_line : (bytes : List ℕ) → IsLine (text bytes)
unfolding text
text_line bytes = record {
  front = flat_map characters bytes;
  is = refl;
  first = λ rest. ap lines (append_assoc (flat_map characters bytes) (0x0A ∷ []) rest) ∙ bytes_first bytes rest;
}

round_is_line : (width round marks : ℕ) → IsLine (round_line width round marks)
unfolding round_line
round_is_line width round marks = text_line _

answer_is_line : (width : ℕ) (ask : Ask) (r : Answer) → IsLine (answer_line width ask r)
unfolding answer_line
answer_is_line width (Pair a b) r = text_line _
answer_is_line width (From a) r = text_line _

-- whole lines, n of them
pub record AreLines (text : List ℕ) (n : ℕ) : Type 0 where
  pub many : length (lines text) ≡ n
  pub before : (rest : List ℕ) → lines (text ++ rest) ≡ lines text ++ lines rest

pub no_lines : AreLines [] 0
unfolding lines
no_lines = record { many = refl; before = λ rest. refl }

-- one line, and some lines behind others
lone : {line : List ℕ} (l : IsLine line) → lines line ≡ l.front ∷ []
unfolding lines
lone {line} l = ap lines (sym (append-nil line)) ∙ l.first []

pub lone-text : (bytes : List ℕ) → lines (text bytes) ≡ flat_map characters bytes ∷ []
unfolding text lines
lone-text bytes = bytes_first bytes []

pub one_line : {line : List ℕ} → IsLine line → AreLines line 1
one_line l = record {
  many = ap (λ (ls : List (List ℕ)). length ls) (lone l);
  before = λ rest. l.first rest ∙ ap (λ (ls : List (List ℕ)). ls ++ lines rest) (sym (lone l));
}

pub both_lines : {x y : List ℕ} {n m : ℕ} → AreLines x n → AreLines y m → AreLines (x ++ y) (n + m)
both_lines {x} {y} {n} {m} a b = record {
  many = ap (λ (ls : List (List ℕ)). length ls) (a.before y) ∙ length-append (lines x) (lines y) ∙ omega (arith, a.many, b.many);
  before = λ rest.
      ap lines (append_assoc x y rest) ∙ a.before (y ++ rest) ∙ ap (λ (ls : List (List ℕ)). lines x ++ ls) (b.before rest)
      ∙ sym (append_assoc (lines x) (lines y) (lines rest)) ∙ ap (λ (ls : List (List ℕ)). ls ++ lines rest) (sym (a.before y));
}

-- line k of two texts
module _ {x : List ℕ} {n : ℕ} (a : AreLines x n) (y : List ℕ) where
  pub line_before : (k : ℕ) → k < n → line_in (x ++ y) k ≡ line_in x k
  line_before k h =
      ap (λ (ls : List (List ℕ)). slice_index_or ls k [] ++ 0x0A ∷ []) (a.before y)
      ∙ ap (λ (l : List ℕ). l ++ 0x0A ∷ []) (get_or-append (lines x) (lines y) [] k (omega (arith, a.many)))

  pub line_after : (k : ℕ) → line_in (x ++ y) (n + k) ≡ line_in y k
  line_after k =
      ap (λ (ls : List (List ℕ)). slice_index_or ls (n + k) [] ++ 0x0A ∷ []) (a.before y)
      ∙ ap (λ (i : ℕ). slice_index_or (lines x ++ lines y) (i + k) [] ++ 0x0A ∷ []) (sym a.many)
      ∙ ap (λ (l : List ℕ). l ++ 0x0A ∷ []) (get_or-append-add (lines x) (lines y) k [])

pub line_of_one : {line : List ℕ} → IsLine line → line_in line 0 ≡ line
line_of_one l = ap (λ (ls : List (List ℕ)). slice_index_or ls 0 [] ++ 0x0A ∷ []) (lone l) ∙ l.is

-- the lines of rounds, each at its place
pub rounds_lined : (width before : ℕ) (counts : List ℕ) → AreLines (round_lines width before counts) (length counts)
unfolding round_lines
rounds_lined width before [] = no_lines
rounds_lined width before (m ∷ counts) =
    let n : 1 + length counts ≡ suc (length counts) = omega arith in
    subst (AreLines (round_line width (suc before) m ++ round_lines width (suc before) counts)) n
    (both_lines (one_line (round_is_line width (suc before) m)) (rounds_lined width (suc before) counts))

pub round-is : (width before : ℕ) (counts : List ℕ) (k : ℕ) → k < length counts
    → line_in (round_lines width before counts) k ≡ round_line width (before + k + 1) (slice_index counts k)
unfolding round_lines
round-is width before [] k h = absurd (omega arith)
round-is width before (m ∷ counts) zero h =
    let n : before + 0 + 1 ≡ suc before = omega arith in
    let l = round_is_line width (suc before) m in
    line_before (one_line l) (round_lines width (suc before) counts) 0 (omega arith) ∙ line_of_one l ∙ ap (λ r. round_line width r m) (sym n)
round-is width before (m ∷ counts) (suc k) h =
    let n : suc before + k + 1 ≡ before + suc k + 1 = omega arith in
    let e : suc k ≡ 1 + k = omega arith in
    ap (λ i. line_in (round_line width (suc before) m ++ round_lines width (suc before) counts) i) e
    ∙ line_after (one_line (round_is_line width (suc before) m)) (round_lines width (suc before) counts) k
    ∙ round-is width (suc before) counts k (omega arith) ∙ ap (λ r. round_line width r (slice_index counts k)) n

-- the lines of answers, each at its place
answers_line : {width : ℕ} {call : Call} {line : List ℕ} → Answers width call line → IsLine line
answers_line {width} {call} w = subst IsLine (sym w.written) (answer_is_line width call.ask w.answer)

module _ (width : ℕ) (call : ℕ → Call) where
  pub answers_lined : (n : ℕ) (out : List ℕ) → Answered width call n out → AreLines out n
  unfolding Answered
  answers_lined zero out e = subst (λ (x : List ℕ). AreLines x 0) (sym e) no_lines
  answers_lined (suc n) out (x, y, a, b, e) =
      let m : n + 1 ≡ suc n = omega arith in
      let w : AreLines (x ++ y) (n + 1) = both_lines (answers_lined n x a) (one_line (answers_line b)) in
      subst (λ (l : List ℕ). AreLines l (suc n)) (sym e) (rw m at w)

  -- line k of the lines for n calls is that of call k
  pub answer-at : (n : ℕ) (out : List ℕ) → Answered width call n out → (k : ℕ) → k < n → Answers width (call k) (line_in out k)
  unfolding Answered
  answer-at zero out e k h = absurd (omega arith)
  answer-at (suc n) out (x, y, a, b, e) k h =
      subst (λ (l : List ℕ). Answers width (call k) (line_in l k)) (sym e) (by (λ i. answer-at n x a k i) (nat_lt k n) refl)
    where
      by : (k < n → Answers width (call k) (line_in x k)) → (t : Bool) → nat_lt k n ≡ t → Answers width (call k) (line_in (x ++ y) k)
      by earlier true d =
          let i : k < n = grind (arith, nat_tests) in
          subst (Answers width (call k)) (sym (line_before (answers_lined n x a) y k i)) (earlier i)
      by earlier false d =
          let i : n + 0 ≡ k = grind (arith, nat_tests) in
          let j : n ≡ k = omega (arith, i) in
          let last : line_in (x ++ y) (n + 0) ≡ y = line_after (answers_lined n x a) y 0 ∙ line_of_one (answers_line b) in
          let here : line_in (x ++ y) k ≡ y = ap (λ i. line_in (x ++ y) i) (sym i) ∙ last in
          subst (Answers width (call k)) (sym here) (subst (λ (m : ℕ). Answers width (call m) y) j b)

-- The asks of a file with their answers, one pair after the other.
use Rattle.std.specs.Prelude.{ℕ, suc, ◌+◌, ◌/◌, ◌≤◌, ◌<◌, ◌≡◌, ◌⊎◌, List, ◌∷◌, Some, IfSome, length, slice_get}
use Rattle.std.proofs.Common.{⊎_elim, ap, ◌∙◌, subst, arith}
use Rattle.kinds.specs.declared.Answer.{Answer}
use Rattle.kinds.specs.declared.Ask.{Ask}
use Rattle.tables.specs.declared.table.Records.{Records}
use Rattle.tables.specs.Asks.{ask_width, read_ask}
use Rattle.tables.specs.Every.{GivesNext}
use Rattle.expression.specs.Listed.{Listed}
use Rattle.reading.specs.declared.File.{File}
use Rattle.reading.specs.Tables.{asks, most}
use Rattle.reading.specs.File.{held_ask, held_call, IsQuestion}
use Rattle.reading.specs.Reads.{IsRead}
use Rattle.file.specs.Text.{IsInBytes, answer_line}
use Rattle.file.specs.Writes.{Answers}
use Rattle.file.specs.Replying.{ask_count, held_width, IsAnswer, AnswersEach}
use Rattle.file.proofs.Asks.{few_asks, in_bytes}

-- what is still to come: the asks from one on, and their answers
pub record IsLeft (file : File) (q : Listed) (s : Records Ask) (left : List Answer) : Type 0 where
  pub numbers : s.table.numbers.now ≡ file.asks
  pub within : s.next ≤ ask_count file
  pub long : ask_count file ≤ s.next + length left
  pub answers : (j : ℕ) → s.next + j < ask_count file → IfSome (slice_get left j) (IsAnswer file q (s.next + j))

pub all_left : (file : File) (s : Records Ask) (left answers : List Answer) (P : List ℕ → Type 0) → IsRead file
    → s.table.numbers.now ≡ file.asks → s.next ≡ 0
    → left ≡ answers → most asks ≤ length answers → (h : AnswersEach file answers P) → IsLeft file h.rounds.question s left
all_left file s left answers P read n first e long h = record {
  numbers = n;
  within = omega arith;
  long = omega (arith, few_asks file read, ap (λ (l : List Answer). length l) e);
  answers = λ j k.
      let n : s.next + j ≡ j = omega (arith, first) in
      rw (e, n) (h.each j (omega arith));
}

module _ (file : File) (q : Listed) (s t : Records Ask) (ask : Ask) (r : Answer) (left rest : List Answer) (w : IsLeft file q s left)
    (g : GivesNext ask_width read_ask s.table.numbers.now s.next (Some ask) t.next)
    (same : t.table.numbers ≡ s.table.numbers) (e : left ≡ r ∷ rest) where
  inside : s.next < ask_count file
  inside = rw w.numbers at g.inside

  ask_is : ask ≡ held_ask file s.next
  ask_is = rw w.numbers at g.is

  pub ask_in_bytes : IsRead file → IsQuestion file q → IsInBytes ask
  ask_in_bytes read is = rw ask_is (in_bytes file read q is s.next inside)

  pub answered_next : (line : List ℕ) → line ≡ answer_line (held_width file) ask r
      → Answers (held_width file) (held_call file q s.next) line
  answered_next line d =
      let h : IfSome (slice_get (r ∷ rest) 0) (IsAnswer file q (s.next + 0)) = rw e at (w.answers 0 (omega (arith, inside))) in
      let z : s.next + 0 ≡ s.next = omega arith in
      let a = subst (λ (k : ℕ). IsAnswer file q k r) z h in
      record { answer = r; outcome = a; written = rw ask_is at d }

  pub left_next : IsLeft file q t rest
  left_next = record {
    numbers = ap (λ n. n.now) same ∙ w.numbers;
    within = omega (arith, g.after, inside);
    long = omega (arith, g.after, w.long, ap (λ (l : List Answer). length l) e);
    answers = λ j k.
        let h = w.answers (suc j) (omega (arith, g.after)) in
        let n : s.next + suc j ≡ t.next + j = omega (arith, g.after) in
        rw (e, n) at h;
  }

-- where either is at its end, so is the other
pub none_left : (file : File) (q : Listed) (s : Records Ask) (left : List Answer) → IsLeft file q s left
    → (length s.table.numbers.now / ask_width ≤ s.next) ⊎ (length left ≡ 0) → s.next ≡ ask_count file
none_left file q s left w =
    ⊎_elim (λ h. let n = ap (λ (l : List ℕ). length l / ask_width) w.numbers in omega (arith, w.within))
    (λ h. omega (arith, w.within, w.long))

-- The first 3,239,020 bytes of an input decide what reading finds: a sound file has at most 7,715 lines of at most 130
-- characters and 131,072 entries of 16, and their ends.
use Rattle.std.specs.Prelude.{ℕ, zero, suc, ◌+◌, ◌-◌, ◌*◌, ◌<◌, ◌≤◌, ◌≡◌, ◌≢◌, ◌==◌, Bool, true, false, List, [], ◌∷◌, ◌++◌, Ok, Err, length, get_or, take}
use Rattle.std.proofs.Common.{refl, sym, ap, ◌∙◌, subst, take_all, take-take, length-append, arith}
use Rattle.std.proofs.Math.Decide.{dec_lt}
use Rattle.std.proofs.Math.Seq.{take-append-add}
use Rattle.std.proofs.lemmas.Bool.Decides.{nat_tests}
use Rattle.laws.specs.First.{first-passed}
use Rattle.streams.specs.Lines.{longer, lines}
use Rattle.streams.specs.declared.TheConstants.{LINE}
use Rattle.kinds.specs.declared.Concept.{Concept}
use Rattle.kinds.specs.declared.State.{State}
use Rattle.frames.specs.Frames.{FrameOf}
use Rattle.frames.specs.declared.Frame.{Frame}
use Rattle.frames.specs.declared.Frame.TheVariants.{ListedMark}
use Rattle.frames.specs.declared.Misread.TheVariants as misread
use Rattle.frames.proofs.Ends.{length-line}
use Rattle.frames.proofs.Lengths.{no_longer}
use Rattle.frames.proofs.ReadBack.{own_long}
use Rattle.frames.proofs.WrittenBack.{listed-is_written}
use Rattle.reading.specs.declared.Refusal.TheVariants.{BadLine}
use Rattle.reading.specs.Reading.{Finds, unread, taken, Verdict, Reading, stopped, onward, Taken, none, more}
use Rattle.reading.specs.Laws.{Alike, far, ended, same, long}
use Rattle.reading.specs.Tables.{listed, most_listed, entries}
use Rattle.reading.proofs.Passed.{Passed, passed, judged_ok}
use Rattle.reading.proofs.Bounds.{beside_list, taken-within}
use Rattle.reading.proofs.GoingOn.{long_line}
use Rattle.reading.proofs.Once.{finds-once}
use Rattle.reading.proofs.TableLaws.{entries-more}

-- the bytes of a line of the most characters and its end, and those of an entry
abbrev line_bytes : ℕ
line_bytes = LINE + 1

abbrev entry_bytes : ℕ
entry_bytes = 17

-- the bytes that hold what may stand behind some frames: one line more than there can be beside the list, and as many entries
abbrev bytes_behind : List Frame → ℕ
bytes_behind fs =
    line_bytes * (7716 + entries listed fs - length fs) + entry_bytes * (most_listed - entries listed fs)

alike-back : {n : ℕ} {ls ms : List (List ℕ)} → Alike n ls ms → Alike n ms ls
alike-back (far h) = far h
alike-back ended = ended
alike-back (same l h a) = same l h (alike-back a)
alike-back (long l m h k) = long m l k h

-- a line that is too long is no line
finds_long : (before : List Frame) (l : List ℕ) → LINE < length l → Finds before l (Err BadLine)
finds_long before l h = unread misread.BadLine (long_line l LINE (omega arith) h)

-- how long the line of a frame is: of an entry, and of any other
line-short : (l : List ℕ) (f : Frame) → FrameOf l (Ok f) → length l ≤ LINE
line-short l f o = let ok = (first-passed o (λ e. cc)).0 in omega (arith, ok.short, no_longer l)

entry-short : (l : List ℕ) (n : ℕ) (s t : State) (B : Concept) → FrameOf l (Ok (ListedMark n s t B)) → length l ≡ 16
entry-short l n s t B o =
    let f = ListedMark n s t B in
    omega (arith, ap length (listed-is_written l n s t B o), length-line f, own_long f)

-- a line that is taken has no more than it leaves fewer
module _ (before : List Frame) (t : Taken before) (l : List ℕ) where
  fewer : (f : Frame) → FrameOf l (Ok f) → Passed before f → bytes_behind (before ++ f ∷ []) + (length l + 1) ≤ bytes_behind before
  fewer (ListedMark n s u B) o p =
      let f = ListedMark n s u B in
      omega (arith, entry-short l n s u B o, p.room listed refl, entries-more listed before f, length-append before (f ∷ []))
  fewer f o p =
      let few = beside_list before (taken-within before t) in
      omega (arith, line-short l f o, few, entries-more listed before f, length-append before (f ∷ []))

  taken-fewer : (f : Frame) → Finds before l (Ok f) → bytes_behind (before ++ f ∷ []) + (length l + 1) ≤ bytes_behind before
  taken-fewer f (taken _ o j) = fewer f o (passed before f j)

pub reading-alike : {n : ℕ} {ls ms : List (List ℕ)} {before : List Frame} {v : Verdict} → Alike n ls ms → Taken before
    → bytes_behind before ≤ n
    → Reading before ls v → Reading before ms v
reading-alike {before = before} (far h) t few x = absurd (omega (arith, beside_list before (taken-within before t)))
reading-alike ended t few x = x
reading-alike (same {ms = ms} l h a) t few (stopped before _ ls r f) = stopped before l ms r f
reading-alike (same {ms = ms} l h a) t few (onward before _ ls f v g rest) =
    onward before l ms f v g (reading-alike a (more before f t (judged_ok g)) (omega (arith, taken-fewer before t l f g)) rest)
reading-alike (long {ms = ms} l m h k) t few (stopped before _ ls r f) =
    let e = finds-once f (finds_long before l h) in
    let d : r ≡ BadLine = cc in
    rw d (stopped before m ms BadLine (finds_long before m k))
reading-alike (long l m h k) t few (onward before _ ls f v g rest) =
    let e = finds-once g (finds_long before l h) in
    absurd cc

-- characters without a line's end
record Plain (l : List ℕ) : Type 0 where
  none-here : (k : ℕ) → k < length l → get_or l k 0 ≢ 0x0A

plain-rest : (c : ℕ) (l : List ℕ) → Plain (c ∷ l) → Plain l
plain-rest c l p = record { none-here = λ k h. p.none-here (suc k) (omega arith) }

no_lines : lines [] ≡ []
unfolding lines
no_lines = refl

lines-longer : (c : ℕ) (x : List ℕ) → c ≢ 0x0A → lines (c ∷ x) ≡ longer c (lines x)
unfolding lines
lines-longer c x n = let e : (c == 0x0A) ≡ false = grind (arith, nat_tests) in rw e refl

lines-newline : (x : List ℕ) → lines (0x0A ∷ x) ≡ [] ∷ lines x
unfolding lines
lines-newline x = refl

-- the first line, up to its end
line_first : (l rest : List ℕ) → Plain l → lines (l ++ 0x0A ∷ rest) ≡ l ∷ lines rest
line_first [] rest p = lines-newline rest
line_first (c ∷ l) rest p = rw (lines-longer c (l ++ 0x0A ∷ rest) (p.none-here 0 (omega arith)), line_first l rest (plain-rest c l p)) refl

-- a last line without its end
line-last : (c : ℕ) (l : List ℕ) → Plain (c ∷ l) → lines (c ∷ l) ≡ (c ∷ l) ∷ []
line-last c [] p = rw (lines-longer c [] (p.none-here 0 (omega arith)), no_lines) refl
line-last c (d ∷ l) p = rw (lines-longer c (d ∷ l) (p.none-here 0 (omega arith)), line-last d l (plain-rest c (d ∷ l) p)) refl

-- the start of an input, looked at for k characters: a line that ends, a last line, or a line that is longer
data Scanned (k : ℕ) (x : List ℕ) : Type 0 where
  at-end : (l rest : List ℕ) → Plain l → length l < k → x ≡ l ++ 0x0A ∷ rest → Scanned k x
  at_last : Plain x → length x < k → Scanned k x
  beyond : k ≤ length x → Plain (take k x) → Scanned k x

plain-none : Plain []
plain-none = record { none-here = λ k h. absurd (omega arith) }

plain_more : (c : ℕ) (l : List ℕ) → c ≢ 0x0A → Plain l → Plain (c ∷ l)
plain_more c l n p = record { none-here = by }
  where
    by : (k : ℕ) → k < suc (length l) → get_or (c ∷ l) k 0 ≢ 0x0A
    by zero h = n
    by (suc k) h = p.none-here k (omega arith)

scan : (k : ℕ) (x : List ℕ) → Scanned k x
scan zero x = beyond (omega arith) plain-none
scan (suc k) [] = at_last plain-none (omega arith)
scan (suc k) (c ∷ x) = by (c == 0x0A) refl (scan k x)
  where
    other : (c == 0x0A) ≡ false → c ≢ 0x0A
    other e = grind (arith, nat_tests)

    by : (b : Bool) → (c == 0x0A) ≡ b → Scanned k x → Scanned (suc k) (c ∷ x)
    by true e s = let i : c ≡ 0x0A = grind (arith, nat_tests) in at-end [] x plain-none (omega arith) (ap (λ d. d ∷ x) i)
    by false e (at-end l rest p h i) = at-end (c ∷ l) rest (plain_more c l (other e) p) (omega arith) (ap (λ y. c ∷ y) i)
    by false e (at_last p h) = at_last (plain_more c x (other e) p) (omega arith)
    by false e (beyond h p) = beyond (omega arith) (plain_more c (take k x) (other e) p)

-- a first line of at least k characters
record FirstLine (k : ℕ) (ls : List (List ℕ)) : Type 0 where
  line : List ℕ
  rest : List (List ℕ)
  is : ls ≡ line ∷ rest
  long-enough : k ≤ length line

first-longer : (c : ℕ) (ls : List (List ℕ)) → FirstLine 1 (longer c ls)
first-longer c [] = record { line = c ∷ []; rest = []; is = refl; long-enough = omega arith }
first-longer c (l ∷ ls) = record { line = c ∷ l; rest = ls; is = refl; long-enough = omega arith }

first-line : (k : ℕ) (x : List ℕ) → suc k ≤ length x → Plain (take (suc k) x) → FirstLine (suc k) (lines x)
first-line k [] h p = absurd (omega arith)
first-line zero (c ∷ x) h p = rw (lines-longer c x (p.none-here 0 (omega arith))) (first-longer c (lines x))
first-line (suc k) (c ∷ x) h p =
    let f = first-line k x (omega arith) (record { none-here = λ i g. p.none-here (suc i) (omega arith) }) in
    rw (lines-longer c x (p.none-here 0 (omega arith)), f.is) (record { line = c ∷ f.line; rest = f.rest; is = refl; long-enough = omega (arith, f.long-enough) })

take_long : (k n : ℕ) (x : List ℕ) → k ≤ n → k ≤ length x → k ≤ length (take n x)
take_long zero n x h g = omega arith
take_long (suc k) zero x h g = absurd (omega arith)
take_long (suc k) (suc n) [] h g = absurd (omega arith)
take_long (suc k) (suc n) (c ∷ x) h g = let i = take_long k n x (omega arith) (omega arith) in omega arith

last-alike : (n : ℕ) (x : List ℕ) → Plain x → n ≤ length x + 1 + n → Alike n (lines x) (lines x)
last-alike n [] p h = rw no_lines ended
last-alike n (c ∷ x) p h = rw (line-last c x p) (same {m = n} (c ∷ x) h ended)

-- an input and its first n bytes read alike for n bytes
from-long : (x : List ℕ) (n : ℕ) → LINE < n → Scanned line_bytes x
    → ((y : List ℕ) (m : ℕ) → m < n → Alike m (lines y) (lines (take m y)))
    → Alike n (lines x) (lines (take n x))
from-long x n h (at-end l rest p g e) on =
    let m = n - suc (length l) in
    let d : n ≡ length l + suc m = omega arith in
    let k : take n x ≡ l ++ 0x0A ∷ take m rest =
    ap (λ j. take j x) d ∙ ap (take (length l + suc m)) e ∙ take-append-add l (0x0A ∷ rest) (suc m) in
    rw (k, e, line_first l rest p, line_first l (take m rest) p) (same {n = n} {m = m} l (omega arith) (on rest m (omega arith)))
from-long x n h (at_last p g) on = rw (take_all n x (omega arith)) (last-alike n x p (omega arith))
from-long x n h (beyond g p) on =
    let f = first-line LINE x g p in
    let i = take_long line_bytes n x (omega arith) g in
    let q = subst Plain (sym (take-take line_bytes n x (omega arith))) p in
    let k = first-line LINE (take n x) i q in
    rw (f.is, k.is) (long f.line k.line (omega (arith, f.long-enough)) (omega (arith, k.long-enough)))

by-size : (k : ℕ) (x : List ℕ) (n : ℕ) → n ≤ k → Alike n (lines x) (lines (take n x))
by-size zero x n h = far (omega arith)
by-size (suc k) x n h =
    elim (dec_lt LINE n) [
      | yes g ↦ from-long x n g (scan line_bytes x) (λ y m i. by-size k y m (omega arith))
      | no g ↦ far (omega (arith, g))
    ]

pub lines-alike : (x : List ℕ) (n : ℕ) → Alike n (lines x) (lines (take n x))
lines-alike x n = by-size n x n (omega arith)

none-behind : bytes_behind [] ≡ 3239020
unfolding entries
none-behind = refl

-- THEOREM: what reading finds of the first 3,239,020 bytes of an input, or of any more of them, it finds of the whole, and the other way
module _ (x : List ℕ) (n : ℕ) (h : 3239020 ≤ n) (v : Verdict) where
  pub reading-start : Reading [] (lines x) v → Reading [] (lines (take n x)) v
  reading-start = reading-alike (lines-alike x n) none (omega (arith, none-behind))

  pub reading-whole : Reading [] (lines (take n x)) v → Reading [] (lines x) v
  reading-whole = reading-alike (alike-back (lines-alike x n)) none (omega (arith, none-behind))

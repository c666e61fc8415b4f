-- THEOREM: the line of a frame that fits one is read as the frame.
use Rattle.std.specs.Prelude.{ℕ, suc, ◌+◌, ◌*◌, ◌-◌, ◌^◌, ◌/◌, ◌%◌, ◌<◌, ◌≤◌, ◌≡◌, List, ◌∷◌, Some, Ok, length}
use Rattle.std.proofs.Common.{refl, sym, ap, arith, get_or, inr}
use Rattle.laws.specs.First.{holds}
use Rattle.kinds.specs.Kinds.{number_of}
use Rattle.frames.specs.Digits.{line_length, bytes, byte_of, LineOk}
use Rattle.frames.specs.Frames.{number_in, two_bytes, marks_of, frame_by, FrameOf}
use Rattle.frames.specs.Kinds.{kind_of, HasLength}
use Rattle.frames.specs.Written.{Field, byte, kind_in, frame_bytes, line_of, FitsLine}
use Rattle.frames.specs.declared.Frame.{Frame}
use Rattle.frames.specs.declared.Frame.TheVariants.{Declared, ConceptRule, ConceptExclusion, RoleRule, RoleExclusion, ConceptFact, RoleFact, RoleStep, TestStep, Final, Ask, AskFrom, Allowance, Expression, Salvage, ListedMark}
use Rattle.frames.specs.declared.kind.Kind.{Kind}
use Rattle.frames.proofs.FieldBytes.{frame-small, expression-bytes, row-fits, marks-row}
use Rattle.frames.proofs.Lengths.{number_two, number_four, may_be_short}
use Rattle.frames.proofs.Named.{kind-named}
use Rattle.frames.proofs.Spelled.{spelled, bytes-spelled, byte-spelled, line-spelled}

-- the bytes of a frame, by their place
abbrev at : Frame → ℕ → ℕ
at f k = get_or (frame_bytes f) k 0

-- a frame's line has as many bytes as those of its kind may have, and no more characters than a line
pub own_long : (f : Frame) → HasLength (kind_in f) (length (frame_bytes f))
unfolding frame_bytes
own_long (ConceptFact A a n) = inr refl
own_long (RoleFact r a b n) = inr refl
own_long (Allowance n) = inr refl
own_long (Expression row) = tt
own_long other = refl

short : (f : Frame) → length (frame_bytes f) ≤ 65 → 2 * length (frame_bytes f) ≤ line_length (spelled (frame_bytes f))
unfolding frame_bytes line_length
short (Expression row) h = omega arith
short other h = omega (arith, may_be_short (spelled (frame_bytes other)))

some : (f : Frame) → 0 < length (frame_bytes f)
unfolding frame_bytes
some f = omega arith

first : (f : Frame) → kind_of (at f 0) ≡ Some (kind_in f)
unfolding frame_bytes
first f = kind-named (kind_in f)

-- a number that its field holds is the one in its bytes
low : (n : ℕ) → n < 2 ^ 8 → n % 256 ≡ n
low n h = omega arith

two : (byte : ℕ → ℕ) (k n : ℕ) → n < 2 ^ 16 → byte k ≡ n / 256 % 256 → byte (k + 1) ≡ n % 256 → two_bytes byte k ≡ n
two byte k n h p q = omega (arith, number_two byte k)

four : (byte : ℕ → ℕ) (n : ℕ) → n < 2 ^ 32 → byte 1 ≡ n / 256 ^ 3 % 256 → byte 2 ≡ n / 256 ^ 2 % 256 → byte 3 ≡ n / 256 % 256
    → byte 4 ≡ n % 256 → number_in 4 byte 1 ≡ n
four byte n h p q r s = omega (arith, number_four byte 1, number_two byte 1, number_two byte 3)

abbrev none : Field
none = byte 0

same_marks : (row bs : List ℕ) → bs ≡ 0x0D ∷ row → Expression row ≡ Expression (marks_of (λ k. get_or bs k 0) (length bs - 1))
same_marks row bs e =
    let less : suc (length row) - 1 ≡ length row = omega arith in
    rw (e, less) (ap Expression (sym (marks-row 0x0D row)))

-- so the frame of its bytes is the frame
same : (f : Frame) → FitsLine f → f ≡ frame_by (at f) (length (frame_bytes f)) (kind_in f)
unfolding frame_bytes
same (Declared c) fits =
    let n = fits.numbers in
    rw (
      low c.names (n 0 none (omega arith)),
      low c.roles (n 1 none (omega arith)),
      low c.individuals (n 2 none (omega arith)),
      low c.states (n 3 none (omega arith)),
      low c.start.0 (n 4 none (omega arith)),
    ) refl
same (ConceptRule C D) fits =
    let n = fits.numbers in
    rw (low (number_of C) (n 0 none (omega arith)), low (number_of D) (n 1 none (omega arith)), fits.concepts.0, fits.concepts.1) refl
same (ConceptExclusion C D) fits =
    let n = fits.numbers in
    rw (low (number_of C) (n 0 none (omega arith)), low (number_of D) (n 1 none (omega arith)), fits.concepts.0, fits.concepts.1) refl
same (RoleRule R S) fits = let n = fits.numbers in rw (low R.0 (n 0 none (omega arith)), low S.0 (n 1 none (omega arith))) refl
same (RoleExclusion R S) fits = let n = fits.numbers in rw (low R.0 (n 0 none (omega arith)), low S.0 (n 1 none (omega arith))) refl
same (ConceptFact A a d) fits =
    let n = fits.numbers in
    let deed = two (at (ConceptFact A a d)) 3 d.0 (n 2 none (omega arith)) refl refl in
    rw (low A.0 (n 0 none (omega arith)), low a.0 (n 1 none (omega arith)), deed) refl
same (RoleFact r a b d) fits =
    let n = fits.numbers in
    let deed = two (at (RoleFact r a b d)) 4 d.0 (n 3 none (omega arith)) refl refl in
    rw (low r.0 (n 0 none (omega arith)), low a.0 (n 1 none (omega arith)), low b.0 (n 2 none (omega arith)), deed) refl
same (RoleStep s R t) fits =
    let n = fits.numbers in rw (low s.0 (n 0 none (omega arith)), low R.0 (n 1 none (omega arith)), low t.0 (n 2 none (omega arith))) refl
same (TestStep s A t) fits =
    let n = fits.numbers in rw (low s.0 (n 0 none (omega arith)), low A.0 (n 1 none (omega arith)), low t.0 (n 2 none (omega arith))) refl
same (Final s) fits = rw (low s.0 (fits.numbers 0 none (omega arith))) refl
same (Ask a b) fits = let n = fits.numbers in rw (low a.0 (n 0 none (omega arith)), low b.0 (n 1 none (omega arith))) refl
same (AskFrom a) fits = rw (low a.0 (fits.numbers 0 none (omega arith))) refl
same (Allowance n) fits = ap Allowance (sym (four (at (Allowance n)) n (fits.numbers 0 none (omega arith)) refl refl refl refl))
same (ListedMark n s t B) fits =
    let m = fits.numbers in
    let round = four (at (ListedMark n s t B)) n (m 0 none (omega arith)) refl refl refl refl in
    rw (
      low s.0 (m 1 none (omega arith)),
      low t.0 (m 2 none (omega arith)),
      low (number_of B) (m 3 none (omega arith)),
      round,
      fits.concepts,
    ) refl
same Salvage fits = refl
same (Expression row) fits = same_marks row (frame_bytes (Expression row)) (expression-bytes row (row-fits row fits.numbers))

-- the frame of a line whose bytes are known
frame_of : (l : List ℕ) (kind : Kind) (byte : ℕ → ℕ) (n : ℕ) (f : Frame) → LineOk l → byte_of l ≡ byte → bytes l ≡ n
    → kind_of (byte 0) ≡ Some kind → HasLength kind n → f ≡ frame_by byte n kind → FrameOf l (Ok f)
frame_of l kind byte n f ok same long named has is =
    let k : kind_of (byte_of l 0) ≡ Some kind = rw same named in
    holds ok (holds (rw (k, long) has) (rw (k, same, long) (ap Ok is)))

pub line-is_read : (f : Frame) → FitsLine f → FrameOf (line_of f) (Ok f)
unfolding line_of
line-is_read f fits =
    let bs = frame_bytes f in
    let are = frame-small f in
    let ok = line-spelled bs are (some f) (short f fits.short) in
    frame_of (spelled bs) (kind_in f) (at f) (length bs) f ok
    (byte-spelled bs are) (bytes-spelled bs are) (first f) (own_long f) (same f fits)

-- The bytes of the fields of a frame, each high byte first.
use Rattle.std.specs.Prelude.{ℕ, zero, suc, ◌+◌, ◌*◌, ◌^◌, ◌%◌, ◌<◌, ◌≡◌, List, [], ◌∷◌, ◌++◌, All, length, map}
use Rattle.std.specs.Int.{byte_at, bytes_high_first}
use Rattle.std.specs.List.{flat_map, range_with_len}
use Rattle.std.proofs.Common.{refl, sym, ap, ◌∙◌, arith, get_or, take, add-one}
use Rattle.std.proofs.Math.Seq.{take-append_seam}
use Rattle.std.proofs.lemmas.List.{take_all, take_more}
use Rattle.std.proofs.lemmas.List.Elements.{All-nil, All-cons, All-head, All-tail, All-append, All-map}
use Rattle.std.proofs.lemmas.List.FromFn.{map-range_with_len_more}
use Rattle.frames.specs.Frames.{marks_of}
use Rattle.frames.specs.Written.{Field, byte, kind_byte, kind_in, fields, frame_bytes}
use Rattle.frames.specs.declared.Frame.{Frame}
use Rattle.frames.specs.declared.Frame.TheVariants.{Expression}
use Rattle.frames.specs.declared.kind.Kind.{Kind}
use Rattle.frames.specs.declared.kind.Kind.TheVariants.{Declared}
use Rattle.frames.proofs.Lengths.{marks_none, marks_more}

abbrev pub IsByte : ℕ → Type 0
IsByte b = b < 256

-- a number is below what its field holds
abbrev pub Holds : Field → Type 0
Holds x = x.number < 2 ^ (8 * x.width)

abbrev pub AreBytes : List ℕ → Type 0
AreBytes bs = All IsByte bs

-- the bytes of a field
abbrev pub field_bytes : Field → List ℕ
field_bytes x = bytes_high_first x.width x.number

byte-small : (k n : ℕ) → IsByte (byte_at k n)
byte-small zero n = omega arith
byte-small (suc k) n = omega arith

number-small : (k n : ℕ) → AreBytes (bytes_high_first k n)
number-small zero n = All-nil IsByte
number-small (suc k) n = All-cons IsByte (byte_at k n) (bytes_high_first k n) (byte-small k n) (number-small k n)

fields-small : (xs : List Field) → AreBytes (flat_map field_bytes xs)
fields-small [] = All-nil IsByte
fields-small (x ∷ xs) = All-append IsByte (field_bytes x) (flat_map field_bytes xs) (number-small x.width x.number) (fields-small xs)

kind-small : (kind : Kind) → IsByte (kind_byte kind)
kind-small Declared = omega arith
kind-small other = omega arith

pub frame-small : (f : Frame) → AreBytes (frame_bytes f)
unfolding frame_bytes
frame-small f = All-cons IsByte (kind_byte (kind_in f)) (flat_map field_bytes (fields f)) (kind-small (kind_in f)) (fields-small (fields f))

-- a row of bytes is its own bytes, behind the byte of its kind
pub row-bytes : (row : List ℕ) → AreBytes row → flat_map field_bytes (map byte row) ≡ row
row-bytes [] are = refl
row-bytes (n ∷ row) are =
    let e : n % 256 ≡ n = omega (arith, All-head IsByte n row are) in
    rw (e, row-bytes row (All-tail IsByte n row are)) refl

pub row-fits : (row : List ℕ) → All Holds (map byte row) → AreBytes row
row-fits [] fit = All-nil IsByte
row-fits (n ∷ row) fit =
    All-cons IsByte n row (All-head Holds (byte n) (map byte row) fit) (row-fits row (All-tail Holds (byte n) (map byte row) fit))

pub fits-row : (row : List ℕ) → AreBytes row → All Holds (map byte row)
fits-row row are = All-map Holds byte row are

pub expression-bytes : (row : List ℕ) → AreBytes row → frame_bytes (Expression row) ≡ 0x0D ∷ row
unfolding frame_bytes
expression-bytes row are = ap (λ (l : List ℕ). 0x0D ∷ l) (row-bytes row are)

-- what stands in an array behind its first place, as long as it is
pub taken-front : (m x : ℕ) (part row rest : List ℕ) → part ≡ row → length row < m
    → take m (take (length row + 1) (x ∷ (part ++ rest))) ≡ x ∷ row
taken-front m x part row rest e fits =
    let all : take (length row) (part ++ rest) ≡ row = rw e (take-append_seam row rest) in
    let front : take (length row + 1) (x ∷ (part ++ rest)) ≡ x ∷ row = rw add-one (ap (λ (l : List ℕ). x ∷ l) all) in
    ap (take m) front ∙ take_all m (x ∷ row) (omega arith)

-- the marks that are read behind a byte of a row are the row
marks-front : (x : ℕ) (row : List ℕ) (n : ℕ) → n < suc (length row) → marks_of (λ k. get_or (x ∷ row) k 0) n ≡ take n row
marks-front x row zero h = marks_none _
marks-front x row (suc n) h =
    let more : marks_of (λ k. get_or (x ∷ row) k 0) (n + 1) ≡ take (n + 1) row =
    marks_more (λ k. get_or (x ∷ row) k 0) n
    ∙ (rw (marks-front x row n (omega arith), add-one n) (sym (rw (add-one n) at (take_more row n 0 (omega arith))))) in
    rw (add-one n) at more

pub marks-row : (x : ℕ) (row : List ℕ) → marks_of (λ k. get_or (x ∷ row) k 0) (length row) ≡ row
marks-row x row = marks-front x row (length row) (omega arith) ∙ take_all (length row) row (omega arith)

-- the marks are the bytes from 1 on
pub marks-bytes : (at : ℕ → ℕ) (n : ℕ) → marks_of at n ≡ map at (range_with_len 1 n)
marks-bytes at zero = marks_none at
marks-bytes at (suc n) =
    let more : marks_of at (n + 1) ≡ map at (range_with_len 1 (n + 1)) =
    marks_more at n ∙ rw (marks-bytes at n) (sym (map-range_with_len_more at 1 n (n + 1) (omega arith))) in
    rw (add-one n) at more

pub marks-small : (at : ℕ → ℕ) → ((k : ℕ) → IsByte (at k)) → (n : ℕ) → AreBytes (marks_of at n)
marks-small at small n =
    rw (marks-bytes at n) (All-map IsByte at (range_with_len 1 n) (λ k d inside. small (get_or (range_with_len 1 n) k d)))

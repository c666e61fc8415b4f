-- A line with its end at the front of some characters: where it has digits alone, it is sound, and its end is the first.
use Rattle.std.specs.Prelude.{ℕ, ◌+◌, ◌*◌, ◌/◌, ◌%◌, ◌<◌, ◌≤◌, ◌≡◌, ◌==◌, List, Bool, Some, Ok, true, false, length, min, take, position, slice_index}
use Rattle.std.proofs.Common.{refl, sym, ◌∙◌, arith, get_or, inl}
use Rattle.std.proofs.lemmas.Bool.Decides.{nat_tests}
use Rattle.std.proofs.lemmas.List.{get_or-take, length-take}
use Rattle.std.proofs.lemmas.List.Elements.{All-from_get_or}
use Rattle.std.proofs.lemmas.List.Sums.{position_or_len_is}
use Rattle.laws.specs.First.{holds}
use Rattle.streams.specs.declared.TheConstants.{LINE}
use Rattle.frames.specs.Digits.{digit_of, bytes, byte_of, LineOk}
use Rattle.frames.specs.Frames.{frame_by, FrameOf}
use Rattle.frames.specs.Front.{BeginsLine, BeginsFrame}
use Rattle.frames.specs.Kinds.{kind_of, frame_length, HasLength}
use Rattle.frames.specs.Measured.{IsMeasured}
use Rattle.frames.specs.Pairs.{byte_read, Digits, HoldsPairs}
use Rattle.frames.specs.declared.Frame.{Frame}
use Rattle.frames.specs.declared.kind.Kind.{Kind}
use Rattle.frames.specs.declared.kind.Kind.TheVariants.{ConceptFact, RoleFact, Allowance, Expression}
use Rattle.frames.proofs.Bytes.{byte_within, sound_bytes, front_pairs}
use Rattle.frames.proofs.Lengths.{may_be_short, no_longer}

-- a digit is no line end
pub plain : (c : ℕ) → digit_of c < 16 → (c == 0x0A) ≡ false
unfolding digit_of
plain c h = grind (arith, nat_tests)

is_end : (c : ℕ) → c ≡ 0x0A → (c == 0x0A) ≡ true
is_end c h = grind (arith, nat_tests)

abbrev ends : ℕ → Bool
ends b = b == 0x0A

position-is : (xs : List ℕ) (n : ℕ) → n < length xs → ((k : ℕ) → k < n → (get_or xs k 0 == 0x0A) ≡ false) → (get_or xs n 0 == 0x0A) ≡ true
    → position (λ b. b == 0x0A) xs ≡ Some n
position-is xs n h before here =
    let e = position_or_len_is ends xs n 0 (omega arith) before (λ _. here) in
    rw e (grind (arith, nat_tests))

-- the end behind n digits is the first
first_end : (held : List ℕ) (n : ℕ) → n ≤ LINE → n < length held → slice_index held n ≡ 0x0A → Digits (take n held) n
    → position (λ b. b == 0x0A) (take (LINE + 1) held) ≡ Some n
first_end held n short within end d =
    position-is (take (LINE + 1) held) n (omega (arith, length-take (LINE + 1) held))
    (λ k h. let near : k < LINE + 1 = omega arith in
    rw (get_or-take (LINE + 1) held k 0 near) (plain (get_or held k 0) (rw (get_or-take n held k 0 h) at (d k h))))
    (let near : n < LINE + 1 = omega arith in rw (get_or-take (LINE + 1) held n 0 near) (is_end (get_or held n 0) end))

-- a measured line of digits is sound
pub line_ok : (l : List ℕ) → IsMeasured l → Digits l (length l) → LineOk l
line_ok l m d = record {
  some = m.some;
  short = m.short;
  even = m.even;
  digits = All-from_get_or (λ c. digit_of c < 16) l 0 d;
}

-- the frame of a sound line is that of the bytes that a reader works out
pub frame_read : (l : List ℕ) (kind : Kind) → LineOk l → kind_of (byte_read l 0) ≡ Some kind → HasLength kind (bytes l)
    → FrameOf l (Ok (frame_by (byte_read l) (bytes l) kind))
frame_read l kind ok named long =
    let same = sound_bytes l ok in
    let k : kind_of (byte_of l 0) ≡ Some kind = rw same at named in
    holds ok (holds (rw k long) (rw (k, same) refl))

-- a frame of each kind may have its own bytes, which are few
pub own_length : (kind : Kind) → HasLength kind (frame_length kind)
own_length ConceptFact = inl refl
own_length RoleFact = inl refl
own_length Allowance = inl refl
own_length Expression = tt
own_length kind = refl

pub few_bytes : (kind : Kind) → (0 < frame_length kind) × (frame_length kind ≤ 8)
few_bytes kind = grind arith

-- a line of at most 16 characters, with its end behind it
pub begins_line : (kind : Kind) (held : List ℕ) (n : ℕ) → n < length held → 0 < n → n ≤ 16 → n % 2 ≡ 0 → slice_index held n ≡ 0x0A
    → HasLength kind (n / 2) → BeginsLine kind held (take n held)
begins_line kind held n within some near even end long =
    let e : length (take n held) ≡ n = omega (arith, length-take n held) in
    record {
      is = rw e refl;
      within = omega (arith, e);
      near = omega (arith, e);
      end = rw e end;
      measured = record {
        some = omega (arith, e);
        short = omega (arith, e, may_be_short (take n held));
        even = rw e even;
      };
      long = rw e long;
    }

module _ (kind : Kind) (held line : List ℕ) (b : BeginsLine kind held line) where
  whole : 2 * (length line / 2) ≡ length line
  whole = omega (arith, b.measured.even)

  -- all pairs of the line are among the first eight of what is held
  few : min 8 (length line / 2) ≡ length line / 2
  few = omega (arith, b.near)

  pub line_pairs : (made common : List ℕ) → HoldsPairs 8 held made common
      → HoldsPairs (min 8 (length line / 2)) line made common
  line_pairs made common p = rw few (front_pairs 8 (length line / 2) held line made common (omega (arith, b.near)) (rw whole b.is) p)

  -- the byte that the first pair makes is the line's first
  pub first : (made common : List ℕ) → HoldsPairs 8 held made common → slice_index made 0 ≡ byte_read line 0
  first made common p =
      let some : 0 < length line / 2 = omega (arith, b.measured.some, b.measured.even) in
      (line_pairs made common p).makes 0 (omega (arith, some)) ∙ sym (byte_within line 0 some)

  pub begins_frame : (f : Frame) → Digits line (2 * bytes line) → kind_of (byte_read line 0) ≡ Some kind
      → f ≡ frame_by (byte_read line) (bytes line) kind → BeginsFrame held (record { frame = f; length = length line })
  begins_frame f d k e =
      let n = length line in
      let all : Digits line n = rw whole at d in
      let here : Digits (take n held) n = λ j h. rw (sym b.is) (all j h) in
      record {
        within = b.within;
        first = first_end held n (omega (arith, b.measured.short, no_longer line)) b.within b.end here;
        frame = rw (sym b.is, e) (frame_read line kind (line_ok line b.measured all) k b.long);
      }

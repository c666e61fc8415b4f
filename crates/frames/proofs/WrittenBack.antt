-- THEOREMS: what a line is read as fits a line, and its line is that line, where both are as long.
use Rattle.std.specs.Prelude.{ℕ, suc, ◌+◌, ◌*◌, ◌-◌, ◌^◌, ◌/◌, ◌%◌, ◌<◌, ◌≤◌, ◌≡◌, List, ◌∷◌, Option, None, Some, Ok, IsSomeAnd, length, map}
use Rattle.std.specs.List.{range_with_len, AllByRecursion}
use Rattle.std.proofs.Common.{refl, sym, ap, ◌∙◌, arith, get_or, inl, inr}
use Rattle.std.proofs.lemmas.List.Elements.{All-from_recursion, recursion_from_All}
use Rattle.std.proofs.lemmas.List.FromFn.{get_or-map-range_with_len}
use Rattle.laws.specs.First.{first-passed}
use Rattle.kinds.specs.declared.Concept.{Concept}
use Rattle.kinds.specs.declared.State.{State}
use Rattle.kinds.specs.Kinds.{number_of, concept_of, number-concept}
use Rattle.frames.specs.Digits.{bytes, byte_of, LineOk}
use Rattle.frames.specs.Frames.{number_in, two_bytes, marks_of, frame_by, FrameOf}
use Rattle.frames.specs.Kinds.{kind_of, HasLength}
use Rattle.frames.specs.Text.{most_bytes}
use Rattle.frames.specs.Written.{byte, kind_byte, kind_in, fields, frame_bytes, line_of, IsNumbered, AreNumbered, FitsLine}
use Rattle.frames.specs.declared.Frame.{Frame}
use Rattle.frames.specs.declared.Frame.TheVariants as frame
use Rattle.frames.specs.declared.kind.Kind.{Kind}
use Rattle.frames.specs.declared.kind.Kind.TheVariants.{Declared, ConceptRule, ConceptExclusion, RoleRule, RoleExclusion, ConceptFact, RoleFact, RoleStep, TestStep, Final, Ask, AskFrom, Allowance, Expression, Salvage, ListedMark}
use Rattle.frames.proofs.Ends.{length-line}
use Rattle.frames.proofs.FieldBytes.{Holds, IsByte, row-bytes, fits-row, marks-bytes, marks-small}
use Rattle.frames.proofs.Lengths.{number_two, number_four, marks_long, no_longer}
use Rattle.frames.proofs.Named.{byte-named}
use Rattle.frames.proofs.ReadBack.{own_long}
use Rattle.frames.proofs.Spelled.{length-spelled, byte-small, spelled-bytes}

-- what a line says that is read as a frame
record IsReadAs (l : List ℕ) (f : Frame) : Type 0 where
  pub ok : LineOk l
  pub kind : Kind
  pub named : kind_of (byte_of l 0) ≡ Some kind
  pub long : HasLength kind (bytes l)
  pub is : f ≡ frame_by (byte_of l) (bytes l) kind

named_by : (o : Option Kind) (P : Kind → Type 0) → IsSomeAnd o P → (kind : Kind) × (o ≡ Some kind) × P kind
named_by None P h = absurd h
named_by (Some kind) P h = (kind, refl, h)

is_read_as : (l : List ℕ) (f : Frame) → FrameOf l (Ok f) → IsReadAs l f
is_read_as l f r =
    let line = first-passed r (λ e. cc) in
    let frame = first-passed line.1 (λ e. cc) in
    let k = named_by (kind_of (byte_of l 0)) _ frame.1 in
    let e : Some k.0 ≡ kind_of (byte_of l 0) = sym k.1 in
    record { ok = line.0; kind = k.0; named = k.1; long = rw k.1 at frame.0; is = let w = k.2 in cc }

module _ (at : ℕ → ℕ) (small : (k : ℕ) → IsByte (at k)) where
  two_small : (k : ℕ) → two_bytes at k < 2 ^ 16
  two_small k = omega (arith, number_two at k, small k, small (k + 1))

  four_small : number_in 4 at 1 < 2 ^ 32
  four_small = omega (arith, number_four at 1, two_small 1, two_small 3)

  -- an allowance of two bytes or of four
  rounds_small : (n : ℕ) → HasLength Allowance n → number_in (n - 1) at 1 < 2 ^ 32
  rounds_small n (inl e) = rw e (omega (arith, two_small 1))
  rounds_small n (inr e) = rw e four_small

  concept_small : (k : ℕ) → number_of (concept_of (at k)) < 2 ^ 8
  concept_small k = rw (number-concept (at k)) (small k)

  numbers : (n : ℕ) (kind : Kind) → HasLength kind n → AllByRecursion Holds (fields (frame_by at n kind))
  numbers n Declared long = (small 1, (small 2, (small 3, (small 4, (small 5, tt)))))
  numbers n ConceptRule long = (concept_small 1, (concept_small 2, tt))
  numbers n ConceptExclusion long = (concept_small 1, (concept_small 2, tt))
  numbers n RoleRule long = (small 1, (small 2, tt))
  numbers n RoleExclusion long = (small 1, (small 2, tt))
  numbers n ConceptFact long = (small 1, (small 2, (two_small 3, tt)))
  numbers n RoleFact long = (small 1, (small 2, (small 3, (two_small 4, tt))))
  numbers n RoleStep long = (small 1, (small 2, (small 3, tt)))
  numbers n TestStep long = (small 1, (small 2, (small 3, tt)))
  numbers n Final long = (small 1, tt)
  numbers n Ask long = (small 1, (small 2, tt))
  numbers n AskFrom long = (small 1, tt)
  numbers n Salvage long = tt
  numbers n Allowance long = (rounds_small n long, tt)
  numbers n ListedMark long = (four_small, (small 5, (small 6, (concept_small 7, tt))))
  numbers n Expression long =
      let row = marks_of at (n - 1) in
      recursion_from_All Holds (map byte row) (fits-row row (marks-small at small (n - 1)))

  concept : (k : ℕ) → IsNumbered (concept_of (at k))
  concept k = ap concept_of (number-concept (at k))

  concepts : (n : ℕ) (kind : Kind) → AreNumbered (frame_by at n kind)
  concepts n ConceptRule = (concept 1, concept 2)
  concepts n ConceptExclusion = (concept 1, concept 2)
  concepts n ListedMark = concept 7
  concepts n other = tt

  short : (n : ℕ) (kind : Kind) → n ≤ most_bytes → length (frame_bytes (frame_by at n kind)) ≤ most_bytes
  unfolding frame_bytes
  short n Expression few =
      rw (row-bytes (marks_of at (n - 1)) (marks-small at small (n - 1))) (omega (arith, marks_long at (n - 1)))
  short n other few = omega arith

  pub fits : (n : ℕ) (kind : Kind) → HasLength kind n → n ≤ most_bytes → FitsLine (frame_by at n kind)
  fits n kind long few = record {
    numbers = All-from_recursion Holds (fields (frame_by at n kind)) (numbers n kind long);
    concepts = concepts n kind;
    short = short n kind few;
  }

  -- the bytes of the frame are those that it is read from
  own : (k : ℕ) → at k % 256 ≡ at k
  own k = omega (arith, small k)

  concept_own : (k : ℕ) → number_of (concept_of (at k)) % 256 ≡ at k
  concept_own k = rw (number-concept (at k)) (own k)

  high : (k : ℕ) → two_bytes at k / 256 % 256 ≡ at k
  high k = omega (arith, number_two at k, small k, small (k + 1))

  low : (k : ℕ) → two_bytes at k % 256 ≡ at (k + 1)
  low k = omega (arith, number_two at k, small k, small (k + 1))

  abbrev rounds : ℕ
  rounds = number_in 4 at 1

  rounds_bytes : (rounds / 256 ^ 3 % 256 ≡ at 1) × (rounds / 256 ^ 2 % 256 ≡ at 2) × (rounds / 256 % 256 ≡ at 3) × (rounds % 256 ≡ at 4)
  rounds_bytes =
      let e : rounds ≡ 2 ^ 24 * at 1 + 2 ^ 16 * at 2 + 2 ^ 8 * at 3 + at 4 =
      omega (arith, number_four at 1, number_two at 1, number_two at 3) in
      let a = small 1 in
      let b = small 2 in
      let c = small 3 in
      let d = small 4 in (omega arith, omega arith, omega arith, omega arith)

  all_from : (m n : ℕ) → n ≡ suc m → at 0 ∷ map at (range_with_len 1 m) ≡ map at (range_with_len 0 n)
  all_from m n e = rw e refl

  pub bytes-of_frame : (n : ℕ) (kind : Kind) → kind_byte kind ≡ at 0 → HasLength kind n → 0 < n
      → length (frame_bytes (frame_by at n kind)) ≡ n → frame_bytes (frame_by at n kind) ≡ map at (range_with_len 0 n)
  unfolding frame_bytes
  bytes-of_frame n Declared named long some whole = rw (long, ← named, own 1, own 2, own 3, own 4, own 5) refl
  bytes-of_frame n ConceptRule named long some whole = rw (long, ← named, concept_own 1, concept_own 2) refl
  bytes-of_frame n ConceptExclusion named long some whole = rw (long, ← named, concept_own 1, concept_own 2) refl
  bytes-of_frame n RoleRule named long some whole = rw (long, ← named, own 1, own 2) refl
  bytes-of_frame n RoleExclusion named long some whole = rw (long, ← named, own 1, own 2) refl
  bytes-of_frame n ConceptFact named long some whole = rw (sym whole, ← named, own 1, own 2, high 3, low 3) refl
  bytes-of_frame n RoleFact named long some whole = rw (sym whole, ← named, own 1, own 2, own 3, high 4, low 4) refl
  bytes-of_frame n RoleStep named long some whole = rw (long, ← named, own 1, own 2, own 3) refl
  bytes-of_frame n TestStep named long some whole = rw (long, ← named, own 1, own 2, own 3) refl
  bytes-of_frame n Final named long some whole = rw (long, ← named, own 1) refl
  bytes-of_frame n Ask named long some whole = rw (long, ← named, own 1, own 2) refl
  bytes-of_frame n AskFrom named long some whole = rw (long, ← named, own 1) refl
  bytes-of_frame n Salvage named long some whole = rw (long, ← named) refl
  bytes-of_frame n Allowance named long some whole =
      let b = rounds_bytes in rw (sym whole, ← named, b.0, b.1, b.2, b.3) refl
  bytes-of_frame n ListedMark named long some whole =
      let b = rounds_bytes in rw (long, ← named, b.0, b.1, b.2, b.3, own 5, own 6, concept_own 7) refl
  bytes-of_frame n Expression named long some whole =
      let row = marks_of at (n - 1) in
      rw (row-bytes row (marks-small at small (n - 1)), marks-bytes at (n - 1), named) (all_from (n - 1) n (omega arith))

-- what a sound line says of its bytes
module _ (l : List ℕ) (ok : LineOk l) where
  few : bytes l ≤ most_bytes
  few = omega (arith, ok.short, no_longer l)

  some_bytes : 0 < bytes l
  some_bytes = omega (arith, ok.some, ok.even)

pub read-fits : (l : List ℕ) (f : Frame) → FrameOf l (Ok f) → FitsLine f
read-fits l f r =
    let w = is_read_as l f r in
    rw w.is (fits (byte_of l) (byte-small l w.ok) (bytes l) w.kind w.long (few l w.ok))

pub line-is_written : (l : List ℕ) (f : Frame) → FrameOf l (Ok f) → length l ≡ length (line_of f) → l ≡ line_of f
unfolding line_of
line-is_written l f r e =
    let w = is_read_as l f r in
    let named : kind_byte w.kind ≡ byte_of l 0 = byte-named (byte_of l 0) w.kind (byte-small l w.ok 0) w.named in
    let long : length (frame_bytes f) ≡ bytes l = omega (arith, length-spelled (frame_bytes f), e) in
    let are : frame_bytes f ≡ map (byte_of l) (range_with_len 0 (bytes l)) =
    rw w.is (bytes-of_frame (byte_of l) (byte-small l w.ok) (bytes l) w.kind named w.long (some_bytes l w.ok) (rw w.is at long)) in
    spelled-bytes l w.ok (frame_bytes f) long
    (λ k h. ap (λ bs. get_or bs k 0) are ∙ get_or-map-range_with_len (byte_of l) 0 (bytes l) k k 0 h (omega arith))

kind-frame_by : (byte : ℕ → ℕ) (n : ℕ) (kind : Kind) → kind_in (frame_by byte n kind) ≡ kind
kind-frame_by byte n Declared = refl
kind-frame_by byte n other = refl

-- a listed mark has one length
pub listed-is_written : (l : List ℕ) (n : ℕ) (s t : State) (B : Concept) → FrameOf l (Ok (frame.ListedMark n s t B))
    → l ≡ line_of (frame.ListedMark n s t B)
listed-is_written l n s t B r =
    let f = frame.ListedMark n s t B in
    let w = is_read_as l f r in
    let kind : ListedMark ≡ w.kind = ap kind_in w.is ∙ kind-frame_by (byte_of l) (bytes l) w.kind in
    let long : bytes l ≡ 8 = rw (sym kind) at w.long in
    line-is_written l f r (omega (arith, w.ok.even, length-line f, own_long f, long))

-- What the lines before a list type: one line more, and how many they are.
use Rattle.std.specs.Prelude.{◌+◌, ◌<◌, ◌≡◌, true, nat_lt, List, [], ◌∷◌, ◌++◌, Option, None, Some, length}
use Rattle.std.proofs.Common.{refl, ◌∙◌, arith, append-nil, length-append, lt-ltb}
use Rattle.std.proofs.lemmas.List.Elements.{filter_map-append}
use Rattle.salvage.specs.declared.Typed.{Typed}
use Rattle.frames.specs.declared.Frame.{Frame}
use Rattle.frames.specs.declared.Frame.TheVariants.{ListedMark}
use Rattle.reading.specs.File.{typed_with}
use Rattle.reading.specs.Tables.{listed, entries, most_typed, typed_in, typed_lines}
use Rattle.reading.specs.Reading.{Taken, more}
use Rattle.reading.proofs.Bounds.{beside_list, taken-within}
use Rattle.reading.proofs.Passed.{Passed, judged_passed}
use Rattle.reading.proofs.TableLaws.{entries-cons}

-- what a line types, behind what those before it type
abbrev pub plus_typed : List Typed → Option Typed → List Typed
plus_typed l None = l
plus_typed l (Some x) = l ++ x ∷ []

pub typed-append : (fs gs : List Frame) → typed_lines (fs ++ gs) ≡ typed_lines fs ++ typed_lines gs
unfolding typed_lines
typed-append fs gs = filter_map-append typed_in fs gs

typed-one : (l : List Typed) (f : Frame) → l ++ typed_lines (f ∷ []) ≡ plus_typed l (typed_in f)
unfolding typed_lines
typed-one l (ListedMark n s t B) = append-nil l
typed-one l f = refl

pub typed-more : (fs : List Frame) (f : Frame) → typed_lines (fs ++ f ∷ []) ≡ plus_typed (typed_lines fs) (typed_in f)
typed-more fs f = typed-append fs (f ∷ []) ∙ typed-one (typed_lines fs) f

-- each line is an entry of a list, or one of these
pub typed-length : (fs : List Frame) → length (typed_lines fs) + entries listed fs ≡ length fs
unfolding typed_lines entries
typed-length [] = refl
typed-length (ListedMark n s t B ∷ fs) = omega (arith, entries-cons listed (ListedMark n s t B) fs, typed-length fs)
typed-length (f ∷ fs) = omega (arith, entries-cons listed f fs, typed-length fs)

-- of lines that are taken none is passed over
few-typed : (fs : List Frame) → Taken fs → length (typed_lines fs) < most_typed + 1
few-typed fs t = omega (arith, typed-length fs, beside_list fs (taken-within fs t))

with-room : (l : List Typed) (o : Option Typed) → length (plus_typed l o) < most_typed + 1 → typed_with l o ≡ plus_typed l o
with-room l None few = refl
with-room l (Some x) few =
    let e : nat_lt (length l) most_typed ≡ true = lt-ltb _ _ (omega (arith, length-append l (x ∷ []))) in
    rw e refl

pub typed-room : (before : List Frame) (f : Frame) → Taken before → Passed before f
    → typed_with (typed_lines before) (typed_in f) ≡ plus_typed (typed_lines before) (typed_in f)
typed-room before f t p =
    with-room (typed_lines before) (typed_in f)
    (rw (typed-more before f) at (few-typed (before ++ f ∷ []) (more before f t (judged_passed before f p))))

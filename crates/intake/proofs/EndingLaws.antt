-- Entries that are read on after a collection: they are taken, one after the other, and the frames of a sound input are those of
-- the collection and then entries alone.
use Rattle.std.specs.Prelude.{ℕ, ◌⊎◌, ◌+◌, ◌≡◌, ◌≢◌, ◌≤◌, ◌<◌, refl, List, [], ◌∷◌, ◌++◌, Some, IsSome, Ok, map, length, take, slice_get}
use Rattle.std.proofs.Common.{inl, inr, sym, ap, ◌∙◌, subst, arith, append_assoc, append-nil, length-append}
use Rattle.std.proofs.lemmas.List.{take_all, take-append-le}
use Rattle.std.proofs.Math.Decide.{dec_lt}
use mathlib.Core.List.Memᴰ
use Rattle.laws.specs.Member.{◌∈◌}
use Rattle.streams.specs.Lines.{lines}
use Rattle.kinds.specs.declared.Counts.{Counts}
use Rattle.frames.specs.declared.Frame.{Frame}
use Rattle.frames.specs.declared.Frame.TheVariants.{ListedMark}
use Rattle.frames.specs.Frames.{FrameOf}
use Rattle.frames.specs.Written.{FitsLine}
use Rattle.frames.proofs.ReadBack.{line-is_read}
use Rattle.frames.proofs.WrittenBack.{listed-is_written}
use Rattle.reading.specs.Judged.{NumbersOk, Judged}
use Rattle.reading.specs.Reading.{Finds, taken, Verdict, sound, Reading, whole, onward, Taken, none, more}
use Rattle.reading.specs.Reads.{BeginsList}
use Rattle.reading.specs.Tables.{Entry, entry_in, frame_of, list_in, listed, entries, most_listed, declared_by}
use Rattle.reading.proofs.Kept.{declared-later}
use Rattle.reading.proofs.ListEnds.{entry-taken, list-only}
use Rattle.reading.proofs.ListLaws.{list-append, list-counted, entry-listed}
use Rattle.reading.proofs.Passed.{judged_ok}
use Rattle.reading.proofs.UpToList.{entered-line, begun-entry}
use Rattle.intake.specs.Entries.{entry_line}

-- an entry of declared numbers, which a line can say
pub record IsEntry (c : Counts) (e : Entry) : Type 0 where
  pub declared : NumbersOk c (frame_of e)
  pub fits : FitsLine (frame_of e)

one-entry : (e : Entry) → list_in (frame_of e ∷ []) ≡ e ∷ []
unfolding list_in
one-entry e = refl

begun_more : (before : List Frame) (f : Frame) → (before ++ f ∷ []) ≢ []
begun_more [] f e = cc
begun_more (g ∷ before) f e = cc

-- entries one after the other, after a collection: how many there are, those before among them
module _ (c : Counts) where
  entry-more : (before : List Frame) (e : Entry) → before ≢ [] → declared_by before ≡ c → entries listed before < most_listed → IsEntry c e
      → Judged before (frame_of e) (Ok tt)
  entry-more before e n d room i = entry-taken before e n room (rw d i.declared)

  counted-more : (before : List Frame) (e : Entry) → entries listed (before ++ frame_of e ∷ []) ≡ entries listed before + 1
  counted-more before e =
      list-counted (before ++ frame_of e ∷ [])
      ∙ ap (λ (l : List Entry). length l) (list-append before (frame_of e ∷ []) ∙ ap (λ (l : List Entry). list_in before ++ l) (one-entry e))
      ∙ length-append (list_in before) (e ∷ []) ∙ ap (λ n. n + 1) (sym (list-counted before))

  pub entries-read : (es : List Entry) (before : List Frame) → before ≢ [] → declared_by before ≡ c
      → entries listed before + length es ≤ most_listed → ((e : Entry) → e ∈ es → IsEntry c e)
      → (ls : List (List ℕ)) (v : Verdict) → Reading (before ++ map frame_of es) ls v → Reading before (map entry_line es ++ ls) v
  entries-read [] before n d room are ls v r = rw append-nil at r
  entries-read (e ∷ es) before n d room are ls v r =
      let i = are e (Memᴰ.head refl) in
      let j = entry-more before e n d (omega arith) i in
      let m = counted-more before e in
      onward before (entry_line e) (map entry_line es ++ ls) (frame_of e) v
      (taken (frame_of e) (line-is_read (frame_of e) i.fits) j)
      (entries-read es (before ++ frame_of e ∷ []) (begun_more before (frame_of e)) (declared-later before (frame_of e) n ∙ d)
      (omega (arith, m)) (λ x k. are x (Memᴰ.tail k)) ls v
      (subst (λ fs. Reading fs ls v) (sym (append_assoc before (frame_of e ∷ []) (map frame_of es))) r))

  pub entries-taken : (es : List Entry) (before : List Frame) → Taken before → before ≢ [] → declared_by before ≡ c
      → entries listed before + length es ≤ most_listed → ((e : Entry) → e ∈ es → IsEntry c e) → Taken (before ++ map frame_of es)
  entries-taken [] before t n d room are = rw append-nil t
  entries-taken (e ∷ es) before t n d room are =
      let i = are e (Memᴰ.head refl) in
      let j = entry-more before e n d (omega arith) i in
      let m = counted-more before e in
      subst Taken (append_assoc before (frame_of e ∷ []) (map frame_of es))
      (entries-taken es (before ++ frame_of e ∷ []) (more before (frame_of e) t j) (begun_more before (frame_of e))
      (declared-later before (frame_of e) n ∙ d) (omega (arith, m)) (λ x k. are x (Memᴰ.tail k)))

pub list-of_entries : (es : List Entry) → list_in (map frame_of es) ≡ es
unfolding list_in
list-of_entries [] = refl
list-of_entries (e ∷ es) = ap (λ (l : List Entry). e ∷ l) (list-of_entries es)

-- what was taken was taken up to any place
pub taken-start : (fs : List Frame) → Taken fs → (k : ℕ) → Taken (take k fs)
taken-start fs none k = rw (take_all {A = Frame} k [] (omega arith)) none
taken-start fs (more before f t j) k = by (taken-start before t k) (dec_lt (length before) k)
  where
    by : Taken (take k before) → Dec (length before < k) → Taken (take k (before ++ f ∷ []))
    by on (yes h) = rw (take_all k (before ++ f ∷ []) (omega (arith, length-append before (f ∷ [])))) (more before f t j)
    by on (no h) = rw (take-append-le k before (f ∷ []) (omega arith)) on

entry-is : (f : Frame) → IsSome (entry_in f) → (e : Entry) × (f ≡ frame_of e)
entry-is (ListedMark n s t B) h = ((n, s, t, B), refl)
entry-is f h = absurd cc

-- once a list has begun, there are entries alone
entries-only : {before : List Frame} {ls : List (List ℕ)} {fs : List Frame} → Reading before ls (sound fs) → list_in before ≢ []
    → (es : List Entry) × (fs ≡ before ++ map frame_of es)
entries-only (whole f fs) n = ([], sym (append-nil (f ∷ fs)))
entries-only (onward before line ls f v h rest) n =
    let some = list-only before f (judged_ok h) n in
    let w = entry-is f some in
    let on = entries-only rest (entry-listed before f [] some) in (
      w.0 ∷ on.0,
      on.1 ∙ append_assoc before (f ∷ []) (map frame_of on.0) ∙ ap (λ (g : Frame). before ++ g ∷ map frame_of on.0) w.1,
    )

-- a list begins where lines are those of bytes that begin one
pub record BeginsSo (ls : List (List ℕ)) : Type 0 where
  pub bytes : List ℕ
  pub begins : BeginsList bytes
  pub same : lines bytes ≡ ls

-- what a sound input has behind some frames where a list has begun, or begins: entries alone, of which the first is that of the
-- first line
pub record Ending (before fs : List Frame) (ls : List (List ℕ)) : Type 0 where
  pub more : List Entry
  pub are : fs ≡ before ++ map frame_of more
  pub first : (e : Entry) → slice_get more 0 ≡ Some e → slice_get ls 0 ≡ Some (entry_line e)

frame-found : {before : List Frame} {line : List ℕ} {f : Frame} → Finds before line (Ok f) → FrameOf line (Ok f)
frame-found (taken f o j) = o

entry-found : (before : List Frame) (line : List ℕ) (ls : List (List ℕ)) (f : Frame) → Finds before line (Ok f)
    → (list_in before ≢ []) ⊎ BeginsSo (line ∷ ls) → IsSome (entry_in f)
entry-found before line ls f h (inl n) = list-only before f (judged_ok h) n
entry-found before line ls f h (inr b) = begun-entry line f (entered-line b.bytes line ls b.same b.begins) (frame-found h)

pub ending : {before : List Frame} {ls : List (List ℕ)} {fs : List Frame} → Reading before ls (sound fs)
    → (list_in before ≢ []) ⊎ BeginsSo ls → Ending before fs ls
ending (whole f fs) begun = record { more = []; are = sym (append-nil (f ∷ fs)); first = λ e i. absurd cc }
ending (onward before line ls f v h rest) begun =
    let some = entry-found before line ls f h begun in
    let w = entry-is f some in
    let on = entries-only rest (entry-listed before f [] some) in
    record {
      more = w.0 ∷ on.0;
      are = on.1 ∙ append_assoc before (f ∷ []) (map frame_of on.0) ∙ ap (λ (g : Frame). before ++ g ∷ map frame_of on.0) w.1;
      first = λ e i.
          let d : w.0 ≡ e = cc in
          let l = listed-is_written line w.0.0 w.0.1 w.0.2 w.0.3 (rw w.1 at (frame-found h)) in
          ap Some l ∙ ap (λ (y : Entry). Some (entry_line y)) d;
    }

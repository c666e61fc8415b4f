-- Laws of the list among some frames.
use Rattle.std.specs.Prelude.{ℕ, ◌<◌, ◌≡◌, ◌≢◌, ◌↔◌, IsSome, List, [], ◌∷◌, ◌++◌, None, length}
use Rattle.std.proofs.Common.{refl, sym, ap, ◌∙◌, arith, append-nil, append_assoc, length-append}
use Rattle.std.proofs.lemmas.List.Elements.{filter_map-append}
use Rattle.frames.specs.declared.Frame.{Frame}
use Rattle.frames.specs.declared.Frame.TheVariants.{ListedMark}
use Rattle.reading.specs.Tables.{listed, entries, Entry, entry_in, list_in}
use Rattle.reading.specs.Laws.{Extends}
use Rattle.reading.specs.Reading.{sound, Reading, whole, onward}
use Rattle.reading.proofs.TableLaws.{added, entries-cons}

pub list-append : (fs gs : List Frame) → list_in (fs ++ gs) ≡ list_in fs ++ list_in gs
unfolding list_in
list-append fs gs = filter_map-append entry_in fs gs

pub list-none : list_in [] ≡ []
unfolding list_in
list-none = refl

-- an entry and the list behind it
pub list-cons : (f : Frame) (fs : List Frame) → list_in (f ∷ fs) ≡ list_in (f ∷ []) ++ list_in fs
list-cons f fs = list-append (f ∷ []) fs

-- a frame that is no entry leaves the list as it is
pub no_entry : (f : Frame) → entry_in f ≡ None → list_in (f ∷ []) ≡ []
unfolding list_in
no_entry f e = rw e refl

pub list-same : (fs : List Frame) (f : Frame) → entry_in f ≡ None → list_in (fs ++ f ∷ []) ≡ list_in fs
list-same fs f e = list-append fs (f ∷ []) ∙ ap (λ l. list_in fs ++ l) (no_entry f e) ∙ append-nil (list_in fs)

-- THEOREM: a list has as many entries as are counted
one-counted : (f : Frame) → added listed f ≡ length (list_in (f ∷ []))
unfolding list_in
one-counted (ListedMark n s t B) = refl
one-counted f = refl

pub list-counted : (fs : List Frame) → entries listed fs ≡ length (list_in fs)
unfolding entries
list-counted [] = sym (ap length list-none)
list-counted (f ∷ fs) =
    let longer = length-append (list_in (f ∷ [])) (list_in fs) in
    omega (arith, entries-cons listed f fs, one-counted f, list-counted fs, longer, ap length (list-cons f fs))

-- there is none where none is counted
pub none-counted : (fs : List Frame) → (entries listed fs ≡ 0) ↔ (list_in fs ≡ [])
none-counted fs = (λ e. by (list_in fs) (sym (list-counted fs) ∙ e), λ e. list-counted fs ∙ ap length e)
  where
    by : (l : List Entry) → length l ≡ 0 → l ≡ []
    by [] e = refl
    by (x ∷ l) e = absurd (omega arith)

-- an entry is a list by itself
one-listed : (f : Frame) → IsSome (entry_in f) → 0 < length (list_in (f ∷ []))
unfolding list_in
one-listed (ListedMark n s t B) h = omega arith
one-listed f h = absurd cc

-- and stands in that of the frames around it
pub entry-listed : (before : List Frame) (f : Frame) (rest : List Frame) → IsSome (entry_in f) → list_in (before ++ f ∷ rest) ≢ []
entry-listed before f rest some e =
    omega (
      arith,
      ap length (sym e ∙ list-append before (f ∷ rest) ∙ ap (λ l. list_in before ++ l) (list-cons f rest)),
      length-append (list_in before) (list_in (f ∷ []) ++ list_in rest),
      length-append (list_in (f ∷ [])) (list_in rest),
      one-listed f some,
    )

-- THEOREM: the frames of a sound file begin with those that were read before
pub sound-extends : {before : List Frame} {ls : List (List ℕ)} {fs : List Frame} → Reading before ls (sound fs) → Extends before fs
sound-extends (whole f fs) = record { rest = []; are = sym (append-nil (f ∷ fs)) }
sound-extends (onward before line ls f v h rest) =
    let later = sound-extends rest in
    record { rest = f ∷ later.rest; are = later.are ∙ append_assoc before (f ∷ []) later.rest }

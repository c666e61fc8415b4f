-- A list ends the frames that are taken, and its entries are taken and held one after the other.
use Rattle.std.specs.Prelude.{ℕ, suc, ◌+◌, ◌<◌, ◌≡◌, ◌≢◌, List, [], ◌∷◌, ◌++◌, None, IsSome, Ok, map, length}
use Rattle.std.proofs.Common.{refl, sym, ap, ◌∙◌, arith, append-nil, append_assoc, length-append}
use Rattle.std.proofs.lemmas.List.{map-append}
use Rattle.laws.specs.First.{holds}
use Rattle.streams.specs.Lines.{lines}
use Rattle.frames.specs.declared.Frame.{Frame}
use Rattle.frames.specs.declared.Frame.TheVariants.{Declared, RoleStep, TestStep, Final, Allowance, Expression, Salvage, ListedMark}
use Rattle.reading.specs.declared.File.{File}
use Rattle.reading.specs.File.{file_of}
use Rattle.reading.specs.Judged.{InPlace, HasRoom, NumbersOk, Judged}
use Rattle.reading.specs.Laws.{EndsInList}
use Rattle.reading.specs.Reading.{sound, Reading, whole, onward, taken, Taken}
use Rattle.reading.specs.Reads.{BeginsList}
use Rattle.reading.specs.Tables.{listed, most_listed, entries, Entry, entry_in, frame_of, list_in, declared_by}
use Rattle.reading.proofs.Kept.{entry-held}
use Rattle.reading.proofs.ListLaws.{list-append, list-none, list-same, entry-listed, sound-extends}
use Rattle.reading.proofs.Passed.{Passed, passed, taken-keeps}
use Rattle.reading.proofs.UpToList.{entered-line, none-left, begun-entry}

-- before any frame but an entry there is none
none-before : (before : List Frame) (f : Frame) → InPlace before f → entry_in f ≡ None → list_in before ≡ []
none-before before (Declared c) p e = ap list_in p ∙ list-none
none-before before (Allowance n) p e = p.0.no_list
none-before before (RoleStep s R t) p e = p.0.no_list
none-before before (TestStep s A t) p e = p.0.no_list
none-before before (Final s) p e = p.0.no_list
none-before before (Expression row) p e = p.0.no_list
none-before before Salvage p e = p.0.no_list
none-before before (ListedMark n s t B) p e = absurd cc
none-before before f p e = p.no_list

list-entry : (before : List Frame) (entry : Entry) → list_in (before ++ frame_of entry ∷ []) ≡ list_in before ++ entry ∷ []
unfolding list_in
list-entry before entry = list-append before (frame_of entry ∷ [])

-- THEOREM: frames that were taken are those of a collection, and then those of a list
ends-more : (before : List Frame) (f : Frame) → Taken before → Passed before f → EndsInList before → EndsInList (before ++ f ∷ [])
ends-more before (ListedMark n s u B) t p w =
    let entry : Entry = (n, s, u, B) in
    let f = frame_of entry in
    let list = list_in before in
    let more : map frame_of (list_in (before ++ f ∷ [])) ≡ map frame_of list ++ f ∷ [] =
    ap (map frame_of) (list-entry before entry) ∙ map-append frame_of list (entry ∷ []) in
    record {
      collection = w.collection;
      no_list = w.no_list;
      are =
          ap (λ (l : List Frame). l ++ f ∷ []) w.are ∙ append_assoc w.collection (map frame_of list) (f ∷ [])
          ∙ ap (λ (l : List Frame). w.collection ++ l) (sym more);
    }
ends-more before f t p w =
    let none = list-same before f refl ∙ none-before before f p.in_place refl in
    record {
      collection = before ++ f ∷ [];
      no_list = none;
      are = rw none (sym (append-nil (before ++ f ∷ [])));
    }

ends-none : EndsInList []
ends-none = record { collection = []; no_list = list-none; are = rw list-none refl }

pub list-last : (fs : List Frame) → Taken fs → EndsInList fs
list-last = taken-keeps EndsInList ends-none ends-more

-- THEOREM: where a list has begun, nothing but an entry is taken
pub list-only : (before : List Frame) (f : Frame) → Judged before f (Ok tt) → list_in before ≢ [] → IsSome (entry_in f)
list-only before f j some = by f (passed before f j).in_place
  where
    by : (f : Frame) → InPlace before f → IsSome (entry_in f)
    by (ListedMark n s t B) p = refl
    by (Declared c) p = absurd (some (none-before before (Declared c) p refl))
    by f p = absurd (some (none-before before f p refl))

-- THEOREM: an entry is taken where there is room for it, and it is declared
entry-room : (before : List Frame) (entry : Entry) → entries listed before < most_listed → HasRoom before (frame_of entry)
entry-room before entry room listed h = room
entry-room before entry room kind h = absurd cc

pub entry-taken : (before : List Frame) (entry : Entry) → before ≢ [] → entries listed before < most_listed
    → NumbersOk (declared_by before) (frame_of entry) → Judged before (frame_of entry) (Ok tt)
entry-taken before entry some room numbers =
    holds some (holds tt (holds (entry-room before entry room) (holds numbers (holds tt (holds tt (holds tt (holds tt refl)))))))

-- THEOREM: what is held of some entries more has both counts raised by how many they are
pub entries-held : (before : List Frame) (list : List Entry) → before ≢ []
    → let old = file_of before in
    let count = length list in
    file_of (before ++ map frame_of list) ≡ record old { lines = old.lines + count; listed = old.listed + count }
entries-held before [] some =
    let n : length before + 0 ≡ length before = omega arith in
    let m : entries listed before + 0 ≡ entries listed before = omega arith in
    rw (append-nil before, n, m) refl
entries-held before (entry ∷ list) some =
    let next = before ++ frame_of entry ∷ [] in
    let on = entries-held next list (not-none before (frame_of entry)) in
    let n : length before + 1 + length list ≡ length before + suc (length list) = omega arith in
    let m : entries listed before + 1 + length list ≡ entries listed before + suc (length list) = omega arith in
    ap file_of (sym (append_assoc before (frame_of entry ∷ []) (map frame_of list)))
    ∙ on
    ∙ ap (λ (k : File). record k { lines = k.lines + length list; listed = k.listed + length list }) (sym (entry-held before entry some))
    ∙ rw (n, m) refl
  where
    not-none : (before : List Frame) (f : Frame) → before ++ f ∷ [] ≢ []
    not-none before f e = omega (arith, length-append before (f ∷ []), ap length e)

-- THEOREM: where the bytes that are left begin as an entry does, a sound file has a list
begins-lines : (before fs : List Frame) (line : List ℕ) (more ls : List (List ℕ)) → ls ≡ line ∷ more → BeginsList line
    → Reading before ls (sound fs) → list_in fs ≢ []
begins-lines before fs line more ls e b (whole f gs) n = absurd cc
begins-lines before fs line more ls e b (onward _ l ms f v (taken _ o j) rest) n =
    let d : l ≡ line = cc in
    let some = begun-entry line f b (rw d at o) in
    let later = sound-extends rest in
    entry-listed before f later.rest some (ap list_in (sym (later.are ∙ append_assoc before (f ∷ []) later.rest)) ∙ n)

pub list-begins : (before fs : List Frame) (left : List ℕ) → BeginsList left → Reading before (lines left) (sound fs) → list_in fs ≢ []
list-begins before fs left b r = by (lines left) refl r
  where
    by : (ls : List (List ℕ)) → lines left ≡ ls → Reading before ls (sound fs) → list_in fs ≢ []
    by [] e r = absurd (none-left left b e)
    by (line ∷ ls) e r = begins-lines before fs line ls (line ∷ ls) refl (entered-line left line ls e b) r

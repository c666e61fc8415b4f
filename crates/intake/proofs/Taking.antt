-- A list that was held against its sheet, and the lines behind that were read on, whether or not the bytes are known.
use Rattle.std.specs.Prelude.{ℕ, ◌⊎◌, ◌+◌, ◌≡◌, ◌≢◌, ◌≤◌, ◌<◌, refl, Bool, true, false, List, [], Option, None, Some, IfSome, IfOk, IsTrue, Result, Ok, Err, map, length, take, slice_get}
use Rattle.std.specs.Io.KnownBytes.{prepend_known}
use Rattle.std.specs.declared.io.Error.{Error}
use Rattle.std.proofs.Common.{sym, ap, subst, inl, inr, arith}
use Rattle.laws.specs.Member.{◌∈◌}
use Rattle.streams.specs.Lines.{lines}
use Rattle.streams.specs.Input.{Input, left_of}
use Rattle.kinds.specs.declared.Counts.{Counts}
use Rattle.meaning.specs.Collection.{WellFormed}
use Rattle.frames.specs.declared.Frame.{Frame}
use Rattle.reading.specs.declared.Fault.{Fault}
use Rattle.reading.specs.declared.File.{File}
use Rattle.reading.specs.declared.Refusal.TheVariants.{NotTheSheet}
use Rattle.reading.specs.File.{file_of, HoldsOpen}
use Rattle.reading.specs.Judged.{IsOpen}
use Rattle.reading.specs.Reading.{Taken}
use Rattle.reading.specs.Reads.{IsRead, ReadsOn, ReadsUpTo}
use Rattle.reading.specs.declared.Behind.TheVariants as behind
use Rattle.reading.specs.Tables.{Entry, most_listed, declared_by}
use Rattle.reading.proofs.Judging.{begun as some_lines}
use Rattle.reading.proofs.ListLaws.{none-counted}
use Rattle.intake.specs.Compared.{IsBroken, IsCompared}
use Rattle.intake.specs.declared.comparison.Compared.{Compared}
use Rattle.intake.specs.Entries.{entry_line}
use Rattle.intake.specs.Held.{collection_held, CutsList}
use Rattle.intake.specs.Next.{TakesLines}
use Rattle.intake.specs.TakesIn.{TakesIn, TakesList}
use Rattle.intake.specs.Verdicts.{before_list}
use Rattle.intake.proofs.EndingLaws.{IsEntry, taken-start}
use Rattle.intake.proofs.EntriesFit.{are-entries, few-entries}
use Rattle.intake.proofs.FileSheet.{well}
use Rattle.intake.proofs.TakenIn.{counted, line-fault, no-list-found, right-taken, right-held, unlooked, fault-behind, sound-behind, all-right, refused}

-- in a contradiction
module _ {file : File} (w : IsBroken file) where
  broken-found : (a b : Option (List ℕ)) (found : Result (Unit {0}) Fault) (new : File) → TakesLines a b []
      → IfSome b (λ left. ReadsOn file (lines left) found new)
      → IfSome a (λ left. TakesList file left found new)
  broken-found None b found new t h = tt
  broken-found (Some x) None found new t h = absurd t
  broken-found (Some x) (Some y) found new t h = λ input r. unlooked r w.question w.is w.plain w.broken y t h

  pub broken-read : (a b : Option (List ℕ)) (result : Result (Result (Unit {0}) Fault) Error) (new : File) → TakesLines a b []
      → IfOk result (λ found. IfSome b (λ left. ReadsOn file (lines left) found new))
      → IfOk result (λ found. IfSome a (λ left. TakesList file left found new))
  broken-read a b (Ok found) new t h = broken-found a b found new t h
  broken-read a b (Err e) new t h = tt

-- what is open is held so
held-open : (fs : List Frame) → HoldsOpen (file_of fs) → IsOpen fs
held-open fs h = record { begun = (some_lines fs).0 h.begun; no_list = (none-counted fs).0 h.no_list }

begun-lines : {file : File} {fs : List Frame} → file ≡ file_of fs → fs ≢ [] → 0 < file.lines
begun-lines {file} {fs} e n = rw e ((some_lines fs).1 n)

module _ {file : File} {old new : Input} {c : Compared} (w : IsCompared file old new c) where
  -- of the frames that are held
  module _ (fs : List Frame) (t : Taken fs) (kept : file ≡ file_of fs) (o : IsOpen fs) where
    ok : WellFormed (collection_held file w.question)
    ok = well file (record { frames = fs; taken = t; kept = kept }) (begun-lines kept o.begun) w.question w.is

    few : length w.listing ≤ most_listed
    few = few-entries (collection_held file w.question) ok w.listing w.lists

    are : (e : Entry) → e ∈ w.listing → IsEntry (declared_by fs) e
    are e m =
        subst (λ (counts : Counts). IsEntry counts e) (ap (λ (f : File). f.counts) kept)
        (are-entries (collection_held file w.question) ok w.listing w.lists e m)

  -- the right entries are counted with what is held
  pub counted-read : IsRead file → HoldsOpen file → IsRead (counted c.right file)
  counted-read read h =
      let o = held-open read.frames (rw read.kept at h) in
      record {
        frames = _;
        taken = right-taken read.frames read.taken o w.listing (few read.frames read.taken read.kept o) (are read.frames read.taken read.kept o) c.right w.so.few;
        kept = right-held read.frames read.taken o w.listing (few read.frames read.taken read.kept o) (are read.frames read.taken read.kept o) c.right w.so.few file read.kept;
      }

  pub right-few : IsRead file → HoldsOpen file → c.right ≤ most_listed
  right-few read h =
      let o = held-open read.frames (rw read.kept at h) in
      omega (arith, w.so.few, few read.frames read.taken read.kept o)

  missed-is : (after : List ℕ) → left_of new ≡ Some after → c.is_whole ≡ false
      → (e : Entry) × (slice_get w.listing c.right ≡ Some e) × (slice_get (lines after) 0 ≢ Some (entry_line e))
  missed-is after e f = let m = rw f at w.so.missed in (m.entry, m.is, rw e at m.other)

  -- what comes of the lines behind the right entries
  module _ (file3 : File) where
    fault-found' : (a b : Option (List ℕ)) (fault : Fault) → TakesLines a b (map entry_line (take c.right w.listing))
        → IfSome b (λ left. ReadsOn (counted c.right file) (lines left) (Err fault) file3)
        → IfSome a (λ left. TakesList file left (Err fault) file3)
    fault-found' None b fault t h = tt
    fault-found' (Some x) None fault t h = absurd t
    fault-found' (Some x) (Some y) fault t h = λ input r.
        fault-behind r w.question w.is w.looked_at w.listing w.lists (few r.frames r.taken r.kept r.is_open) (are r.frames r.taken r.kept r.is_open)
        c.right w.so.few y t h

    pub fault-found : (fault : Fault) → IfSome (left_of new) (λ left. ReadsOn (counted c.right file) (lines left) (Err fault) file3)
        → IfSome (left_of old) (λ left. TakesList file left (Err fault) file3)
    fault-found fault = fault-found' (left_of old) (left_of new) fault w.so.taken

    whole-found' : (a b : Option (List ℕ)) → TakesLines a b (map entry_line (take c.right w.listing)) → c.right ≡ length w.listing
        → file3.listed ≡ c.right → IfSome b (λ left. ReadsOn (counted c.right file) (lines left) (Ok tt) file3)
        → IfSome a (λ left. TakesList file left (Ok tt) file3)
    whole-found' None b t f e h = tt
    whole-found' (Some x) None t f e h = absurd t
    whole-found' (Some x) (Some y) t f e h = λ input r.
        let n = few r.frames r.taken r.kept r.is_open in
        let i = are r.frames r.taken r.kept r.is_open in
        let s = sound-behind r w.question w.is w.looked_at w.listing w.lists n i c.right w.so.few y t h in
        all-right r w.question w.is w.looked_at w.listing w.lists n i c.right w.so.few y t s.frames s.reading file3 s.kept f e

    -- so many entries, the right ones among them, are the listing
    abbrev IsAll : Type 0
    IsAll = IsTrue c.is_whole × (c.right ≡ file3.listed)

    pub whole-found : IsAll
        → IfSome (left_of new) (λ left. ReadsOn (counted c.right file) (lines left) (Ok tt) file3)
        → IfSome (left_of old) (λ left. TakesList file left (Ok tt) file3)
    whole-found (f, e) = whole-found' (left_of old) (left_of new) w.so.taken (w.so.whole f) (sym e)

    abbrev Departing : List ℕ → Type 0
    Departing y =
        (c.right ≡ length w.listing) × (file3.listed ≢ c.right)
        ⊎ ((e : Entry) × (slice_get w.listing c.right ≡ Some e) × (slice_get (lines y) 0 ≢ Some (entry_line e)))

    departs-found' : (a b : Option (List ℕ)) → left_of new ≡ b → TakesLines a b (map entry_line (take c.right w.listing))
        → (IsAll → ⊥) → (fault : Fault) (cut : File) → CutsList c.right file3 cut
        → fault ≡ record { line = cut.lines + 1; refusal = NotTheSheet }
        → IfSome b (λ left. ReadsOn (counted c.right file) (lines left) (Ok tt) file3)
        → IfSome a (λ left. TakesList file left (Err fault) cut)
    departs-found' None b g t n fault cut k told h = tt
    departs-found' (Some x) None g t n fault cut k told h = absurd t
    departs-found' (Some x) (Some y) g t n fault cut k told h = λ input r.
        let m = few r.frames r.taken r.kept r.is_open in
        let i = are r.frames r.taken r.kept r.is_open in
        let s = sound-behind r w.question w.is w.looked_at w.listing w.lists m i c.right w.so.few y t h in
        refused r w.question w.is w.looked_at w.listing w.lists m i c.right w.so.few y t s.frames s.reading file3 s.kept
        (departing c.is_whole refl n) k told
      where
        departing : (b : Bool) → c.is_whole ≡ b → (IsAll → ⊥) → Departing y
        departing false f n = inr (missed-is y g f)
        departing true f n = inl (w.so.whole f, λ e. n (f, sym e))

    pub departs-found : (IsAll → ⊥) → (fault : Fault) (cut : File) → CutsList c.right file3 cut
        → fault ≡ record { line = cut.lines + 1; refusal = NotTheSheet }
        → IfSome (left_of new) (λ left. ReadsOn (counted c.right file) (lines left) (Ok tt) file3)
        → IfSome (left_of old) (λ left. TakesList file left (Err fault) cut)
    departs-found = departs-found' (left_of old) (left_of new) refl w.so.taken

-- what is held of a list cut short is held of some frames
pub cut-read : {k : ℕ} {old new : File} → CutsList k old new → IsRead old → IsRead new
cut-read {k} w r = record { frames = _; taken = taken-start r.frames r.taken (before_list r.frames + k); kept = w.by r.frames r.taken r.kept }

-- an input of which nothing is held yet is read up to a list, or to its end
pub fault-told : (input left : Option (List ℕ)) (fault : Fault) (new : File) → ReadsUpTo (prepend_known [] input) left (Err fault) new
    → IfSome input (λ xs. TakesIn (lines xs) (Err fault) new)
fault-told None left fault new h = tt
fault-told (Some xs) left fault new h = line-fault (λ v r. r) h

pub nothing-behind : (input left : Option (List ℕ)) (new : File) → ReadsUpTo (prepend_known [] input) left (Ok behind.Nothing) new
    → IfSome input (λ xs. TakesIn (lines xs) (Ok tt) new)
nothing-behind None left new h = tt
nothing-behind (Some xs) left new h = no-list-found h.0 h.1

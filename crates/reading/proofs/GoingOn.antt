-- A file half read: reading on at the lines that are left comes to what reading all of them does.
use Rattle.std.specs.Prelude.{ℕ, suc, false, ◌==◌, if◌then◌else◌, ◌+◌, ◌-◌, ◌^◌, ◌<◌, ◌≤◌, ◌≡◌, List, [], ◌∷◌, ◌++◌, Option, None, Some, Result, Ok, Err, ⊤, length, min, slice_get, IfSome, IsSomeAnd}
use Rattle.std.specs.Io.KnownBytes.{Keeps, IsAtEnd}
use Rattle.std.proofs.Common.{refl, ap, ◌∙◌, arith}
use Rattle.std.proofs.lemmas.Bool.Decides.{nat_tests}
use Rattle.laws.specs.First.{fails}
use Rattle.streams.specs.Lines.{lines, TakesLine, BeginsLonger}
use Rattle.streams.specs.declared.TheConstants.{LINE}
use Rattle.frames.specs.Digits.{LineOk}
use Rattle.frames.specs.Frames.{FrameOf}
use Rattle.frames.specs.declared.Frame.{Frame}
use Rattle.frames.proofs.Lengths.{no_longer}
use Rattle.frames.specs.declared.Misread.TheVariants as misread
use Rattle.reading.specs.declared.Fault.{Fault}
use Rattle.reading.specs.declared.File.{File}
use Rattle.reading.specs.declared.Progress.{Progress}
use Rattle.reading.specs.declared.Progress.TheVariants as progress
use Rattle.reading.specs.declared.Refusal.{Refusal}
use Rattle.reading.specs.declared.Refusal.TheVariants.{BadLine, OutOfPlace}
use Rattle.reading.specs.File.{file_of}
use Rattle.reading.specs.Next.{Proceeds, taken, refused, too_long, ended}
use Rattle.reading.specs.Reading.{Finds, unread, Verdict, faulty, sound, frames_of, Reading, empty, whole, stopped, onward, Taken, more}
use Rattle.reading.specs.Reads.{ReadsAfter, ReadsOn, IsRead, told_of, told_at_end, fault_after}
use Rattle.reading.specs.Room.{room_left}
use Rattle.reading.specs.Tables.{most_lines}
use Rattle.reading.specs.Turns as turns
use Rattle.reading.proofs.Bounds.{within-lines}
use Rattle.reading.proofs.Passed.{judged_ok}
use Rattle.reading.proofs.Turns.{few_lines}

-- a line that is too long is none
pub long_line : (line : List ℕ) (n : ℕ) → LINE ≤ n → n < length line → FrameOf line (Err misread.BadLine)
long_line line n m h = fails (λ (ok : LineOk line). omega (arith, ok.short, no_longer line))

reading_long : (before : List Frame) (ls : List (List ℕ)) → IsSomeAnd (slice_get ls 0) (λ line. LINE < length line)
    → Reading before ls (faulty before BadLine)
reading_long before [] h = absurd h
reading_long before (line ∷ ls) h = stopped before line ls BadLine (unread misread.BadLine (long_line line LINE (omega arith) h))

abbrev at_end : List Frame → Verdict
at_end [] = faulty [] OutOfPlace
at_end (f ∷ fs) = sound (f ∷ fs)

reading_end : (before : List Frame) (ys : List ℕ) → ys ≡ [] → Reading before (lines ys) (at_end before)
unfolding lines
reading_end [] ys e = rw e empty
reading_end (f ∷ fs) ys e = rw e (whole f fs)

ends-some : (n : ℕ) → (if suc n == 0 then Err (record { line = 1; refusal = OutOfPlace }) else Ok tt) ≡ told_of (sound [])
ends-some n = let e : (suc n == 0) ≡ false = grind (arith, nat_tests) in rw e refl

-- the line after the frames that were taken
told-after : (before : List Frame) → Taken before → (r : Refusal) → Err (fault_after (file_of before) r) ≡ told_of (faulty before r)
told-after before t r =
    let n : min (length before + 1) (2 ^ 64 - 1) ≡ length before + 1 = omega (arith, within-lines before t) in rw n refl

-- what the lines left are found to be after some frames, the lines of an input are found to be after the first ones
module _ (first : List Frame) where
  abbrev pub GoesOn : Option (List ℕ) → Option (List ℕ) → List Frame → Type 0
  GoesOn None left before = ⊤
  GoesOn (Some xs) None before = ⊥
  GoesOn (Some xs) (Some ys) before = (v : Verdict) → Reading before (lines ys) v → Reading first (lines xs) v

  -- what an input of known bytes is found to be after them
  abbrev ReadingOf : Option (List ℕ) → Verdict → Type 0
  ReadingOf input v = IfSome input (λ xs. Reading first (lines xs) v)

  goes_line : (a b c : Option (List ℕ)) (before : List Frame) (line : List ℕ) (f : Frame) → GoesOn a b before → TakesLine b c line
      → Finds before line (Ok f) → GoesOn a c (before ++ f ∷ [])
  goes_line None b c before line f g t h = tt
  goes_line (Some x) None c before line f g t h = absurd g
  goes_line (Some x) (Some y) None before line f g t h = absurd t
  goes_line (Some x) (Some y) (Some z) before line f g t h = λ v r. g v (rw t (onward before line (lines z) f v h r))

  goes_stop : (a b c : Option (List ℕ)) (before : List Frame) (line : List ℕ) (r : Refusal) → GoesOn a b before → TakesLine b c line
      → Finds before line (Err r) → ReadingOf a (faulty before r)
  goes_stop None b c before line r g t h = tt
  goes_stop (Some x) None c before line r g t h = absurd g
  goes_stop (Some x) (Some y) None before line r g t h = absurd t
  goes_stop (Some x) (Some y) (Some z) before line r g t h = g (faulty before r) (rw t (stopped before line (lines z) r h))

  goes_long : (a b : Option (List ℕ)) (before : List Frame) → GoesOn a b before → BeginsLonger b LINE
      → ReadingOf a (faulty before BadLine)
  goes_long None b before g h = tt
  goes_long (Some x) None before g h = absurd g
  goes_long (Some x) (Some y) before g h = g (faulty before BadLine) (reading_long before (lines y) h)

  goes_end : (a b : Option (List ℕ)) (before : List Frame) → GoesOn a b before → IsAtEnd b → ReadingOf a (at_end before)
  goes_end None b before g h = tt
  goes_end (Some x) None before g h = absurd g
  goes_end (Some x) (Some y) before g h = g (at_end before) (reading_end before y h)

  goes_start : (a : Option (List ℕ)) → GoesOn a a first
  goes_start None = tt
  goes_start (Some xs) = λ v r. r

  goes_kept : (a b c : Option (List ℕ)) (before : List Frame) → GoesOn a b before → Keeps b c → GoesOn a c before
  goes_kept None b c before g k = tt
  goes_kept (Some x) None c before g k = absurd g
  goes_kept (Some x) (Some y) None before g k = absurd k
  goes_kept (Some x) (Some y) (Some z) before g k = rw k g

  -- what reading comes to is what is told and held
  reads : (a : Option (List ℕ)) (v : Verdict) {found : Result (Unit {0}) Fault} {file : File} → ReadingOf a v → found ≡ told_of v
      → file ≡ file_of (frames_of v)
      → IfSome a (λ xs. ReadsAfter first (lines xs) found file)
  reads None v r t k = tt
  reads (Some xs) v r t k = record { verdict = v; reading = r; told = t; kept = k }

  -- a file of which some frames are read after the first ones
  pub record Begun (input left : Option (List ℕ)) (file : File) : Type 0 where
    pub before : List Frame
    pub taken : Taken before
    pub kept : file ≡ file_of before
    pub goes : GoesOn input left before

  pub begun_start : {input : Option (List ℕ)} {file : File} → Taken first → file ≡ file_of first → Begun input input file
  begun_start {input} t k = record { before = first; taken = t; kept = k; goes = goes_start input }

  module _ {input left : Option (List ℕ)} {file : File} (w : Begun input left file) where
    pub begun_kept : {other : Option (List ℕ)} → Keeps left other → Begun input other file
    begun_kept {other} k = record {
      before = w.before;
      taken = w.taken;
      kept = w.kept;
      goes = goes_kept input left other w.before w.goes k;
    }

    pub begun_more : {next : Option (List ℕ)} {line : List ℕ} {new : File} → TakesLine left next line
        → turns.TakesLine file line (Ok tt) new → Begun input next new
    begun_more {next} {line} {new} t h = by new (h.by w.before w.taken w.kept)
      where
        by : (new : File) → turns.Turn w.before line (Ok tt) new → Begun input next new
        by new (turns.taken f h) = record {
          before = w.before ++ f ∷ [];
          taken = more w.before f w.taken (judged_ok h);
          kept = refl;
          goes = goes_line input left next w.before line f w.goes t h;
        }

    -- the next line is taken, and reading goes on behind it
    pub begun_next : {next : Option (List ℕ)} {new : File} → Proceeds left next file progress.Taken new → Begun input next new
    begun_next (taken line new t h less) = begun_more t h

    -- or it is refused
    stops : (next : Option (List ℕ)) {line : List ℕ} {r : Refusal} → TakesLine left next line → turns.TakesLine file line (Err r) file
        → IfSome input (λ xs. ReadsAfter first (lines xs) (Err (fault_after file r)) file)
    stops next {line} {r} t h = by file (h.by w.before w.taken w.kept)
      where
        by : (new : File) → turns.Turn w.before line (Err r) new
            → IfSome input (λ xs. ReadsAfter first (lines xs) (Err (fault_after new r)) new)
        by new (turns.refused r i) =
            reads input (faulty w.before r) (goes_stop input left next w.before line r w.goes t i) (told-after w.before w.taken r) refl

    pub stops_next : {next : Option (List ℕ)} {r : Refusal} {new : File} {fault : Fault} → Proceeds left next file (progress.Refused r) new
        → fault ≡ fault_after new r → IfSome input (λ xs. ReadsAfter first (lines xs) (Err fault) new)
    stops_next {next} (refused line r t h) e = rw e (stops next t h)
    stops_next (too_long h) e =
        reads input (faulty w.before BadLine) (goes_long input left w.before w.goes h)
        (ap Err (e ∙ ap (λ k. fault_after k BadLine) w.kept) ∙ told-after w.before w.taken BadLine) w.kept

    -- or there is none
    pub ends_next : {next : Option (List ℕ)} {new : File} {found : Result (Unit {0}) Fault} → Proceeds left next file progress.Ended new
        → found ≡ told_at_end new → IfSome input (λ xs. ReadsAfter first (lines xs) found new)
    ends_next {found = found} (ended h) e = by w.before (goes_end input left w.before w.goes h) w.kept
      where
        by : (fs : List Frame) → ReadingOf input (at_end fs) → file ≡ file_of fs
            → IfSome input (λ xs. ReadsAfter first (lines xs) found file)
        by [] r k = reads input (at_end []) r (e ∙ ap told_at_end k) k
        by (f ∷ fs) r k = reads input (at_end (f ∷ fs)) r (e ∙ ap told_at_end k ∙ ends-some (length fs)) k

-- what was read stays so with a line more
pub still_read : {old new : File} {line : List ℕ} → IsRead old → turns.TakesLine old line (Ok tt) new → IsRead new
still_read {old} {new} {line} w h = by new (h.by w.frames w.taken w.kept)
  where
    by : (new : File) → turns.Turn w.frames line (Ok tt) new → IsRead new
    by new (turns.taken f i) = record { frames = w.frames ++ f ∷ []; taken = more w.frames f w.taken (judged_ok i); kept = refl }

-- and whatever comes of the next line
pub read_next : {left next : Option (List ℕ)} {old new : File} {p : Progress} → Proceeds left next old p new → IsRead old → IsRead new
read_next (taken line new t h less) w = still_read w h
read_next (refused line r t h) w = w
read_next (too_long h) w = w
read_next (ended h) w = w

-- and there is less room, where it is taken
pub less_next : {left next : Option (List ℕ)} {old new : File} → Proceeds left next old progress.Taken new → room_left new < room_left old
less_next (taken line new t h less) = less

-- a fault is near
pub near_fault : {file : File} {r : Refusal} {fault : Fault} → fault ≡ fault_after file r → IsRead file → fault.line ≤ most_lines + 1
near_fault e w = rw e (omega (arith, few_lines w))

-- lines read on after whatever frames are held
pub record BegunOn (first file : File) (input left : Option (List ℕ)) : Type 0 where
  pub begun : (before : List Frame) → Taken before → first ≡ file_of before → Begun before input left file
  pub read : IsRead first → IsRead file

module _ {first file : File} {input left : Option (List ℕ)} (w : BegunOn first file input left) where
  pub on_next : {next : Option (List ℕ)} {new : File} → Proceeds left next file progress.Taken new → BegunOn first new input next
  on_next p = record { begun = λ before t k. begun_next before (w.begun before t k) p; read = λ r. read_next p (w.read r) }

  -- what is found of some known bytes, after each row of frames that may be held
  after-each : (a : Option (List ℕ)) (found : Result (Unit {0}) Fault) (new : File)
      → ((before : List Frame) → Taken before → first ≡ file_of before → IfSome a (λ xs. ReadsAfter before (lines xs) found new))
      → IfSome a (λ xs. ReadsOn first (lines xs) found new)
  after-each None found new h = tt
  after-each (Some xs) found new h = h

  pub on_stops : {next : Option (List ℕ)} {r : Refusal} {new : File} {fault : Fault} → Proceeds left next file (progress.Refused r) new
      → fault ≡ fault_after new r → IfSome input (λ xs. ReadsOn first (lines xs) (Err fault) new)
  on_stops p e = after-each input _ _ (λ before t k. stops_next before (w.begun before t k) p e)

  pub on_ends : {next : Option (List ℕ)} {new : File} {found : Result (Unit {0}) Fault} → Proceeds left next file progress.Ended new
      → found ≡ told_at_end new → IfSome input (λ xs. ReadsOn first (lines xs) found new)
  on_ends p e = after-each input _ _ (λ before t k. ends_next before (w.begun before t k) p e)

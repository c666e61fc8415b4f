-- The lines before a list: none of them is an entry of one, and where the list begins reading can go on.
use Rattle.std.specs.Prelude.{ℕ, ◌≤◌, ◌≡◌, ◌≢◌, ◌==◌, ◌⊎◌, Bool, true, false, List, [], ◌∷◌, ◌++◌, Option, None, Some, IsSome, Ok, Err, drop, length, IfSome, if◌then◌else◌}
use Rattle.std.specs.Io.KnownBytes.{Keeps, prepend_known}
use Rattle.std.proofs.Common.{refl, sym, ap, ◌∙◌, inl, inr, arith, append-nil}
use Rattle.std.proofs.lemmas.Bool.Decides.{nat_tests}
use Rattle.laws.specs.First.{first-passed}
use Rattle.streams.specs.Input.{Input, IsFilled, left_of}
use Rattle.streams.specs.Lines.{lines, longer, TakesLine}
use Rattle.kinds.specs.declared.Concept.{Concept}
use Rattle.kinds.specs.declared.State.{State}
use Rattle.frames.specs.Digits.{digit_of, bytes, byte_of}
use Rattle.frames.specs.Frames.{frame_by, FrameOf}
use Rattle.frames.specs.Kinds.{kind_of}
use Rattle.frames.specs.Written.{line_of, frame_bytes}
use Rattle.frames.specs.declared.Frame.{Frame}
use Rattle.frames.specs.declared.Frame.TheVariants.{ListedMark}
use Rattle.frames.specs.declared.kind.Kind.TheVariants as kind
use Rattle.frames.proofs.WrittenBack.{listed-is_written}
use Rattle.reading.specs.declared.Behind.TheVariants as behind
use Rattle.reading.specs.declared.Fault.{Fault}
use Rattle.reading.specs.declared.File.{File}
use Rattle.reading.specs.declared.Progress.TheVariants as progress
use Rattle.reading.specs.File.{file_of, HoldsOpen}
use Rattle.reading.specs.Judged.{InPlace}
use Rattle.reading.specs.Next.{Proceeds, taken, ended}
use Rattle.reading.specs.Reading.{Finds, taken as found, Taken, none}
use Rattle.reading.specs.Reads.{BeginsList, IsRead, ReadsFile, ReadsUpTo, told_at_end}
use Rattle.reading.specs.Turns as turns
use Rattle.reading.specs.Front.{TakesLines}
use Rattle.reading.specs.Tables.{listed, entries, entry_in}
use Rattle.reading.proofs.Fronts.{no_list_begins, begun_behind}
use Rattle.reading.proofs.GoingOn.{GoesOn, Begun, begun_start, begun_kept, begun_next, ends_next}
use Rattle.reading.proofs.Judging.{begun as some_lines}
use Rattle.reading.proofs.ListLaws.{list-none, list-same, none-counted}
use Rattle.reading.proofs.Passed.{passed}

-- the characters 1 and 0, and then more
record Entered (bytes : List ℕ) : Type 0 where
  after : List ℕ
  are : bytes ≡ 0x31 ∷ 0x30 ∷ after

entered : (bytes : List ℕ) → BeginsList bytes → Entered bytes
entered [] b = let e = b.first in absurd cc
entered (x ∷ []) b = let e = b.second in absurd cc
entered (x ∷ y ∷ after) b =
    let e : x ≡ 0x31 = let i = b.first in cc in
    let d : y ≡ 0x30 = let i = b.second in cc in
    record { after = after; are = rw (e, d) refl }

begins : (bytes : List ℕ) → Entered bytes → BeginsList bytes
begins bytes w = rw w.are (record { first = refl; second = refl })

-- a first line that has a character is that character and then the rest of the line
record Longer (bytes : List ℕ) (c : ℕ) (more : List ℕ) : Type 0 where
  rest : List ℕ
  are : bytes ≡ c ∷ rest
  further : (more ≡ []) ⊎ ((ls : List (List ℕ)) × (lines rest ≡ more ∷ ls))

first-longer : (bytes line : List ℕ) (ls : List (List ℕ)) (c : ℕ) (more : List ℕ) → lines bytes ≡ line ∷ ls → line ≡ c ∷ more
    → Longer bytes c more
unfolding lines
first-longer [] line ls c more e d = absurd cc
first-longer (x ∷ xs) line ls c more e d = by (x == 0x0A) (lines xs) refl e
  where
    by : (b : Bool) (ms : List (List ℕ)) → lines xs ≡ ms → (if b then [] ∷ ms else longer x ms) ≡ line ∷ ls → Longer (x ∷ xs) c more
    by true ms i j = let k : [] ≡ line = cc in absurd cc
    by false [] i j =
        let k : x ∷ [] ≡ c ∷ more = cc in
        let f : x ≡ c = cc in
        let g : more ≡ [] = cc in
        record { rest = xs; are = rw f refl; further = inl g }
    by false (m ∷ ms) i j =
        let k : x ∷ m ≡ c ∷ more = cc in
        let f : x ≡ c = cc in
        let g : m ≡ more = cc in
        record { rest = xs; are = rw f refl; further = inr (ms, rw g at i) }

-- the bytes begin as their first line does
entered-bytes : (bytes line : List ℕ) (ls : List (List ℕ)) → lines bytes ≡ line ∷ ls → Entered line → Entered bytes
entered-bytes bytes line ls e w =
    let a = first-longer bytes line ls 0x31 (0x30 ∷ w.after) e w.are in
    by a a.further
  where
    by : (a : Longer bytes 0x31 (0x30 ∷ w.after))
        → ((0x30 ∷ w.after) ≡ []) ⊎ ((ms : List (List ℕ)) × (lines a.rest ≡ (0x30 ∷ w.after) ∷ ms))
        → Entered bytes
    by a (inl n) = absurd cc
    by a (inr m) =
        let b = first-longer a.rest (0x30 ∷ w.after) m.0 0x30 w.after m.1 refl in
        record { after = b.rest; are = a.are ∙ ap (λ (l : List ℕ). 0x31 ∷ l) b.are }

-- and the line as they do
pub entered-line : (bytes line : List ℕ) (ls : List (List ℕ)) → lines bytes ≡ line ∷ ls → BeginsList bytes → BeginsList line
unfolding lines
entered-line bytes line ls e b =
    let w = entered bytes b in
    by w.after (lines w.after) refl (rw w.are at e)
  where
    by : (after : List ℕ) (ms : List (List ℕ)) → lines after ≡ ms → lines (0x31 ∷ 0x30 ∷ after) ≡ line ∷ ls → BeginsList line
    by after [] i j =
        let k : 0x31 ∷ 0x30 ∷ [] ≡ line = let h = rw i at j in cc in
        rw (sym k) (record { first = refl; second = refl })
    by after (m ∷ ms) i j =
        let k : 0x31 ∷ 0x30 ∷ m ≡ line = let h = rw i at j in cc in
        rw (sym k) (record { first = refl; second = refl })

-- and there is one
pub none-left : (bytes : List ℕ) → BeginsList bytes → lines bytes ≢ []
unfolding lines
none-left bytes b e =
    let w = entered bytes b in
    by w.after (lines w.after) refl (rw w.are at e)
  where
    by : (after : List ℕ) (ms : List (List ℕ)) → lines after ≡ ms → lines (0x31 ∷ 0x30 ∷ after) ≢ []
    by after [] i j = let h = rw i at j in cc
    by after (m ∷ ms) i j = let h = rw i at j in cc

-- the line of an entry begins so
entry-entered : (line : List ℕ) (n : ℕ) (s t : State) (B : Concept) → FrameOf line (Ok (ListedMark n s t B)) → Entered line
unfolding line_of frame_bytes
entry-entered line n s t B r = record { after = _; are = listed-is_written line n s t B r }

-- its first byte is 10
first-byte : (after : List ℕ) → byte_of (0x31 ∷ 0x30 ∷ after) 0 ≡ 0x10
unfolding byte_of digit_of
first-byte after = grind (arith, nat_tests)

kind-listed : kind_of 0x10 ≡ Some kind.ListedMark
unfolding kind_of
kind-listed = refl

-- and a frame of a line that begins so is an entry
pub begun-entry : (line : List ℕ) (f : Frame) → BeginsList line → FrameOf line (Ok f) → IsSome (entry_in f)
begun-entry line f b r =
    let w = entered line b in
    let ok = first-passed r (λ e. cc) in
    let of = first-passed ok.1 (λ e. cc) in
    let named : kind_of (byte_of line 0) ≡ Some kind.ListedMark =
    ap (λ l. kind_of (byte_of l 0)) w.are ∙ ap kind_of (first-byte w.after) ∙ kind-listed in
    let is = rw named at of.1 in
    let e : f ≡ frame_by (byte_of line) (bytes line) kind.ListedMark = cc in
    rw e refl

-- no entry is held of the lines before a list, where the bytes of the input are known
pub record HalfBegun (input left : Option (List ℕ)) (file : File) : Type 0 where
  pub begun : Begun [] input left file
  pub unlisted : IfSome input (λ xs. file.listed ≡ 0)

pub half_start : {file : File} {input : Option (List ℕ)} → file ≡ file_of [] → HalfBegun input input file
half_start {file} {input} k = record { begun = begun_start [] none k; unlisted = by input }
  where
    by : (o : Option (List ℕ)) → IfSome o (λ xs. file.listed ≡ 0)
    by None = tt
    by (Some xs) = ap (λ (f : File). f.listed) k ∙ (none-counted []).1 list-none

module _ {input left : Option (List ℕ)} {file : File} (w : HalfBegun input left file) where
  pub half_kept : {other : Option (List ℕ)} → Keeps left other → HalfBegun input other file
  half_kept k = record { begun = begun_kept [] w.begun k; unlisted = w.unlisted }

-- the bytes that are held begin a list, and so do all that are left
begins-more : (held ys : List ℕ) → BeginsList held → BeginsList (held ++ ys)
begins-more held ys b =
    let e = entered held b in
    begins (held ++ ys) (record { after = e.after ++ ys; are = ap (λ (l : List ℕ). l ++ ys) e.are })

begins-held : (held ys : List ℕ) → (2 ≤ length held) ⊎ (ys ≡ []) → BeginsList (held ++ ys) → BeginsList held
begins-held held ys (inr e) b = rw (e, append-nil held) at b
begins-held [] ys (inl long) b = absurd (omega arith)
begins-held (x ∷ []) ys (inl long) b = absurd (omega arith)
begins-held (x ∷ y ∷ held) ys (inl long) b = record { first = b.first; second = b.second }

-- what is found where a list begins
list-at : (input left : Option (List ℕ)) {file : File} (before : List Frame) → Taken before → file ≡ file_of before
    → GoesOn [] input left before → HoldsOpen file → IfSome left BeginsList
    → ReadsUpTo input left (Ok behind.List) file
list-at None left before t k goes h b = tt
list-at (Some xs) None before t k goes h b = absurd goes
list-at (Some xs) (Some ys) before t k goes h b = record {
  frames = before;
  taken = t;
  kept = k;
  is_open = record {
    begun = (some_lines before).0 (rw (ap (λ (f : File). f.lines) k) at h.begun);
    no_list = (none-counted before).0 (rw (ap (λ (f : File). f.listed) k) at h.no_list);
  };
  begins = b;
  onward = goes;
}

begins-known : (held : List ℕ) (behind : Option (List ℕ)) → BeginsList held → IfSome (prepend_known held behind) BeginsList
begins-known held None b = tt
begins-known held (Some ys) b = begins-more held ys b

module _ {input : Option (List ℕ)} {file : File} where
  pub list_found : (lines : Input) {held : List ℕ} → HalfBegun input (left_of lines) file → held ≡ lines.held
      → HoldsOpen file × BeginsList held → ReadsUpTo input (left_of lines) (Ok behind.List) file
  list_found lines w same b =
      list-at input (left_of lines) w.begun.before w.begun.taken w.begun.kept w.begun.goes b.0
      (begins-known lines.held lines.behind (rw same at b.1))

  -- and where a line is refused, or none is left
  pub nothing_found : {left next : Option (List ℕ)} (other : Option (List ℕ)) {new : File} → HalfBegun input left file
      → Proceeds left next file progress.Ended new → Ok tt ≡ told_at_end new → ReadsUpTo input other (Ok behind.Nothing) new
  nothing_found {left} {next} other w p e = by p input (ends_next [] w.begun p e) w.unlisted
    where
      by : {new : File} → Proceeds left next file progress.Ended new → (o : Option (List ℕ))
          → IfSome o (λ xs. ReadsFile (lines xs) (Ok tt) new)
          → IfSome o (λ xs. file.listed ≡ 0) → ReadsUpTo o other (Ok behind.Nothing) new
      by (ended h) None r u = tt
      by (ended h) (Some xs) r u = (r, u)

pub fault_found : (input left : Option (List ℕ)) (fault : Fault) (file : File) → IfSome input (λ xs. ReadsFile (lines xs) (Err fault) file)
    → ReadsUpTo input left (Err fault) file
fault_found None left fault file h = tt
fault_found (Some xs) left fault file h = h

-- a line that does not begin as an entry does is none
entry-none : (line : List ℕ) (before : List Frame) (f : Frame) → FrameOf line (Ok f) → InPlace before f
    → (before ≢ [] → Entered line → ⊥) → entry_in f ≡ None
entry-none line before (ListedMark n s t B) r p never = absurd (never p (entry-entered line n s t B r))
entry-none line before f r p never = refl

none-more : (before : List Frame) (line : List ℕ) (f : Frame) → Finds before line (Ok f) → entries listed before ≡ 0
    → (before ≢ [] → Entered line → ⊥) → entries listed (before ++ f ∷ []) ≡ 0
none-more before line f (found _ o j) no-list never =
    let e = entry-none line before f o (passed before f j).in_place never in
    (none-counted (before ++ f ∷ [])).1 (list-same before f e ∙ (none-counted before).0 no-list)

unlisted-more : (input behind next : Option (List ℕ)) (held line : List ℕ) {file new : File} (before : List Frame) → Taken before
    → file ≡ file_of before → GoesOn [] input (prepend_known held behind) before → IsFilled 2 held behind
    → (HoldsOpen file × BeginsList held → ⊥) → TakesLine (prepend_known held behind) next line
    → turns.TakesLine file line (Ok tt) new → IfSome input (λ xs. file.listed ≡ 0) → IfSome input (λ xs. new.listed ≡ 0)
unlisted-more None behind next held line before t k goes full never takes turn u = tt
unlisted-more (Some xs) None next held line before t k goes full never takes turn u = absurd goes
unlisted-more (Some xs) (Some ys) None held line before t k goes full never takes turn u = absurd takes
unlisted-more (Some xs) (Some ys) (Some zs) held line {file} {new} before t k goes full never takes turn u = by (turn.by before t k)
  where
    no-entry : before ≢ [] → Entered line → ⊥
    no-entry some w =
        never (
          record { begun = rw k ((some_lines before).1 some); no_list = u },
          begins-held held ys full (begins (held ++ ys) (entered-bytes (held ++ ys) line (lines zs) takes w)),
        )

    by : {new : File} → turns.Turn before line (Ok tt) new → new.listed ≡ 0
    by (turns.taken f h) = none-more before line f h (rw (ap (λ (f : File). f.listed) k) at u) no-entry

module _ {input : Option (List ℕ)} {file new : File} where
  pub half_next : (lines : Input) {held : List ℕ} {next : Option (List ℕ)} → HalfBegun input (left_of lines) file
      → IsFilled 2 lines.held lines.behind → held ≡ lines.held → (HoldsOpen file × BeginsList held → ⊥)
      → Proceeds (left_of lines) next file progress.Taken new → HalfBegun input next new
  half_next lines {held} {next} w full same never p = record { begun = begun_next [] w.begun p; unlisted = by p }
    where
      by : Proceeds (left_of lines) next file progress.Taken new → IfSome input (λ xs. new.listed ≡ 0)
      by (taken line n t h less) =
          let b = w.begun in
          unlisted-more input lines.behind next lines.held line b.before b.taken b.kept b.goes full (rw same at never) t h w.unlisted

  pub half_behind : (lines : Input) {held : List ℕ} {n : ℕ} {after : Input} → HalfBegun input (left_of lines) file → held ≡ lines.held
      → TakesLines file held n new → after.held ≡ drop n lines.held → after.behind ≡ lines.behind → HalfBegun input (left_of after) new
  half_behind lines w same t e b = record { begun = begun_behind [] lines w.begun same t e b; unlisted = by input w.unlisted }
    where
      by : (o : Option (List ℕ)) → IfSome o (λ xs. file.listed ≡ 0) → IfSome o (λ xs. new.listed ≡ 0)
      by None u = tt
      by (Some xs) u = no_list_begins t u

pub half_read : {input left : Option (List ℕ)} {file : File} → HalfBegun input left file → IsRead file
half_read w = record { frames = w.begun.before; taken = w.begun.taken; kept = w.begun.kept }

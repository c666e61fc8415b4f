-- Lines taken where they stand are lines of the input: reading goes on behind them.
use Rattle.std.specs.Prelude.{ℕ, ◌+◌, ◌-◌, ◌<◌, ◌≤◌, ◌≡◌, List, Option, None, Some, Ok, length, take, drop}
use Rattle.std.specs.Io.KnownBytes.{Keeps, prepend_known}
use Rattle.std.proofs.Common.{refl, sym, ◌∙◌, subst, arith, length-drop}
use Rattle.std.proofs.lemmas.List.{drop-drop, take_all}
use Rattle.streams.specs.Input.{Input, left_of}
use Rattle.streams.proofs.FirstLine.{TakesLine-found}
use Rattle.frames.specs.Front.{BeginsFrame}
use Rattle.frames.specs.declared.Frame.{Frame}
use Rattle.frames.specs.declared.Frame.TheVariants.{ListedMark}
use Rattle.frames.specs.declared.Front.{Front}
use Rattle.reading.specs.declared.File.{File}
use Rattle.reading.specs.File.{file_with, HoldsOpen}
use Rattle.reading.specs.Front.{TakesFirst, TakesFront, TakesLines, none, more}
use Rattle.reading.specs.Room.{room_left}
use Rattle.reading.specs.Tables.{entry_in}
use Rattle.reading.specs.Turns as turns
use Rattle.reading.specs.Turns.{Passes}
use Rattle.reading.proofs.GoingOn.{Begun, begun_more}
use Rattle.reading.proofs.RoomLaws.{room_less}

-- no list begins with a frame that is no entry
adds-none : (file : File) (f : Frame) → entry_in f ≡ None → (file_with f file).listed ≡ file.listed
adds-none file (ListedMark n s t B) e = absurd cc
adds-none file other e = refl

stays-open : (file : File) (f : Frame) → entry_in f ≡ None → HoldsOpen file → HoldsOpen (file_with f file)
stays-open file f e w = record { begun = omega arith; no_list = adds-none file f e ∙ w.no_list }

pub one_taken : {old new : File} {held : List ℕ} {front : Front} → BeginsFrame held front
    → turns.TakesLine old (take front.length held) (Ok tt) new → Passes old front.frame → entry_in front.frame ≡ None → HoldsOpen old
    → new ≡ file_with front.frame old
    → TakesFront old held (front.length + 1) new
one_taken {old} {new} {held} {front} b t p e w k = record {
  none = λ e. absurd (omega arith);
  some = λ h.
      let same : front.length + 1 - 1 ≡ front.length = omega arith in
      rw same (record {
        within = b.within;
        first = b.first;
        taken = t;
        is_open = rw k (stays-open old front.frame e w);
        room = rw k (room_less old front.frame p);
      });
}

pub at_front : (old : File) (held other : List ℕ) (n : ℕ) (new : File) → TakesFront old other n new → other ≡ held
    → TakesFront old held n new
at_front old held other n new t e = rw (sym e) t

-- what is left of some bytes
pub left : (at : ℕ) (held : List ℕ) → take (length held - at) (drop at held) ≡ drop at held
left at held = take_all (length held - at) (drop at held) (omega (arith, length-drop at held))

-- the lines so far
pub record LinesSoFar (old : File) (held : List ℕ) (at : ℕ) (file : File) : Type 0 where
  pub lines : TakesLines old held at file
  pub within : at ≤ length held
  pub is_open : HoldsOpen file

pub no_lines : {file : File} {held : List ℕ} → HoldsOpen file → LinesSoFar file held 0 file
no_lines w = record { lines = none; within = omega arith; is_open = w }

module _ {old file new : File} {held : List ℕ} {at n : ℕ} (s : LinesSoFar old held at file) (t : TakesFront file (drop at held) n new) where
  pub line_more : 0 < n → LinesSoFar old held (at + n) new
  line_more h =
      let e : n - 1 + 1 ≡ n = omega arith in
      let first = t.some h in
      record {
        lines = rw e at (more at (n - 1) file new s.lines first);
        within = omega (arith, first.within, length-drop at held, s.within);
        is_open = first.is_open;
      }

-- there is no more room behind them, and no list begins
pub no_more_room : {old : File} {held : List ℕ} {n : ℕ} {new : File} → TakesLines old held n new → room_left new ≤ room_left old
no_more_room none = omega arith
no_more_room (more at n mid new m t) = omega (arith, no_more_room m, t.room)

pub no_list_begins : {old : File} {held : List ℕ} {n : ℕ} {new : File} → TakesLines old held n new → old.listed ≡ 0 → new.listed ≡ 0
no_list_begins none h = h
no_list_begins (more at n mid new m t) h = t.is_open.no_list

keeps : (a : Option (List ℕ)) → Keeps a a
keeps None = tt
keeps (Some xs) = refl

past : (held : List ℕ) (at n : ℕ) → drop 1 (drop n (drop at held)) ≡ drop (at + (n + 1)) held
past held at n = drop-drop 1 n (drop at held) ∙ drop-drop (n + 1) at held

module _ (first : List Frame) {input : Option (List ℕ)} where
  -- a line and its end, taken from the front of what is left
  one_begun : (b : Option (List ℕ)) (held : List ℕ) {file new : File} {n : ℕ} → Begun first input (prepend_known held b) file
      → TakesFirst file held n new → Begun first input (prepend_known (drop 1 (drop n held)) b) new
  one_begun b held {n = n} w t =
      begun_more first w (TakesLine-found (prepend_known held b) b held n t.first (keeps (prepend_known held b))) t.taken

  lines_begun : (b : Option (List ℕ)) (held : List ℕ) {file : File} → Begun first input (prepend_known held b) file
      → {n : ℕ} {new : File} → TakesLines file held n new → Begun first input (prepend_known (drop n held) b) new
  lines_begun b held w none = w
  lines_begun b held w (more at n mid new m t) =
      let one = one_begun b (drop at held) (lines_begun b held w m) t in
      subst (λ (l : List ℕ). Begun first input (prepend_known l b) new) (past held at n) one

  -- reading goes on where those bytes are consumed
  pub begun_behind : (lines : Input) {file : File} → Begun first input (left_of lines) file → {held : List ℕ} {n : ℕ} {new : File}
      → held ≡ lines.held → TakesLines file held n new → {after : Input} → after.held ≡ drop n lines.held → after.behind ≡ lines.behind
      → Begun first input (left_of after) new
  begun_behind lines w same t e b = rw (e, b) (lines_begun lines.behind lines.held w (rw same at t))

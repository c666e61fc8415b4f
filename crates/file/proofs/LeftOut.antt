-- An accepted list changes nothing that is written.
use Rattle.std.specs.Prelude.{ℕ, zero, suc, ◌+◌, ◌/◌, ◌≤◌, ◌≡◌, ◌≢◌, refl, ◌↔◌, Bool, true, false, Option, None, Some, IsSome, Ok, length, take}
use Rattle.std.specs.List.{range_with_len}
use Rattle.std.proofs.Common.{sym, ap, ◌∙◌, subst, ⊎_elim, append_assoc, append-nil, length-append, length-take, arith}
use Rattle.std.proofs.lemmas.List.{length-map, map-append}
use Rattle.std.proofs.Math.Decide.{dec_lt}
use Rattle.std.proofs.lemmas.Option.{slice_get_past}
use Rattle.laws.specs.Departs.{DepartsAt}
use Rattle.tables.specs.Asks.{ask_width}
use mathlib.Core.List.Memᴰ
use mathlib.Core.List.{List, [], ◌∷◌, ◌++◌, map}
use Rattle.laws.specs.Member.{◌∈◌}
use Rattle.meaning.specs.Collection.{Collection, Each}
use Rattle.meaning.specs.Lent.{collection}
use Rattle.salvage.specs.Facts.{Fact, Clashing, IsSalvage}
use Rattle.salvage.specs.Salvages.{marked}
use Rattle.salvage.specs.declared.Typed.{Typed}
use Rattle.salvage.proofs.SalvageLaws.{marks_each}
use Rattle.salvage.proofs.SalvagedLaws.{others_after}
use Rattle.expression.specs.Listed.{Listed}
use Rattle.streams.specs.Lines.{lines}
use Rattle.frames.specs.Frames.{FrameOf}
use Rattle.frames.specs.declared.Frame.{Frame}
use Rattle.frames.specs.declared.Frame.TheVariants.{ListedMark}
use Rattle.frames.proofs.Once.{frame-once}
use Rattle.reading.specs.declared.File.{File}
use Rattle.reading.specs.declared.Refusal.TheVariants.{NotTheSheet}
use Rattle.reading.specs.Tables.{asks, listed, entries, Entry, entry_in, frame_of, list_in, rounds_allowed, salvages, typed_lines}
use Rattle.reading.specs.File.{file_of, IsQuestion, IsQuestionOf, lent_tables, allowance_in, asked, held_call}
use Rattle.reading.specs.Salvage.{fact_in, kept_frames, dropped_lines, Decides, plain, sifted}
use Rattle.reading.specs.Judged.{InPlace}
use Rattle.reading.specs.Reading.{Finds, taken, Taken, Verdict, sound, Reading, empty, whole, onward, none}
use Rattle.reading.proofs.Accepted.{reading-taken}
use Rattle.reading.proofs.ListEnds.{list-last, entries-held}
use Rattle.reading.proofs.ListLaws.{list-none, list-same}
use Rattle.reading.proofs.Passed.{passed, judged_ok}
use Rattle.reading.proofs.SalvageLaws.{decides-once, decides-some}
use Rattle.intake.specs.Verdicts.{collection_read, before_list, by-list, accepted, no-list}
use Rattle.shell.specs.Writes.{IsSound}
use Rattle.shell.proofs.WritesLaws.{said-written}
use Rattle.file.specs.Text.{count_width, dropped_text}
use Rattle.file.specs.Rounds.{round_lines, RoundsTold}
use Rattle.file.specs.Writes.{Answered, frames_width, RepliesTo, Reports, Writes}
use Rattle.file.proofs.Decided.{begun-over, question-over, reports-of}
use Rattle.file.specs.LeftOut.{IsEntryLine, LeavesOutList, ListRefused}
use Rattle.file.specs.Told.{IsFaultLine}
use Rattle.file.proofs.Asks.{ask_entries}
use Rattle.file.proofs.Sound.{sound-read}
use Rattle.file.proofs.Told.{fault-told}

-- ---- what is written of frames that are answered goes by what is held of them, but for how many lines and entries they are, what
-- these type, and whether they choose salvage
abbrev pub with_lines : File → ℕ → ℕ → Bool → List Typed → File
with_lines file n m chosen typed = record file { lines = n; listed = m; salvages = chosen; typed = typed }

abbrev with_counts : File → ℕ → ℕ → File
with_counts file n m = record file { lines = n; listed = m }

module _ (fs gs : List Frame) (n m : ℕ) (b : Bool) (typed : List Typed) (same : file_of fs ≡ with_lines (file_of gs) n m b typed) where
  many : entries asks fs ≡ entries asks gs
  many = sym (ask_entries fs) ∙ ap (λ (f : File). length f.asks / ask_width) same ∙ ask_entries gs

  pub replies-kept : (text : List ℕ) → RepliesTo frames_width fs text → RepliesTo frames_width gs text
  replies-kept text r =
      let q = r.question in
      record {
        question = q;
        is = subst (λ (f : File). IsQuestion f q) same r.is;
        counts = r.counts;
        told =
            subst (λ (k : ℕ). RoundsTold (collection_read gs q) (rounds_allowed gs) k r.counts) many
            (subst (λ (f : File). RoundsTold (collection f.counts (lent_tables f q)) (allowance_in f) (entries asks fs) r.counts)
            same r.told);
        out = r.out;
        answered =
            subst (λ (k : ℕ). Answered (frames_width gs) (asked gs q) k r.out) many
            (subst (λ (f : File). Answered (count_width f.counts) (held_call f q) (entries asks fs) r.out) same r.answered);
        whole = r.whole ∙ ap (λ (f : File). round_lines (count_width f.counts) 0 r.counts ++ r.out) same;
      }

module _ (gs : List Frame) (begun : gs ≢ []) (list : List Entry) where
  abbrev with_list : List Frame
  with_list = gs ++ map frame_of list

  pub held-with : file_of with_list ≡ with_counts (file_of gs) (length gs + length list) (entries listed gs + length list)
  held-with = entries-held gs list begun

  held-without : file_of gs ≡ with_counts (file_of with_list) (length gs) (entries listed gs)
  held-without = sym (ap (λ (f : File). with_counts f (length gs) (entries listed gs)) held-with)

  -- THEOREM: with entries of a list behind them the same is said of frames
  pub replies-with : (text : List ℕ) → RepliesTo frames_width with_list text ↔ RepliesTo frames_width gs text
  replies-with text = (
    replies-kept with_list gs (length gs + length list) (entries listed gs + length list) (salvages gs) (typed_lines gs) held-with text,
    replies-kept gs with_list (length gs) (entries listed gs) (salvages with_list) (typed_lines with_list) held-without text,
  )

-- with entries of a list behind them frames decide the same, and are answered with them
module _ {F : Type 0} where
  marks-behind : (l m : List F) (marks : List Bool) → length marks ≡ length l
      → (marked true (l ++ m) (marks ++ map (λ x. true) m) ≡ marked true l marks ++ m)
      × (marked false (l ++ m) (marks ++ map (λ x. true) m) ≡ marked false l marks)
  marks-behind [] m [] e = all m
    where
      all : (m : List F) → (marked true m (map (λ x. true) m) ≡ m) × (marked false m (map (λ x. true) m) ≡ [])
      all [] = (refl, refl)
      all (x ∷ m) = let w = all m in (ap (λ (k : List F). x ∷ k) w.0, w.1)
  marks-behind [] m (b ∷ marks) e = absurd (omega arith)
  marks-behind (x ∷ l) m [] e = absurd (omega arith)
  marks-behind (x ∷ l) m (true ∷ marks) e =
      let w = marks-behind l m marks (omega arith) in (ap (λ (k : List F). x ∷ k) w.0, w.1)
  marks-behind (x ∷ l) m (false ∷ marks) e =
      let w = marks-behind l m marks (omega arith) in (w.0, ap (λ (k : List F). x ∷ k) w.1)

  -- marks go by places
  marks-fit : {G : Type 0} (l : List F) (m : List G) → length l ≡ length m → map (λ x. true) l ≡ map (λ x. true) m
  marks-fit [] [] e = refl
  marks-fit [] (y ∷ m) e = absurd (omega arith)
  marks-fit (x ∷ l) [] e = absurd (omega arith)
  marks-fit (x ∷ l) (y ∷ m) e = ap (λ (k : List Bool). true ∷ k) (marks-fit l m (omega arith))

range-append : (a n m : ℕ) → range_with_len a (n + m) ≡ range_with_len a n ++ range_with_len (a + n) m
range-append a zero m = let e : 0 + m ≡ m = omega arith in let d : a + 0 ≡ a = omega arith in rw (e, d) refl
range-append a (suc n) m =
    let e : suc n + m ≡ suc (n + m) = omega arith in
    let d : a + 1 + n ≡ a + suc n = omega arith in
    rw e (ap (λ (l : List ℕ). a ∷ l) (rw d at (range-append (a + 1) n m)))

range-long : (a n : ℕ) → length (range_with_len a n) ≡ n
range-long a zero = refl
range-long a (suc n) = omega (arith, range-long (a + 1) n)

-- entries type no fact
no-facts : (list : List Entry) → Each (map fact_in (map frame_of list)) (λ x. x ≡ None)
no-facts [] x m = absurd (Memᴰ.not-nil m)
no-facts (e ∷ list) x m = ⊎_elim (λ h. h) (λ k. no-facts list x k) (Memᴰ.cases_cons m)

module _ (gs : List Frame) (begun : gs ≢ []) (list : List Entry) where
  collection-with : (q : Listed) → collection_read gs q ≡ collection_read (with_list gs begun list) q
  collection-with q = sym (ap (λ (f : File). collection f.counts (lent_tables f q)) (held-with gs begun list))

  choice-with : salvages (with_list gs begun list) ≡ salvages gs
  choice-with = ap (λ (f : File). f.salvages) (held-with gs begun list)

  pub decides-with : {q : Listed} {dropped : List ℕ} {over : List Frame} → Decides gs q dropped over
      → Decides (gs ++ map frame_of list) q dropped (over ++ map frame_of list)
  decides-with (plain p) = plain (choice-with ∙ p)
  decides-with {q} (sifted marks p h) =
      let tail = map frame_of list in
      let behind = map (λ (x : Option Fact). true) (map fact_in tail) in
      let all = marks ++ behind in
      let long : length marks ≡ length gs = marks_each (Clashing (collection_read gs q)) h ∙ length-map gs fact_in in
      let fit : behind ≡ map (λ (f : Frame). true) tail = marks-fit (map fact_in tail) tail (length-map tail fact_in) in
      let salvage : IsSalvage (collection_read (gs ++ tail) q) (map fact_in (gs ++ tail)) all =
      subst (λ (l : List (Option Fact)). IsSalvage (collection_read (gs ++ tail) q) l all) (sym (map-append fact_in gs tail))
      (subst (λ (c : Collection). IsSalvage c (map fact_in gs ++ map fact_in tail) all) (collection-with q)
      (others_after (collection_read gs q) (map fact_in tail) (map fact_in gs) marks (no-facts list) h)) in
      let kept : kept_frames (gs ++ tail) all ≡ kept_frames gs marks ++ tail =
      ap (λ (m : List Bool). marked true (gs ++ tail) (marks ++ m)) fit ∙ (marks-behind gs tail marks long).0 in
      let more = range_with_len (1 + length gs) (length tail) in
      let fit' : behind ≡ map (λ (n : ℕ). true) more = marks-fit (map fact_in tail) more (length-map tail fact_in ∙ sym (range-long (1 + length gs) (length tail))) in
      let lines-are : dropped_lines (gs ++ tail) all ≡ dropped_lines gs marks =
      ap (λ (n : ℕ). marked false (range_with_len 1 n) all) (length-append gs tail)
      ∙ ap (λ (l : List ℕ). marked false l all) (range-append 1 (length gs) (length tail))
      ∙ ap (λ (m : List Bool). marked false (range_with_len 1 (length gs) ++ more) (marks ++ m)) fit'
      ∙ (marks-behind (range_with_len 1 (length gs)) more marks (long ∙ sym (range-long 1 (length gs)))).1 in
      subst (λ (d : List ℕ). Decides (gs ++ tail) q d (kept_frames gs marks ++ tail)) lines-are
      (subst (λ (hs : List Frame). Decides (gs ++ tail) q (dropped_lines (gs ++ tail) all) hs) kept
      (sifted all (choice-with ∙ p) salvage))

-- THEOREM: so what is written of them is the same
module _ (gs : List Frame) (begun : gs ≢ []) (taken : Taken gs) (list : List Entry) (all-taken : Taken (gs ++ map frame_of list)) where
  pub reports-with : (text : List ℕ) → Reports frames_width (gs ++ map frame_of list) text ↔ Reports frames_width gs text
  reports-with text = (to, from)
    where
      from : Reports frames_width gs text → Reports frames_width (gs ++ map frame_of list) text
      from r =
          let some = begun-over r.decided begun taken in
          let replies = (replies-with r.over some list r.out).1 r.replies in
          let is = subst (λ (f : File). IsQuestion f r.replies.question) (sym (held-with r.over some list)) r.replies.is in
          subst (λ (l : List ℕ). Reports frames_width (gs ++ map frame_of list) l) (sym r.whole)
          (reports-of (decides-with gs begun list r.decided) is replies)

      to : Reports frames_width (gs ++ map frame_of list) text → Reports frames_width gs text
      to r =
          let q = r.replies.question in
          let asks-q = subst (λ (f : File). IsQuestion f q) (held-with gs begun list) ((question-over r.decided all-taken q).0 r.replies.is) in
          let d = decides-some gs taken q asks-q in
          let some = begun-over d.2 begun taken in
          let e = decides-once _ q r.dropped d.0 r.over _ r.decided (decides-with gs begun list d.2) in
          let replies = (replies-with d.1 some list r.out).0 (subst (λ (hs : List Frame). RepliesTo frames_width hs r.out) e.1 r.replies) in
          let is = subst (λ (f : File). IsQuestion f q) (held-with d.1 some list) (subst (λ (hs : List Frame). IsQuestionOf hs q) e.1 r.replies.is) in
          let text-is : dropped_text d.0 ++ r.out ≡ text = ap (λ (l : List ℕ). dropped_text l ++ r.out) (sym e.0) ∙ sym r.whole in
          subst (λ (l : List ℕ). Reports frames_width gs l) text-is (reports-of d.2 is replies)

-- ---- the frames of an input, line by line

-- what the first of some lines is found to be, where all are found to be sound
pub record NextIs (before : List Frame) (line : List ℕ) (ls : List (List ℕ)) (fs : List Frame) : Type 0 where
  pub frame : Frame
  pub found : Finds before line (Ok frame)
  pub rest : Reading (before ++ frame ∷ []) ls (sound fs)

pub next-is : {before : List Frame} {line : List ℕ} {ls : List (List ℕ)} {fs : List Frame} → Reading before (line ∷ ls) (sound fs)
    → NextIs before line ls fs
next-is (onward before line ls f v h r) = record { frame = f; found = h; rest = r }

-- where no line is left, the frames are those before
pub none-next : {before : List Frame} {fs : List Frame} → Reading before [] (sound fs) → fs ≡ before
none-next (whole f fs) = refl

pub frame-line : {before : List Frame} {line : List ℕ} {f : Frame} → Finds before line (Ok f) → FrameOf line (Ok f)
frame-line (taken f h j) = h

-- lines without a frame 10, and then others: the frames of the first, after which the others are read on
record Goes (before : List Frame) (ls ms : List (List ℕ)) (fs : List Frame) : Type 0 where
  frames : List Frame
  unlisted : list_in frames ≡ []
  goes_on : (ns : List (List ℕ)) (v : Verdict) → Reading frames ns v → Reading before (ls ++ ns) v
  rest : Reading frames ms (sound fs)

goes : (before : List Frame) (ls ms : List (List ℕ)) (fs : List Frame) → Reading before (ls ++ ms) (sound fs)
    → list_in before ≡ [] → ((line : List ℕ) → line ∈ ls → IsEntryLine line → ⊥) → Goes before ls ms fs
goes before [] ms fs r bare unlisted = record { frames = before; unlisted = bare; goes_on = λ ns v h. h; rest = r }
goes before (line ∷ ls) ms fs r bare unlisted =
    let w = next-is r in
    let f = w.frame in
    let still = list-same before f (no-entry f w.found) ∙ bare in
    let on = goes (before ++ f ∷ []) ls ms fs w.rest still (λ l m. unlisted l (Memᴰ.tail m)) in
    record {
      frames = on.frames;
      unlisted = on.unlisted;
      goes_on = λ ns v h. onward before line (ls ++ ns) f v w.found (on.goes_on ns v h);
      rest = on.rest;
    }
  where
    no-entry : (f : Frame) → Finds before line (Ok f) → entry_in f ≡ None
    no-entry f h = by (entry_in f) refl
      where
        by : (o : Option Entry) → entry_in f ≡ o → o ≡ None
        by None e = refl
        by (Some x) e = absurd (unlisted line (Memᴰ.head refl) (f, frame-line h, rw e refl))

-- a frame that is an entry is the entry's
entry-of : (f : Frame) → IsSome (entry_in f) → (e : Entry) × (f ≡ frame_of e)
entry-of (ListedMark n s t B) h = ((n, s, t, B), refl)
entry-of f h = absurd cc

line-entry : {before : List Frame} {line : List ℕ} {f : Frame} → Finds before line (Ok f) → IsEntryLine line
    → (e : Entry) × (f ≡ frame_of e)
line-entry {line = line} {f = f} h (g, k, some) =
    let e = frame-once line (Ok f) (Ok g) (frame-line h) k in
    let d : f ≡ g = cc in
    entry-of f (rw d some)

-- lines that are all frames 10 say a list
list-behind : (before : List Frame) (ms : List (List ℕ)) (fs : List Frame) → Reading before ms (sound fs)
    → ((line : List ℕ) → line ∈ ms → IsEntryLine line) → (list : List Entry) × (fs ≡ before ++ map frame_of list)
list-behind before [] fs r h = ([], none-next r ∙ sym (append-nil before))
list-behind before (line ∷ ms) fs r h =
    let w = next-is r in
    let e = line-entry w.found (h line (Memᴰ.head refl)) in
    let on = list-behind (before ++ w.frame ∷ []) ms fs w.rest (λ l m. h l (Memᴰ.tail m)) in
    (e.0 ∷ on.0, on.1 ∙ append_assoc before (w.frame ∷ []) (map frame_of on.0) ∙ ap (λ (f : Frame). before ++ f ∷ map frame_of on.0) e.1)

-- no list begins a file
list-later : (ms : List (List ℕ)) (fs : List Frame) → Reading [] ms (sound fs) → ((line : List ℕ) → line ∈ ms → IsEntryLine line) → ⊥
list-later [] fs r h = never r refl refl
  where
    never : {before : List Frame} {v : Verdict} → Reading before [] v → before ≡ [] → v ≡ sound fs → ⊥
    never empty e d = cc
    never (whole f gs) e d = cc
list-later (line ∷ ms) fs r h =
    let w = next-is r in
    let e = line-entry w.found (h line (Memᴰ.head refl)) in
    let p = passed [] w.frame (judged_ok w.found) in
    let q = subst (InPlace []) e.1 p.in_place in
    q refl

module _ (input other : List ℕ) (left : LeavesOutList input other) (fs : List Frame) (s : IsSound input fs) where
  whole-read : Goes [] (lines other) left.list fs
  whole-read =
      goes [] (lines other) left.list fs (subst (λ (ls : List (List ℕ)). Reading [] ls (sound fs)) left.lines_are (sound-read s))
      list-none left.none_left

  abbrev gs : List Frame
  gs = whole-read.frames

  some : gs ≢ []
  some e = list-later left.list fs (subst (λ (l : List Frame). Reading l left.list (sound fs)) e whole-read.rest) left.listed

  other-sound : IsSound other gs
  other-sound =
      let r = subst (λ (ls : List (List ℕ)). Reading [] ls (sound gs)) (append-nil (lines other))
      (whole-read.goes_on [] (sound gs) (ended gs some)) in
      accepted gs r (no-list whole-read.unlisted)
    where
      ended : (fs : List Frame) → fs ≢ [] → Reading fs [] (sound fs)
      ended [] n = absurd (n refl)
      ended (f ∷ fs) n = whole f fs

  -- THEOREM: an input with an accepted list writes what it writes without the list
  pub list-changes-nothing : (text : List ℕ) → Writes input text ↔ Writes other text
  list-changes-nothing text =
      let l = list-behind gs left.list fs whole-read.rest left.listed in
      let a = said-written (Reports frames_width) input fs s text in
      let b = said-written (Reports frames_width) other gs other-sound text in
      let taken = reading-taken (sound-read other-sound) none in
      let all-taken = subst Taken l.1 (reading-taken (sound-read s) none) in
      let same =
      subst (λ (hs : List Frame). Reports frames_width hs text ↔ Reports frames_width gs text) (sym l.1)
      (reports-with gs some taken l.0 all-taken text) in
      (λ w. b.1 (same.0 (a.0 w)), λ w. a.1 (same.1 (b.0 w)))

-- ---- a list that departs

-- it departs at one of its places, or at its end
departs-within : {A : Type 0} (list other : List A) (k : ℕ) → DepartsAt list other k → k ≤ length list
departs-within list other k d =
    elim (dec_lt (length list) k) [
      | no h ↦ omega arith
      | yes h ↦
          let same = ap (λ l. length l) d.same_before in
          let long = length-take k list in
          let long' = length-take k other in
          absurd (d.not_there (slice_get_past list k (omega arith) ∙ sym (slice_get_past other k (omega (arith, same, long, long')))))
    ]

-- THEOREM: the line of 15 is written, of the entry at which it departs
pub list-refused : ListRefused
list-refused input text w fs r k d =
    let n = before_list fs + k in
    let e = list-last fs (reading-taken r none) in
    let all =
    ap (λ (l : List Frame). length l) e.are ∙ length-append e.collection (map frame_of (list_in fs)) in
    let long : length (take n fs) ≡ n =
    omega (arith, length-take n fs, departs-within (list_in fs) d.listing k d.at, all, length-map (list_in fs) frame_of) in
    subst (λ (m : ℕ). IsFaultLine (m + 1) NotTheSheet text) long (fault-told w (take n fs) NotTheSheet (by-list fs k r d))

-- What is found of an input whose list was held against its sheet, and whose other lines were read on.
use Rattle.std.specs.Prelude.{ℕ, ◌⊎◌, ◌+◌, ◌≡◌, ◌≢◌, ◌≤◌, refl, true, false, List, [], ◌∷◌, ◌++◌, None, Some, Result, Ok, Err, map, length, take, drop, slice_get}
use Rattle.std.proofs.Common.{sym, ap, ◌∙◌, subst, inl, inr, ⊎_elim, arith, append_assoc, append-nil, length-append, length-take, take-append-drop}
use Rattle.std.proofs.lemmas.List.{take_all, take_at, map-append}
use Rattle.std.proofs.lemmas.Option.{slice_get_past}
use mathlib.Core.List.Memᴰ
use Rattle.laws.specs.Member.{◌∈◌}
use Rattle.streams.specs.Lines.{lines}
use Rattle.meaning.specs.Collection.{Collection}
use Rattle.meaning.specs.Model.{Contradiction}
use Rattle.expression.specs.Listed.{Listed}
use Rattle.frames.specs.declared.Frame.{Frame}
use Rattle.reading.specs.declared.Fault.{Fault}
use Rattle.reading.specs.declared.File.{File}
use Rattle.reading.specs.declared.Refusal.TheVariants.{NotTheSheet}
use Rattle.reading.specs.File.{file_of, IsQuestion}
use Rattle.reading.specs.Judged.{IsOpen}
use Rattle.reading.specs.Reading.{Verdict, faulty, sound, frames_of, Reading, Taken}
use Rattle.reading.specs.Reads.{ReadsAfter, ReadsFile, ReadsOn, ReadsToList, told_of}
use Rattle.reading.specs.Tables.{Entry, frame_of, list_in, listed, entries, most_listed, declared_by, salvages}
use Rattle.reading.proofs.Accepted.{reading-taken}
use Rattle.reading.proofs.ListEnds.{entries-held, list-begins}
use Rattle.reading.proofs.ListLaws.{list-append, list-counted, none-counted}
use Rattle.intake.specs.Entries.{entry_line}
use Rattle.intake.specs.Held.{collection_held, IsLookedAt, CutsList}
use Rattle.intake.specs.TakesIn.{TakesIn}
use Rattle.intake.specs.Verdicts.{collection_read, IsListing, no-list, contradiction, listing, Departs, before_list, by-line, by-list, accepted}
use Rattle.intake.proofs.EndingLaws.{IsEntry, entries-read, entries-taken, list-of_entries, BeginsSo, Ending, ending}

-- what is held of some frames with entries behind them
module _ (before : List Frame) (n : before ≢ []) (es : List Entry) (q : Listed) where
  held : File
  held = let old = file_of before in record old { lines = old.lines + length es; listed = old.listed + length es }

  -- the question and the collection are what they were
  same-question : IsQuestion (file_of before) q → IsQuestion (file_of (before ++ map frame_of es)) q
  same-question is = subst (λ (f : File). IsQuestion f q) (sym (entries-held before es n)) is

  same-salvages : salvages before ≡ salvages (before ++ map frame_of es)
  same-salvages = sym (ap (λ (f : File). f.salvages) (entries-held before es n))

  same-collection : collection_held (file_of before) q ≡ collection_read (before ++ map frame_of es) q
  same-collection = ap (λ (f : File). collection_held f q) (sym (entries-held before es n))

behind : (l m : List Entry) (k : ℕ) → length l ≡ k → slice_get (l ++ m) k ≡ slice_get m 0
behind [] m k e = ap (λ i. slice_get m i) (sym e)
behind (x ∷ l) m k e = ap (λ i. slice_get (x ∷ l ++ m) i) (sym e) ∙ behind l m (length l) refl

-- counts raised by so many entries
abbrev pub counted : ℕ → File → File
counted k old = record old { lines = old.lines + k; listed = old.listed + k }

-- so many entries of a listing behind a collection
module _ (frames : List Frame) (t : Taken frames) (o : IsOpen frames) (its : List Entry) (few : length its ≤ most_listed)
    (are : (e : Entry) → e ∈ its → IsEntry (declared_by frames) e) (k : ℕ) (small : k ≤ length its) where
  abbrev pub right : List Frame
  right = frames ++ map frame_of (take k its)

  right-long : length (take k its) ≡ k
  right-long = omega (arith, length-take k its)

  none-listed : entries listed frames ≡ 0
  none-listed = list-counted frames ∙ ap (λ (l : List Entry). length l) o.no_list

  each : (e : Entry) → e ∈ take k its → IsEntry (declared_by frames) e
  each e m = are e (rw take-append-drop at (Memᴰ.append_left (drop k its) m))

  -- they are taken, and held where they are counted
  pub right-taken : Taken right
  right-taken = entries-taken (declared_by frames) (take k its) frames t o.begun refl (omega (arith, right-long, none-listed)) each

  pub right-held : (file : File) → file ≡ file_of frames → counted k file ≡ file_of right
  right-held file e =
      ap (counted k) e
      ∙ ap (λ n. let old = file_of frames in record old { lines = old.lines + n; listed = old.listed + n }) (sym right-long)
      ∙ sym (entries-held frames (take k its) o.begun)

  -- and read, where their lines come first
  pub right-read : (ls : List (List ℕ)) (v : Verdict) → Reading right ls v → Reading frames (map entry_line (take k its) ++ ls) v
  right-read = entries-read (declared_by frames) (take k its) frames o.begun refl (omega (arith, right-long, none-listed)) each

  list-right : list_in right ≡ take k its
  list-right =
      list-append frames (map frame_of (take k its)) ∙ ap (λ (l : List Entry). l ++ list_in (map frame_of (take k its))) o.no_list
      ∙ list-of_entries (take k its)

-- what is read on after some frames is sound
pub record IsSoundAfter (before : List Frame) (ls : List (List ℕ)) (new : File) : Type 0 where
  pub frames : List Frame
  pub reading : Reading before ls (sound frames)
  pub kept : new ≡ file_of frames

pub sound-after : {before : List Frame} {ls : List (List ℕ)} {new : File} → ReadsAfter before ls (Ok tt) new → IsSoundAfter before ls new
sound-after {before} {ls} {new} a = by a.verdict a.reading a.told a.kept
  where
    by : (v : Verdict) → Reading before ls v → Ok tt ≡ told_of v → new ≡ file_of (frames_of v) → IsSoundAfter before ls new
    by (faulty b p) h e k = absurd cc
    by (sound fs) h e k = record { frames = fs; reading = h; kept = k }

-- a fault of a line that is read on is that of the whole
pub line-fault : {all : List (List ℕ)} {before : List Frame} {ls : List (List ℕ)} {fault : Fault} {new : File}
    → ((v : Verdict) → Reading before ls v → Reading [] all v) → ReadsAfter before ls (Err fault) new → TakesIn all (Err fault) new
line-fault {all} {before} {ls} {fault} {new} onward a = by a.verdict a.reading a.told a.kept
  where
    by : (v : Verdict) → Reading before ls v → Err fault ≡ told_of v → new ≡ file_of (frames_of v) → TakesIn all (Err fault) new
    by (faulty b p) h e k = record { verdict = faulty b p; is = by-line b p (onward (faulty b p) h); told = e; kept = k }
    by (sound fs) h e k = absurd cc

-- and without a list no more is looked at
pub no-list-found : {ls : List (List ℕ)} {new : File} → ReadsFile ls (Ok tt) new → new.listed ≡ 0 → TakesIn ls (Ok tt) new
no-list-found {ls} {new} a n =
    let s = sound-after a in
    let none = (none-counted s.frames).0 (rw s.kept at n) in
    record { verdict = sound s.frames; is = accepted s.frames s.reading (no-list none); told = refl; kept = s.kept }

module _ {input left : List ℕ} {file : File} (r : ReadsToList input left file) where
  -- in a contradiction the list is not looked at, where salvage is not chosen
  module _ (q : Listed) (is : IsQuestion file q) (plain : file.salvages ≡ false) (broken : Contradiction (collection_held file q)) where
    in-contradiction : (found : Result (Unit {0}) Fault) (new : File) → ReadsAfter r.frames (lines left) found new → TakesIn (lines input) found new
    in-contradiction (Err fault) new a = line-fault r.onward a
    in-contradiction (Ok u) new a =
        let s = sound-after a in
        let e = ending s.reading (inr (record { bytes = left; begins = r.begins; same = refl })) in
        let n = r.is_open.begun in
        let its : IsQuestion (file_of s.frames) q =
        subst (λ gs. IsQuestion (file_of gs) q) (sym e.are) (same-question r.frames n e.more q (rw r.kept at is)) in
        let so : Contradiction (collection_read s.frames q) =
        subst (λ gs. Contradiction (collection_read gs q)) (sym e.are)
        (subst Contradiction (same-collection r.frames n e.more q) (rw r.kept at broken)) in
        let none : salvages s.frames ≡ false =
        ap salvages e.are ∙ sym (same-salvages r.frames n e.more q) ∙ sym (ap (λ (f : File). f.salvages) r.kept) ∙ plain in
        record {
          verdict = sound s.frames;
          is = accepted s.frames (r.onward (sound s.frames) s.reading) (contradiction q its none so);
          told = refl;
          kept = s.kept;
        }

    pub unlooked : {found : Result (Unit {0}) Fault} {new : File} (after : List ℕ) → lines left ≡ lines after → ReadsOn file (lines after) found new
        → TakesIn (lines input) found new
    unlooked {found} {new} after e o = in-contradiction found new (subst (λ (ls : List (List ℕ)). ReadsAfter r.frames ls found new) (sym e) (o r.frames r.taken r.kept))

  -- else so many entries are those that the listing begins with
  module _ (q : Listed) (is : IsQuestion file q) (looked : IsLookedAt file q) (its : List Entry)
      (lists : IsListing (collection_held file q) its) (few : length its ≤ most_listed) (are : (e : Entry) → e ∈ its → IsEntry (declared_by r.frames) e)
      (k : ℕ) (small : k ≤ length its) (after : List ℕ) (took : lines left ≡ map entry_line (take k its) ++ lines after) where
    abbrev es : List Entry
    es = take k its

    abbrev pub right-frames : List Frame
    right-frames = right r.frames r.taken r.is_open its few are k small

    es-long : length es ≡ k
    es-long = right-long r.frames r.taken r.is_open its few are k small

    its-taken : Taken right-frames
    its-taken = right-taken r.frames r.taken r.is_open its few are k small

    go-on : (v : Verdict) → Reading right-frames (lines after) v → Reading r.frames (lines left) v
    go-on v h =
        subst (λ (ls : List (List ℕ)). Reading r.frames ls v) (sym took)
        (right-read r.frames r.taken r.is_open its few are k small (lines after) v h)

    onward : (v : Verdict) → Reading right-frames (lines after) v → Reading [] (lines input) v
    onward v h = r.onward v (go-on v h)

    its-list : list_in right-frames ≡ es
    its-list = list-right r.frames r.taken r.is_open its few are k small

    -- what is read on behind them
    read-behind : {found : Result (Unit {0}) Fault} {new : File} → ReadsOn (counted k file) (lines after) found new
        → ReadsAfter right-frames (lines after) found new
    read-behind o = o right-frames its-taken (right-held r.frames r.taken r.is_open its few are k small file r.kept)

    pub fault-behind : {fault : Fault} {new : File} → ReadsOn (counted k file) (lines after) (Err fault) new → TakesIn (lines input) (Err fault) new
    fault-behind o = line-fault onward (read-behind o)

    pub sound-behind : {new : File} → ReadsOn (counted k file) (lines after) (Ok tt) new → IsSoundAfter right-frames (lines after) new
    sound-behind o = sound-after (read-behind o)

    -- what a sound input has behind them
    module _ (fs : List Frame) (h : Reading right-frames (lines after) (sound fs)) where
      begun : (list_in right-frames ≢ []) ⊎ BeginsSo (lines after)
      begun = by es its-list took
        where
          by : (l : List Entry) → list_in right-frames ≡ l → lines left ≡ map entry_line l ++ lines after → (list_in right-frames ≢ []) ⊎ BeginsSo (lines after)
          by [] e d = inr (record { bytes = left; begins = r.begins; same = d })
          by (x ∷ l) e d = inl (λ none. let i = sym none ∙ e in cc)

      end : Ending right-frames fs (lines after)
      end = ending h begun

      all-entries : List Entry
      all-entries = es ++ end.more

      all-are : fs ≡ r.frames ++ map frame_of all-entries
      unfolding all-entries
      all-are =
          end.are ∙ append_assoc r.frames (map frame_of es) (map frame_of end.more)
          ∙ ap (λ (gs : List Frame). r.frames ++ gs) (sym (map-append frame_of es end.more))

      whole-list : list_in fs ≡ all-entries
      unfolding all-entries
      whole-list =
          ap list_in end.are ∙ list-append right-frames (map frame_of end.more)
          ∙ ap (λ (l : List Entry). l ++ list_in (map frame_of end.more)) its-list ∙ ap (λ (l : List Entry). es ++ l) (list-of_entries end.more)

      its-question : IsQuestion (file_of fs) q
      its-question =
          subst (λ gs. IsQuestion (file_of gs) q) (sym all-are) (same-question r.frames r.is_open.begun all-entries q (rw r.kept at is))

      its-collection : collection_held file q ≡ collection_read fs q
      its-collection =
          ap (λ (f : File). collection_held f q) r.kept ∙ same-collection r.frames r.is_open.begun all-entries q
          ∙ ap (λ gs. collection_read gs q) (sym all-are)

      its-salvages : file.salvages ≡ salvages fs
      its-salvages = ap (λ (f : File). f.salvages) r.kept ∙ same-salvages r.frames r.is_open.begun all-entries q ∙ ap salvages (sym all-are)

      its-look : (salvages fs ≡ true) ⊎ (Contradiction (collection_read fs q) → ⊥)
      its-look =
          ⊎_elim (λ e. inl (sym its-salvages ∙ e)) (λ sane. inr (λ c. sane (subst Contradiction (sym its-collection) c))) looked

      its-listing : IsListing (collection_read fs q) its
      its-listing = subst (λ (𝓒 : Collection). IsListing 𝓒 its) its-collection lists

      module _ (new : File) (kept : new ≡ file_of fs) where
        new-listed : new.listed ≡ k + length end.more
        unfolding all-entries
        new-listed =
            ap (λ (f : File). f.listed) kept ∙ list-counted fs
            ∙ (omega (arith, ap (λ (l : List Entry). length l) whole-list, length-append es end.more, es-long))

        no-more : new.listed ≡ k → end.more ≡ []
        no-more e = by end.more new-listed
          where
            by : (l : List Entry) → new.listed ≡ k + length l → l ≡ []
            by [] d = refl
            by (x ∷ l) d = absurd (omega arith)

        -- all of the listing, and nothing more
        pub all-right : k ≡ length its → new.listed ≡ k → TakesIn (lines input) (Ok tt) new
        unfolding all-entries
        all-right full e =
            let l : list_in fs ≡ its =
            whole-list ∙ ap (λ (l : List Entry). take k its ++ l) (no-more e) ∙ append-nil (take k its) ∙ take_all k its (omega arith) in
            record {
              verdict = sound fs;
              is = accepted fs (onward (sound fs) h) (listing q its-question (subst (IsListing (collection_read fs q)) (sym l) its-listing));
              told = refl;
              kept = kept;
            }

        -- or it departs
        not-there : (k ≡ length its) × (new.listed ≢ k) ⊎ ((e : Entry) × (slice_get its k ≡ Some e) × (slice_get (lines after) 0 ≢ Some (entry_line e)))
            → slice_get end.more 0 ≢ slice_get its k
        not-there (inl w) i = by end.more new-listed (i ∙ slice_get_past its k (omega (arith, w.0)))
          where
            by : (l : List Entry) → new.listed ≡ k + length l → slice_get l 0 ≡ None → ⊥
            by [] d j = w.1 (omega arith)
            by (x ∷ l) d j = cc
        not-there (inr w) i = w.2 (end.first w.0 (i ∙ w.1))

        abbrev pub Departing : Type 0
        Departing =
            (k ≡ length its) × (new.listed ≢ k) ⊎ ((e : Entry) × (slice_get its k ≡ Some e) × (slice_get (lines after) 0 ≢ Some (entry_line e)))

        departs : Departing → Departs fs k
        unfolding all-entries
        departs w = record {
          given = list-begins r.frames fs left r.begins (go-on (sound fs) h);
          question = q;
          is = its-question;
          sane = its-look;
          listing = its;
          lists = its-listing;
          at = record {
            same_before = ap (take k) whole-list ∙ take_at es end.more k es-long;
            not_there = λ i. not-there w (sym (behind es end.more k es-long) ∙ ap (λ (l : List Entry). slice_get l k) (sym whole-list) ∙ i);
          };
        }

        pub refused : {fault : Fault} {cut : File} → Departing → CutsList k new cut → fault ≡ record { line = cut.lines + 1; refusal = NotTheSheet }
            → TakesIn (lines input) (Err fault) cut
        refused {fault} {cut} w c told =
            let now = c.by fs (reading-taken h its-taken) kept in
            record {
              verdict = faulty (take (before_list fs + k) fs) NotTheSheet;
              is = by-list fs k (onward (sound fs) h) (departs w);
              told = ap Err (told ∙ ap (λ (f : File). record { line = f.lines + 1; refusal = NotTheSheet }) now);
              kept = now;
            }

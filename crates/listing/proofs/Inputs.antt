-- Laws of what the lister writes of an input.
use Rattle.std.specs.Prelude.{◌≡◌, ◌≢◌, refl, ◌↔◌, false, ◌+◌, ◌*◌, ◌≤◌, ℕ, List, [], ◌∷◌, ◌++◌, map, length}
use Rattle.std.proofs.Common.{sym, ap, ap₂, ◌∙◌, subst, length-append, arith}
use Rattle.std.proofs.lemmas.List.{map-append, length-map}
use Rattle.meaning.specs.Lent.{Tables}
use Rattle.sorted.specs.Same.{SameTables}
use Rattle.expression.specs.Listed.{Listed}
use Rattle.streams.specs.Lines.{lines}
use Rattle.frames.specs.Text.{text}
use Rattle.frames.specs.Written.{line_of, frame_bytes}
use Rattle.frames.specs.declared.Frame.{Frame}
use Rattle.reading.specs.declared.File.{File}
use Rattle.reading.specs.declared.Refusal.{Refusal}
use Rattle.reading.specs.Refusal.{refusal_number}
use Rattle.reading.specs.Tables.{Entry, frame_of, list_in, salvages}
use Rattle.reading.specs.File.{file_of, IsQuestionOf, tables_of, lent_tables}
use Rattle.reading.proofs.ListEnds.{list-last}
use Rattle.reading.proofs.Questions.{question-once}
use Rattle.intake.specs.Verdicts.{collection_read}
use Rattle.shell.specs.Writes.{IsSound, IsFaulty, fault, said}
use Rattle.shell.proofs.WritesLaws.{fault-written, said-written, writes-once}
use Rattle.file.specs.Writes.{frames_width, Reports, Writes}
use Rattle.file.proofs.Decided.{plain-reports}
use Rattle.file.proofs.LeftOut.{held-with, replies-with}
use Rattle.file.proofs.Sound.{sound-read, sound-accepted, its-listing}
use Rattle.file.proofs.Widths.{fault-few}
use Rattle.fair_copy.specs.Asking.{asks_of}
use Rattle.fair_copy.specs.Copy.{IsReadAs, IsCopyOf, frames_text, WritesCopy}
use Rattle.fair_copy.specs.Laws.{SameCollection}
use Rattle.fair_copy.proofs.Answering.{its-form, behind-same, behind-replies}
use Rattle.fair_copy.proofs.Asked.{behind, behind-plain, behind-whole, behind-unlisted}
use Rattle.fair_copy.proofs.Copied.{typed_by, copy-whole, copy-plain, copy-unlisted}
use Rattle.fair_copy.proofs.Fits.{are-whole}
use Rattle.fair_copy.proofs.Inputs.{input-once, input-fits}
use Rattle.fair_copy.proofs.Order.{copy-once}
use Rattle.fair_copy.proofs.Orderly.{lines-text}
use Rattle.fair_copy.proofs.Putting.{text-append}
use Rattle.fair_copy.proofs.Same.{same-then, copy-same, copy-again, same-copied}
use Rattle.fair_copy.proofs.Stands.{AreWhole}
use Rattle.listing.specs.Lists.{IsListOf, of-sheet, CopiesAndLists, WritesListing}
use Rattle.listing.specs.Laws.{most_listing, ReadsAsListed, EndsAlike, HasItsList, AnswersBetween}
use Rattle.listing.proofs.Alike.{list-same}
use Rattle.listing.proofs.Appended.{with-asks, with-read, with-whole, with-sound}
use Rattle.listing.proofs.Lines.{list-lines}
use Rattle.listing.proofs.There.{list-once, list-few}

-- frames that ask a question have one copy and one list, so one text
pub lists-once : (fs : List Frame) (text out : List ℕ) → CopiesAndLists fs text → CopiesAndLists fs out → text ≡ out
lists-once fs text out a b =
    let e = question-once (file_of fs) b.question a.question b.is a.is in
    let k = subst (λ (q : Listed). IsCopyOf fs q b.copy) e b.fair in
    let l = subst (λ (q : Listed). IsListOf (collection_read fs q) b.list) e b.listed in
    let c = copy-once fs a.question a.copy b.copy a.fair k in
    let m = list-once (collection_read fs a.question) a.listed l in
    a.written ∙ ap (λ (d : List Frame). frames_text (d ++ map frame_of a.list)) c
    ∙ ap (λ (x : List Entry). frames_text (b.copy ++ map frame_of x)) m ∙ sym b.written

-- THEOREM: an input writes one text
pub input-listed-once : (input text out : List ℕ) → WritesListing input text → WritesListing input out → text ≡ out
input-listed-once = writes-once CopiesAndLists (λ fs t. lists-once fs)

-- a list does not choose salvage
with-plain : (gs : List Frame) → gs ≢ [] → (list : List Entry) → salvages gs ≡ false → salvages (gs ++ map frame_of list) ≡ false
with-plain gs begun list none = ap (λ (f : File). f.salvages) (held-with gs begun list) ∙ none

-- with a list behind it a file is the same collection
module _ (gs : List Frame) (q : Listed) (w : AreWhole gs q) (list : List Entry) where
  appended-same : SameCollection gs q (gs ++ map frame_of list) q
  appended-same =
      let held = held-with gs w.are.begun list in
      record {
        declared = sym (ap (λ (f : File). f.counts) held);
        allowance = sym (ap (λ (f : File). f.allowance) held);
        records = subst (λ (t : Tables). SameTables (tables_of gs q) t) (sym (ap (λ (f : File). lent_tables f q) held)) itself;
      }
    where
      itself : SameTables (tables_of gs q) (tables_of gs q)
      itself = record {
        concept-rules = λ r. (λ m. m, λ m. m);
        concept-exclusions = λ r. (λ m. m, λ m. m);
        role-rules = λ r. (λ m. m, λ m. m);
        role-exclusions = λ r. (λ m. m, λ m. m);
        concept-facts = λ r. (λ m. m, λ m. m);
        role-facts = λ r. (λ m. m, λ m. m);
        steps = λ r. (λ m. m, λ m. m);
        finals = λ r. (λ m. m, λ m. m);
      }

-- what is written of a sound input is the text of its copy and of its list
module _ (input out : List ℕ) (wrote : WritesListing input out) (fs : List Frame) (q : Listed) (h : IsReadAs input fs q) where
  the_whole : AreWhole fs q
  the_whole = are-whole input fs q h.sound h.question

  record ItsList : Type 0 where
    copy : List Frame
    fair : IsCopyOf fs q copy
    list : List Entry
    listed : IsListOf (collection_read fs q) list
    written : out ≡ frames_text (copy ++ map frame_of list)

  its_list : ItsList
  its_list =
      let c = (said-written CopiesAndLists input fs h.sound out).0 wrote in
      let e = question-once (file_of fs) c.question q c.is h.question in
      record {
        copy = c.copy;
        fair = subst (λ (r : Listed). IsCopyOf fs r c.copy) e c.fair;
        list = c.list;
        listed = subst (λ (r : Listed). IsListOf (collection_read fs r) c.list) e c.listed;
        written = c.written;
      }

  abbrev copy : List Frame
  copy = its_list.copy

  abbrev list : List Entry
  list = its_list.list

  abbrev typed : Listed
  typed = typed_by copy

  copied-whole : AreWhole copy typed
  copied-whole = copy-whole fs q the_whole copy its_list.fair

  copied-listed : IsListOf (collection_read copy typed) list
  copied-listed = list-same fs q the_whole copy typed copied-whole (copy-same fs q the_whole copy its_list.fair) its_list.listed

  unlisted : list_in copy ≡ []
  unlisted = copy-unlisted fs q the_whole copy its_list.fair

  abbrev both : List Frame
  both = copy ++ map frame_of list

  both-whole : AreWhole both typed
  both-whole = with-whole copy typed copied-whole unlisted list copied-listed

  both-sound : IsSound out both
  both-sound =
      subst (λ (x : List ℕ). IsSound x both) (sym its_list.written)
      (with-sound copy typed copied-whole unlisted list copied-listed)

  both-asks : IsQuestionOf both typed
  both-asks = with-asks copy typed copied-whole unlisted list copied-listed

  both-same : SameCollection fs q both typed
  both-same =
      same-then fs q copy typed both typed (copy-same fs q the_whole copy its_list.fair) (appended-same copy typed copied-whole list)

  -- THEOREM: it is sound, and the same collection,
  pub reads-as-listed : ReadsAsListed fs q out
  reads-as-listed = record {
    copy = copy;
    fair = its_list.fair;
    list = list;
    is = its_list.listed;
    sound = both-sound;
    plain = with-plain copy copied-whole.are.begun list (copy-plain fs q the_whole copy its_list.fair);
    question = typed;
    asks = both-asks;
    same = both-same;
  }

  both-fair : IsCopyOf both typed copy
  both-fair =
      same-copied copy typed copied-whole both typed both-whole (appended-same copy typed copied-whole list) copy
      (copy-again fs q the_whole copy its_list.fair)

  -- THEOREM: it is written again as it is,
  pub listed-again : WritesListing out out
  listed-again =
      said both out both-sound
      (record {
        question = typed;
        is = both-asks;
        copy = copy;
        fair = both-fair;
        list = list;
        listed = rw (with-read copy typed copied-whole unlisted list copied-listed) copied-listed;
        written = its_list.written;
      })

  copy-written : WritesCopy input (frames_text copy)
  copy-written =
      said fs (frames_text copy) h.sound (record { question = q; is = h.question; copy = copy; fair = its_list.fair; written = refl })

  copy-rewritten : WritesCopy out (frames_text copy)
  copy-rewritten =
      said both (frames_text copy) both-sound
      (record { question = typed; is = both-asks; copy = copy; fair = both-fair; written = refl })

  -- THEOREM: and has the copy of the input
  pub listed-copied : (c : List ℕ) → WritesCopy out c ↔ WritesCopy input c
  listed-copied c = (
    λ w. subst (WritesCopy input) (input-once out (frames_text copy) c copy-rewritten w) copy-written,
    λ w. subst (WritesCopy out) (input-once input (frames_text copy) c copy-written w) copy-rewritten,
  )

  -- THEOREM: an accepted list is what stands behind the copy
  pub list-kept-as-is : HasItsList input fs q out
  list-kept-as-is given sane =
      ends
      (list-once (collection_read fs q) (of-sheet sane (its-listing fs q h.question (sound-accepted h.sound) given sane)) its_list.listed)
    where
      ends : list_in fs ≡ list → EndsAlike input fs out
      ends same =
          let x = list-last fs the_whole.are.taken in
          let l = list-lines [] x.collection (lines input) (list_in fs) (sound-read h.sound) x.are in
          record {
            before = l.before;
            list = map line_of (map frame_of (list_in fs));
            copy = frames_text copy;
            typed = l.are;
            long = length-map (map frame_of (list_in fs)) line_of ∙ length-map (list_in fs) frame_of;
            copied = copy-written;
            written =
                ap lines its_list.written ∙ lines-text both ∙ map-append line_of copy (map frame_of list)
                ∙ ap₂ (λ (x y : List (List ℕ)). x ++ y) (sym (lines-text copy))
                (ap (λ (x : List Entry). map line_of (map frame_of x)) (sym same));
          }

  -- THEOREM: with the asks of the file between copy and list, the desk writes of it what it writes of the file
  pub answers-between : salvages fs ≡ false → AnswersBetween input fs out
  answers-between free = record {
    copy = frames_text copy;
    list = frames_text (map frame_of list);
    parts = its_list.written ∙ text-append copy (map frame_of list);
    copied = copy-written;
    answered = between;
  }
    where
      between : (answers : List ℕ) → Writes (frames_text copy ++ frames_text (asks_of fs) ++ frames_text (map frame_of list)) answers
          ↔ Writes input answers
      between answers =
          let gs = behind fs q the_whole copy its_list.fair in
          let r = typed_by gs in
          let v = behind-whole fs q the_whole copy its_list.fair in
          let none = behind-unlisted fs q the_whole copy its_list.fair in
          let l = list-same fs q the_whole gs r v (behind-same fs q the_whole copy its_list.fair) its_list.listed in
          let e : frames_text (gs ++ map frame_of list) ≡ frames_text copy ++ frames_text (asks_of fs) ++ frames_text (map frame_of list) =
          text-append gs (map frame_of list)
          ∙ ap (λ (x : List ℕ). x ++ frames_text (map frame_of list)) (text-append copy (asks_of fs)) in
          let s = subst (λ (x : List ℕ). IsSound x (gs ++ map frame_of list)) e (with-sound gs r v none list l) in
          let plain = with-plain gs v.are.begun list (behind-plain fs q the_whole copy its_list.fair) in
          let a = said-written (Reports frames_width) _ (gs ++ map frame_of list) s answers in
          let a' = plain-reports {width = frames_width} {fs = gs ++ map frame_of list} {text = answers} plain in
          let b = replies-with gs v.are.begun list answers in
          let c = behind-replies fs q the_whole copy its_list.fair answers in
          let d' = plain-reports {width = frames_width} {fs = fs} {text = answers} free in
          let d = said-written (Reports frames_width) input fs h.sound answers in
          (λ w. d.1 (d'.1 (c.0 (b.0 (a'.0 (a.0 w))))), λ w. a.1 (a'.1 (b.1 (c.1 (d'.0 (d.0 w))))))

-- the question of a sound input of which something is written
module _ (input out : List ℕ) (wrote : WritesListing input out) (fs : List Frame) (h : IsSound input fs) where
  its-question : (q : Listed) × IsQuestionOf fs q
  its-question = let c = (said-written CopiesAndLists input fs h out).0 wrote in (c.question, c.is)

  asking : IsReadAs input fs its-question.0
  asking = record { sound = h; question = its-question.1 }

  pub its-text-again : WritesListing out out
  its-text-again = listed-again input out wrote fs its-question.0 asking

  pub its-copy : (copy : List ℕ) → WritesCopy out copy ↔ WritesCopy input copy
  its-copy = listed-copied input out wrote fs its-question.0 asking

  pub its-answers : salvages fs ≡ false → AnswersBetween input fs out
  its-answers = answers-between input out wrote fs its-question.0 asking

-- THEOREM: of a faulty input the lister writes what the desk writes
pub faulty-alike : (input : List ℕ) (before : List Frame) (r : Refusal) → IsFaulty input before r → (text : List ℕ)
    → WritesListing input text ↔ Writes input text
faulty-alike input before r h text =
    let a = fault-written CopiesAndLists input before r h text in
    let b = fault-written (Reports frames_width) input before r h text in
    (λ x. b.1 (a.0 x), λ x. a.1 (b.0 x))

-- the line of an entry has 17 characters, with its end
entry-long : (e : Entry) → length (text (frame_bytes (frame_of e))) ≡ 17
unfolding text frame_bytes
entry-long e = refl

list-long : (list : List Entry) → length (frames_text (map frame_of list)) ≡ 17 * length list
unfolding frames_text
list-long [] = refl
list-long (e ∷ list) =
    omega (arith, length-append (text (frame_bytes (frame_of e))) (frames_text (map frame_of list)), entry-long e, list-long list)

-- THEOREM: no text is longer than the longest
pub input-listed-fits : {input out : List ℕ} → WritesListing input out → length out ≤ most_listing
input-listed-fits (fault before r h) = omega (arith, fault-few (length before + 1) (refusal_number r))
input-listed-fits {input} (said fs out h c) =
    let q = c.question in
    let w = are-whole input fs q h c.is in
    let copy : WritesCopy input (frames_text c.copy) =
    said fs (frames_text c.copy) h (record { question = q; is = c.is; copy = c.copy; fair = c.fair; written = refl }) in
    omega (
      arith,
      ap (λ (l : List ℕ). length l) c.written,
      ap (λ (l : List ℕ). length l) (text-append c.copy (map frame_of c.list)),
      length-append (frames_text c.copy) (frames_text (map frame_of c.list)),
      input-fits copy,
      list-long c.list,
      list-few (collection_read fs q) (its-form w) c.listed,
    )

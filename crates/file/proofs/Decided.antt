-- What a file decides of its facts, and what is known of the frames over which it is answered.
use Rattle.std.specs.Prelude.{ℕ, ◌+◌, ◌/◌, ◌^◌, ◌<◌, ◌≤◌, ◌≡◌, ◌≢◌, ◌⊎◌, ◌↔◌, refl, Bool, true, false, Option, None, Some, length, slice_get, slice_index}
use Rattle.std.proofs.Common.{sym, ap, ◌∙◌, subst, inl, inr, ⊎_elim, length-append, arith}
use Rattle.std.proofs.lemmas.List.{length-map}
use Rattle.std.proofs.Math.Decide.{dec_lt}
use mathlib.Core.List.Memᴰ
use mathlib.Core.List.{List, [], ◌∷◌, ◌++◌, map}
use Rattle.laws.specs.Member.{◌∈◌}
use Rattle.meaning.specs.Lent.{Sound}
use Rattle.meaning.specs.Model.{Contradiction}
use Rattle.salvage.specs.Facts.{Fact, IsSalvage}
use Rattle.salvage.specs.Salvages.{marked}
use Rattle.salvage.proofs.SalvagedLaws.{others_kept}
use Rattle.tables.specs.Asks.{ask_width}
use Rattle.expression.specs.Listed.{Listed}
use Rattle.frames.specs.declared.Frame.{Frame}
use Rattle.frames.specs.declared.Frame.TheVariants.{ConceptFact, RoleFact}
use Rattle.reading.specs.Tables.{concept_facts, role_facts, asks, entries, Entry, frame_of, list_in, declared_by, allowance_given, salvages}
use Rattle.reading.specs.File.{file_of, IsQuestionOf, asked}
use Rattle.reading.specs.Laws.{EndsInList}
use Rattle.reading.specs.Reading.{Taken}
use Rattle.reading.specs.Reading as read
use Rattle.reading.specs.Salvage.{fact_in, dropped_lines, DropsFacts, Decides, plain, sifted}
use Rattle.reading.specs.SalvageLaws.{SameButFacts}
use Rattle.reading.proofs.Accepted.{accepted, reading-taken}
use Rattle.reading.proofs.Bounds.{few, taken-within, beside_list}
use Rattle.reading.proofs.KeptFrames.{Begins, Leaves, ended, keeps, drops_concept, drops_role, leaves, begins, allowance-left, dropped-fact, dropped-rest}
use Rattle.reading.proofs.ListEnds.{list-last}
use Rattle.reading.proofs.ListLaws.{list-counted}
use Rattle.reading.proofs.Questions.{question-once}
use Rattle.reading.proofs.SalvageLaws.{decides-once, decides-says, decides-taken, sifts-facts}
use Rattle.reading.proofs.TableLaws.{entries-cons}
use Rattle.intake.specs.Verdicts.{collection_read, IsListing}
use Rattle.intake.proofs.ListingLaws.{listing-of-kept}
use Rattle.intake.proofs.VerdictLaws.{verdict-once}
use Rattle.file.specs.Text.{dropped_text}
use Rattle.file.specs.Writes.{IsAsking, RepliesTo, Reports}
use Rattle.file.specs.Salvage.{SameAsking}
use Rattle.file.proofs.Asks.{ask_entries}
use Rattle.file.proofs.Places.{DroppedAt, ItemAt, out-dropped, item-at, item-past, dropped-many, at-place}
use Rattle.file.proofs.Sound.{sound-read, sound-accepted, looked-listing}

-- the line of a number is dropped, and types this fact
pub record FactAt (fs : List Frame) (marks : List Bool) (line : ℕ) : Type 0 where
  pub place : ℕ
  pub is : line ≡ place + 1
  pub frame : Frame
  pub here : slice_get fs place ≡ Some frame
  pub fact : Fact
  pub typed : fact_in frame ≡ Some fact
  pub mark : slice_get marks place ≡ Some false

-- all but the facts is as it is typed
module _ {fs : List Frame} {q : Listed} {dropped : List ℕ} {gs : List Frame} (d : Decides fs q dropped gs) (t : Taken fs) where
  says : SameButFacts fs gs
  says = decides-says fs t q dropped gs d

  pub declared-over : declared_by gs ≡ declared_by fs
  declared-over = says.declared

  pub entries-over : entries asks gs ≡ entries asks fs
  entries-over = sym (ask_entries gs) ∙ ap (λ (l : List ℕ). length l / ask_width) says.asks ∙ ask_entries fs

  pub list-over : list_in gs ≡ list_in fs
  list-over = says.list

  pub question-over : (r : Listed) → IsQuestionOf gs r ↔ IsQuestionOf fs r
  question-over r = let e = says.question r in (e.1, e.0)

  pub taken-over : Taken gs
  taken-over = decides-taken fs t q dropped gs d

-- the frames that are answered leave nothing but facts
leaves-over : {fs : List Frame} {q : Listed} {dropped : List ℕ} {gs : List Frame} → Decides fs q dropped gs → (gs ≡ fs) ⊎ Leaves fs gs
leaves-over (plain p) = inl refl
leaves-over {fs} {q} (sifted marks p h) = inr (leaves fs marks (sifts-facts fs q marks h))

pub allowance-over : {fs : List Frame} {q : Listed} {dropped : List ℕ} {gs : List Frame} → Decides fs q dropped gs
    → allowance_given gs ≡ allowance_given fs
allowance-over d = ⊎_elim (λ e. ap allowance_given e) (λ l. allowance-left l) (leaves-over d)

pub begun-over : {fs : List Frame} {q : Listed} {dropped : List ℕ} {gs : List Frame} → Decides fs q dropped gs → fs ≢ [] → Taken fs → gs ≢ []
begun-over {fs} d some t = ⊎_elim (λ e g. some (sym e ∙ g)) (λ l. by (begins fs t) l some) (leaves-over d)
  where
    by : {hs gs : List Frame} → Begins hs → Leaves hs gs → hs ≢ [] → gs ≢ []
    by b ended n e = n e
    by b (keeps f s) n e = cc
    by b (drops_concept A a n s) m e = absurd b
    by b (drops_role r a c n s) m e = absurd b

-- the number of a line that is dropped, and the fact on it
module _ (fs : List Frame) (q : Listed) (marks : List Bool) (h : IsSalvage (collection_read fs q) (map fact_in fs) marks) where
  pub fact-dropped : (n : ℕ) → n ∈ dropped_lines fs marks → FactAt fs marks n
  fact-dropped n m =
      let d = out-dropped (length fs) 1 marks n m in
      let w = item-at fact_in fs d.place d.inside in
      by d w (fact_in w.item) refl
    where
      by : (d : DroppedAt (length fs) 1 marks n) (w : ItemAt fact_in fs d.place) (o : Option Fact) → fact_in w.item ≡ o → FactAt fs marks n
      by d w (Some x) e = record { place = d.place; is = omega (arith, d.is); frame = w.item; here = w.here; fact = x; typed = e; mark = d.mark }
      by d w None e =
          let k = others_kept (collection_read fs q) (map fact_in fs) marks h d.place (w.made ∙ ap Some e) in
          let c : Some true ≡ Some false = sym k ∙ d.mark in
          absurd cc

-- few facts are dropped, on lines whose numbers go into two bytes
facts-few : (fs : List Frame) (marks : List Bool) → DropsFacts fs marks
    → length (marked false fs marks) ≤ entries concept_facts fs + entries role_facts fs
unfolding entries
facts-few [] marks d = omega arith
facts-few (f ∷ fs) [] d = omega arith
facts-few (f ∷ fs) (true ∷ marks) d =
    omega (arith, facts-few fs marks d, entries-cons concept_facts f fs, entries-cons role_facts f fs)
facts-few (ConceptFact A a n ∷ fs) (false ∷ marks) d =
    omega (
      arith,
      facts-few fs marks (dropped-rest (ConceptFact A a n) fs marks d),
      entries-cons concept_facts (ConceptFact A a n) fs,
      entries-cons role_facts (ConceptFact A a n) fs,
    )
facts-few (RoleFact r a b n ∷ fs) (false ∷ marks) d =
    omega (
      arith,
      facts-few fs marks (dropped-rest (RoleFact r a b n) fs marks d),
      entries-cons concept_facts (RoleFact r a b n) fs,
      entries-cons role_facts (RoleFact r a b n) fs,
    )
facts-few (f ∷ fs) (false ∷ marks) d = let h = dropped-fact f fs marks d in absurd cc

no-fact : (list : List Entry) (f : Frame) → f ∈ map frame_of list → fact_in f ≡ None
no-fact [] f m = absurd (Memᴰ.not-nil m)
no-fact (e ∷ list) f m = ⊎_elim (λ h. ap fact_in h) (λ k. no-fact list f k) (Memᴰ.cases_cons m)

pub few-dropped : {fs : List Frame} {q : Listed} {dropped : List ℕ} {gs : List Frame} → Decides fs q dropped gs → Taken fs
    → length dropped ≤ 5120
few-dropped (plain p) t = omega arith
few-dropped {fs} {q} (sifted marks p h) t =
    omega (
      arith,
      dropped-many fs 1 marks,
      facts-few fs marks (sifts-facts fs q marks h),
      few concept_facts fs t,
      few role_facts fs t,
    )

pub small-dropped : {fs : List Frame} {q : Listed} {dropped : List ℕ} {gs : List Frame} → Decides fs q dropped gs → Taken fs
    → (k : ℕ) → k < length dropped → slice_index dropped k < 2 ^ 16
small-dropped (plain p) t k h = absurd (omega arith)
small-dropped {fs} {q} (sifted marks p s) t k h =
    by (dec_lt f.place (length w.collection))
  where
    f : FactAt fs marks (slice_index (dropped_lines fs marks) k)
    f = fact-dropped fs q marks s (slice_index (dropped_lines fs marks) k) (at-place (dropped_lines fs marks) k h)

    w : EndsInList fs
    w = list-last fs t

    before : length w.collection ≤ 7715
    before =
        omega (
          arith,
          beside_list fs (taken-within fs t),
          list-counted fs,
          ap (λ (l : List Frame). length l) w.are,
          length-append w.collection (map frame_of (list_in fs)),
          length-map (list_in fs) frame_of,
        )

    by : Dec (f.place < length w.collection) → slice_index (dropped_lines fs marks) k < 2 ^ 16
    by (yes i) = omega (arith, f.is, before)
    by (no i) =
        let here : slice_get (w.collection ++ map frame_of (list_in fs)) f.place ≡ Some f.frame = ap (λ (l : List Frame). slice_get l f.place) (sym w.are) ∙ f.here in
        let e = no-fact (list_in fs) f.frame (item-past w.collection (map frame_of (list_in fs)) f.place f.frame (omega arith) here) in
        let c : None ≡ Some f.fact = sym e ∙ f.typed in
        absurd cc

-- where they make no contradiction, the list of those that are read is looked at
looked-at : {fs : List Frame} {q : Listed} {dropped : List ℕ} {gs : List Frame} → Decides fs q dropped gs
    → (Contradiction (collection_read gs q) → ⊥) → (salvages fs ≡ true) ⊎ (Contradiction (collection_read fs q) → ⊥)
looked-at (plain p) sane = inr sane
looked-at (sifted marks p h) sane = inl p

-- without the choice of salvage all is answered
pub plain-over : {fs : List Frame} {q : Listed} {dropped : List ℕ} {gs : List Frame} → Decides fs q dropped gs → salvages fs ≡ false
    → (dropped ≡ []) × (gs ≡ fs)
plain-over (plain p) free = (refl, refl)
plain-over (sifted marks p h) free = let e : true ≡ false = sym p ∙ free in absurd cc

-- what is written of the frames that are answered, behind the dropped facts
pub reports-of : {width : List Frame → ℕ} {fs : List Frame} {q : Listed} {dropped : List ℕ} {gs : List Frame} {out : List ℕ}
    → Decides fs q dropped gs → IsQuestionOf gs q → RepliesTo width gs out → Reports width fs (dropped_text dropped ++ out)
reports-of {fs = fs} {q = q} {dropped = dropped} {gs = gs} {out = out} d is r =
    let e = question-once (file_of gs) q r.question is r.is in
    record {
      over = gs;
      out = out;
      replies = r;
      dropped = dropped;
      decided = subst (λ (p : Listed). Decides fs p dropped gs) e d;
      whole = refl;
    }

module _ {width : List Frame → ℕ} {fs : List Frame} {text : List ℕ} (free : salvages fs ≡ false) where
  pub plain-reports : Reports width fs text ↔ RepliesTo width fs text
  unfolding dropped_text
  plain-reports = (
    λ r.
        let e = plain-over r.decided free in
        let same : r.out ≡ text = ap (λ (d : List ℕ). dropped_text d ++ r.out) (sym e.0) ∙ sym r.whole in
        subst (λ (out : List ℕ). RepliesTo width fs out) same (subst (λ (gs : List Frame). RepliesTo width gs r.out) e.1 r.replies),
    λ r. reports-of (plain free) r.is r,
  )

module _ {input : List ℕ} where
  pub read-taken : {fs : List Frame} {q : Listed} (s : IsAsking input fs q) → Taken s.read
  read-taken s = reading-taken (sound-read s.sound) read.none

  -- the same file, question, dropped facts and frames
  pub asking-once : {fs gs : List Frame} {q r : Listed} (s : IsAsking input fs q) (t : IsAsking input gs r) → SameAsking s t
  asking-once {fs} {gs} {q} {r} s t =
      let e = verdict-once _ (read.sound s.read) (read.sound t.read) s.sound t.sound in
      let same : s.read ≡ t.read = cc in
      let asks-s = (question-over s.decided (read-taken s) q).0 s.question in
      let asks-t = subst (λ (hs : List Frame). IsQuestionOf hs r) (sym same) ((question-over t.decided (read-taken t) r).0 t.question) in
      let question : q ≡ r = question-once (file_of s.read) q r asks-s asks-t in
      let other = subst (λ (hs : List Frame). Decides hs q t.dropped gs) (sym same)
      (subst (λ (p : Listed). Decides t.read p t.dropped gs) (sym question) t.decided) in
      let both = decides-once s.read q s.dropped t.dropped fs gs s.decided other in
      record { read = same; dropped = both.0; over = both.1; question = question }

  module _ {fs : List Frame} {q : Listed} (s : IsAsking input fs q) where
    pub asking-taken : Taken fs
    asking-taken = taken-over s.decided (read-taken s)

    -- none of the library's tests refuses the call of an ask
    pub asking-sound : (k : ℕ) → k < entries asks fs → Sound (asked fs q k)
    asking-sound k h = accepted fs asking-taken q s.question k h

    pub dropped-small : (k : ℕ) → k < length s.dropped → slice_index s.dropped k < 2 ^ 16
    dropped-small = small-dropped s.decided (read-taken s)

    -- an accepted list, where there is one and no contradiction, is that of the sheet
    pub asking-listing : list_in fs ≢ [] → (Contradiction (collection_read fs q) → ⊥) → IsListing (collection_read fs q) (list_in fs)
    asking-listing given sane =
        let t = read-taken s in
        let e = list-over s.decided t in
        let is = (question-over s.decided t q).0 s.question in
        let its = looked-listing s.read q is (sound-accepted s.sound) (λ n. given (e ∙ n)) (looked-at s.decided sane) in
        subst (IsListing (collection_read fs q)) (sym e)
        ((listing-of-kept s.read t fs q s.dropped s.decided (list_in s.read)).1 its)

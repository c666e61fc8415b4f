-- Of the facts that salvage drops and keeps, and of what is written of them.
use Rattle.std.specs.Prelude.{ℕ, zero, suc, ◌+◌, ◌<◌, ◌≡◌, ◌≢◌, ◌↔◌, refl, Bool, true, false, Option, None, Some, IsSome, IsSomeAnd, length, slice_get}
use Rattle.std.specs.List.{range_with_len}
use Rattle.std.proofs.Common.{sym, ap, ap₂, ◌∙◌, subst, inl, ⊎_elim, append-nil, arith}
use Rattle.std.proofs.lemmas.List.{map-append}
use mathlib.Core.List.Memᴰ
use mathlib.Core.List.{List, [], ◌∷◌, ◌++◌, map}
use Rattle.laws.specs.Member.{◌∈◌, map-out}
use Rattle.kinds.specs.declared.Answer.{Answer}
use Rattle.kinds.specs.declared.ConceptName.{ConceptName}
use Rattle.kinds.specs.declared.DeedNumber.{DeedNumber}
use Rattle.kinds.specs.declared.Individual.{Individual}
use Rattle.kinds.specs.declared.RoleName.{RoleName}
use Rattle.kinds.specs.Answer.{answer_number}
use Rattle.meaning.specs.Collection.{Each}
use Rattle.meaning.specs.Lent.{Call, collection_of}
use Rattle.meaning.specs.Outcome.{Outcome, bad-count, bad-table, bad-number, bad-ask, contradiction, spent, says-yes, says-no}
use Rattle.meaning.specs.Model.{Contradiction}
use Rattle.salvage.specs.Facts.{Fact, facts_among, EntryDeclared, with_facts, IsSalvage, entries_of}
use Rattle.salvage.specs.Salvages.{◌◂◌, marked}
use Rattle.salvage.specs.Laws.{Salvaging}
use Rattle.salvage.proofs.EntryLaws.{among_more, collection_declared}
use Rattle.salvage.proofs.SalvagedLaws.{put_back, kept, marked_alike}
use Rattle.expression.specs.Listed.{Listed}
use Rattle.frames.specs.declared.Frame.{Frame}
use Rattle.frames.specs.declared.Frame.TheVariants.{ConceptFact, RoleFact}
use Rattle.reading.specs.File.{IsQuestionOf, asked}
use Rattle.reading.specs.Reading.{Taken, none, sound}
use Rattle.reading.specs.Salvage.{fact_in, kept_frames, dropped_lines, Decides, plain, sifted}
use Rattle.reading.specs.Tables.{Kind, concept_rules, concept_exclusions, role_rules, role_exclusions, concept_facts, role_facts, asks, entries, table, Entry, list_in, declared_by, salvages, typed_lines}
use Rattle.reading.proofs.Accepted.{reading-taken}
use Rattle.reading.proofs.Kept.{declared-later}
use Rattle.reading.proofs.KeptFrames.{NoFacts, Begins, Leaves, leaves, begins, declared-left, table-left}
use Rattle.reading.proofs.SalvageLaws.{decides-some, decides-sane, facts-read, read-formed, entries-are, sifts-facts}
use Rattle.reading.proofs.TableLaws.{table-append}
use Rattle.intake.specs.Verdicts.{collection_read}
use Rattle.intake.proofs.VerdictLaws.{verdict-once}
use Rattle.file.specs.Rounds.{round_lines}
use Rattle.file.specs.Text.{dropped_text}
use Rattle.file.specs.Told.{line_at, number_on}
use Rattle.file.specs.Writes.{Answered, frames_width}
use Rattle.file.specs.Salvage.{AskingOnce, AskingSome, DroppedAreTold, AreFactLines, DroppedAreFacts, DroppedToldAlone, PlainDropsNone, PlainAnswersAll, NeverContradiction}
use Rattle.file.specs.Salvage.{KeptAreSane, DroppedClash, SaneLosesNothing, SameFactTyped, RepeatsAlike}
use Rattle.file.proofs.Decided.{asking-once, read-taken, question-over, begun-over, plain-over, fact-dropped}
use Rattle.file.proofs.Places.{in-dropped, out-dropped, rising, place-in}
use Rattle.file.proofs.Rounds.{none-told}
use Rattle.file.proofs.Sound.{sound-read}
use Rattle.file.proofs.Told.{over, question, asking, same-asks, answered, dropped-many, dropped-told, line-answers, number-of}

-- THEOREM: one asking, and there is one
pub asks-once : AskingOnce
asks-once input fs gs q r s t = asking-once s t

pub asks-some : AskingSome
asks-some input fs q s is =
    let t = reading-taken (sound-read s) none in
    let d = decides-some fs t q is in
    (d.1, record { read = fs; sound = s; dropped = d.0; decided = d.2; question = (question-over d.2 t q).1 is })

-- THEOREM: each dropped fact is told, in a line of its own, before all else
pub dropped-are-told : DroppedAreTold
dropped-are-told input text w fs q s = record { many = dropped-many w fs q s; each = dropped-told w fs q s }

-- THEOREM: their numbers rise, and are those of lines that type a fact
fact-lines : {fs : List Frame} {q : Listed} {dropped : List ℕ} {gs : List Frame} → Decides fs q dropped gs → AreFactLines fs dropped
fact-lines (plain p) = record { fact = λ n m. absurd (Memᴰ.not-nil m); rising = λ j k i h. absurd (omega arith) }
fact-lines {fs} {q} (sifted marks p h) = record {
  fact = λ n m.
      let f = fact-dropped fs q marks h n m in
      (f.place, f.is, subst (λ (o : Option Frame). IsSomeAnd o (λ x. IsSome (fact_in x))) (sym f.here) (subst (λ (o : Option Fact). IsSome o) (sym f.typed) refl));
  rising = λ j k i l. rising (length fs) 1 marks j k i l;
}

pub dropped-are-facts : DroppedAreFacts
dropped-are-facts input fs q s = fact-lines s.decided

-- THEOREM: where nothing is asked nothing else is told
nothing : (width : ℕ) (call : ℕ → Call) (n : ℕ) (out : List ℕ) → n ≡ 0 → Answered width call n out → out ≡ []
unfolding Answered
nothing width call n out z a = rw z at a

pub dropped-told-alone : DroppedToldAlone
unfolding round_lines
dropped-told-alone input text w fs q s e =
    let a = answered w fs q s in
    let counts = none-told a.told (inl e) in
    let out : a.out ≡ [] = nothing (frames_width fs) (asked fs q) (entries asks fs) a.out e a.lines-are in
    a.whole ∙ ap (λ (l : List ℕ). dropped_text s.dropped ++ (round_lines (frames_width fs) 0 l ++ a.out)) counts
    ∙ ap (λ (l : List ℕ). dropped_text s.dropped ++ l) out ∙ append-nil (dropped_text s.dropped)

-- THEOREM: without the choice of salvage nothing is dropped
pub plain-drops-none : PlainDropsNone
plain-drops-none input text w fs s free =
    let a = asking w fs s in
    let e = plain-over a.decided free in
    dropped-many w (over w fs s) (question w fs s) a ∙ ap (λ (l : List ℕ). length l) e.0

pub plain-answers-all : PlainAnswersAll
plain-answers-all input fs gs q s free a =
    let v = verdict-once _ (sound a.read) (sound fs) a.sound s in
    let e : a.read ≡ fs = cc in
    (plain-over a.decided (ap salvages e ∙ free)).1 ∙ e

-- THEOREM: with it no answer has number 2
two-breaks : {c : Call} {r : Answer} {x y : List ℕ} → Outcome c r x y → answer_number r ≡ 2 → Contradiction (collection_of c)
two-breaks (bad-count h) e = absurd (omega (arith, e))
two-breaks (bad-table k h) e = absurd (omega (arith, e))
two-breaks (bad-number k t h) e = absurd (omega (arith, e))
two-breaks (bad-ask k t n h) e = absurd (omega (arith, e))
two-breaks (contradiction w h) e = h
two-breaks (spent w sane need h lays) e = absurd (omega (arith, e))
two-breaks (says-yes w sane need h lays reached) e = absurd (omega (arith, e))
two-breaks (says-no w sane need h lays missed) e = absurd (omega (arith, e))

pub never-contradiction : NeverContradiction
never-contradiction input text w fs s chosen k h =
    let gs = over w fs s in
    let q = question w fs s in
    let its = asking w fs s in
    let same = same-asks w fs s in
    let a = line-answers w gs q its k (omega (arith, same)) in
    let n = number-of a in
    let told = subst (λ (n : ℕ). number_on (line_at n text k) ≡ answer_number a.answer) same n in
    λ e. decides-sane fs (read-taken its) q its.dropped gs chosen its.decided (two-breaks a.outcome.2 (sym told ∙ e))

-- THEOREM: the kept facts make no contradiction
pub kept-are-sane : KeptAreSane
kept-are-sane input fs q s chosen = decides-sane s.read (read-taken s) q s.dropped fs chosen s.decided

-- ---- the entries of a file that chooses salvage

chosen-begun : {fs : List Frame} → salvages fs ≡ true → fs ≢ []
chosen-begun c e = let d : false ≡ true = ap salvages (sym e) ∙ c in cc

read-declared : (fs : List Frame) → Taken fs → fs ≢ [] → (q : Listed) → IsQuestionOf fs q → Each (map fact_in fs) (EntryDeclared (declared_by fs))
read-declared fs t some q is x m =
    ⊎_elim (λ i. collection_declared (collection_read fs q) (read-formed fs t some q is) (typed_lines fs) x i)
    (λ i. let e = (map-out (λ (entry : Entry). None) (list_in fs) i).2 in rw e tt)
    (Memᴰ.append_cases (entries_of (collection_read fs q) (typed_lines fs)) (rw (entries-are fs t q) at m))

salvaging : (fs : List Frame) → Taken fs → (q : Listed) → IsQuestionOf fs q → salvages fs ≡ true → (marks : List Bool)
    → IsSalvage (collection_read fs q) (map fact_in fs) marks → Salvaging (collection_read fs q) (map fact_in fs) marks
salvaging fs t q is c marks h =
    let some = chosen-begun c in
    record { formed = read-formed fs t some q is; declared = read-declared fs t some q is; salvage = h }

-- ---- a dropped fact put back

marked-at : {F : Type 0} (l : List F) (marks : List Bool) (m : ℕ) (x : F) → slice_get l m ≡ Some x → slice_get marks m ≡ Some false
    → x ∈ marked false l marks
marked-at [] marks m x e d = absurd cc
marked-at (y ∷ l) [] m x e d = absurd cc
marked-at (y ∷ l) (true ∷ marks) zero x e d = absurd cc
marked-at (y ∷ l) (false ∷ marks) zero x e d = let s : y ≡ x = cc in Memᴰ.head (sym s)
marked-at (y ∷ l) (true ∷ marks) (suc m) x e d = marked-at l marks m x e d
marked-at (y ∷ l) (false ∷ marks) (suc m) x e d = Memᴰ.tail (marked-at l marks m x e d)

-- frames with the same rules
record SameRules (fs gs : List Frame) : Type 0 where
  declared : declared_by gs ≡ declared_by fs
  concept-rules : table concept_rules gs ≡ table concept_rules fs
  concept-exclusions : table concept_exclusions gs ≡ table concept_exclusions fs
  role-rules : table role_rules gs ≡ table role_rules fs
  role-exclusions : table role_exclusions gs ≡ table role_exclusions fs

with-same : {fs gs : List Frame} → SameRules fs gs → (q : Listed) (l : List Fact)
    → with_facts (collection_read gs q) l ≡ with_facts (collection_read fs q) l
with-same s q l = rw (s.declared, s.concept-rules, s.concept-exclusions, s.role-rules, s.role-exclusions) refl

left-rules : {fs gs : List Frame} → Begins fs → Leaves fs gs → SameRules fs gs
left-rules b l = record {
  declared = declared-left b l;
  concept-rules = table-left concept_rules tt l;
  concept-exclusions = table-left concept_exclusions tt l;
  role-rules = table-left role_rules tt l;
  role-exclusions = table-left role_exclusions tt l;
}

no-concept : (kind : Kind) → NoFacts kind → (A : ConceptName) (a : Individual) (d : DeedNumber) → table kind (ConceptFact A a d ∷ []) ≡ []
unfolding table
no-concept concept_facts n A a d = absurd n
no-concept kind n A a d = refl

no-role : (kind : Kind) → NoFacts kind → (r : RoleName) (a b : Individual) (d : DeedNumber) → table kind (RoleFact r a b d ∷ []) ≡ []
unfolding table
no-role role_facts n r a b d = absurd n
no-role kind n r a b d = refl

no-rule : (kind : Kind) → NoFacts kind → (f : Frame) (x : Fact) → fact_in f ≡ Some x → table kind (f ∷ []) ≡ []
no-rule kind n (ConceptFact A a d) x e = no-concept kind n A a d
no-rule kind n (RoleFact r a b d) x e = no-role kind n r a b d
no-rule kind n f x e = absurd cc

more-rules : (fs : List Frame) (f : Frame) (x : Fact) → fs ≢ [] → fact_in f ≡ Some x → SameRules fs (fs ++ f ∷ [])
more-rules fs f x some e = record {
  declared = declared-later fs f some;
  concept-rules = one concept_rules tt;
  concept-exclusions = one concept_exclusions tt;
  role-rules = one role_rules tt;
  role-exclusions = one role_exclusions tt;
}
  where
    one : (kind : Kind) → NoFacts kind → table kind (fs ++ f ∷ []) ≡ table kind fs
    one kind n = table-append kind fs (f ∷ []) ∙ ap (λ (l : List ℕ). table kind fs ++ l) (no-rule kind n f x e) ∙ append-nil (table kind fs)

-- the facts of frames that are kept, and of one more
kept-facts : (fs : List Frame) (marks : List Bool) → map fact_in (kept_frames fs marks) ≡ marked true (map fact_in fs) marks
kept-facts [] marks = refl
kept-facts (f ∷ fs) [] = refl
kept-facts (f ∷ fs) (true ∷ marks) = ap (λ (l : List (Option Fact)). fact_in f ∷ l) (kept-facts fs marks)
kept-facts (f ∷ fs) (false ∷ marks) = kept-facts fs marks

module _ (fs : List Frame) (t : Taken fs) (q : Listed) (is : IsQuestionOf fs q) (c : salvages fs ≡ true) (marks : List Bool)
    (h : IsSalvage (collection_read fs q) (map fact_in fs) marks) where
  abbrev gs : List Frame
  gs = kept_frames fs marks

  decided : Decides fs q (dropped_lines fs marks) gs
  decided = sifted marks c h

  put-back : (f : Frame) (x : Fact) → fact_in f ≡ Some x → Some x ∈ marked false (map fact_in fs) marks
      → Contradiction (collection_read (gs ++ f ∷ []) q)
  put-back f x e i =
      let some = begun-over decided (chosen-begun c) t in
      let back = put_back (salvaging fs t q is c marks h) x i in
      let typed : map fact_in (gs ++ f ∷ []) ≡ marked true (map fact_in fs) marks ◂ Some x =
      map-append fact_in gs (f ∷ []) ∙ ap₂ (λ (l : List (Option Fact)) (o : Option Fact). l ◂ o) (kept-facts fs marks) e in
      let facts : facts_among (map fact_in (gs ++ f ∷ [])) ≡ facts_among (marked true (map fact_in fs) marks) ◂ x =
      ap (λ (l : List (Option Fact)). facts_among l) typed ∙ among_more (marked true (map fact_in fs) marks) x in
      let same : with_facts (collection_read (gs ++ f ∷ []) q) (facts_among (map fact_in (gs ++ f ∷ [])))
      ≡ with_facts (collection_read fs q) (facts_among (marked true (map fact_in fs) marks) ◂ x) =
      with-same (more-rules gs f x some e) q (facts_among (map fact_in (gs ++ f ∷ [])))
      ∙ with-same (left-rules (begins fs t) (leaves fs marks (sifts-facts fs q marks h))) q (facts_among (map fact_in (gs ++ f ∷ [])))
      ∙ ap (λ (l : List Fact). with_facts (collection_read fs q) l) facts in
      subst Contradiction (sym same ∙ facts-read (gs ++ f ∷ []) q) back

-- THEOREM: any dropped fact, put back among the kept ones, brings a contradiction
dropped-clashes : {fs : List Frame} {q : Listed} {dropped : List ℕ} {gs : List Frame} → Decides fs q dropped gs → Taken fs → IsQuestionOf fs q
    → (n : ℕ) → n + 1 ∈ dropped → IsSomeAnd (slice_get fs n) (λ f. Contradiction (collection_read (gs ++ f ∷ []) q))
dropped-clashes (plain p) t is n m = absurd (Memᴰ.not-nil m)
dropped-clashes {fs} {q} (sifted marks c h) t is n m =
    let f = fact-dropped fs q marks h (n + 1) m in
    let i : f.place ≡ n = omega (arith, f.is) in
    let w = place-in fact_in fs f.place f.frame f.here in
    let x = marked-at (map fact_in fs) marks f.place (Some f.fact) (w ∙ ap (λ (o : Option Fact). Some o) f.typed) f.mark in
    let b = put-back fs t q is c marks h f.frame f.fact f.typed x in
    let here : slice_get fs n ≡ Some f.frame = ap (slice_get fs) (sym i) ∙ f.here in
    subst (λ (o : Option Frame). IsSomeAnd o (λ g. Contradiction (collection_read (kept_frames fs marks ++ g ∷ []) q))) (sym here) b

pub dropped-clash : DroppedClash
dropped-clash input fs q s n m =
    dropped-clashes s.decided (read-taken s) ((question-over s.decided (read-taken s) q).0 s.question) n m

-- THEOREM: facts that make no contradiction lose nothing
none-false : {F : Type 0} (l : List F) (marks : List Bool) → Each marks (λ b. b ≡ true) → marked false l marks ≡ []
none-false [] marks e = refl
none-false (x ∷ l) [] e = refl
none-false (x ∷ l) (true ∷ marks) e = none-false l marks (λ b m. e b (Memᴰ.tail m))
none-false (x ∷ l) (false ∷ marks) e = let d : false ≡ true = e false (Memᴰ.head refl) in absurd cc

sane-loses : {fs : List Frame} {q : Listed} {dropped : List ℕ} {gs : List Frame} → Decides fs q dropped gs → Taken fs → IsQuestionOf fs q
    → ¬ Contradiction (collection_read fs q) → dropped ≡ []
sane-loses (plain p) t is sane = refl
sane-loses {fs} {q} (sifted marks c h) t is sane =
    none-false (range_with_len 1 (length fs)) marks
    (kept (salvaging fs t q is c marks h) (λ x. sane (subst Contradiction (facts-read fs q) x)))

pub sane-loses-nothing : SaneLosesNothing
sane-loses-nothing input fs q s sane =
    sane-loses s.decided (read-taken s) ((question-over s.decided (read-taken s) q).0 s.question) sane

-- THEOREM: what is typed again is kept where it was kept
typed-at : (fs : List Frame) (m : ℕ) (x : Fact) → IsSomeAnd (slice_get fs m) (λ f. fact_in f ≡ Some x)
    → (m < length fs) × (slice_get (map fact_in fs) m ≡ Some (Some x))
typed-at [] m x h = absurd h
typed-at (f ∷ fs) zero x h = (omega arith, ap (λ (o : Option Fact). Some o) h)
typed-at (f ∷ fs) (suc m) x h = let w = typed-at fs m x h in (omega (arith, w.0), w.1)

alike-dropped : (fs : List Frame) (marks : List Bool) (m n : ℕ) → slice_get marks m ≡ slice_get marks n → n < length fs
    → m + 1 ∈ dropped_lines fs marks → n + 1 ∈ dropped_lines fs marks
alike-dropped fs marks m n e h i =
    let d = out-dropped (length fs) 1 marks (m + 1) i in
    let p : d.place ≡ m = omega (arith, d.is) in
    let k : slice_get marks n ≡ Some false = sym e ∙ ap (slice_get marks) (sym p) ∙ d.mark in
    let s : 1 + n ≡ n + 1 = omega arith in
    subst (λ (x : ℕ). x ∈ dropped_lines fs marks) s (in-dropped (length fs) 1 marks n h k)

repeats : {fs : List Frame} {q : Listed} {dropped : List ℕ} {gs : List Frame} → Decides fs q dropped gs → Taken fs → IsQuestionOf fs q
    → (m n : ℕ) → SameFactTyped fs m n → (m + 1 ∈ dropped) ↔ (n + 1 ∈ dropped)
repeats (plain p) t is m n s = (λ i. absurd (Memᴰ.not-nil i), λ i. absurd (Memᴰ.not-nil i))
repeats {fs} {q} (sifted marks c h) t is m n s =
    let a = typed-at fs m s.fact s.first in
    let b = typed-at fs n s.fact s.second in
    let e = marked_alike (salvaging fs t q is c marks h) m n (a.1 ∙ sym b.1) in
    (alike-dropped fs marks m n e b.0, alike-dropped fs marks n m (sym e) a.0)

pub repeats-alike : RepeatsAlike
repeats-alike input fs q s m n same =
    repeats s.decided (read-taken s) ((question-over s.decided (read-taken s) q).0 s.question) m n same

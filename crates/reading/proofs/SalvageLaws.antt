-- THEOREMS: what frames that choose salvage decide.
use Rattle.std.specs.Prelude.{ℕ, ◌≡◌, ◌≢◌, ◌⊎◌, Bool, true, false, List, [], ◌∷◌, ◌++◌, Option, None, Some, IsSome, map, length}
use Rattle.std.specs.List.{range_with_len}
use Rattle.std.proofs.Common.{refl, sym, ap, ◌∙◌, inl, inr}
use Rattle.std.proofs.lemmas.List.Elements.{All-nil, All-cons}
use mathlib.Core.List.Memᴰ
use Rattle.laws.specs.Member.{◌∈◌, map-out}
use Rattle.meaning.specs.Collection.{Collection, WellFormed, Each}
use Rattle.meaning.specs.Lent.{concept_fact_width, role_fact_width, records, concept_fact, role_fact}
use Rattle.meaning.specs.Model.{Contradiction}
use Rattle.salvage.specs.Salvages.{◌◂◌, marked, Salvages, done, keeps, drops}
use Rattle.salvage.specs.Facts.{Fact, of, between, concept_facts_in, role_facts_in, facts_among, EntryDeclared, with_facts, Clashing, IsSalvage, salvaged, NamesAll, entries_of}
use Rattle.salvage.proofs.EntryLaws.{among_none, collection_declared}
use Rattle.salvage.proofs.FactLaws.{nothing_clashes}
use Rattle.salvage.proofs.SalvageLaws.{salvages_once}
use Rattle.salvage.proofs.SalvagedLaws.{there, sane, others_after}
use Rattle.expression.specs.Listed.{Listed}
use Rattle.frames.specs.declared.Frame.{Frame}
use Rattle.reading.specs.Deeds.{same, concept, role, ended, next}
use Rattle.reading.specs.File.{IsQuestionOf}
use Rattle.reading.specs.Reading.{Taken}
use Rattle.reading.specs.Salvage.{fact_in, kept_frames, dropped_lines, DropsFacts, Decides, plain, sifted}
use Rattle.reading.specs.SalvageLaws.{typed_collection, SameButFacts}
use Rattle.reading.specs.Tables.{concept_rules, concept_exclusions, role_rules, role_exclusions, concept_facts, role_facts, asks, table, list_in, declared_by, salvages, typed_lines}
use Rattle.reading.proofs.Accepted.{numbers-ok}
use Rattle.reading.proofs.DeedLaws.{Alike, table-same, declared-same, choice-same, alike-length}
use Rattle.reading.proofs.FactsRead.{facts_of, concepts-read, roles-read, concepts-named, roles-named, entries-read}
use Rattle.reading.proofs.KeptFrames.{IsFact, Leaves, leaves, leaves-all, table-left, list-left, choice-left, begins, declared-left, rounds-left, question-left, taken-left}
use Rattle.reading.proofs.RetainedLaws.{ended as ended-list}
use Rattle.reading.proofs.Turns.{fitting}

-- where frames are taken, the numbers are declared
pub read-formed : (fs : List Frame) → Taken fs → fs ≢ [] → (q : Listed) → IsQuestionOf fs q → WellFormed (typed_collection fs q)
read-formed fs t some q is = record { counts = fitting fs t some; numbers = (numbers-ok t q is 0).declared }

-- the facts of the collection are those of the frames
pub facts-read : (fs : List Frame) (q : Listed) → with_facts (typed_collection fs q) (facts_of fs) ≡ typed_collection fs q
facts-read fs q = rw (concepts-read fs, roles-read fs) refl

pub names-all : (fs : List Frame) (q : Listed)
    → NamesAll (typed_lines fs) (typed_collection fs q).concept-facts (typed_collection fs q).role-facts
names-all fs q = record {
  concept-facts = concepts-named fs ∙ ap length (concepts-read fs);
  role-facts = roles-named fs ∙ ap length (roles-read fs);
}

abbrev listed_entries : List Frame → List (Option Fact)
listed_entries fs = map (λ entry. None) (list_in fs)

pub entries-are : (fs : List Frame) → Taken fs → (q : Listed)
    → map fact_in fs ≡ entries_of (typed_collection fs q) (typed_lines fs) ++ listed_entries fs
entries-are fs t q = sym (rw (concepts-read fs, roles-read fs) at (entries-read fs (ended-list fs t)))

-- each of them is declared
none-among : (l : List (Option Fact)) (x : Option Fact) → ((y : Option Fact) → y ∈ l → y ≡ None) → x ∈ l → x ≡ None
none-among l x h m = h x m

listed-none : (fs : List Frame) → Each (listed_entries fs) (λ x. x ≡ None)
listed-none fs x m = (map-out (λ entry. None) (list_in fs) m).2

declared : (fs : List Frame) → Taken fs → fs ≢ [] → (q : Listed) → IsQuestionOf fs q
    → Each (map fact_in fs) (EntryDeclared (declared_by fs))
declared fs t some q is x m =
    by (Memᴰ.append_cases (entries_of (typed_collection fs q) (typed_lines fs)) (rw (entries-are fs t q) at m))
  where
    by : (x ∈ entries_of (typed_collection fs q) (typed_lines fs)) ⊎ (x ∈ listed_entries fs) → EntryDeclared (declared_by fs) x
    by (inl i) = collection_declared (typed_collection fs q) (read-formed fs t some q is) (typed_lines fs) x i
    by (inr i) = rw (listed-none fs x i) tt

-- THEOREM: nothing but facts is dropped
drops-facts : (𝓒 : Collection) (fs : List Frame) {kept : List (Option Fact)} {marks : List Bool} → ¬ Clashing 𝓒 kept
    → Salvages (Clashing 𝓒) kept (map fact_in fs) marks → DropsFacts fs marks
drops-facts 𝓒 [] n done = All-nil IsFact
drops-facts 𝓒 (f ∷ fs) n (keeps k s) = drops-facts 𝓒 fs k s
drops-facts 𝓒 (f ∷ fs) {kept = kept} n (drops {marks = marks} c s) =
    All-cons IsFact f (marked false fs marks) (by (fact_in f) c) (drops-facts 𝓒 fs n s)
  where
    by : (o : Option Fact) → Clashing 𝓒 (kept ◂ o) → IsSome o
    by (Some x) c = refl
    by None c = absurd (n (rw (among_none kept) at c))

pub sifts-facts : (fs : List Frame) (q : Listed) (marks : List Bool) → IsSalvage (typed_collection fs q) (map fact_in fs) marks
    → DropsFacts fs marks
sifts-facts fs q marks s = drops-facts (typed_collection fs q) fs (nothing_clashes (typed_collection fs q)) s

-- marks of true at the end say what none say
abbrev trues : {X : Type 0} → List X → List Bool
trues l = map (λ x. true) l

module _ {F X : Type 0} where
  kept-trues : (fs : List F) (l : List X) → marked true fs (trues l) ≡ fs
  kept-trues [] l = refl
  kept-trues (f ∷ fs) [] = refl
  kept-trues (f ∷ fs) (x ∷ l) = ap (λ (k : List F). f ∷ k) (kept-trues fs l)

  dropped-trues : (fs : List F) (l : List X) → marked false fs (trues l) ≡ []
  dropped-trues [] l = refl
  dropped-trues (f ∷ fs) [] = refl
  dropped-trues (f ∷ fs) (x ∷ l) = dropped-trues fs l

  pub kept-front : (fs : List F) (marks : List Bool) (l : List X) → marked true fs (marks ++ trues l) ≡ marked true fs marks
  kept-front [] marks l = refl
  kept-front (f ∷ fs) [] l = kept-trues (f ∷ fs) l
  kept-front (f ∷ fs) (true ∷ marks) l = ap (λ (k : List F). f ∷ k) (kept-front fs marks l)
  kept-front (f ∷ fs) (false ∷ marks) l = kept-front fs marks l

  pub dropped-front : (fs : List F) (marks : List Bool) (l : List X) → marked false fs (marks ++ trues l) ≡ marked false fs marks
  dropped-front [] marks l = refl
  dropped-front (f ∷ fs) [] l = dropped-trues (f ∷ fs) l
  dropped-front (f ∷ fs) (true ∷ marks) l = dropped-front fs marks l
  dropped-front (f ∷ fs) (false ∷ marks) l = ap (λ (k : List F). f ∷ k) (dropped-front fs marks l)

-- THEOREM: the salvage of the entries before the list decides
module _ (fs : List Frame) (t : Taken fs) (q : Listed) (marks : List Bool)
    (s : IsSalvage (typed_collection fs q) (entries_of (typed_collection fs q) (typed_lines fs)) marks) where
  whole : IsSalvage (typed_collection fs q) (map fact_in fs) (marks ++ trues (listed_entries fs))
  whole =
      rw (entries-are fs t q)
      (others_after (typed_collection fs q) (listed_entries fs) (entries_of (typed_collection fs q) (typed_lines fs)) marks
      (listed-none fs) s)

  pub salvage-decides : salvages fs ≡ true → Decides fs q (dropped_lines fs marks) (kept_frames fs marks)
  salvage-decides c =
      let all = marks ++ trues (listed_entries fs) in
      let d : Decides fs q (dropped_lines fs all) (kept_frames fs all) = sifted all c whole in
      rw (kept-front fs marks (listed_entries fs), dropped-front (range_with_len 1 (length fs)) marks (listed_entries fs)) at d

  pub salvage-drops_facts : DropsFacts fs marks
  salvage-drops_facts = rw (dropped-front fs marks (listed_entries fs)) at (sifts-facts fs q (marks ++ trues (listed_entries fs)) whole)

-- THEOREM: frames that are taken decide something, and no frames decide two things
pub decides-some : (fs : List Frame) → Taken fs → (q : Listed) → IsQuestionOf fs q
    → (dropped : List ℕ) × (gs : List Frame) × Decides fs q dropped gs
decides-some fs t q is = by (salvages fs) refl
  where
    not-none : (fs : List Frame) → salvages fs ≡ true → fs ≢ []
    not-none [] c e = absurd cc
    not-none (f ∷ fs) c e = cc

    by : (b : Bool) → salvages fs ≡ b → (dropped : List ℕ) × (gs : List Frame) × Decides fs q dropped gs
    by false c = ([], fs, plain c)
    by true c =
        let some = not-none fs c in
        let s = there (typed_collection fs q) (read-formed fs t some q is) (map fact_in fs) (declared fs t some q is) in
        (dropped_lines fs s.0, kept_frames fs s.0, sifted s.0 c s.1)

pub decides-once : (fs : List Frame) (q : Listed) (dropped others : List ℕ) (gs hs : List Frame)
    → Decides fs q dropped gs → Decides fs q others hs → (dropped ≡ others) × (gs ≡ hs)
decides-once fs q _ _ _ _ (plain c) (plain d) = (refl, refl)
decides-once fs q _ _ _ _ (plain c) (sifted m d s) = absurd cc
decides-once fs q _ _ _ _ (sifted m c s) (plain d) = absurd cc
decides-once fs q _ _ _ _ (sifted m c s) (sifted n d u) =
    let e = salvages_once (Clashing (typed_collection fs q)) s u in (ap (dropped_lines fs) e, ap (kept_frames fs) e)

-- THEOREM: deed numbers decide nothing
facts-same : {fs gs : List Frame} → Alike fs gs → map fact_in fs ≡ map fact_in gs
facts-same ended = refl
facts-same (next (same f) s) = ap (λ (l : List (Option Fact)). fact_in f ∷ l) (facts-same s)
facts-same (next (concept A a n m) s) = ap (λ (l : List (Option Fact)). Some (of A a) ∷ l) (facts-same s)
facts-same (next (role r a b n m) s) = ap (λ (l : List (Option Fact)). Some (between r a b) ∷ l) (facts-same s)

module _ {fs gs : List Frame} (s : Alike fs gs) (q : Listed) where
  concepts-same : records concept_fact_width concept_fact (table concept_facts fs)
      ≡ records concept_fact_width concept_fact (table concept_facts gs)
  concepts-same = sym (concepts-read fs) ∙ ap (λ l. concept_facts_in (facts_among l)) (facts-same s) ∙ concepts-read gs

  roles-same : records role_fact_width role_fact (table role_facts fs)
      ≡ records role_fact_width role_fact (table role_facts gs)
  roles-same = sym (roles-read fs) ∙ ap (λ l. role_facts_in (facts_among l)) (facts-same s) ∙ roles-read gs

  pub collection-same : typed_collection fs q ≡ typed_collection gs q
  collection-same =
      rw (
        declared-same s,
        table-same concept_rules tt s,
        table-same concept_exclusions tt s,
        table-same role_rules tt s,
        table-same role_exclusions tt s,
        concepts-same,
        roles-same,
      ) refl

kept-alike : {fs gs : List Frame} → Alike fs gs → (marks : List Bool) → Alike (kept_frames fs marks) (kept_frames gs marks)
kept-alike ended marks = ended
kept-alike (next d s) [] = next d s
kept-alike (next d s) (true ∷ marks) = next d (kept-alike s marks)
kept-alike (next d s) (false ∷ marks) = kept-alike s marks

pub decides-without_deeds : (fs gs : List Frame) → Alike fs gs → (q : Listed) (dropped : List ℕ) (hs : List Frame) → Decides fs q dropped hs
    → (is : List Frame) × Alike hs is × Decides gs q dropped is
decides-without_deeds fs gs s q _ _ (plain c) = (gs, s, plain (sym (choice-same s) ∙ c))
decides-without_deeds fs gs s q _ _ (sifted marks c u) =
    let lines = ap (λ n. marked false (range_with_len 1 n) marks) (alike-length s) in (
      kept_frames gs marks,
      kept-alike s marks,
      rw lines (sifted marks (sym (choice-same s) ∙ c) (rw (collection-same s q, facts-same s) at u)),
    )

-- THEOREM: the frames over which it is answered are taken, and say the same of all but facts
decides-leaves : {fs gs : List Frame} {q : Listed} {dropped : List ℕ} → Decides fs q dropped gs → Leaves fs gs
decides-leaves {fs} (plain c) = leaves-all fs
decides-leaves {fs} {q = q} (sifted marks c s) = leaves fs marks (sifts-facts fs q marks s)

pub decides-taken : (fs : List Frame) → Taken fs → (q : Listed) (dropped : List ℕ) (gs : List Frame) → Decides fs q dropped gs → Taken gs
decides-taken fs t q _ _ (plain c) = t
decides-taken fs t q _ _ (sifted marks c s) = taken-left fs t marks (sifts-facts fs q marks s)

pub decides-says : (fs : List Frame) → Taken fs → (q : Listed) (dropped : List ℕ) (gs : List Frame) → Decides fs q dropped gs
    → SameButFacts fs gs
decides-says fs t q dropped gs d =
    let b = begins fs t in
    let s = decides-leaves d in
    record {
      declared = declared-left b s;
      question = question-left b s;
      asks = table-left asks tt s;
      allowance = rounds-left b s;
      list = list-left s;
      choice = choice-left s;
    }

-- THEOREM: the collection of the frames that are kept is that of the kept facts
map-marked : (fs : List Frame) (marks : List Bool) → map fact_in (kept_frames fs marks) ≡ marked true (map fact_in fs) marks
map-marked [] marks = refl
map-marked (f ∷ fs) [] = refl
map-marked (f ∷ fs) (true ∷ marks) = ap (λ (l : List (Option Fact)). fact_in f ∷ l) (map-marked fs marks)
map-marked (f ∷ fs) (false ∷ marks) = map-marked fs marks

pub kept-salvaged : (fs : List Frame) → Taken fs → (q : Listed) (marks : List Bool) → DropsFacts fs marks
    → typed_collection (kept_frames fs marks) q ≡ salvaged (typed_collection fs q) (map fact_in fs) marks
kept-salvaged fs t q marks d =
    let gs = kept_frames fs marks in
    let s = leaves fs marks d in
    rw (
      declared-left (begins fs t) s,
      table-left concept_rules tt s,
      table-left concept_exclusions tt s,
      table-left role_rules tt s,
      table-left role_exclusions tt s,
      sym (concepts-read gs),
      sym (roles-read gs),
      map-marked fs marks,
    ) refl

-- THEOREM: and makes no contradiction
pub decides-sane : (fs : List Frame) → Taken fs → (q : Listed) (dropped : List ℕ) (gs : List Frame) → salvages fs ≡ true
    → Decides fs q dropped gs
    → ¬ Contradiction (typed_collection gs q)
decides-sane fs t q _ _ c (plain d) = absurd cc
decides-sane fs t q _ _ c (sifted marks d s) =
    rw (kept-salvaged fs t q marks (sifts-facts fs q marks s)) (sane (typed_collection fs q) (map fact_in fs) marks s)

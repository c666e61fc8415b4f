-- Some lines are found to be one thing, and a start of an input decides it.
use Rattle.std.specs.Prelude.{ℕ, suc, ◌+◌, ◌≡◌, ◌≢◌, ◌==◌, ◌⊎◌, Bool, true, false, refl, List, ◌∷◌, [], take, slice_get}
use Rattle.std.proofs.Common.{sym, ap, ◌∙◌, inl, inr, ⊎_elim, arith}
use Rattle.std.proofs.lemmas.Bool.Decides.{nat_tests}
use Rattle.streams.specs.Lines.{lines}
use Rattle.laws.specs.Departs.{DepartsAt, departs-once}
use Rattle.kinds.specs.declared.Concept.{Concept}
use Rattle.kinds.specs.declared.Concept.TheVariants.{Name, Exists}
use Rattle.kinds.specs.declared.ConceptName.{ConceptName}
use Rattle.kinds.specs.declared.SignedRole.{SignedRole}
use Rattle.kinds.specs.Kinds.{concept_name, signed, state}
use Rattle.meaning.specs.Collection.{WellFormed}
use Rattle.meaning.specs.Model.{Contradiction}
use Rattle.meaning.proofs.Reply.{clash}
use Rattle.meaning.proofs.ClashLaws.{clash-is}
use Rattle.expression.specs.Listed.{Listed}
use Rattle.frames.specs.declared.Frame.{Frame}
use Rattle.meaning.specs.Listing.{numbered_lite}
use Rattle.meaning.proofs.ListingLaws.{lite-listing}
use Rattle.theory.proofs.ListingLaws.{listing-once}
use Rattle.reading.specs.File.{file_of, IsQuestionOf}
use Rattle.reading.specs.Tables.{Entry, list_in, salvages}
use Rattle.reading.specs.Reading.{Verdict, faulty, sound, Reading, whole, onward, Taken, none}
use Rattle.reading.proofs.Accepted.{numbers-ok, reading-taken}
use Rattle.reading.proofs.Once.{reading-once}
use Rattle.reading.proofs.Prefix.{reading-start, reading-whole}
use Rattle.reading.proofs.Turns.{fitting}
use Rattle.reading.proofs.Questions.{question-once}
use Rattle.intake.specs.Verdicts.{collection_read, IsListing, Accepted, no-list, contradiction, listing, Departs, before_list, Verdicts, by-line, by-list, accepted}
use Rattle.intake.proofs.EndingLaws.{taken-start}
use Rattle.intake.specs.Laws.{VerdictOnce, VerdictFound, VerdictTaken, StartDecides}

-- of some frames a list departs at one place, and is then not accepted
module _ (fs : List Frame) where
  departs-at : {k i : ℕ} → Departs fs k → Departs fs i → k ≡ i
  departs-at {k = k} {i = i} a b =
      let e = question-once (file_of fs) a.question b.question a.is b.is in
      let l = listing-once (numbered_lite (collection_read fs b.question)) a.listing b.listing (rw e at a.lists) b.lists in
      departs-once (list_in fs) b.listing k i (rw l at a.at) b.at

  not-both : {k : ℕ} → Departs fs k → Accepted fs → ⊥
  not-both a (no-list e) = a.given e
  not-both a (contradiction q is plain c) = side a.sane
    where
      side : (salvages fs ≡ true) ⊎ (Contradiction (collection_read fs a.question) → ⊥) → ⊥
      side (inl e) = let d = sym e ∙ plain in cc
      side (inr sane) = let e = question-once (file_of fs) q a.question is a.is in sane (rw e at c)
  not-both a (listing q is l) =
      let e = question-once (file_of fs) q a.question is a.is in
      let d = listing-once (numbered_lite (collection_read fs a.question)) (list_in fs) a.listing (rw e at l) a.lists in
      a.at.not_there (ap (λ l. slice_get l _) d)

-- THEOREM: some lines are found to be one thing
pub verdict-once : VerdictOnce
verdict-once ls v w (by-line before r a) (by-line other q b) = reading-once a b
verdict-once ls v w (by-line before r a) (by-list fs k b d) = let e = reading-once a b in absurd cc
verdict-once ls v w (by-line before r a) (accepted fs b d) = let e = reading-once a b in absurd cc
verdict-once ls v w (by-list fs k a d) (by-line other q b) = let e = reading-once a b in absurd cc
verdict-once ls v w (accepted fs a d) (by-line other q b) = let e = reading-once a b in absurd cc
verdict-once ls v w (by-list fs k a d) (by-list gs i b c) =
    let e = reading-once a b in
    let s : fs ≡ gs = cc in
    let j : k ≡ i = departs-at gs (rw s at d) c in
    rw (s, j) refl
verdict-once ls v w (by-list fs k a d) (accepted gs b c) =
    let e = reading-once a b in
    let s : fs ≡ gs = cc in
    absurd (not-both gs (rw s at d) c)
verdict-once ls v w (accepted fs a d) (by-list gs i b c) =
    let e = reading-once a b in
    let s : fs ≡ gs = cc in
    absurd (not-both gs c (rw s at d))
verdict-once ls v w (accepted fs a d) (accepted gs b c) = reading-once a b

-- two lists are the same, or the one departs from the other
abbrev IsSame : {A : Type 0} → A → A → Type 0
IsSame x y = (x ≡ y) ⊎ (x ≢ y)

module _ {A : Type 0} (same? : (x y : A) → IsSame x y) where
  departs-more : (x y : A) (xs ys : List A) (k : ℕ) → x ≡ y → DepartsAt xs ys k → DepartsAt (x ∷ xs) (y ∷ ys) (suc k)
  departs-more x y xs ys k e d = record {
    same_before = λ i. e i ∷ d.same_before i;
    not_there = d.not_there;
  }

  departs? : (xs ys : List A) → (xs ≡ ys) ⊎ ((k : ℕ) × DepartsAt xs ys k)
  departs? [] [] = inl refl
  departs? [] (y ∷ ys) = inr (0, record { same_before = refl; not_there = λ e. cc })
  departs? (x ∷ xs) [] = inr (0, record { same_before = refl; not_there = λ e. cc })
  departs? (x ∷ xs) (y ∷ ys) = by (same? x y) (departs? xs ys)
    where
      by : IsSame x y → (xs ≡ ys) ⊎ ((k : ℕ) × DepartsAt xs ys k)
          → ((x ∷ xs) ≡ (y ∷ ys)) ⊎ ((k : ℕ) × DepartsAt (x ∷ xs) (y ∷ ys) k)
      by (inl e) (inl d) = inl (λ i. e i ∷ d i)
      by (inl e) (inr w) = inr (suc w.0, departs-more x y xs ys w.0 e w.1)
      by (inr n) on = inr (0, record { same_before = refl; not_there = λ e. let d : x ≡ y = cc in n d })

same_number : (m n : ℕ) → IsSame m n
same_number m n = by (m == n) refl
  where
    by : (b : Bool) → (m == n) ≡ b → IsSame m n
    by true e = inl (grind (arith, nat_tests))
    by false e = inr (grind (arith, nat_tests))

same_concept : (C D : Concept) → IsSame C D
same_concept (Name A) (Name B) =
    ⊎_elim (λ e. inl (ap (λ (n : ℕ). Name (concept_name n)) e)) (λ n. inr (λ e. n (let d : A ≡ B = cc in ap (λ (C : ConceptName). C.0) d)))
    (same_number A.0 B.0)
same_concept (Name A) (Exists R) = inr (λ e. cc)
same_concept (Exists R) (Name A) = inr (λ e. cc)
same_concept (Exists R) (Exists S) =
    ⊎_elim (λ e. inl (ap (λ (n : ℕ). Exists (signed n)) e)) (λ n. inr (λ e. n (let d : R ≡ S = cc in ap (λ (C : SignedRole). C.0) d)))
    (same_number R.0 S.0)

same_entry : (x y : Entry) → IsSame x y
same_entry x y = by (same_number x.0 y.0) (same_number x.1.0 y.1.0) (same_number x.2.0 y.2.0) (same_concept x.3 y.3)
  where
    by : IsSame x.0 y.0 → IsSame x.1.0 y.1.0 → IsSame x.2.0 y.2.0 → IsSame x.3 y.3 → IsSame x y
    by (inl a) (inl b) (inl c) (inl d) = inl (λ i. (a i, state (b i), state (c i), d i))
    by (inr n) b c d = inr (λ e. n (ap (λ (z : Entry). z.0) e))
    by (inl a) (inr n) c d = inr (λ e. n (ap (λ (z : Entry). z.1.0) e))
    by (inl a) (inl b) (inr n) d = inr (λ e. n (ap (λ (z : Entry). z.2.0) e))
    by (inl a) (inl b) (inl c) (inr n) = inr (λ e. n (ap (λ (z : Entry). z.3) e))

-- frames that were taken are a well-formed collection, of which it is decided whether it is a contradiction
module _ (fs : List Frame) (t : Taken fs) (begun : fs ≢ []) (q : Listed) (is : IsQuestionOf fs q) where
  pub well-formed : WellFormed (collection_read fs q)
  well-formed = record { counts = fitting fs t begun; numbers = (numbers-ok t q is 0).declared }

  sound-found : (ls : List (List ℕ)) → Reading [] ls (sound fs) → (w : Verdict) × Verdicts ls w
  sound-found ls r = by (list_in fs) refl
    where
      listed : list_in fs ≢ [] → (salvages fs ≡ true) ⊎ (Contradiction (collection_read fs q) → ⊥)
          → (l : List Entry) × IsListing (collection_read fs q) l → (w : Verdict) × Verdicts ls w
      listed given sane l =
          ⊎_elim (λ e. (sound fs, accepted fs r (listing q is (rw e l.1))))
          (λ w. (_, by-list fs w.0 r (record { given = given; question = q; is = is; sane = sane; listing = l.0; lists = l.1; at = w.1 })))
          (departs? same_entry (list_in fs) l.0)

      sane? : list_in fs ≢ [] → salvages fs ≡ false → (b : Bool) → clash (collection_read fs q) ≡ b → (w : Verdict) × Verdicts ls w
      sane? given plain true e = (sound fs, accepted fs r (contradiction q is plain ((clash-is (collection_read fs q) well-formed).0 e)))
      sane? given plain false e =
          listed given (inr (λ c. let d = (clash-is (collection_read fs q) well-formed).1 c in cc)) (lite-listing (collection_read fs q) well-formed)

      looked-at : list_in fs ≢ [] → (b : Bool) → salvages fs ≡ b → (w : Verdict) × Verdicts ls w
      looked-at given true e = listed given (inl e) (lite-listing (collection_read fs q) well-formed)
      looked-at given false e = sane? given e (clash (collection_read fs q)) refl

      by : (l : List Entry) → list_in fs ≡ l → (w : Verdict) × Verdicts ls w
      by [] e = (sound fs, accepted fs r (no-list e))
      by (x ∷ l) e = looked-at (λ n. let d = sym n ∙ e in cc) (salvages fs) refl

sound-begun : {before : List Frame} {ls : List (List ℕ)} {fs : List Frame} → Reading before ls (sound fs) → fs ≢ []
sound-begun (whole f fs) = λ e. cc
sound-begun (onward before l ls f v h rest) = sound-begun rest

-- THEOREM: lines of which each is found to be something are found to be something
pub verdict-found : VerdictFound
verdict-found ls (faulty before r) h q = (faulty before r, by-line before r h)
verdict-found ls (sound fs) h (q, is) = sound-found fs (reading-taken h none) (sound-begun h) q is ls h

-- THEOREM: the frames before a fault, and those that are sound, were taken one after the other
pub verdict-taken : VerdictTaken
verdict-taken ls v (by-line before r h) = reading-taken h none
verdict-taken ls v (by-list fs k h d) = taken-start fs (reading-taken h none) (before_list fs + k)
verdict-taken ls v (accepted fs h a) = reading-taken h none

-- THEOREM: what the first 3,239,020 bytes of an input are found to be, or more of them, the whole is, and the other way
pub start-decides : StartDecides
start-decides input n h v = (whole-so, start-so)
  where
    whole-so : {v : Verdict} → Verdicts (lines (take n input)) v → Verdicts (lines input) v
    whole-so (by-line before r k) = by-line before r (reading-whole input n h (faulty before r) k)
    whole-so (by-list fs i k d) = by-list fs i (reading-whole input n h (sound fs) k) d
    whole-so (accepted fs k a) = accepted fs (reading-whole input n h (sound fs) k) a

    start-so : {v : Verdict} → Verdicts (lines input) v → Verdicts (lines (take n input)) v
    start-so (by-line before r k) = by-line before r (reading-start input n h (faulty before r) k)
    start-so (by-list fs i k d) = by-list fs i (reading-start input n h (sound fs) k) d
    start-so (accepted fs k a) = accepted fs (reading-start input n h (sound fs) k) a

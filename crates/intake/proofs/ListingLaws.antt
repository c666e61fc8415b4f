-- The listing of a collection is made of its rules and its question alone: that of the frames over which a file is answered is that of
-- the frames that are read.
use Rattle.std.specs.Prelude.{ℕ, suc, ◌≡◌, refl, Bool, true, false, Option, None, Some, List, [], ◌∷◌, ◌++◌, map, unwrap_or, slice_get}
use Rattle.std.proofs.Common.{sym, ap, ◌∙◌}
use Rattle.kinds.specs.declared.Counts.{Counts}
use Rattle.meaning.specs.Lent.{Tables, collection}
use Rattle.salvage.specs.Facts.{Fact}
use Rattle.salvage.proofs.SalvagedLaws.{others_kept}
use Rattle.expression.specs.Listed.{Listed}
use Rattle.frames.specs.declared.Frame.{Frame}
use Rattle.frames.specs.declared.Frame.TheVariants.{Declared, ConceptFact, RoleFact, RoleStep, TestStep, Final, Allowance, Expression, Salvage, ListedMark}
use Rattle.reading.specs.File.{tables_of}
use Rattle.reading.specs.Judged.{InPlace}
use Rattle.reading.specs.Reading.{Taken, none, more}
use Rattle.reading.specs.Salvage.{fact_in, kept_frames, plain, sifted}
use Rattle.reading.specs.Tables.{Kind, concept_rules, role_rules, record_in, Entry, table, declared_by}
use Rattle.reading.proofs.Passed.{passed}
use Rattle.intake.specs.Laws.{ListingOfKept}
use Rattle.intake.specs.Verdicts.{collection_read, IsListing}

-- tables with these rules in place of theirs
abbrev with_rules : Tables → List ℕ → List ℕ → Tables
with_rules t concepts roles = record t { concept-rules = concepts; role-rules = roles }

-- frames with the same line 1 and the same rules have the same listing, with one question
module _ (fs gs : List Frame) (q : Listed) (declared : declared_by gs ≡ declared_by fs) (concepts : table concept_rules gs ≡ table concept_rules fs)
    (roles : table role_rules gs ≡ table role_rules fs) (list : List Entry) where
  abbrev Lists : Counts → List ℕ → List ℕ → Type 0
  Lists c k r = IsListing (collection c (with_rules (tables_of fs q) k r)) list

  pub same-listing : IsListing (collection_read gs q) list → IsListing (collection_read fs q) list
  same-listing l =
      let a : Lists (declared_by gs) (table concept_rules gs) (table role_rules gs) = l in
      rw (declared, concepts, roles) at a

-- line 1 declares
declares : (f : Frame) → InPlace [] f → (c : Counts) × (f ≡ Declared c)
declares (Declared c) p = (c, refl)
declares (Allowance n) p = absurd (p.0.begun refl)
declares (RoleStep s R t) p = absurd (p.0.begun refl)
declares (TestStep s A t) p = absurd (p.0.begun refl)
declares (Final s) p = absurd (p.0.begun refl)
declares (Expression row) p = absurd (p.0.begun refl)
declares Salvage p = absurd (p.0.begun refl)
declares (ListedMark n s t B) p = absurd (p refl)
declares f p = absurd (p.begun refl)

begins : (fs : List Frame) → Taken fs → (f : Frame) (rest : List Frame) → fs ≡ f ∷ rest → (c : Counts) × (f ≡ Declared c)
begins fs none f rest i = absurd cc
begins fs (more [] g t j) f rest i =
    let e : g ≡ f = cc in
    let w = declares g (passed [] g j).in_place in
    (w.0, sym e ∙ w.1)
begins fs (more (h ∷ before) g t j) f rest i =
    let e : h ≡ f = cc in
    begins (h ∷ before) t f before (ap (λ (x : Frame). x ∷ before) e)

-- frames of which each that is no fact is kept
abbrev KeepsOthers : List Frame → List Bool → Type 0
KeepsOthers fs marks = (i : ℕ) → slice_get (map fact_in fs) i ≡ Some None → slice_get marks i ≡ Some true

-- the tables to which no fact adds a record
abbrev IsOfRules : Kind → Type 0
IsOfRules kind = (f : Frame) (x : Fact) → fact_in f ≡ Some x → record_in kind f ≡ None

module _ (kind : Kind) (other : IsOfRules kind) where
  kept-table : (fs : List Frame) (marks : List Bool) → KeepsOthers fs marks → table kind (kept_frames fs marks) ≡ table kind fs
  unfolding table
  kept-table [] marks k = refl
  kept-table (f ∷ fs) [] k = refl
  kept-table (f ∷ fs) (true ∷ marks) k = ap (λ (t : List ℕ). unwrap_or (record_in kind f) [] ++ t) (kept-table fs marks (λ i. k (suc i)))
  kept-table (f ∷ fs) (false ∷ marks) k = by (fact_in f) refl (kept-table fs marks (λ i. k (suc i)))
    where
      by : (o : Option Fact) → fact_in f ≡ o → table kind (kept_frames fs marks) ≡ table kind fs
          → table kind (kept_frames fs marks) ≡ unwrap_or (record_in kind f) [] ++ table kind fs
      by None e on = let d : Some false ≡ Some true = k 0 (ap Some e) in absurd cc
      by (Some x) e on = rw (other f x e) on

rules-no-facts : IsOfRules concept_rules
rules-no-facts (ConceptFact A a n) x e = refl
rules-no-facts (RoleFact r a b n) x e = refl
rules-no-facts f x e = absurd cc

roles-no-facts : IsOfRules role_rules
roles-no-facts (ConceptFact A a n) x e = refl
roles-no-facts (RoleFact r a b n) x e = refl
roles-no-facts f x e = absurd cc

-- what line 1 declares is kept
kept-declared : (fs : List Frame) → Taken fs → (marks : List Bool) → KeepsOthers fs marks → declared_by (kept_frames fs marks) ≡ declared_by fs
kept-declared [] t marks k = refl
kept-declared (f ∷ fs) t [] k = refl
kept-declared (f ∷ fs) t (true ∷ marks) k = let w = begins (f ∷ fs) t f fs refl in rw w.1 refl
kept-declared (f ∷ fs) t (false ∷ marks) k =
    let w = begins (f ∷ fs) t f fs refl in
    let d : Some false ≡ Some true = k 0 (ap (λ (g : Frame). Some (fact_in g)) w.1) in
    absurd cc

-- THEOREM: the frames over which a file is answered have the listing of those that are read
pub listing-of-kept : ListingOfKept
listing-of-kept fs t gs q dropped (plain e) list = (λ l. l, λ l. l)
listing-of-kept fs t gs q dropped (sifted marks e s) list = (
  same-listing fs (kept_frames fs marks) q declared concepts roles list,
  same-listing (kept_frames fs marks) fs q (sym declared) (sym concepts) (sym roles) list,
)
  where
    others : KeepsOthers fs marks
    others = others_kept (collection (declared_by fs) (tables_of fs q)) (map fact_in fs) marks s

    declared : declared_by (kept_frames fs marks) ≡ declared_by fs
    declared = kept-declared fs t marks others

    concepts : table concept_rules (kept_frames fs marks) ≡ table concept_rules fs
    concepts = kept-table concept_rules rules-no-facts fs marks others

    roles : table role_rules (kept_frames fs marks) ≡ table role_rules fs
    roles = kept-table role_rules roles-no-facts fs marks others

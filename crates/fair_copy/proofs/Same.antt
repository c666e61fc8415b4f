-- The copy is the same collection, and two files have the same copy exactly where they are the same collection.
use Rattle.std.specs.Prelude.{◌≡◌, refl, ℕ, List, Option, None, Some}
use Rattle.std.proofs.Common.{sym, ◌∙◌}
use Rattle.sorted.specs.Rows.{SameRecords}
use Rattle.sorted.specs.Same.{SameTables}
use Rattle.sorted.proofs.TidyLaws.{members-turned, members-then}
use Rattle.expression.specs.Listed.{Listed}
use Rattle.frames.specs.declared.Frame.{Frame}
use Rattle.frames.specs.declared.Frame.TheVariants.{Allowance}
use Rattle.reading.specs.Tables.{Kind, concept_rules, concept_exclusions, role_rules, role_exclusions, concept_facts, role_facts, steps, finals, asks, listed, width, table, declared_by, allowance_given}
use Rattle.reading.specs.File.{tables_of}
use Rattle.fair_copy.specs.Copy.{StandsIn, typed, IsCopyOf}
use Rattle.fair_copy.specs.Laws.{SameCollection}
use Rattle.fair_copy.proofs.Records.{record-tells, records-in, records-out, rows-table}
use Rattle.fair_copy.proofs.Taken.{allowance-there, given-allowance}
use Rattle.fair_copy.proofs.Stands.{AreWhole, IsShelved, table_of, Sort, declares, allows, adds, sort_of, stands-row, row-stands}
use Rattle.fair_copy.proofs.Fits.{stands-fits}
use Rattle.fair_copy.proofs.Copied.{typed_by, stands-copied, stands-declared, stands-line-1, stands-allowed, copy-declared, copy-taken, copy-whole}

-- the same records in each table, by kind, and table by table
module _ (fs : List Frame) (q : Listed) (gs : List Frame) (r : Listed) where
  abbrev SameInAll : Type 0
  SameInAll = (kind : Kind) → IsShelved kind → SameRecords (width kind) (table_of fs q kind) (table_of gs r kind)

  by-kind : SameTables (tables_of fs q) (tables_of gs r) → SameInAll
  by-kind s concept_rules k = s.concept-rules
  by-kind s concept_exclusions k = s.concept-exclusions
  by-kind s role_rules k = s.role-rules
  by-kind s role_exclusions k = s.role-exclusions
  by-kind s concept_facts k = s.concept-facts
  by-kind s role_facts k = s.role-facts
  by-kind s steps k = s.steps
  by-kind s finals k = s.finals
  by-kind s asks k = absurd k
  by-kind s listed k = absurd k

  by-table : SameInAll → SameTables (tables_of fs q) (tables_of gs r)
  by-table s = record {
    concept-rules = s concept_rules tt;
    concept-exclusions = s concept_exclusions tt;
    role-rules = s role_rules tt;
    role-exclusions = s role_exclusions tt;
    concept-facts = s concept_facts tt;
    role-facts = s role_facts tt;
    steps = s steps tt;
    finals = s finals tt;
  }

-- it is the same both ways, and one after another
pub same-turned : (fs : List Frame) (q : Listed) (gs : List Frame) (r : Listed) → SameCollection fs q gs r → SameCollection gs r fs q
same-turned fs q gs r s = record {
  declared = sym s.declared;
  allowance = sym s.allowance;
  records = by-table gs r fs q (λ kind k. members-turned (by-kind fs q gs r s.records kind k));
}

pub same-then : (fs : List Frame) (q : Listed) (gs : List Frame) (r : Listed) (hs : List Frame) (t : Listed)
    → SameCollection fs q gs r → SameCollection gs r hs t → SameCollection fs q hs t
same-then fs q gs r hs t s u = record {
  declared = s.declared ∙ u.declared;
  allowance = s.allowance ∙ u.allowance;
  records =
      by-table fs q hs t (λ kind k. members-then (by-kind fs q gs r s.records kind k) (by-kind gs r hs t u.records kind k));
}

-- two options that hold the same, where each holds it
same-option : (o p : Option ℕ) → ((n : ℕ) → o ≡ Some n → p ≡ Some n) → ((n : ℕ) → p ≡ Some n → o ≡ Some n) → o ≡ p
same-option None None h k = refl
same-option (Some n) p h k = sym (h n refl)
same-option None (Some n) h k = k n refl

module _ (fs : List Frame) (q : Listed) (w : AreWhole fs q) (copy : List Frame) (k : IsCopyOf fs q copy) where
  copy-records : (kind : Kind) → IsShelved kind → SameRecords (width kind) (table_of fs q kind) (table kind copy)
  copy-records kind shelved r = (
    λ m.
        let x = row-stands fs q w.are kind shelved r m in
        rw (rows-table kind copy) (records-in kind copy ((k.same x.0).1 x.1) x.2),
    λ m.
        let x = records-out kind copy (rw (rows-table kind copy) at m) in
        stands-row fs q w.are ((k.same x.0).0 x.1) kind r x.2,
  )

  shelved-records : SameInAll fs q copy (typed_by copy)
  shelved-records concept_rules h = copy-records concept_rules tt
  shelved-records concept_exclusions h = copy-records concept_exclusions tt
  shelved-records role_rules h = copy-records role_rules tt
  shelved-records role_exclusions h = copy-records role_exclusions tt
  shelved-records concept_facts h = copy-records concept_facts tt
  shelved-records role_facts h = copy-records role_facts tt
  shelved-records steps h = copy-records steps tt
  shelved-records finals h = copy-records finals tt
  shelved-records asks h = absurd h
  shelved-records listed h = absurd h

  allowed-alike : allowance_given fs ≡ allowance_given copy
  allowed-alike =
      same-option (allowance_given fs) (allowance_given copy)
      (λ n e.
      allowance-there copy (copy-taken fs q w copy k) n ((k.same (Allowance n)).1 (typed (Allowance n) (given-allowance fs n e) tt)))
      (λ n e. stands-allowed fs q w n ((k.same (Allowance n)).0 (given-allowance copy n e)))

  -- THEOREM: the copy is the same collection
  pub copy-same : SameCollection fs q copy (typed_by copy)
  copy-same = record {
    declared = sym (copy-declared fs q w copy k);
    allowance = allowed-alike;
    records = by-table fs q copy (typed_by copy) shelved-records;
  }

module _ (fs : List Frame) (q : Listed) (w : AreWhole fs q) (gs : List Frame) (r : Listed) (v : AreWhole gs r)
    (s : SameCollection fs q gs r) where
  -- what stands in the copy of the one stands in that of the other
  stands-same : {f : Frame} → StandsIn fs q f → StandsIn gs r f
  stands-same {f} h = by (sort_of f (stands-copied h)) h
    where
      by : {g : Frame} → Sort g → StandsIn fs q g → StandsIn gs r g
      by (declares c) h =
          let e : c ≡ declared_by gs = stands-declared fs q w h ∙ s.declared in
          rw e (stands-line-1 gs r v)
      by (allows n) h =
          let e : allowance_given gs ≡ Some n = sym s.allowance ∙ stands-allowed fs q w n h in
          typed (Allowance n) (given-allowance gs n e) tt
      by {g} (adds kind x shelved e) h =
          let m = (by-kind fs q gs r s.records kind shelved x).0 (stands-row fs q w.are h kind x e) in
          let y = row-stands gs r v.are kind shelved x m in
          let same = record-tells kind g y.0 x (stands-fits fs q w h).concepts (stands-fits gs r v y.1).concepts e y.2 in
          rw same y.1

module _ (fs : List Frame) (q : Listed) (w : AreWhole fs q) (gs : List Frame) (r : Listed) (v : AreWhole gs r) where
  -- THEOREM: of the same collection, typed otherwise, the copy is the same
  pub same-copied : SameCollection fs q gs r → (copy : List Frame) → IsCopyOf fs q copy → IsCopyOf gs r copy
  same-copied s copy k = record {
    rises = k.rises;
    same = λ f. (
      λ m. stands-same fs q w gs r v s ((k.same f).0 m),
      λ h. (k.same f).1 (stands-same gs r v fs q w (same-turned fs q gs r s) h),
    );
  }

-- THEOREM: and so the copy's copy is the copy
pub copy-again : (fs : List Frame) (q : Listed) (w : AreWhole fs q) (copy : List Frame) → (k : IsCopyOf fs q copy)
    → IsCopyOf copy (typed_by copy) copy
copy-again fs q w copy k = same-copied fs q w copy (typed_by copy) (copy-whole fs q w copy k) (copy-same fs q w copy k) copy k

-- A list held against the closed sheet of a collection: its number, and where it departs.
use Rattle.std.specs.Prelude.{◌≡◌, ◌≢◌, refl, Bool, true, false, List, ◌∷◌, ◌++◌, ℕ, ◌≤◌, ◌+◌, length, slice_get}
use Rattle.std.proofs.Common.{sym, subst, ap, ◌∙◌, arith, length-append}
use Rattle.kinds.specs.declared.Counts.{Counts}
use Rattle.kinds.specs.Answer.{answer_number}
use Rattle.kinds.specs.Kinds.{concept-number}
use Rattle.theory.specs.Listing.{Listing, entries_of, entries_from}
use Rattle.theory.proofs.ListingLaws.{listing-once}
use Rattle.meaning.specs.Collection.{Collection, WellFormed}
use Rattle.meaning.specs.Lent.{Tables}
use Rattle.meaning.specs.Listing.{numbered_lite}
use Rattle.meaning.specs.Model.{Contradiction}
use Rattle.meaning.proofs.ClashLaws.{clash-is}
use Rattle.meaning.proofs.ListingLaws.{entry-fits}
use Rattle.meaning.proofs.Reply.{clash}
use Rattle.laws.specs.First.{fails, holds}
use Rattle.laws.specs.Departs.{DepartsAt}
use Rattle.tables.specs.declared.collection.Refusal.{Refusal}
use Rattle.tables.specs.declared.collection.Refusal.TheVariants.{BadCount, BadTable, BadNumber}
use Rattle.tables.specs.Lists.{lists}
use Rattle.tables.specs.Refusals.{answer_of}
use Rattle.sheet.specs.declared.round_marks.RoundMarks.{RoundMarks}
use Rattle.index.specs.declared.lent.Lent.{Lent}
use Rattle.index.specs.Marks.{SheetTold}
use Rattle.index.specs.Works.{meant, Passes}
use Rattle.index.proofs.Joined.{well}
use Rattle.index.proofs.Replies as replies
use Rattle.index.proofs.ToldWhole.{sheet-listed}
use Rattle.lampsaffron.specs.Listing.{Entry}
use Rattle.lampsaffron.specs.Departs.{entry_count, list_entries, HeldNumber, DepartsNumber, DepartsFromSheet}
use Rattle.lampsaffron.specs.Departs.{TellsDeparture, Meets, Departs}
use Rattle.lampsaffron.proofs.DepartsLaws.{Canonical, entries-append, departs-before, all-met}
use Rattle.lampsaffron.proofs.DepartsLaws.{longer-departs, other-departs, met-few, departs-few}

module _ (l : Lent) (p : Passes l.collection) (list : List ℕ) where
  abbrev 𝓒 : Collection
  𝓒 = meant l.collection

  ok : WellFormed 𝓒
  ok = well l.collection p

  -- the concepts of the sheet's list are declared
  canonical : (es : List Entry) → Listing (numbered_lite 𝓒) es → Canonical es
  canonical es is e i =
      let f = entry-fits 𝓒 ok es is e.0 e.1 e.2 e.3 i in
      concept-number l.collection.counts p.counts.names e.3 f.valid.of

  -- what is found where it departs
  pub record Departure (k : ℕ) : Type 0 where
    pub number : HeldNumber l.collection.counts (lists l.collection) list 15
    pub departs : DepartsFromSheet l.collection.counts (lists l.collection) list k
    pub few : k ≤ entry_count list

  departure : (Contradiction 𝓒 → ⊥) → (es : List Entry) → Listing (numbered_lite 𝓒) es → (k : ℕ) → DepartsAt (list_entries list) es k
      → k ≤ entry_count list → Departure k
  departure sane es is k d few = record {
    number = holds sane (fails (λ h. d.not_there (ap (λ x. slice_get x k) (listing-once (numbered_lite 𝓒) (list_entries list) es h is))));
    departs = (es, is, d);
    few = few;
  }

  module _ (rounds : List RoundMarks) where
    abbrev es : List Entry
    es = entries_of (numbered_lite 𝓒) rounds

    -- THEOREM: where all was met that there is, it is the sheet's
    pub held-all : SheetTold 𝓒 rounds → (Contradiction 𝓒 → ⊥) → (k : ℕ) → Meets list 0 es k → k ≡ entry_count list
        → HeldNumber l.collection.counts (lists l.collection) list 0
    held-all t sane k m e =
        let is = sheet-listed 𝓒 ok rounds t sane in
        let same = all-met list es (canonical es is) k m e in
        holds sane (holds (subst (Listing (numbered_lite 𝓒)) (sym same) is) refl)

    -- THEOREM: where all was met of the sheet's, and there is more, it departs
    pub held-more : SheetTold 𝓒 rounds → (Contradiction 𝓒 → ⊥) → (k : ℕ) → Meets list 0 es k → k ≢ entry_count list → Departure k
    held-more t sane k m n =
        let is = sheet-listed 𝓒 ok rounds t sane in
        departure sane es is k (longer-departs list es (canonical es is) k m n) (met-few list es k m)

    -- THEOREM: and where one was not met
    pub held-other : (rest : List RoundMarks) → SheetTold 𝓒 (rounds ++ rest) → (k : ℕ) → Departs list 0 es k → Departure k
    held-other rest t k d = by (clash 𝓒) refl
      where
        all : Departs list 0 (entries_of (numbered_lite 𝓒) (rounds ++ rest)) k
        all = rw (entries-append 𝓒 0 rounds rest) (departs-before (entries_from (numbered_lite 𝓒) (0 + length rounds) rest) d)

        by : (b : Bool) → clash 𝓒 ≡ b → Departure k
        by true e =
            let none = ap (λ r. length (entries_of (numbered_lite 𝓒) r)) (t.none ((clash-is 𝓒 ok).0 e)) in
            let many = ap length all.all ∙ length-append all.front (all.next ∷ all.rest) in
            absurd (omega arith)
        by false e =
            let sane = replies.fails (clash-is 𝓒 ok) e in
            let is = sheet-listed 𝓒 ok (rounds ++ rest) t sane in
            departure sane _ is k (other-departs list _ (canonical _ is) k all) (departs-few list _ k all)

-- where nothing is written
pub kept-so : {c : Counts} {t : Tables} {list : List ℕ} {old number : ℕ} → DepartsNumber c t list number → number ≢ 15
    → TellsDeparture c t list old number old
kept-so is n = record { number_is = is; departs = λ e. absurd (n e); kept = λ m. refl }

-- no refusal is 15
pub refused-not-15 : (why : Refusal) → answer_number (answer_of why) ≢ 15
refused-not-15 BadCount e = omega arith
refused-not-15 BadTable e = omega arith
refused-not-15 BadNumber e = omega arith

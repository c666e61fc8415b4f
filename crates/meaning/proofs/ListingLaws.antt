-- The list of a collection's closed sheet: there is one, and it tells the sheet and the answers.
use Rattle.std.specs.Prelude.{◌≡◌, ◌↔◌, List, ℕ, ◌+◌, ◌*◌, ◌≤◌, length, count_by, nat_le}
use Rattle.std.proofs.Common.{sym, ap, ◌∙◌, arith}
use Rattle.std.proofs.Math.Nat.{mul-le-mul}
use Rattle.kinds.specs.declared.State.{State}
use Rattle.kinds.specs.declared.Concept.{Concept}
use Rattle.kinds.specs.declared.Counts.{Counts}
use Rattle.kinds.specs.declared.Individual.{Individual}
use Rattle.kinds.specs.declared.Ask.{Ask}
use Rattle.kinds.specs.declared.Ask.TheVariants.{Pair, From}
use Rattle.kinds.specs.Asks.{AskDeclared}
use Rattle.kinds.specs.Kinds.{most_states, state, concept_of, concept-number, CountsFit, StateDeclared, IndividualDeclared}
use Rattle.laws.specs.Member.{◌∈◌}
use Rattle.theory.specs.Tree.{root}
use Rattle.theory.specs.Sheet.{Needed}
use Rattle.theory.specs.Listing.{MarksByRound, Listing, Lists, ListsUpTo, last_round}
use Rattle.theory.specs.LawsOfListing.{AreToldApart}
use Rattle.theory.proofs.ListingLaws.{none-later, rounds-there, listing-there, listed-after, listed-closed, needed-is-last, stands-listed, listing-length}
use Rattle.theory.proofs.ListedLaws.{walk↔list, out↔list}
use Rattle.meaning.specs.Collection.{Collection, WellFormed}
use Rattle.meaning.specs.Model.{IndividualHas, individuals, canonical}
use Rattle.meaning.specs.Question.{PathIn}
use Rattle.meaning.specs.Asks.{IsYes}
use Rattle.meaning.specs.Lite.{valid_concepts, declared_states, lite}
use Rattle.meaning.specs.Listing.{numbered_lite, ListWalk, IsYesBy}
use Rattle.meaning.specs.Walk.{Near}
use Rattle.meaning.specs.Layout.{place_count, Lays, Standing}
use Rattle.meaning.specs.LawsOfSheet.{Marked}
use Rattle.meaning.specs.LawsOfListing.{EntryFits}
use Rattle.meaning.proofs.Declared.{state-in, concept-in, concept-out, states-count, concepts-count, concept-declared, role-step-to}
use Rattle.meaning.proofs.Clash.{typed-valid}
use Rattle.meaning.proofs.LayoutLaws.{same-lays}
use Rattle.meaning.proofs.ModelWalk.{path↔individuals-walk}
use Rattle.meaning.proofs.LeavingLaws.{leaves↔walk}
use Rattle.meaning.proofs.RoundLaws.{marked-valid}
use Rattle.meaning.proofs.LiteMarks.{lite-countable, sheet-standing}
use Rattle.meaning.proofs.Demands.{rounds-suffice}

-- THEOREM: concepts × states × states are at most 131,072
pub most-entries : (c : Counts) → CountsFit c → (c.names + 2 * c.roles) * c.states * c.states ≤ place_count
most-entries c fit =
    let a : c.names + 2 * c.roles ≤ 128 = omega (arith, fit.names, fit.roles) in
    mul-le-mul (mul-le-mul a fit.states) fit.states

module _ (𝓒 : Collection) (ok : WellFormed 𝓒) where
  -- THEOREM: the numbers tell declared states, and valid concepts, apart
  pub lite-apart : AreToldApart (numbered_lite 𝓒)
  lite-apart = record {
    states = λ s t i j e. ap state e;
    concepts = λ B C i j e.
        let b = concept-number 𝓒.counts ok.counts.names B (concept-out 𝓒.counts B i) in
        let d = concept-number 𝓒.counts ok.counts.names C (concept-out 𝓒.counts C j) in
        sym b ∙ (ap concept_of e ∙ d);
  }

  -- THEOREM: there are lists of the marks that first stand in each round
  pub lite-rounds : (n : ℕ) → (rounds : List (List (State × State × Concept))) × MarksByRound (numbered_lite 𝓒) n rounds
  lite-rounds = rounds-there (numbered_lite 𝓒) (lite-countable 𝓒 ok) lite-apart

  -- THEOREM: and there is the list of the closed sheet
  pub lite-listing : (list : List (ℕ × State × State × Concept)) × Listing (numbered_lite 𝓒) list
  lite-listing = listing-there (numbered_lite 𝓒) (lite-countable 𝓒 ok) lite-apart

  module _ (list : List (ℕ × State × State × Concept)) (l : Listing (numbered_lite 𝓒) list) where
    -- THEOREM: an entry's mark is declared, and its round no later than the most that are needed
    pub entry-fits : (n : ℕ) (s t : State) (B : Concept) → (n, s, t, B) ∈ list → EntryFits 𝓒 n s t B
    entry-fits n s t B i =
        let f = (l.are n s t B).0 i in
        let w = rounds-suffice 𝓒 ok in
        let h = none-later (numbered_lite 𝓒) w.0 w.2 n s t B f in
        record { valid = marked-valid 𝓒 n s t B f.stands; round = omega (arith, h, w.1) }

    -- THEOREM: it has no more entries than there are concepts × states × states
    pub lite-length : length list ≤ (𝓒.counts.names + 2 * 𝓒.counts.roles) * 𝓒.counts.states * 𝓒.counts.states
    lite-length =
        let e = listing-length (numbered_lite 𝓒) list l (lite-countable 𝓒 ok) in
        rw (states-count 𝓒.counts, concepts-count 𝓒.counts) at e

    -- THEOREM: the list tells the sheet after n rounds, the closed sheet and the rounds needed
    pub lite-after : (n : ℕ) (s t : State) (B : Concept) → Marked 𝓒 n s t B ↔ ListsUpTo (numbered_lite 𝓒) list n s t B
    lite-after = listed-after (numbered_lite 𝓒) list l (lite-countable 𝓒 ok)

    pub lite-closed : (n : ℕ) → Needed (lite 𝓒) n → (s t : State) (B : Concept) → Marked 𝓒 n s t B ↔ Lists (numbered_lite 𝓒) list s t B
    lite-closed = listed-closed (numbered_lite 𝓒) list l (lite-countable 𝓒 ok)

    pub lite-last : (n : ℕ) → Needed (lite 𝓒) n ↔ (n ≡ last_round (numbered_lite 𝓒) list)
    lite-last = needed-is-last (numbered_lite 𝓒) list l (lite-countable 𝓒 ok)

    -- THEOREM: and the area after n rounds, and how many marks stand in it
    pub lite-area : (n : ℕ) (area : List ℕ) → Lays (Marked 𝓒 n) area ↔ Lays (ListsUpTo (numbered_lite 𝓒) list n) area
    lite-area n area = (
      same-lays most_states (Marked 𝓒 n) (ListsUpTo (numbered_lite 𝓒) list n) area (lite-after n),
      same-lays most_states (ListsUpTo (numbered_lite 𝓒) list n) (Marked 𝓒 n) area (λ s t B. let w = lite-after n s t B in (w.1, w.0)),
    )

    pub lite-standing : (n : ℕ) (area : List ℕ) → Lays (Marked 𝓒 n) area → Standing area (count_by (λ x. nat_le x.0 n) list)
    lite-standing n area lays = sheet-standing 𝓒 ok n area lays _ (stands-listed (numbered_lite 𝓒) list l (lite-countable 𝓒 ok) n)

    had-valid : (a : Individual) (B : Concept) → IndividualHas 𝓒 a B → B ∈ valid_concepts 𝓒.counts
    had-valid a B h = concept-in 𝓒.counts B (concept-declared 𝓒 ok.numbers h.2 (typed-valid 𝓒 ok.numbers h.1))

    near-declared : (a b : Individual) (s t : State) → Near 𝓒 (individuals 𝓒) a s b t → t ∈ declared_states 𝓒.counts
    near-declared a b s t h = role-step-to 𝓒 ok.numbers s h.0 t h.1

    -- THEOREM: where paths lead from individual to individual
    pub path↔list : (a b : Individual) (s t : State) → IndividualDeclared 𝓒.counts a → StateDeclared 𝓒.counts s
        → PathIn 𝓒 (canonical 𝓒) (root a) s (root b) t ↔ ListWalk 𝓒 list a s b t
    path↔list a b s t d h =
        let p = path↔individuals-walk 𝓒 ok a b s t d in
        let w =
        walk↔list (numbered_lite 𝓒) (lite-countable 𝓒 ok) list l (IndividualHas 𝓒) (Near 𝓒 (individuals 𝓒)) had-valid near-declared
        a b s t (state-in 𝓒.counts s h) in
        (λ k. w.0 (p.0 k), λ k. p.1 (w.1 k))

    -- THEOREM: and each answer
    pub ask↔list : (ask : Ask) → AskDeclared 𝓒.counts ask → IsYes 𝓒 ask ↔ IsYesBy 𝓒 list ask
    ask↔list (Pair a b) d = (
      λ y. (y.0, y.1, (path↔list a b 𝓒.counts.start y.0 d.0 ok.counts.start).0 y.2),
      λ y. (y.0, y.1, (path↔list a b 𝓒.counts.start y.0 d.0 ok.counts.start).1 y.2),
    )
    ask↔list (From a) d =
        let p = leaves↔walk 𝓒 ok a d in
        let w =
        out↔list (numbered_lite 𝓒) (lite-countable 𝓒 ok) list l (IndividualHas 𝓒) (Near 𝓒 (individuals 𝓒)) had-valid near-declared
        (λ t. t ∈ 𝓒.finals) a 𝓒.counts.start (state-in 𝓒.counts 𝓒.counts.start ok.counts.start) in
        (λ k. w.0 (p.0 k), λ k. p.1 (w.1 k))

-- The rooms' tables, read in the words of the rules: what the sheet's rounds find, and what walks tell.
use Rattle.std.specs.Prelude.{◌≡◌, refl, ◌⊎◌, ◌↔◌, IsTrue, List, ℕ, ◌+◌, ◌-◌, ◌^◌, ◌<◌, ◌≤◌}
use Rattle.std.proofs.Common.{rules, inl, inr, ⊎_elim, arith}
use Rattle.std.proofs.lemmas.Nat.Bits.{bit_at_ones}
use Rattle.kinds.specs.declared.Concept.{Concept}
use Rattle.kinds.specs.declared.Ask.{Ask}
use Rattle.kinds.specs.Asks.{AskDeclared}
use Rattle.kinds.specs.Kinds.{most_states, most_individuals, base, individual, number_of, role-concept, ConceptDeclared}
use Rattle.meaning.specs.Collection.{Collection, NumbersDeclared, WellFormed}
use Rattle.meaning.specs.Lent.{Tables}
use Rattle.meaning.specs.Model.{IndividualHas, Contradiction}
use Rattle.meaning.specs.Asks.{IsYes}
use Rattle.theory.specs.Sheet.{Mark}
use Rattle.meaning.proofs.Clash.{typed-declared}
use Rattle.meaning.proofs.Demands.{rounds-suffice}
use Rattle.orders.specs.Rows.{IsTransposed}
use Rattle.sets.specs.Bits.{Has, has, concept_width, IsUnion}
use Rattle.sets.specs.Rows.{concept_marks, role_marks}
use Rattle.sets.specs.declared.concepts.ConceptSet.{ConceptSet}
use Rattle.sets.specs.declared.states.StateSet.{StateSet}
use Rattle.tables.specs.declared.collection.Collection as code
use Rattle.tables.specs.Lists.{lists}
use Rattle.orders.specs.declared.roles.RoleOrder.{RoleOrder}
use Rattle.orders.specs.declared.concepts.ConceptOrder.{ConceptOrder}
use Rattle.orders.proofs.Mean.{concept-below}
use Rattle.elements.specs.declared.Elements.{Elements}
use Rattle.elements.proofs.Mean.{concepts-mean, shown-declared}
use Rattle.edges.specs.declared.list.FactEdges.{FactEdges}
use Rattle.clash.specs.Clashes.{ConceptsClash, RolesClash}
use Rattle.clash.specs.Conflicts.{AreConcerned, IsConcerned}
use Rattle.clash.proofs.Mean.{clash-mean}
use Rattle.rules.specs.declared.rows.Rows.{Rows}
use Rattle.rules.specs.Rows.{most_concepts, kind_of}
use Rattle.rules.specs.Transitions.{AreTransitions}
use Rattle.rules.specs.Made.{IsStates, IsConcepts, AreTests, AreEdgesTo, AreEdges}
use Rattle.rules.specs.RowsOf.{AreAbove, AreBelow, LeadDown, RowsOf}
use Rattle.rules.proofs.MadeMean.{transitions_mean, rows_of}
use Rattle.rules.proofs.Members.{has_is, has_of}
use Rattle.rules.proofs.OrdersMean.{role_order, concept_order}
use Rattle.rules.proofs.Same.{mark_to, mark_from}
use Rattle.sheet.specs.declared.allowed.Ran.TheVariants as ran
use Rattle.sheet.specs.Areas.{LaysMarks}
use Rattle.sheet.specs.Ends as ends
use Rattle.sheet.specs.Ends.{Ended}
use Rattle.sheet.specs.Sheets as sheet
use Rattle.sheet.proofs.Mean.{same_needed, needs_more, same_lays}
use Rattle.walk.specs.declared.coreachable.PathsBelow.{PathsBelow}
use Rattle.walk.specs.Accepting.{AreAccepting}
use Rattle.walk.specs.Covers.{Covers}
use Rattle.walk.specs.Finals.{AreFinals}
use Rattle.walk.specs.Loops.{AreLoops}
use Rattle.sets.specs.Relations.{concepts_at}
use Rattle.walk.specs.Meant.{ConceptsOf, TransitionsOf, BelowOf, AcceptingOf, TablesOf}
use Rattle.walk.proofs.Mean.{tables-mean, asked-mean, question-mean}
use Rattle.walk.proofs.AcceptingMean.{accepting-mean}
use Rattle.index.specs.declared.routes.Paths.{Paths}
use Rattle.index.specs.Works.{meant, Passes, Needs, Holds, AreFactEdges, IsClosedSheet, StridesLead, AreRight}
use Rattle.index.specs.Ground.{IsGround}

tested : (n k : ℕ) → IsTrue (has n k) ↔ Has n k
tested n k = (λ t. has_is n k (search (rules, t)), λ h. let e = has_of n k h in rw e (search rules))

pub well : (c : code.Collection) → Passes c → WellFormed (meant c)
well c p = record { counts = p.counts; numbers = p.numbers.declared }

-- rounds over rows that say what a collection says
module _ (c : code.Collection) (p : Passes c) (rows : Rows) (r : RowsOf (meant c) rows) where
  -- THEOREM: rounds that end within the allowance are the rounds needed
  pub needed_of : (allowance n : ℕ) → Ended rows allowance (ran.Needed n) → Needs (meant c) n × (n ≤ allowance)
  needed_of allowance n (ends.needed k l) = ((same_needed (meant c) p.counts rows r n).0 k, l)

  -- THEOREM: and where the allowance is spent more are needed
  pub more_of : (allowance : ℕ) → Ended rows allowance ran.Spent → (n : ℕ) × Needs (meant c) n × (allowance < n)
  more_of allowance (ends.spent none) =
      let w = rounds-suffice (meant c) (well c p) in
      (w.0, w.2, needs_more (meant c) p.counts rows r allowance w.0 none w.2)

  pub holds_of : (n : ℕ) (area : List ℕ) → LaysMarks (Mark (kind_of rows) n) area → Holds (meant c) n area
  holds_of = same_lays (meant c) p.counts rows r

  -- THEOREM: their sheet is the closed one
  pub closed_of : (n : ℕ) (rows' : List ConceptSet) → Needs (meant c) n → sheet.Holds (Mark (kind_of rows) n) rows'
      → IsClosedSheet (meant c) rows'
  closed_of n rows' need h = record {
    rounds = n;
    needed = need;
    sheet = record {
      at = λ s u B hs hu hB.
          let w = h.at s u B hs hu hB in
          (λ x. mark_to (meant c) rows r n s u B (w.0 x), λ m. w.1 (mark_from (meant c) rows r n s u B m));
    };
  }

-- the ground of a collection
module _ (c : code.Collection) (roles : RoleOrder) (order : ConceptOrder) (elements : Elements) (g : IsGround c roles order elements) where
  abbrev t : Tables
  t = lists c

  abbrev 𝓒 : Collection
  𝓒 = meant c

  p : Passes c
  p = g.passes

  ok : NumbersDeclared 𝓒
  ok = p.numbers.declared

  above_of : AreAbove 𝓒 roles.above
  above_of = role_order c.counts t p.counts ok roles.above g.role_order

  -- THEOREM: the transposed order is that of the collection
  pub below-right : (below : List ConceptSet) → IsTransposed concept_width (concept_marks order.above) (concept_marks below)
      → AreBelow 𝓒 below
  below-right below = concept_order c.counts t p.counts ok order.above below g.concept_order

  -- the rows of the individuals are their concepts
  concepts_of : ConceptsOf 𝓒 elements.individuals
  concepts_of = record { at = λ a B ha hB. (to a B ha hB, from a B ha hB) }
    where
      to : (a : ℕ) (B : Concept) → a < most_individuals → ConceptDeclared c.counts B
          → Has (concepts_at elements.individuals a) (number_of B) → IndividualHas 𝓒 (individual a) B
      to a B ha hB h =
          let m = (tested (concepts_at elements.individuals a) (number_of B)).1 h in
          let s = (g.individuals.at a (number_of B) ha (concept-below c.counts t p.counts ok B hB)).0 m in
          let d = shown-declared c.counts t p.counts ok s in
          (concepts-mean c.counts t p.counts ok (concept_marks order.above) g.concept_order B hB g.individuals (individual a) d).0 m

      from : (a : ℕ) (B : Concept) → a < most_individuals → ConceptDeclared c.counts B → IndividualHas 𝓒 (individual a) B
          → Has (concepts_at elements.individuals a) (number_of B)
      from a B ha hB w =
          let d = typed-declared 𝓒 ok w.1 in
          (tested (concepts_at elements.individuals a) (number_of B)).0
          ((concepts-mean c.counts t p.counts ok (concept_marks order.above) g.concept_order B hB g.individuals (individual a) d).1 w)

  -- an individual or an unnamed element has both sides of an exclusion of concepts
  abbrev pub OfConcepts : Type 0
  OfConcepts = ConceptsClash t.concept-exclusions (concept_marks elements.individuals) (concept_marks order.above) elements.generating.0

  -- a pair has both sides of an exclusion of roles, told by edges of some facts and roles
  abbrev pub OfRoles : List ℕ → ℕ → Type 0
  OfRoles facts among = RolesClash t.role-exclusions (role_marks roles.above) elements.generating.0 facts among

  -- by edges whose roles have all that an exclusion concerns, one of the two is so exactly where the canonical model breaks an exclusion
  clash-right : (facts : List ℕ) (among : ℕ) → facts ≡ t.role-facts
      → ((R : ℕ) → IsConcerned t.role-exclusions (role_marks roles.above) R → Has among R)
      → (OfConcepts ⊎ OfRoles facts among) ↔ Contradiction 𝓒
  clash-right facts among e w =
      clash-mean c.counts t p.counts ok
      (record {
        concept_exclusions = t.concept-exclusions;
        role_exclusions = t.role-exclusions;
        roles = role_marks roles.above;
        concepts = concept_marks order.above;
        individuals = concept_marks elements.individuals;
        generating = elements.generating.0;
        facts = facts;
        among = among;
      })
      (record {
        concept_exclusions = refl;
        role_exclusions = refl;
        facts = e;
        roles = g.role_order;
        concepts = g.concept_order;
        individuals = g.individuals;
        generating = g.generating;
        among = w;
      })

  -- THEOREM: where the test of concepts says yes the canonical model breaks an exclusion
  pub concepts-clash : OfConcepts → Contradiction 𝓒
  concepts-clash k = (clash-right t.role-facts (2 ^ 64 - 1) refl (λ R i. bit_at_ones 64 R (omega (arith, i.within)))).0 (inl k)

  module _ (e : FactEdges) (concerned leading : ℕ) (facts : e.facts.numbers.now ≡ t.role-facts)
      (w : AreConcerned t.role-exclusions (role_marks roles.above) concerned) (u : IsUnion concerned leading e.roles.0) where
    has-concerned : (R : ℕ) → IsConcerned t.role-exclusions (role_marks roles.above) R → Has e.roles.0 R
    has-concerned R i = (u.member R).1 (inl ((w.member R).1 i))

    -- THEOREM: where the test of roles says yes it does, too
    pub roles-clash : OfRoles e.facts.numbers.now e.roles.0 → Contradiction 𝓒
    roles-clash k = (clash-right e.facts.numbers.now e.roles.0 facts has-concerned).0 (inr k)

    -- THEOREM: and where both say no it does not
    pub consistent : (OfConcepts → ⊥) → (OfRoles e.facts.numbers.now e.roles.0 → ⊥) → Contradiction 𝓒 → ⊥
    consistent no-concepts no-roles k = ⊎_elim no-concepts no-roles ((clash-right e.facts.numbers.now e.roles.0 facts has-concerned).1 k)

    -- THEOREM: the edges are those that walks need
    pub edges-right : (transitions : List (List StateSet)) → AreTransitions 𝓒.steps roles.above transitions → Covers transitions leading
        → AreFactEdges c transitions e
    edges-right transitions made leads = record {
      led = transitions_mean 𝓒 p.counts ok roles.above above_of transitions made;
      facts = facts;
      covers = record { at = λ R s q h l. (u.member R).1 (inr (leads.at R s q h l)) };
    }

  module _ (below : List ConceptSet) (b : AreBelow 𝓒 below) where
    -- THEOREM: the rows say what the collection says
    pub rows-right : (transitions : List (List StateSet)) (rows : Rows) → LeadDown 𝓒 transitions
        → IsStates c.counts most_states rows.states.0 → IsConcepts c.counts most_concepts rows.concepts.0
        → AreTests 𝓒.steps below rows.tests
        → AreEdgesTo rows.edges_to → AreEdges below transitions rows.edges → RowsOf 𝓒 rows
    rows-right transitions rows w s n tests to edges =
        rows_of 𝓒 p.counts ok below b transitions w rows
        (record { states = s; concepts = n; tests = tests; edges_to = to; edges = edges })

    below_of : BelowOf 𝓒 below
    below_of R B hr hB =
        let e = role-concept R in
        let w = b.concepts (base + R) B (omega arith) hB in
        rw e at w

    -- THEOREM: by the loops and the accepting states of the closed sheet, the transitions and the edges, walks tell of each declared ask
    -- whether it is yes
    pub paths-right : (r : Paths) (paths : PathsBelow) → AreFactEdges c r.transitions.now r.edges → IsClosedSheet 𝓒 paths.sheet.now
        → AreLoops elements.individuals paths.sheet.now r.loops.now.rows → paths.below.now ≡ below
        → paths.transitions.now ≡ r.transitions.now
        → AreFinals t.finals paths.finals.0 → r.question.start ≡ c.counts.start → r.question.finals ≡ paths.finals
        → AreAccepting elements.individuals paths r.question.accepting.now.rows → AreRight c r
    paths-right r paths e closed loops under by finals start ends accepting = record { each = each }
      where
        led : TransitionsOf 𝓒 r.transitions.now
        led = e.led

        tables : TablesOf 𝓒 closed.rounds r.loops.now.rows r.transitions.now
        tables =
            tables-mean c.counts t p.counts ok closed.rounds elements.individuals paths.sheet.now concepts_of closed.sheet r.loops.now.rows
            r.transitions.now loops led

        ends-in : AcceptingOf 𝓒 r.question.accepting.now.rows
        ends-in =
            accepting-mean c.counts t p.counts ok closed.rounds closed.needed elements.individuals concepts_of paths (rw under below_of)
            (rw by led)
            closed.sheet finals r.question.accepting.now.rows accepting

        each : (ask : Ask) → AskDeclared c.counts ask → StridesLead r ask ↔ IsYes 𝓒 ask
        each ask d =
            rw e.facts
            (asked-mean c.counts t p.counts ok p.tables.role-facts.few closed.rounds closed.needed r.loops.now.rows r.transitions.now
            tables r.question
            (question-mean c.counts t p.counts ok r.question start (rw ends finals) ends-in) (well c p) ask d)

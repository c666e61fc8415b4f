-- What the walk means to a caller: by the tables of a collection whose numbers are declared, with its closed sheet, it is the individuals'
-- walk.
use Rattle.std.specs.Prelude.{◌≡◌, ◌↔◌, List, ℕ, ◌/◌, ◌<◌, length}
use Rattle.std.proofs.Common.{ap, sym, arith}
use Rattle.kinds.specs.declared.Individual.{Individual}
use Rattle.kinds.specs.declared.State.{State}
use Rattle.kinds.specs.declared.Concept.{Concept}
use Rattle.kinds.specs.declared.Concept.TheVariants.{Name, Exists}
use Rattle.kinds.specs.declared.Counts.{Counts}
use Rattle.kinds.specs.Kinds.{most_individuals, most_states, individual, state, number_of, concept_of, number-concept, concept-number}
use Rattle.kinds.specs.Kinds.{CountsFit, IndividualDeclared, StateDeclared, ConceptDeclared}
use Rattle.sets.specs.Bits.{Has, concept_width}
use Rattle.sets.specs.declared.states.StateSet.{StateSet}
use Rattle.sets.specs.declared.concepts.ConceptSet.{ConceptSet}
use Rattle.edges.specs.Meant.{AreFew}
use Rattle.meaning.specs.Collection.{Collection, NumbersDeclared, WellFormed, step, role}
use Rattle.meaning.specs.Lent.{Tables, collection, records, final_width, final_at}
use Rattle.meaning.specs.Question as question
use Rattle.meaning.specs.Leaving.{Leaves}
use Rattle.meaning.specs.Asks.{IsYes}
use Rattle.laws.specs.Member.{◌∈◌}
use Rattle.laws.specs.Numbers.{numbered-in, numbered-out}
use Rattle.kinds.specs.declared.Ask.{Ask}
use Rattle.kinds.specs.declared.Ask.TheVariants.{Pair, From}
use Rattle.kinds.specs.Asks.{AskDeclared}
use Rattle.meaning.specs.Model.{individuals, canonical}
use Rattle.theory.specs.Run.{Run, stop, go}
use Rattle.meaning.specs.Lite.{lite, declared_states}
use Rattle.theory.specs.Tree as tree
use Rattle.theory.specs.Tree.{root}
use Rattle.meaning.proofs.Clash.{typed-valid}
use Rattle.meaning.specs.Walk.{Near, IndividualsWalk, IndividualsWalkOut}
use Rattle.meaning.proofs.ModelWalk.{edge-declared, path↔individuals-walk}
use Rattle.meaning.proofs.LeavingLaws.{leaves↔walk}
use Rattle.meaning.proofs.ReplyLaws.{loop-state}
use Rattle.meaning.proofs.Declared.{state-in, state-out, concept-in, concept-out, concept-declared, role-step-to, lite-sane}
use Rattle.theory.specs.Sheet.{Needed}
use Rattle.theory.proofs.SheetLaws.{mark-markable, mark→loop, loop→mark}
use Rattle.walk.specs.declared.question.Question.{Question}
use Rattle.walk.specs.Asks.{PairAsked, FromAsked, Asked}
use Rattle.walk.specs.Finals.{AreFinals}
use Rattle.sets.specs.Relations.{concepts_at, relation_at}
use Rattle.walk.specs.Loops.{LoopTo, AreLoops}
use Rattle.walk.specs.Strides.{TableStride, along, loop, Reaches}
use Rattle.walk.specs.Meant.{LoopOf, LoopsOf, TransitionsOf, TablesOf, QuestionOf, ConceptsOf, SheetOf, QuestionMeans, YesMeans}
use Rattle.walk.proofs.SetLaws.{within_row}
use Rattle.edges.proofs.EdgeLaws.{edge-role}
use Rattle.edges.proofs.Mean.{edge-means, model-edge}

module _ (c : Counts) (t : Tables) (fit : CountsFit c) (ok : NumbersDeclared (collection c t)) where
  abbrev 𝓒 : Collection
  𝓒 = collection c t

  -- a declared concept has a number below the width of a set
  pub number_low : (B : Concept) → ConceptDeclared c B → number_of B < concept_width
  unfolding number_of
  number_low (Name A) h = let f = fit.names in omega arith
  number_low (Exists R) h = let f = fit.roles in omega arith

  module _ (n : ℕ) (individuals sheet : List ConceptSet) (have : ConceptsOf 𝓒 individuals) (marked : SheetOf 𝓒 n sheet) where
    loop-to : (a s u : ℕ) → a < most_individuals → s < most_states → LoopTo sheet (concepts_at individuals a) s u
        → LoopOf 𝓒 n (individual a) (state s) (state u)
    loop-to a s u ha hs y =
        let B = concept_of y.concept in
        let m = (marked.at s u y.concept hs y.state y.low).0 y.marked in
        let d = concept-out c B (mark-markable (lite 𝓒) n (state s) (state u) B m).of in
        let h = y.has in
        (B, (have.at a B ha d).0 (rw (number-concept y.concept) h), m)

    loop-from : (a s u : ℕ) → a < most_individuals → s < most_states → LoopOf 𝓒 n (individual a) (state s) (state u)
        → LoopTo sheet (concepts_at individuals a) s u
    loop-from a s u ha hs y =
        let B = y.0 in
        let m = y.2 in
        let k = mark-markable (lite 𝓒) n (state s) (state u) B m in
        let d = concept-out c B k.of in
        let f = fit.states in
        let du = state-out c (state u) k.to in
        let low = number_low B d in
        let e = concept-number c fit.names B d in
        let hu : u < most_states = omega arith in
        record {
          state = hu;
          concept = number_of B;
          low = low;
          marked = (marked.at s u (number_of B) hs hu low).1 (rw e m);
          has = (have.at a B ha d).1 y.1;
        }

    -- THEOREM: made from the concepts of the individuals of a collection and from its sheet, the loops are those of the collection
    pub loops-mean : (loops : List (List StateSet)) → AreLoops individuals sheet loops → LoopsOf 𝓒 n loops
    loops-mean loops l a s u ha hs = let x = l.at a s u ha hs in (λ b. loop-to a s u ha hs (x.0 b), λ y. x.1 (loop-from a s u ha hs y))

    -- THEOREM: with the transitions of its question they are the tables of the collection
    pub tables-mean : (loops transitions : List (List StateSet)) → AreLoops individuals sheet loops → TransitionsOf 𝓒 transitions
        → TablesOf 𝓒 n loops transitions
    tables-mean loops transitions l w = record {
      loop_at = loops-mean loops l;
      loop_low = λ a s u h p. within_row most_states (relation_at loops a) s u (l.each a h) p;
      transition_at = w;
    }

  module _ (few : AreFew t.role-facts) (n : ℕ) (needed : Needed (lite 𝓒) n) (loops transitions : List (List StateSet))
      (r : TablesOf 𝓒 n loops transitions) where
    abbrev rf : List ℕ
    rf = t.role-facts

    -- a stride of the definition
    abbrev Step : Individual → State → Individual → State → Type 0
    Step = tree.Stride (lite 𝓒) (individuals 𝓒).has (Near 𝓒 (individuals 𝓒))

    declared : WellFormed 𝓒
    declared = record { counts = fit; numbers = ok }

    -- one stride leads from what is declared to what is declared
    stride-to : {a s b u : ℕ} → IndividualDeclared c (individual a) → StateDeclared c (state s) → TableStride loops transitions rf a s b u
        → IndividualDeclared c (individual b) × StateDeclared c (state u) × Step (individual a) (state s) (individual b) (state u)
    stride-to ha hs (along {a = a} {s = s} {t = u} edge l b) =
        let v = (r.transition_at edge.role.0 s u (edge-role rf a edge l)).0 b in
        let e = edge-means c t (individual a) edge l v.0 v.2 in
        ((edge-declared 𝓒 declared e).1, (ok.steps (step (state s) (role v.0) (state u)) v.1).2, tree.along (v.0, v.1, e))
    stride-to ha hs (loop {a = a} {s = s} {t = u} hu b) =
        let f = fit.states in
        let v = (r.loop_at a s u hu (omega arith)).0 b in (
          ha,
          state-out c (state u) (mark-markable (lite 𝓒) n (state s) (state u) v.0 v.2).to,
          tree.by v.0 v.1 (mark→loop (lite 𝓒) n (state s) (state u) v.0 v.2),
        )

    stride-from : {a b : Individual} {s u : State} → IndividualDeclared c a → StateDeclared c s → Step a s b u
        → IndividualDeclared c b × StateDeclared c u × TableStride loops transitions rf a.0 s.0 b.0 u.0
    stride-from ha hs (tree.along {a = a} {b = b} {s = s} {t = u} y) =
        let z = model-edge c t fit ok few a b y.0 y.2 in
        let edge = z.0 in
        let e = z.1 in
        let du = (ok.steps (step s (role y.0) u) y.1).2 in
        let m = (r.transition_at edge.role.0 s.0 u.0 (edge-role rf a.0 edge e.is)).1 (y.0, y.1, e.below) in
        let j : TableStride loops transitions rf a.0 s.0 edge.to.0 u.0 = along {s = s.0} {t = u.0} edge e.is m in
        let i = e.to in
        ((edge-declared 𝓒 declared y.2).1, du, rw i at j)
    stride-from ha hs (tree.by {a = a} {s = s} {t = u} B b k) =
        let f = fit.states in
        let g = fit.individuals in
        let m = loop→mark (lite 𝓒) (lite-sane 𝓒 ok) n needed.holds k (concept-in c B (concept-declared 𝓒 ok b.2 (typed-valid 𝓒 ok b.1)))
        (state-in c s hs) in
        let du = state-out c u (mark-markable (lite 𝓒) n s u B m).to in
        (ha, du, loop {a = a.0} {s = s.0} {t = u.0} (omega arith) ((r.loop_at a.0 s.0 u.0 (omega arith) (omega arith)).1 (B, b, m)))

    -- and so do all
    run-to : {a s b u : ℕ} → IndividualDeclared c (individual a) → StateDeclared c (state s)
        → Run (TableStride loops transitions rf) a s b u
        → Run Step (individual a) (state s) (individual b) (state u)
    run-to ha hs stop = stop
    run-to ha hs (go x p) = let v = stride-to ha hs x in go v.2 (run-to v.0 v.1 p)

    run-from : {a b : Individual} {s u : State} → IndividualDeclared c a → StateDeclared c s → Run Step a s b u
        → Run (TableStride loops transitions rf) a.0 s.0 b.0 u.0
    run-from ha hs stop = stop
    run-from ha hs (go x p) = let v = stride-from ha hs x in go v.2 (run-from v.0 v.1 p)

    -- THEOREM: from a declared individual and state, strides lead exactly where the individuals' walk does
    pub walk-mean : (wf : WellFormed 𝓒) (a b : Individual) (s u : State) → IndividualDeclared c a → StateDeclared c s
        → Reaches loops transitions rf a.0 s.0 b.0 u.0 ↔ IndividualsWalk 𝓒 a s b u
    walk-mean wf a b s u ha hs =
        let f = fit.states in
        let g = fit.individuals in
        (λ p. run-to ha hs p.strides, λ p. record { individual = omega arith; state = omega arith; strides = run-from ha hs p })

    -- THEOREM: strides lead from the first individual to the second in a final state exactly where the pair is yes
    module _ (q : Question) (of : QuestionOf 𝓒 q) (wf : WellFormed 𝓒) where
      path-mean : (a b : Individual) (u : State) → IndividualDeclared c a
          → Reaches loops transitions rf a.0 q.start.0 b.0 u.0 ↔ question.PathIn 𝓒 (canonical 𝓒) (root a) c.start (root b) u
      path-mean a b u ha =
          let e = of.start in
          let x = walk-mean wf a b c.start u ha fit.start in
          let y = path↔individuals-walk 𝓒 wf a b c.start u ha in
          (λ p. y.1 (x.0 (rw e at p)), λ p. rw e (x.1 (y.0 p)))

      pair-mean : (a b : Individual) → IndividualDeclared c a → PairAsked loops transitions rf q a.0 b.0 ↔ question.Yes 𝓒 a b
      pair-mean a b ha = (
        λ p. let u = state p.state in (u, (of.final u).0 p.final, (path-mean a b u ha).0 p.reaches),
        λ y. record { state = y.0.0; final = (of.final y.0).1 y.1; reaches = (path-mean a b y.0 ha).1 y.2 },
      )

      -- the walk stays where all is declared
      walk-declared : {a b : Individual} {s u : State} → IndividualsWalk 𝓒 a s b u → IndividualDeclared c a → s ∈ declared_states c
          → IndividualDeclared c b × (u ∈ declared_states c)
      walk-declared stop ha hs = (ha, hs)
      walk-declared (go (tree.along {s = s} {t = u} m) w) ha hs = walk-declared w (edge-declared 𝓒 wf m.2).1 (role-step-to 𝓒 ok s m.0 u m.1)
      walk-declared (go (tree.by B h l) w) ha hs = walk-declared w ha (loop-state 𝓒 wf l hs)

      -- THEOREM: strides lead from an individual to an accepts exactly where a path leaves it
      pub from-mean : (a : Individual) → IndividualDeclared c a → FromAsked loops transitions rf q a.0 ↔ Leaves 𝓒 a
      from-mean a ha = (λ p. (leaves↔walk 𝓒 wf a ha).1 (out p), λ l. back ((leaves↔walk 𝓒 wf a ha).0 l))
        where
          out : FromAsked loops transitions rf q a.0 → IndividualsWalkOut 𝓒 a c.start
          out p =
              let e = of.start in
              let r = p.reaches in
              record {
                to = individual p.to;
                last = state p.state;
                walk = (walk-mean wf a (individual p.to) c.start (state p.state) ha fit.start).0 (rw e at r);
                out = of.accepting.to p.to p.state p.low p.accepts;
              }

          back : IndividualsWalkOut 𝓒 a c.start → FromAsked loops transitions rf q a.0
          back w =
              let e = of.start in
              let d = walk-declared w.walk ha (state-in c c.start fit.start) in
              let f = fit.individuals in
              let low : w.to.0 < most_individuals = omega (arith, d.0) in
              record {
                to = w.to.0;
                state = w.last.0;
                low = low;
                accepts = of.accepting.from w.to.0 w.last.0 low (state-out c w.last d.1) w.out;
                reaches = rw e ((walk-mean wf a w.to c.start w.last ha fit.start).1 w.walk);
              }

      pub asked-mean : (ask : Ask) → AskDeclared c ask → Asked loops transitions rf q ask ↔ IsYes 𝓒 ask
      asked-mean (Pair a b) d = pair-mean a b d.0
      asked-mean (From a) d = from-mean a d

  -- the set of the states of its table has the final states of a collection
  pub finals-mean : (set : ℕ) → AreFinals t.finals set → (u : State) → Has set u.0 ↔ (u ∈ 𝓒.finals)
  unfolding records
  finals-mean set f u = (to, from)
    where
      to : Has set u.0 → u ∈ 𝓒.finals
      to p =
          let x = (f.member u.0).0 p in
          let i : final_at t.finals x.place ≡ u = ap state x.is in
          let m = numbered-in (final_at t.finals) (length t.finals / final_width) x.place x.below in
          rw i at m

      from : u ∈ 𝓒.finals → Has set u.0
      from m =
          let w = numbered-out (final_at t.finals) (length t.finals / final_width) m in
          let d = ok.finals u m in
          let g = fit.states in
          (f.member u.0).1 (record { place = w.0; below = w.1; is = ap (λ (s : State). s.0) (sym w.2); low = omega arith })

  -- with its start state and its accepting it is the question of the collection
  pub question-mean : QuestionMeans c t
  question-mean q e f x = record { start = e; final = finals-mean q.finals.0 f; accepting = x }

  -- THEOREM: by the tables of a collection, with its closed sheet and its question, the answer to a declared ask is yes exactly where it
  -- is in the canonical model
  pub yes-mean : AreFew t.role-facts → YesMeans c t
  yes-mean few n needed s e r q of ask d =
      rw e (asked-mean few n needed s.loops.now.rows s.transitions.now r q of (record { counts = fit; numbers = ok }) ask d)

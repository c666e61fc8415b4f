-- Repeated records mean nothing more: a call that is lent the same records has the same outcome.
use Rattle.std.specs.Prelude.{◌≡◌, ◌↔◌, List, ℕ, suc}
use Rattle.kinds.specs.declared.State.{State}
use Rattle.kinds.specs.declared.Concept.{Concept}
use Rattle.kinds.specs.declared.Counts.{Counts}
use Rattle.kinds.specs.declared.Answer.{Answer}
use Rattle.laws.specs.Member.{◌∈◌}
use Rattle.laws.specs.Rounds.{least-same}
use Rattle.meaning.specs.Collection.{Collection}
use Rattle.theory.specs.Sheet.{Mark, Unchanged, Needed}
use Rattle.meaning.specs.Lite.{lite}
use Rattle.meaning.specs.Lent.{Call, Tables, collection, collection_of, NumbersFit, TablesOk, Sound}
use Rattle.meaning.specs.Layout.{Lays}
use Rattle.meaning.specs.Outcome.{Outcome, bad-count, bad-table, bad-number, bad-ask, contradiction, spent, says-yes, says-no, Breaks, Reached}
use Rattle.meaning.specs.Demands.{Larger}
use Rattle.meaning.specs.SameSets.{step_kinds, SameSets}
use Rattle.theory.proofs.MarksGrow.{mark-grows}
use Rattle.meaning.proofs.Larger.{lite-grows, contradiction-grows}
use Rattle.meaning.proofs.AskLaws.{ask-grows}
use Rattle.meaning.proofs.OutcomeExists.{sound-well-formed}
use Rattle.meaning.proofs.OutcomeLaws.{outcome-unique}

module _ (k : Counts) (t u : Tables) where
  abbrev 𝓒 : Collection
  𝓒 = collection k t

  abbrev 𝓓 : Collection
  𝓓 = collection k u

  module _ (fewer : Larger 𝓓 𝓒) where
    -- what is asked of each record of the one is asked of no other by the other
    numbers-kept : ((x : ℕ) → x ∈ step_kinds u → x ∈ step_kinds t) → NumbersFit k t → NumbersFit k u
    numbers-kept of n =
        let d = n.declared in
        record {
          declared = record {
            concept-rules = λ r m. d.concept-rules r (fewer.concept-rules r m);
            concept-exclusions = λ r m. d.concept-exclusions r (fewer.concept-exclusions r m);
            role-rules = λ r m. d.role-rules r (fewer.role-rules r m);
            role-exclusions = λ r m. d.role-exclusions r (fewer.role-exclusions r m);
            concept-facts = λ r m. d.concept-facts r (fewer.concept-facts r m);
            role-facts = λ r m. d.role-facts r (fewer.role-facts r m);
            steps = λ r m. d.steps r (fewer.steps r m);
            finals = λ r m. d.finals r (fewer.finals r m);
          };
          step-kinds = λ x m. n.step-kinds x (of x m);
        }

  -- in each round every mark stands in a larger collection with the same counts
  marks-kept : Larger 𝓒 𝓓 → (n : ℕ) (s t : State) (B : Concept) → Mark (lite 𝓒) n s t B → Mark (lite 𝓓) n s t B
  marks-kept more = mark-grows (lite-grows more) (λ s t B m. record { from = m.from; to = m.to; of = m.of })

module _ (c : Call) (t : Tables) (s : SameSets c t) where
  -- the same call with these tables
  abbrev d : Call
  d = record c { tables = t }

  marks : (n : ℕ) (s t : State) (B : Concept) → Mark (lite (collection_of c)) n s t B ↔ Mark (lite (collection_of d)) n s t B
  marks n a b B = (marks-kept c.counts c.tables t s.more n a b B, marks-kept c.counts t c.tables s.fewer n a b B)

  shaped : TablesOk c → TablesOk d
  shaped h = record { tables = s.shapes.0 h.tables; area = h.area; spare = h.spare }

  sound-kept : Sound c → Sound d
  sound-kept h = record {
    counts = h.counts;
    tables = shaped h.tables;
    numbers = numbers-kept c.counts c.tables t s.fewer (λ x. (s.kinds x).1) h.numbers;
    ask = h.ask;
  }

  breaks-same : Sound c → Breaks c ↔ Breaks d
  breaks-same h =
      let w = sound-well-formed c h in
      let w' = sound-well-formed d (sound-kept h) in
      (contradiction-grows s.more w w', contradiction-grows s.fewer w' w)

  reached-same : Sound c → Reached c ↔ Reached d
  reached-same h =
      let w = sound-well-formed c h in
      let w' = sound-well-formed d (sound-kept h) in
      (ask-grows s.more w w' c.ask h.ask h.ask, ask-grows s.fewer w' w c.ask h.ask h.ask)

  needed-kept : (n : ℕ) → Needed (lite (collection_of c)) n → Needed (lite (collection_of d)) n
  needed-kept =
      least-same (Unchanged (lite (collection_of c))) (Unchanged (lite (collection_of d)))
      (λ n still a b B m. (marks n a b B).0 (still a b B ((marks (suc n) a b B).1 m)))
      (λ n still a b B m. (marks n a b B).1 (still a b B ((marks (suc n) a b B).0 m)))

  sheet-kept : (n : ℕ) (area : List ℕ) → Lays (Mark (lite (collection_of c)) n) area → Lays (Mark (lite (collection_of d)) n) area
  sheet-kept n area l = record {
    long = l.long;
    bytes = l.bytes;
    marks = λ p. (
      λ e. let w = (l.marks p).0 e in (w.0, w.1, w.2, (marks n w.0 w.1 w.2).0 w.3, w.4),
      λ w. (l.marks p).1 (w.0, w.1, w.2, (marks n w.0 w.1 w.2).1 w.3, w.4),
    );
  }

  -- THEOREM: what is an outcome of the call with the one is an outcome with the other
  pub same-sets : {r : Answer} {x y : List ℕ} → Outcome c r x y → Outcome d r x y
  same-sets (bad-count h) = bad-count h
  same-sets (bad-table k h) = bad-table k (λ w. h (record { tables = s.shapes.1 w.tables; area = w.area; spare = w.spare }))
  same-sets (bad-number k w h) = bad-number k (shaped w) (λ n. h (numbers-kept c.counts t c.tables s.more (λ x. (s.kinds x).0) n))
  same-sets (bad-ask k w n h) = bad-ask k (shaped w) (numbers-kept c.counts c.tables t s.fewer (λ x. (s.kinds x).1) n) h
  same-sets (contradiction h b) = contradiction (sound-kept h) ((breaks-same h).0 b)
  same-sets (spent {n = n} {area = x} h sane need l lays) =
      spent (sound-kept h) (λ b. sane ((breaks-same h).1 b)) (needed-kept n need) l (sheet-kept c.allowance x lays)
  same-sets (says-yes {n = n} {area = x} h sane need l lays y) =
      says-yes (sound-kept h) (λ b. sane ((breaks-same h).1 b)) (needed-kept n need) l (sheet-kept n x lays) ((reached-same h).0 y)
  same-sets (says-no {n = n} {area = x} h sane need l lays y) =
      says-no (sound-kept h) (λ b. sane ((breaks-same h).1 b)) (needed-kept n need) l (sheet-kept n x lays) (λ w. y ((reached-same h).1 w))

  -- THEOREM: a repeated record means nothing more: answer, count and every byte of both areas are the same
  pub repeats-mean-nothing : {r q : Answer} {x y u v : List ℕ} → Outcome c r x y → Outcome d q u v → (q ≡ r) × (u ≡ x) × (v ≡ y)
  repeats-mean-nothing o p = outcome-unique d p (same-sets o)

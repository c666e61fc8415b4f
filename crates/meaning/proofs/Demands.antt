-- What is demanded of a library call (docs/RULES.md, section 9) holds of its outcome.
use Rattle.std.specs.Prelude.{◌≡◌, refl, ◌↔◌, List, ℕ, ◌+◌, ◌*◌, ◌-◌, ◌≤◌, ◌<◌}
use Rattle.std.proofs.Common.{inl, inr, mul-le-mul, arith}
use Rattle.kinds.specs.declared.State.{State}
use Rattle.kinds.specs.declared.Concept.{Concept}
use Rattle.kinds.specs.declared.Answer.{Answer}
use Rattle.kinds.specs.declared.Counts.{Counts}
use Rattle.kinds.specs.Kinds.{CountsFit, StateDeclared, ConceptDeclared}
use Rattle.kinds.specs.Answer.{answer_number}
use Rattle.meaning.specs.Collection.{Collection, WellFormed}
use Rattle.theory.specs.Sheet.{Mark, Needed}
use Rattle.theory.proofs.SheetLaws.{rounds-unique, mark→loop, loop→mark}
use Rattle.theory.specs.Tree.{root}
use Rattle.meaning.specs.Lite.{lite}
use Rattle.meaning.specs.Model.{tree_of}
use Rattle.meaning.specs.Question.{PathIn}
use Rattle.meaning.proofs.AskLaws.{ask↔word, ask-grows}
use Rattle.meaning.proofs.ModelWalk.{loop↔tree_of}
use Rattle.meaning.proofs.Declared.{concepts-count, states-count, state-in, concept-in, lite-sane}
use Rattle.theory.proofs.Tests.{rounds-bound}
use Rattle.meaning.proofs.LiteTests.{lite_tests, lite-decides}
use Rattle.meaning.specs.Lent.{Call, collection_of, Sound}
use Rattle.meaning.specs.Outcome.{Outcome, bad-count, bad-table, bad-number, bad-ask, contradiction, spent, says-yes, says-no, Breaks, Reached, RoundsNeeded}
use Rattle.meaning.proofs.OutcomeExists.{sound-well-formed}
use Rattle.meaning.specs.Demands.{most_rounds, Enough, AsModelSays, Larger, Grown, allowed}
use Rattle.meaning.proofs.Larger.{contradiction-grows}

-- never more than 126,976
pub most-rounds : (c : Counts) → CountsFit c → most_rounds c ≤ 126976
most-rounds c fit =
    let a : c.names + 2 * c.roles ≤ 128 = omega (arith, fit.names, fit.roles) in
    let b : c.states - 1 ≤ 31 = omega (arith, fit.states) in
    mul-le-mul (mul-le-mul a fit.states) b

module _ (𝓒 : Collection) (ok : WellFormed 𝓒) where
  -- THEOREM: the rounds needed exist, and are at most concepts × states × (states − 1)
  pub rounds-suffice : (n : ℕ) × (n ≤ most_rounds 𝓒.counts) × Needed (lite 𝓒) n
  rounds-suffice =
      let w = rounds-bound (lite 𝓒) (lite_tests 𝓒) (lite-decides 𝓒 ok.numbers) (lite-sane 𝓒 ok.numbers) in
      (w.0, rw (concepts-count 𝓒.counts, states-count 𝓒.counts) at w.1, w.2)

  -- THEOREM: a mark's meaning: in the tree grown from one element whose only concept is B, and what follows from B,
  -- a path leads from that element in s back to it in t
  pub mark-means : (n : ℕ) → Needed (lite 𝓒) n → (s t : State) (B : Concept) → StateDeclared 𝓒.counts s → ConceptDeclared 𝓒.counts B
      → Mark (lite 𝓒) n s t B ↔ PathIn 𝓒 (tree_of 𝓒 B) (root tt) s (root tt) t
  mark-means n needed s t B h d = (
    λ m. (loop↔tree_of 𝓒 B s t).0 (mark→loop (lite 𝓒) n s t B m),
    λ p. loop→mark (lite 𝓒) (lite-sane 𝓒 ok.numbers) n needed.holds ((loop↔tree_of 𝓒 B s t).1 p) (concept-in 𝓒.counts B d) (state-in 𝓒.counts s h),
  )

-- yes, no and contradiction as the canonical model says
pub data Verdict (c : Call) (r : Answer) : Type 0 where
  is-contradiction : answer_number r ≡ 2 → Breaks c → Verdict c r
  is-yes : answer_number r ≡ 1 → (Breaks c → ⊥) → Reached c → Verdict c r
  is-no : answer_number r ≡ 0 → (Breaks c → ⊥) → (Reached c → ⊥) → Verdict c r

module _ (c : Call) where
  -- an allowance of concepts × states × (states − 1) is always enough
  pub most-enough : Sound c → most_rounds c.counts ≤ c.allowance → Enough c
  most-enough s h = let w = rounds-suffice (collection_of c) (sound-well-formed c s) in (w.0, w.2, omega (arith, w.1))

  not-spent : Enough c → {n : ℕ} → RoundsNeeded c n → c.allowance < n → ⊥
  not-spent e {n} need h = let q = rounds-unique (lite (collection_of c)) e.0 n e.1 need in omega (arith, e.2)

  -- with enough rounds a sound call answers one of three
  verdict : {r : Answer} {x y : List ℕ} → Sound c → Enough c → Outcome c r x y → Verdict c r
  verdict s e (bad-count h) = absurd (h s.counts)
  verdict s e (bad-table k h) = absurd (h s.tables)
  verdict s e (bad-number k t h) = absurd (h s.numbers)
  verdict s e (bad-ask k t n h) = absurd (h s.ask)
  verdict s e (contradiction k h) = is-contradiction refl h
  verdict s e (spent k sane need h lays) = absurd (not-spent e need h)
  verdict s e (says-yes k sane need h lays reached) = is-yes refl sane reached
  verdict s e (says-no k sane need h lays missed) = is-no refl sane missed

  decided : {r : Answer} → Verdict c r → AsModelSays c r
  decided (is-contradiction n h) = record {
    contradiction = (λ m. h, λ b. n);
    yes = λ sane. absurd (sane h);
    no = λ sane. absurd (sane h);
  }
  decided (is-yes n sane reached) = let w = (ask↔word (collection_of c) c.ask).0 reached in record {
    contradiction = (λ m. absurd (omega arith), λ b. absurd (sane b));
    yes = λ u. (λ m. w, λ v. n);
    no = λ u. (λ m. absurd (omega arith), λ v. absurd (v w));
  }
  decided (is-no n sane missed) = let w = (ask↔word (collection_of c) c.ask).1 in record {
    contradiction = (λ m. absurd (omega arith), λ b. absurd (sane b));
    yes = λ u. (λ m. absurd (omega arith), λ v. absurd (missed (w v)));
    no = λ u. (λ m v. missed (w v), λ v. n);
  }

  -- THEOREM: with an allowance of at least the rounds needed, the outcome of a well-formed call is contradiction exactly
  -- when the canonical model breaks an exclusion, and otherwise yes exactly when a path in it, as it is asked for,
  -- spells a word of the question
  pub says-what-the-model-says : {r : Answer} {x y : List ℕ} → Sound c → Enough c → Outcome c r x y → AsModelSays c r
  says-what-the-model-says s e o = decided (verdict s e o)

-- growth, between two collections: a shared start state and ask, the records of the first among those of the second
module _ (c d : Call) (more : Larger (collection_of c) (collection_of d)) (same : c.ask ≡ d.ask) where
  module _ (s : Sound c) (s' : Sound d) where
    breaks-kept : Breaks c → Breaks d
    breaks-kept h = contradiction-grows more (sound-well-formed c s) (sound-well-formed d s') h

    reached-kept : Reached c → Reached d
    reached-kept h =
        let i = s'.ask in
        let k = ask-grows more (sound-well-formed c s) (sound-well-formed d s') c.ask s.ask (rw (← same) at i) h in
        rw same at k

    grown : {r q : Answer} → Verdict c r → Verdict d q → Grown r q
    grown (is-contradiction n h) (is-contradiction m k) = record { yes-kept = λ u. absurd (omega arith); contradiction-kept = λ u. m; no-before = λ u. absurd (omega arith) }
    grown (is-contradiction n h) (is-yes m sane k) = absurd (sane (breaks-kept h))
    grown (is-contradiction n h) (is-no m sane k) = absurd (sane (breaks-kept h))
    grown (is-yes n sane h) (is-contradiction m k) = record { yes-kept = λ u. inr m; contradiction-kept = λ u. m; no-before = λ u. absurd (omega arith) }
    grown (is-yes n sane h) (is-yes m u k) = record { yes-kept = λ v. inl m; contradiction-kept = λ v. absurd (omega arith); no-before = λ v. absurd (omega arith) }
    grown (is-yes n sane h) (is-no m u k) = absurd (k (reached-kept h))
    grown (is-no n sane h) (is-contradiction m k) = record { yes-kept = λ u. inr m; contradiction-kept = λ u. m; no-before = λ u. n }
    grown (is-no n sane h) (is-yes m u k) = record { yes-kept = λ v. inl m; contradiction-kept = λ v. absurd (omega arith); no-before = λ v. n }
    grown (is-no n sane h) (is-no m u k) = record { yes-kept = λ v. absurd (omega arith); contradiction-kept = λ v. absurd (omega arith); no-before = λ v. n }

    -- THEOREM: the larger collection's answer has grown from the smaller one's
    pub grows : Enough c → Enough d → {r q : Answer} {x y x' y' : List ℕ} → Outcome c r x y → Outcome d q x' y' → Grown r q
    grows e e' o p = grown (verdict c s e o) (verdict d s' e' p)

module _ (c : Call) (n : ℕ) (h : c.allowance ≤ n) where
  sound-allowed : Sound c → Sound (allowed c n)
  sound-allowed s = record {
    counts = s.counts;
    tables = record { tables = s.tables.tables; area = s.tables.area; spare = s.tables.spare };
    numbers = record { declared = s.numbers.declared; step-kinds = s.numbers.step-kinds };
    ask = s.ask;
  }

  -- THEOREM: an answer 0, 1 or 2 at one allowance returns, with the same count and areas, at every larger one
  pub returns : {r : Answer} {x y : List ℕ} → Outcome c r x y → answer_number r ≤ 2 → Outcome (allowed c n) r x y
  returns (bad-count k) l = absurd (omega arith)
  returns (bad-table k t) l = absurd (omega arith)
  returns (bad-number k t u) l = absurd (omega arith)
  returns (bad-ask k t u v) l = absurd (omega arith)
  returns (contradiction s b) l = contradiction (sound-allowed s) b
  returns (spent s sane need k lays) l = absurd (omega arith)
  returns (says-yes s sane need k lays reached) l = says-yes (sound-allowed s) sane need (omega arith) lays reached
  returns (says-no s sane need k lays missed) l = says-no (sound-allowed s) sane need (omega arith) lays missed

-- Each clause of a call follows from its outcome.
use Rattle.std.specs.Prelude.{◌≡◌, ◌≢◌, refl, ◌↔◌, Option, Some, None, IfSome, IfNone, List, ℕ, ◌≤◌, ◌<◌}
use Rattle.std.proofs.Common.{sym, ◌∙◌, subst, arith}
use Rattle.kinds.specs.declared.Answer.{Answer}
use Rattle.kinds.specs.declared.Answer.TheVariants.{No, Yes, Contradiction, AllowanceSpent, BadCount, BadTable, BadNumber, BadAsk}
use Rattle.kinds.specs.Answer.{answer_number, sheet_rounds, number-listed, seven-never}
use Rattle.meaning.specs.Lent.{Tables, Call, collection_of, CountsOk, Sound}
use Rattle.meaning.specs.Layout.{zeros}
use Rattle.meaning.specs.Lite.{lite}
use Rattle.meaning.specs.SameSets.{SameSets}
use Rattle.meaning.specs.Deeds.{SameButDeeds, lent_with}
use Rattle.meaning.specs.Outcome.{Outcome, Breaks, HoldsSheet, bad-count, bad-table, bad-number, bad-ask, contradiction, spent, says-yes}
use Rattle.meaning.specs.Outcome.{says-no}
use Rattle.meaning.specs.Worlds.{model_world}
use Rattle.theory.proofs.SheetLaws.{rounds-unique}
use Rattle.meaning.proofs.OutcomeLaws.{outcome-unique}
use Rattle.meaning.proofs.OutcomeExists.{holds-sheet, sound-well-formed}
use Rattle.meaning.specs.Demands.{Enough, AsModelSays, GrowsTo, Grown, allowed, most_rounds}
use Rattle.meaning.proofs.Demands.{says-what-the-model-says, most-enough, rounds-suffice}
use Rattle.meaning.proofs.Demands as theorem
use Rattle.meaning.proofs.Repeated.{repeats-mean-nothing}
use Rattle.meaning.proofs.DeedLaws.{deeds-decide-nothing}
use Rattle.meaning.proofs.AskLaws.{ask-in, ask-out}
use Rattle.meaning.proofs.Forced.{model-keeps, model-respects, no-world}
use Rattle.index.specs.Clauses.{FailsTables, FailsNumbers, FailsAsk, IsContradicted, Settles, RunsOut, IsYesAfter, IsNoAfter, SameOutcome}
use Rattle.meaning.proofs.LayoutLaws.{lays-once}
use Rattle.index.specs.Once.{AnswerFixesAreas}
use Rattle.index.specs.Worlds.{world_of, IsWorldOf, HasPath, IsForced, HasNoWorld}

-- what comes with the answer 3, 1 or 0 and the count n
module _ (c : Call) (r : Answer) (x y : List ℕ) where
  -- the clauses, as a record
  pub record Clauses : Type 0 where
    pub bad_count : (r ≡ BadCount) ↔ (¬ CountsOk c)
    pub bad_table : (r ≡ BadTable) ↔ FailsTables c
    pub bad_number : (r ≡ BadNumber) ↔ FailsNumbers c
    pub bad_ask : (r ≡ BadAsk) ↔ FailsAsk c
    pub contradiction : (r ≡ Contradiction) ↔ IsContradicted c
    pub spent : (n : ℕ) → (r ≡ AllowanceSpent n) ↔ RunsOut c n
    pub yes : (n : ℕ) → (r ≡ Yes n) ↔ IsYesAfter c n
    pub no : (n : ℕ) → (r ≡ No n) ↔ IsNoAfter c n
    pub sheet : IfSome (sheet_rounds r) (λ n. HoldsSheet c n x)
    pub cleared : IfSome (sheet_rounds r) (λ n. y ≡ zeros)
    pub untouched : IfNone (sheet_rounds r) (x ≡ c.area)
    pub spared : IfNone (sheet_rounds r) (y ≡ c.spare)
    pub listed : answer_number r ≤ 8
    pub seven_never : answer_number r ≢ 7
    pub fixed : (q : Answer) (u v : List ℕ) → Outcome c q u v → SameOutcome q u v r x y
    pub model : Sound c → Enough c → AsModelSays c r
    pub enough : Sound c → most_rounds c.counts ≤ c.allowance → Enough c
    pub most : (n : ℕ) → Settles c n → n ≤ most_rounds c.counts
    pub forced : (n : ℕ) → r ≡ Yes n → IsForced c
    pub no_world : r ≡ Contradiction → HasNoWorld c
    pub a_world : IfSome (sheet_rounds r) (λ n. IsWorldOf c (model_world (collection_of c)))
    pub not_forced : (n : ℕ) → r ≡ No n → HasPath c (model_world (collection_of c)) → ⊥
    pub same_sets : (t : Tables) (q : Answer) (u v : List ℕ) → SameSets c t → Outcome (record c { tables = t }) q u v
        → (q ≡ r) × (u ≡ x) × (v ≡ y)
    pub deeds : (t : Tables) → SameButDeeds c.tables t → Outcome (lent_with c t) r x y
    pub grows : (d : Call) (q : Answer) (u v : List ℕ) → GrowsTo c d → Outcome d q u v → Sound c → Enough c → Sound d → Enough d → Grown r q
    pub returns : (n : ℕ) → c.allowance ≤ n → answer_number r ≤ 2 → Outcome (allowed c n) r x y

module _ (c : Call) where
  -- an outcome is the only one: each answer whose own outcome holds is the answer
  only : {r q : Answer} {x y u v : List ℕ} → Outcome c r x y → Outcome c q u v → r ≡ q
  only o p = (outcome-unique c o p).0

  -- what an answer says, read off its outcome
  abbrev Says : Answer → Type 0
  Says BadCount = CountsOk c → ⊥
  Says BadTable = FailsTables c
  Says BadNumber = FailsNumbers c
  Says BadAsk = FailsAsk c
  Says Contradiction = IsContradicted c
  Says (AllowanceSpent n) = RunsOut c n
  Says (Yes n) = IsYesAfter c n
  Says (No n) = IsNoAfter c n

  says : {r : Answer} {x y : List ℕ} → Outcome c r x y → Says r
  says (bad-count h) = h
  says (bad-table k h) = (k, h)
  says (bad-number k t h) = (k, t, h)
  says (bad-ask k t n h) = (k, t, n, h)
  says (contradiction s b) = (s, b)
  says (spent {n = n} s b need h lays) = (refl, (n, record { sound = s; sane = b; needed = need }, h))
  says (says-yes s b need h lays y) = (record { sound = s; sane = b; needed = need }, h, y)
  says (says-no s b need h lays y) = (record { sound = s; sane = b; needed = need }, h, y)

  says-as : {r q : Answer} → Says r → r ≡ q → Says q
  says-as h e = subst Says e h

  sheet-of : {r : Answer} {x y : List ℕ} → Outcome c r x y → IfSome (sheet_rounds r) (λ n. HoldsSheet c n x)
  sheet-of (bad-count h) = tt
  sheet-of (bad-table h k) = tt
  sheet-of (bad-number h k l) = tt
  sheet-of (bad-ask h k l m) = tt
  sheet-of (contradiction t b) = tt
  sheet-of (spent t b r l h) = h
  sheet-of (says-yes t b r l h y) = h
  sheet-of (says-no t b r l h y) = h

  cleared-by : {r : Answer} {x y : List ℕ} → Outcome c r x y → IfSome (sheet_rounds r) (λ n. y ≡ zeros)
  cleared-by (bad-count h) = tt
  cleared-by (bad-table h k) = tt
  cleared-by (bad-number h k l) = tt
  cleared-by (bad-ask h k l m) = tt
  cleared-by (contradiction t b) = tt
  cleared-by (spent t b r l h) = refl
  cleared-by (says-yes t b r l h y) = refl
  cleared-by (says-no t b r l h y) = refl

  untouched-by : {r : Answer} {x y : List ℕ} → Outcome c r x y → IfNone (sheet_rounds r) (x ≡ c.area)
  untouched-by (bad-count h) = refl
  untouched-by (bad-table h k) = refl
  untouched-by (bad-number h k l) = refl
  untouched-by (bad-ask h k l m) = refl
  untouched-by (contradiction t b) = refl
  untouched-by (spent t b r l h) = tt
  untouched-by (says-yes t b r l h y) = tt
  untouched-by (says-no t b r l h y) = tt

  spared-by : {r : Answer} {x y : List ℕ} → Outcome c r x y → IfNone (sheet_rounds r) (y ≡ c.spare)
  spared-by (bad-count h) = refl
  spared-by (bad-table h k) = refl
  spared-by (bad-number h k l) = refl
  spared-by (bad-ask h k l m) = refl
  spared-by (contradiction t b) = refl
  spared-by (spent t b r l h) = tt
  spared-by (says-yes t b r l h y) = tt
  spared-by (says-no t b r l h y) = tt

  -- the canonical model is a world of a sound call that breaks nothing
  world : Sound c → (¬ Breaks c) → IsWorldOf c (model_world (collection_of c))
  world s sane = record {
    keeps = model-keeps (collection_of c) (sound-well-formed c s).numbers;
    respects = model-respects
        (collection_of c) sane;
  }

  world-of : {r : Answer} {x y : List ℕ} → Outcome c r x y → IfSome (sheet_rounds r) (λ n. IsWorldOf c (model_world (collection_of c)))
  world-of (bad-count h) = tt
  world-of (bad-table h k) = tt
  world-of (bad-number h k l) = tt
  world-of (bad-ask h k l m) = tt
  world-of (contradiction t b) = tt
  world-of (spent t b r l h) = world t b
  world-of (says-yes t b r l h y) = world t b
  world-of (says-no t b r l h y) = world t b

  beyond : {r : Answer} {x y : List ℕ} (n : ℕ) → Outcome c r x y → RunsOut c n → r ≡ AllowanceSpent n
  beyond n o w =
      let s = w.1.1 in
      let e = w.0 in
      let m : c.allowance < w.1.0 = rw e at w.1.2 in
      rw e (only o (spent s.sound s.sane s.needed m (holds-sheet c s.sound c.allowance)))

  -- THEOREM: an outcome is as each clause says
  pub clauses : (r : Answer) (x y : List ℕ) → Outcome c r x y → Clauses c r x y
  clauses r x y o = record {
    bad_count = (λ e. says-as (says o) e, λ h. only o (bad-count h));
    bad_table = (λ e. says-as (says o) e, λ h. only o (bad-table h.0 h.1));
    bad_number = (λ e. says-as (says o) e, λ h. only o (bad-number h.0 h.1 h.2));
    bad_ask = (λ e. says-as (says o) e, λ h. only o (bad-ask h.0 h.1 h.2 h.3));
    contradiction = (λ e. says-as (says o) e, λ h. only o (contradiction h.0 h.1));
    spent = λ n. (λ e. says-as (says o) e, λ h. beyond n o h);
    yes = λ n. (λ e. says-as (says o) e, λ h. let s = h.0 in only o (says-yes s.sound s.sane s.needed h.1 (holds-sheet c s.sound n) h.2));
    no = λ n. (λ e. says-as (says o) e, λ h. let s = h.0 in only o (says-no s.sound s.sane s.needed h.1 (holds-sheet c s.sound n) h.2));
    sheet = sheet-of o;
    cleared = cleared-by o;
    untouched = untouched-by o;
    spared = spared-by o;
    listed = number-listed r;
    seven_never = seven-never r;
    fixed = λ q u v p. let e = outcome-unique c p o in (e.0, e.1, e.2);
    model = λ s e. says-what-the-model-says c s e o;
    enough = λ s h. most-enough c s h;
    most = λ n s.
        let w = rounds-suffice (collection_of c) (sound-well-formed c s.sound) in
        let e = rounds-unique (lite (collection_of c)) n w.0 s.needed w.2 in
        omega (arith, e, w.1);
    forced = λ n e w is. ask-in (collection_of c) (world_of w) is.keeps c.ask (says-as (says o) e).2;
    no_world = λ e w is. let s = says-as (says o) e in no-world (collection_of c) (world_of w) s.1 is;
    a_world = world-of o;
    not_forced = λ n e p. let s = says-as (says o) e in s.2 (ask-out (collection_of c) c.ask p);
    same_sets = λ t q u v s p. repeats-mean-nothing c t s o p;
    deeds = λ t s. (deeds-decide-nothing c t s r x y).0 o;
    grows = λ d q u v g p s e s' e'. theorem.grows c d g.larger g.ask s s' e e' o p;
    returns = λ n h k. theorem.returns c n h o k;
  }

-- THEOREM: two calls that differ only in what is asked, and have one answer, leave the same in both areas
pub answer-fixes-areas : AnswerFixesAreas
answer-fixes-areas c ask r x y u v o p =
    let a = clauses c r x y o in
    let b = clauses (record c { ask = ask }) r u v p in
    by (sheet_rounds r) a.sheet a.cleared a.untouched a.spared b.sheet b.cleared b.untouched b.spared
  where
    by : (s : Option ℕ) → IfSome s (λ n. HoldsSheet c n x) → IfSome s (λ n. y ≡ zeros) → IfNone s (x ≡ c.area) → IfNone s (y ≡ c.spare)
        → IfSome s (λ n. HoldsSheet c n u) → IfSome s (λ n. v ≡ zeros) → IfNone s (u ≡ c.area) → IfNone s (v ≡ c.spare)
        → SameOutcome r x y r u v
    by (Some n) h z i j h' z' i' j' = (refl, lays-once _ x u h h', z ∙ sym z')
    by None h z i j h' z' i' j' = (refl, i ∙ sym i', j ∙ sym j')

-- Lines that differ only in deed numbers are found to be the same, and what their frames fill differs only so.
use Rattle.std.specs.Prelude.{ℕ, zero, suc, ◌+◌, ◌*◌, ◌/◌, ◌<◌, ◌≡◌, ◌≢◌, ◌↔◌, refl, List, [], ◌∷◌, ◌++◌, Option, None, Some, IsSome, Result, Ok, Err, unwrap_or, get_or, length}
use Rattle.std.proofs.Common.{sym, ap, ap₂, ◌∙◌, arith, length-append}
use Rattle.std.proofs.Math.Nat.{mul-suc, mul-zero, mul-one}
use Rattle.std.proofs.lemmas.List.{get_or_append_left, get_or-append-add}
use Rattle.std.proofs.lemmas.List.Concat.{flat_map-cons}
use Rattle.meaning.specs.Lent.{concept_fact_width, role_fact_width}
use Rattle.meaning.specs.Deeds.{SameButLast, SameButDeeds}
use Rattle.expression.specs.Listed.{Listed}
use Rattle.frames.specs.declared.Frame.{Frame}
use Rattle.frames.specs.declared.Frame.TheVariants.{Declared, ConceptFact, RoleFact, RoleStep, TestStep, Final, Allowance, Expression, Salvage, ListedMark}
use Rattle.frames.proofs.Once.{frame-once}
use Rattle.reading.specs.declared.Refusal.{Refusal}
use Rattle.reading.specs.declared.Refusal.TheVariants.{OutOfPlace}
use Rattle.reading.specs.Tables.{Kind, concept_rules, concept_exclusions, role_rules, role_exclusions, concept_facts, role_facts, steps, finals, listed, record_in, width, entries, table, declared_by, allowance_given, expression_given, salvages}
use Rattle.reading.specs.File.{IsQuestionOf, tables_of}
use Rattle.reading.specs.Judged.{IsOpen, InPlace, CountsOk, HasRoom, NumbersOk, AskOk, IsShallow, IsExpressed, IsShaped, Judged}
use Rattle.reading.specs.Reading.{Finds, unread, refused, taken, Verdict, faulty, sound, Reading, empty, whole, stopped, onward}
use Rattle.reading.specs.Deeds.{SameButDeed, same, concept, role, SameLine, same-line, same-facts, InStep, ended, next, SameVerdict, both-faulty, both-sound, ConceptFactsKept, RoleFactsKept}
use Rattle.reading.proofs.TableLaws.{added, entries-append, entries-cons, table-append, record-width}
use Rattle.reading.proofs.Judging.{first-same}
use Rattle.reading.proofs.ListLaws.{none-counted}

abbrev pub Alike : List Frame → List Frame → Type 0
Alike = InStep SameButDeed

-- one frame more
alike-more : {fs gs : List Frame} {f g : Frame} → Alike fs gs → SameButDeed f g → Alike (fs ++ f ∷ []) (gs ++ g ∷ [])
alike-more ended d = next d ended
alike-more (next e s) d = next e (alike-more s d)

pub alike-length : {fs gs : List Frame} → Alike fs gs → length fs ≡ length gs
alike-length ended = refl
alike-length (next d s) = ap suc (alike-length s)

-- both have frames, or neither has
alike-none : {fs gs : List Frame} → Alike fs gs → (fs ≡ []) ↔ (gs ≡ [])
alike-none ended = (λ e. e, λ e. e)
alike-none (next d s) = (λ e. absurd cc, λ e. absurd cc)

-- THEOREM: as many records go into each table
added-same : (kind : Kind) {f g : Frame} → SameButDeed f g → added kind f ≡ added kind g
added-same kind (same f) = refl
added-same concept_facts (concept A a n m) = refl
added-same kind (concept A a n m) = refl
added-same role_facts (role r a b n m) = refl
added-same kind (role r a b n m) = refl

pub entries-same : (kind : Kind) {fs gs : List Frame} → Alike fs gs → entries kind fs ≡ entries kind gs
entries-same kind ended = refl
entries-same kind (next {x = f} {y = g} {xs = fs} {ys = gs} d s) =
    entries-cons kind f fs ∙ ap₂ ◌+◌ (added-same kind d) (entries-same kind s) ∙ sym (entries-cons kind g gs)

-- a table of other records than facts is the same
abbrev NoFacts : Kind → Type 0
NoFacts concept_facts = ⊥
NoFacts role_facts = ⊥
NoFacts other = Unit {0}

table-cons : (kind : Kind) (f : Frame) (fs : List Frame) → table kind (f ∷ fs) ≡ unwrap_or (record_in kind f) [] ++ table kind fs
unfolding table
table-cons kind f fs = flat_map-cons (λ g. unwrap_or (record_in kind g) []) f fs

record-same : (kind : Kind) {f g : Frame} → NoFacts kind → SameButDeed f g → record_in kind f ≡ record_in kind g
record-same kind other (same f) = refl
record-same concept_facts other (concept A a n m) = absurd other
record-same kind other (concept A a n m) = refl
record-same role_facts other (role r a b n m) = absurd other
record-same kind other (role r a b n m) = refl

pub table-same : (kind : Kind) {fs gs : List Frame} → NoFacts kind → Alike fs gs → table kind fs ≡ table kind gs
table-same kind other ended = refl
table-same kind other (next {x = f} {y = g} {xs = fs} {ys = gs} d s) =
    table-cons kind f fs ∙ ap₂ (λ (o : Option (List ℕ)) (l : List ℕ). unwrap_or o [] ++ l) (record-same kind other d) (table-same kind other s) ∙ sym (table-cons kind g gs)

-- what is declared, the allowance and the expression are the same
pub declared-same : {fs gs : List Frame} → Alike fs gs → declared_by fs ≡ declared_by gs
declared-same ended = refl
declared-same (next (same (Declared c)) s) = refl
declared-same (next (same f) s) = refl
declared-same (next (concept A a n m) s) = refl
declared-same (next (role r a b n m) s) = refl

pub allowance-same : {fs gs : List Frame} → Alike fs gs → allowance_given fs ≡ allowance_given gs
allowance-same ended = refl
allowance-same (next (same (Allowance n)) s) = refl
allowance-same (next (same f) s) = allowance-same s
allowance-same (next (concept A a n m) s) = allowance-same s
allowance-same (next (role r a b n m) s) = allowance-same s

pub expression-same : {fs gs : List Frame} → Alike fs gs → expression_given fs ≡ expression_given gs
expression-same ended = refl
expression-same (next (same (Expression row)) s) = refl
expression-same (next (same f) s) = expression-same s
expression-same (next (concept A a n m) s) = expression-same s
expression-same (next (role r a b n m) s) = expression-same s

pub choice-same : {fs gs : List Frame} → Alike fs gs → salvages fs ≡ salvages gs
choice-same ended = refl
choice-same (next (same Salvage) s) = refl
choice-same (next (same f) s) = choice-same s
choice-same (next (concept A a n m) s) = choice-same s
choice-same (next (role r a b n m) s) = choice-same s

-- a record more at the front of two tables, with the same fields but the last
module _ (width : ℕ) (step : (n k : ℕ) → suc k < (width + n) / width → k < n / width) where
  one_more : (r s t u : List ℕ) → length r ≡ width → length s ≡ width → ((j : ℕ) → j + 1 < width → get_or r j 0 ≡ get_or s j 0)
      → SameButLast width t u → SameButLast width (r ++ t) (s ++ u)
  one_more r s t u e d own h = record {
    long = length-append r t ∙ ap₂ ◌+◌ (e ∙ sym d) h.long ∙ sym (length-append s u);
    fields = by;
  }
    where
      by : (j k : ℕ) → j + 1 < width → k < length (r ++ t) / width → get_or (r ++ t) (width * k + j) 0 ≡ get_or (s ++ u) (width * k + j) 0
      by j zero i l =
          let z : width * 0 + j ≡ j = omega (arith, mul-zero width) in
          rw z (get_or_append_left r t 0 j (omega arith) ∙ own j i ∙ sym (get_or_append_left s u 0 j (omega arith)))
      by j (suc k) i l =
          let p : width * suc k + j ≡ length r + (width * k + j) = omega (arith, mul-suc width k) in
          let q : width * suc k + j ≡ length s + (width * k + j) = omega (arith, mul-suc width k) in
          let m : k < length t / width = step (length t) k (rw (length-append r t, e) at l) in
          ap (λ x. get_or (r ++ t) x 0) p ∙ get_or-append-add r t (width * k + j) 0 ∙ h.fields j k i m
          ∙ sym (get_or-append-add s u (width * k + j) 0) ∙ sym (ap (λ x. get_or (s ++ u) x 0) q)

-- the records of the two kinds of fact
module _ (kind : Kind) (step : (n k : ℕ) → suc k < (width kind + n) / width kind → k < n / width kind) where
  -- a frame's record, or none, before two such tables
  own-more : (f : Frame) (t u : List ℕ) → SameButLast (width kind) t u
      → SameButLast (width kind) (unwrap_or (record_in kind f) [] ++ t) (unwrap_or (record_in kind f) [] ++ u)
  own-more f t u h = by (record_in kind f) refl
    where
      by : (o : Option (List ℕ)) → record_in kind f ≡ o → SameButLast (width kind) (unwrap_or o [] ++ t) (unwrap_or o [] ++ u)
      by None e = h
      by (Some r) e =
          let long : length r ≡ width kind = omega (arith, rw e at (record-width kind f), mul-one (width kind)) in
          one_more (width kind) step r r t u long long (λ j l. refl) h

concept-step : (n k : ℕ) → suc k < (concept_fact_width + n) / concept_fact_width → k < n / concept_fact_width
concept-step n k h = omega arith

role-step : (n k : ℕ) → suc k < (role_fact_width + n) / role_fact_width → k < n / role_fact_width
role-step n k h = omega arith

last-self : (width : ℕ) (t : List ℕ) → SameButLast width t t
last-self width t = record { long = refl; fields = λ j k i l. refl }

concepts-last : {fs gs : List Frame} → Alike fs gs → SameButLast concept_fact_width (table concept_facts fs) (table concept_facts gs)
concepts-last ended = last-self concept_fact_width (table concept_facts [])
concepts-last (next {xs = fs} {ys = gs} (same f) s) =
    rw (table-cons concept_facts f fs, table-cons concept_facts f gs) (own-more concept_facts concept-step f _ _ (concepts-last s))
concepts-last (next {xs = fs} {ys = gs} (concept A a n m) s) =
    rw (table-cons concept_facts (ConceptFact A a n) fs, table-cons concept_facts (ConceptFact A a m) gs)
    (one_more concept_fact_width concept-step (A.0 ∷ a.0 ∷ n.0 ∷ []) (A.0 ∷ a.0 ∷ m.0 ∷ []) _ _ refl refl own (concepts-last s))
  where
    own : (j : ℕ) → j + 1 < concept_fact_width → get_or (A.0 ∷ a.0 ∷ n.0 ∷ []) j 0 ≡ get_or (A.0 ∷ a.0 ∷ m.0 ∷ []) j 0
    own zero l = refl
    own (suc zero) l = refl
    own (suc (suc j)) l = absurd (omega arith)
concepts-last (next {xs = fs} {ys = gs} (role r a b n m) s) =
    rw (table-cons concept_facts (RoleFact r a b n) fs, table-cons concept_facts (RoleFact r a b m) gs) (concepts-last s)

roles-last : {fs gs : List Frame} → Alike fs gs → SameButLast role_fact_width (table role_facts fs) (table role_facts gs)
roles-last ended = last-self role_fact_width (table role_facts [])
roles-last (next {xs = fs} {ys = gs} (same f) s) =
    rw (table-cons role_facts f fs, table-cons role_facts f gs) (own-more role_facts role-step f _ _ (roles-last s))
roles-last (next {xs = fs} {ys = gs} (concept A a n m) s) =
    rw (table-cons role_facts (ConceptFact A a n) fs, table-cons role_facts (ConceptFact A a m) gs) (roles-last s)
roles-last (next {xs = fs} {ys = gs} (role r a b n m) s) =
    rw (table-cons role_facts (RoleFact r a b n) fs, table-cons role_facts (RoleFact r a b m) gs)
    (one_more role_fact_width role-step (r.0 ∷ a.0 ∷ b.0 ∷ n.0 ∷ []) (r.0 ∷ a.0 ∷ b.0 ∷ m.0 ∷ []) _ _ refl refl own (roles-last s))
  where
    own : (j : ℕ) → j + 1 < role_fact_width → get_or (r.0 ∷ a.0 ∷ b.0 ∷ n.0 ∷ []) j 0 ≡ get_or (r.0 ∷ a.0 ∷ b.0 ∷ m.0 ∷ []) j 0
    own zero l = refl
    own (suc zero) l = refl
    own (suc (suc zero)) l = refl
    own (suc (suc (suc j))) l = absurd (omega arith)

-- THEOREM: the tables that the frames fill differ only so, whatever the question
pub tables-alike : {fs gs : List Frame} → Alike fs gs → (q : Listed) → SameButDeeds (tables_of fs q) (tables_of gs q)
tables-alike s q = record {
  concept-rules = table-same concept_rules tt s;
  concept-exclusions = table-same concept_exclusions tt s;
  role-rules = table-same role_rules tt s;
  role-exclusions = table-same role_exclusions tt s;
  concept-facts = concepts-last s;
  role-facts = roles-last s;
  steps = refl;
  finals = refl;
}

-- and the question is the same
pub question-same : {fs gs : List Frame} → Alike fs gs → (q : Listed) → IsQuestionOf fs q → IsQuestionOf gs q
question-same s q h = rw (declared-same s, expression-same s, table-same steps tt s, table-same finals tt s) at h

-- a frame after the one row is judged as that after the other
module _ {before after : List Frame} (s : Alike before after) where
  some-before : (before ≢ []) ↔ (after ≢ [])
  some-before = (λ n e. n ((alike-none s).1 e), λ n e. n ((alike-none s).0 e))

  -- and no list in the one where there is none in the other
  open-same : IsOpen before ↔ IsOpen after
  open-same =
      let e = entries-same listed s in (
        λ h. record { begun = some-before.0 h.begun; no_list = (none-counted after).0 (sym e ∙ (none-counted before).1 h.no_list) },
        λ h. record { begun = some-before.1 h.begun; no_list = (none-counted before).0 (e ∙ (none-counted after).1 h.no_list) },
      )

  -- a part of a test that holds of both
  not-none : {P Q : Type 0} → (P → Q) → (Q → P) → (IsOpen before × P) ↔ (IsOpen after × Q)
  not-none to from = (λ h. (open-same.0 h.0, to h.1), λ h. (open-same.1 h.0, from h.1))

  none-typed : (expression_given before ≡ None) ↔ (expression_given after ≡ None)
  none-typed = let e = expression-same s in (λ h. sym e ∙ h, λ h. e ∙ h)

  place-same : {f g : Frame} → SameButDeed f g → InPlace before f ↔ InPlace after g
  place-same (same (Declared c)) = alike-none s
  place-same (same (Allowance n)) = let e = allowance-same s in not-none (λ h. sym e ∙ h) (λ h. e ∙ h)
  place-same (same (RoleStep p R t)) = not-none none-typed.0 none-typed.1
  place-same (same (TestStep p A t)) = not-none none-typed.0 none-typed.1
  place-same (same (Final p)) = not-none none-typed.0 none-typed.1
  place-same (same (Expression row)) =
      let d = table-same steps tt s in
      let e = table-same finals tt s in (
        λ h. (open-same.0 h.0, none-typed.0 h.1, sym d ∙ h.2, sym e ∙ h.3),
        λ h. (open-same.1 h.0, none-typed.1 h.1, d ∙ h.2, e ∙ h.3),
      )
  place-same (same Salvage) = let e = choice-same s in not-none (λ h. sym e ∙ h) (λ h. e ∙ h)
  place-same (same (ListedMark n p t B)) = some-before
  place-same (same f) = open-same
  place-same (concept A a n m) = open-same
  place-same (role r a b n m) = open-same

  counts-same : {f g : Frame} → SameButDeed f g → CountsOk f ↔ CountsOk g
  counts-same (same f) = (λ h. h, λ h. h)
  counts-same (concept A a n m) = (λ h. h, λ h. h)
  counts-same (role r a b n m) = (λ h. h, λ h. h)

  -- each has a record for a table, or neither has
  has-same : (kind : Kind) {f g : Frame} → SameButDeed f g → IsSome (record_in kind f) ↔ IsSome (record_in kind g)
  has-same kind (same f) = (λ h. h, λ h. h)
  has-same concept_facts (concept A a n m) = (λ h. h, λ h. h)
  has-same kind (concept A a n m) = (λ h. h, λ h. h)
  has-same role_facts (role r a b n m) = (λ h. h, λ h. h)
  has-same kind (role r a b n m) = (λ h. h, λ h. h)

  room-same : {f g : Frame} → SameButDeed f g → HasRoom before f ↔ HasRoom after g
  room-same d = (
    λ h kind i. rw (entries-same kind s) at (h kind ((has-same kind d).1 i)),
    λ h kind i. rw (entries-same kind s) (h kind ((has-same kind d).0 i)),
  )

  numbers-same : {f g : Frame} → SameButDeed f g → NumbersOk (declared_by before) f ↔ NumbersOk (declared_by after) g
  numbers-same d = rw (declared-same s) (by d)
    where
      by : {f g : Frame} → SameButDeed f g → NumbersOk (declared_by after) f ↔ NumbersOk (declared_by after) g
      by (same f) = (λ h. h, λ h. h)
      by (concept A a n m) = (λ h. h, λ h. h)
      by (role r a b n m) = (λ h. h, λ h. h)

  ask-same : {f g : Frame} → SameButDeed f g → AskOk (declared_by before) f ↔ AskOk (declared_by after) g
  ask-same d = rw (declared-same s) (by d)
    where
      by : {f g : Frame} → SameButDeed f g → AskOk (declared_by after) f ↔ AskOk (declared_by after) g
      by (same f) = (λ h. h, λ h. h)
      by (concept A a n m) = (λ h. h, λ h. h)
      by (role r a b n m) = (λ h. h, λ h. h)

  shallow-same : {f g : Frame} → SameButDeed f g → IsShallow f ↔ IsShallow g
  shallow-same (same f) = (λ h. h, λ h. h)
  shallow-same (concept A a n m) = (λ h. h, λ h. h)
  shallow-same (role r a b n m) = (λ h. h, λ h. h)

  expressed-same : {f g : Frame} → SameButDeed f g → IsExpressed f ↔ IsExpressed g
  expressed-same (same f) = (λ h. h, λ h. h)
  expressed-same (concept A a n m) = (λ h. h, λ h. h)
  expressed-same (role r a b n m) = (λ h. h, λ h. h)

  shaped-same : {f g : Frame} → SameButDeed f g → IsShaped (declared_by before) f ↔ IsShaped (declared_by after) g
  shaped-same d = rw (declared-same s) (by d)
    where
      by : {f g : Frame} → SameButDeed f g → IsShaped (declared_by after) f ↔ IsShaped (declared_by after) g
      by (same f) = (λ h. h, λ h. h)
      by (concept A a n m) = (λ h. h, λ h. h)
      by (role r a b n m) = (λ h. h, λ h. h)

  judged-same : {f g : Frame} {r : Result (Unit {0}) Refusal} → SameButDeed f g → Judged before f r → Judged after g r
  judged-same d =
      first-same (place-same d)
      (first-same (counts-same d)
      (first-same (room-same d)
      (first-same (numbers-same d)
      (first-same (ask-same d)
      (first-same (shallow-same d)
      (first-same (expressed-same d)
      (first-same (shaped-same d) (λ h. h))))))))

  -- a line that is refused, and one that is taken
  refused-same : {l m : List ℕ} {r : Refusal} → SameLine l m → Finds before l (Err r) → Finds after m (Err r)
  refused-same (same-line l) (unread k h) = unread k h
  refused-same (same-line l) (refused f r h j) = refused f r h (judged-same (same f) j)
  refused-same (same-facts {l = l} {f = f} x y d) (unread k h) = let e = frame-once l (Err k) (Ok f) h x in absurd cc
  refused-same (same-facts {l = l} {f = f} {g = g} x y d) (refused p r h j) =
      let e = frame-once l (Ok p) (Ok f) h x in
      let i : p ≡ f = cc in
      refused g r y (judged-same d (rw i at j))

  taken-same : {l m : List ℕ} {f : Frame} → SameLine l m → Finds before l (Ok f) → (g : Frame) × SameButDeed f g × Finds after m (Ok g)
  taken-same (same-line l) (taken f h j) = (f, same f, taken f h (judged-same (same f) j))
  taken-same (same-facts {l = l} {f = p} {g = g} x y d) (taken f h j) =
      let e = frame-once l (Ok f) (Ok p) h x in
      let i : f ≡ p = cc in
      (g, rw i d, taken g y (judged-same d (rw i at j)))

-- reading on after frames that differ only so
reading-same : {ls ms : List (List ℕ)} {before after : List Frame} {v : Verdict} → InStep SameLine ls ms → Alike before after
    → Reading before ls v
    → (w : Verdict) × SameVerdict v w × Reading after ms w
reading-same ended ended empty = (faulty [] OutOfPlace, both-faulty OutOfPlace ended, empty)
reading-same ended (next {y = g} {ys = gs} d s) (whole f fs) = (sound (g ∷ gs), both-sound (next d s), whole g gs)
reading-same {after = after} (next {y = m} {ys = ms} a rest) s (stopped before l ls r h) =
    (faulty after r, both-faulty r s, stopped after m ms r (refused-same s a h))
reading-same {after = after} (next {y = m} {ys = ms} a rest) s (onward before l ls f v h on) =
    let w = taken-same s a h in
    let u = reading-same rest (alike-more s w.1) on in
    (u.0, u.1, onward after m ms w.0 u.0 w.2 u.2)

-- THEOREM: lines that differ only in deed numbers are found to be what differs only so
pub reads-without-deeds : (ls ms : List (List ℕ)) → InStep SameLine ls ms → (v : Verdict) → Reading [] ls v
    → (w : Verdict) × SameVerdict v w × Reading [] ms w
reads-without-deeds ls ms s v h = reading-same s ended h

-- THEOREM: two facts that differ only so are both kept and counted, wherever they stand
module _ (kind : Kind) (fs : List Frame) (f : Frame) (gs : List Frame) where
  table-at : table kind (fs ++ f ∷ gs) ≡ table kind fs ++ (unwrap_or (record_in kind f) [] ++ table kind gs)
  table-at = table-append kind fs (f ∷ gs) ∙ ap (λ t. table kind fs ++ t) (table-cons kind f gs)

  entries-at : entries kind (fs ++ f ∷ gs) ≡ entries kind fs + (added kind f + entries kind gs)
  entries-at = entries-append kind fs (f ∷ gs) ∙ ap (λ n. entries kind fs + n) (entries-cons kind f gs)

module _ (kind : Kind) (fs : List Frame) (f : Frame) (gs : List Frame) (g : Frame) (hs : List Frame) where
  table-two : table kind (fs ++ f ∷ (gs ++ g ∷ hs))
      ≡ table kind fs ++ (unwrap_or (record_in kind f) [] ++ (table kind gs ++ (unwrap_or (record_in kind g) [] ++ table kind hs)))
  table-two = table-at kind fs f (gs ++ g ∷ hs) ∙ ap (λ t. table kind fs ++ (unwrap_or (record_in kind f) [] ++ t)) (table-at kind gs g hs)

  entries-two : entries kind (fs ++ f ∷ (gs ++ g ∷ hs)) ≡ entries kind fs + added kind f + entries kind gs + added kind g + entries kind hs
  entries-two = omega (arith, entries-at kind fs f (gs ++ g ∷ hs), entries-at kind gs g hs)

pub concept-facts-kept : ConceptFactsKept
concept-facts-kept fs gs hs A a n m = (
  table-two concept_facts fs (ConceptFact A a n) gs (ConceptFact A a m) hs,
  entries-two concept_facts fs (ConceptFact A a n) gs (ConceptFact A a m) hs,
)

pub role-facts-kept : RoleFactsKept
role-facts-kept fs gs hs r a b n m = (
  table-two role_facts fs (RoleFact r a b n) gs (RoleFact r a b m) hs,
  entries-two role_facts fs (RoleFact r a b n) gs (RoleFact r a b m) hs,
)

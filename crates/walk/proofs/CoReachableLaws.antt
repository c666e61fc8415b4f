-- The co-reachable states: what one more mark or step adds, until nothing is added.
use Rattle.std.specs.Prelude.{◌≡◌, ◌≢◌, refl, ◌↔◌, ◌⊎◌, Bool, true, false, not, IsTrue, ℕ, zero, suc, ◌+◌, ◌*◌, ◌^◌, ◌<◌, ◌≤◌, List, []}
use Rattle.std.specs.Prelude.{◌∷◌, length, set, replicate}
use Rattle.std.proofs.Common.{sym, ap, ◌∙◌, inl, inr, ⊎_elim, arith, length-set}
use Rattle.std.proofs.Math.Decide.{ℕ_discrete}
use Rattle.std.proofs.lemmas.List.{length-replicate, get_or-replicate}
use Rattle.std.proofs.lemmas.Bool.{false≢true}
use Rattle.laws.specs.Fill.{stored, Filling, all_done}
use Rattle.kinds.specs.Kinds.{most_states, base, flip}
use Rattle.sets.specs.Bits.{Has, IsSetOf, IsEmpty, InsertsIf, IsUnion, IsIntersection, concept_width, role_width, state_width}
use Rattle.sets.specs.declared.states.StateSet.{StateSet}
use Rattle.sets.specs.declared.concepts.ConceptSet.{ConceptSet}
use Rattle.theory.specs.Onward.{ends, around, deeper}
use Rattle.walk.specs.declared.coreachable.PathsBelow.{PathsBelow}
use Rattle.laws.specs.Loops.{Witness, Extends, witness_more}
use Rattle.sets.specs.Relations.{concepts_at, relation_at, Relates, Transposed, IsImage, pair}
use Rattle.walk.specs.CoReachable.{Marked, LeadsOn, Goes, IsLive, AreAlive, Along, ByMark, ByMarks, StepBy, Further, PutAt, PutEach}
use Rattle.walk.specs.Covers.{Covers}
use Rattle.walk.specs.CoReachable.{Small, Adds, AreCoReachable}
use Rattle.walk.proofs.SetLaws.{none_has, as_number}

-- where a test fails its fact does not hold
pub refuted : {b : Bool} {P : Type 0} → IsTrue b ↔ P → b ≡ false → P → ⊥
refuted h e p = false≢true (sym e ∙ h.1 p)

-- the way leads on in a state that has a row
pub live_test : (finals : ℕ) (rows : List ConceptSet) (c t : ℕ) (on : Bool) → t < most_states → IsTrue on ↔ Goes finals rows t c
    → IsTrue on ↔ IsLive finals rows c t
live_test finals rows c t on h w = (λ e. record { low = h; goes = w.0 e }, λ l. w.1 l.goes)

-- ---- over the members of a set of states

-- all states in which the way leads on are alive
pub alive_start : (finals : ℕ) (rows : List ConceptSet) → AreAlive finals rows 0 finals
alive_start finals rows = record { final = λ t p. p; onward = λ t c l. absurd (omega arith) }

pub alive_more : (finals : ℕ) (rows : List ConceptSet) (i out new : ℕ) (none : Bool) → AreAlive finals rows i out → i < state_width
    → IsTrue none ↔ IsEmpty (concepts_at rows i) → InsertsIf state_width out i (not none) new → AreAlive finals rows (i + 1) new
alive_more finals rows i out new none a low test ins = record {
  final = λ t p. (ins.member t).1 (inl (a.final t p));
  onward = λ t c l p. elim (ℕ_discrete t i) [
    | yes e ↦ (ins.member t).1 (inr (e, omega arith, on none test c (rw e at p)))
    | no ne ↦ (ins.member t).1 (inl (a.onward t c (omega arith) p))
  ];
}
  where
    on : (b : Bool) → IsTrue b ↔ IsEmpty (concepts_at rows i) → (c : ℕ) → Has (concepts_at rows i) c → not b ≡ true
    on true k c p = absurd (k.0 refl c p)
    on false k c p = refl

pub alive_in : {finals : ℕ} {rows : List ConceptSet} {set t : ℕ} (c : ℕ) → AreAlive finals rows most_states set → t < most_states
    → Goes finals rows t c → Has set t
alive_in {t = t} c a low w = ⊎_elim (λ f. a.final t f) (λ p. a.onward t c low p) w

-- one member more: what it gives is joined; it is kept where the test says so
pub joined_more : {D F : ℕ → Type 0} {k out piece new : ℕ} (P : ℕ → ℕ → Type 0) → Extends D k F
    → IsSetOf (λ B. Witness D (λ t. P t B)) out → IsSetOf (P k) piece → IsUnion out piece new
    → IsSetOf (λ B. Witness F (λ t. P t B)) new
joined_more P x g h u = record {
  member = λ B. (
    λ p. (witness_more x).1 (⊎_elim (λ q. inl ((g.member B).0 q)) (λ q. inr ((h.member B).0 q)) ((u.member B).0 p)),
    λ w. (u.member B).1 (⊎_elim (λ q. inl ((g.member B).1 q)) (λ q. inr ((h.member B).1 q)) ((witness_more x).0 w)),
  );
}

pub kept_more : {D F : ℕ → Type 0} {w k out new : ℕ} {on : Bool} (P : ℕ → Type 0) → Extends D k F → IsSetOf (λ t. D t × P t) out
    → k < w → IsTrue on ↔ P k → InsertsIf w out k on new → IsSetOf (λ t. F t × P t) new
kept_more P x g low test ins = record {
  member = λ t. (
    λ p. ⊎_elim (λ q. let d = (g.member t).0 q in (x.keeps t d.0, d.1)) (λ q. let e = q.0 in rw e (x.own, test.0 q.2)) ((ins.member t).0 p),
    λ q. (ins.member t).1 (⊎_elim (λ d. inl ((g.member t).1 (d, q.1)))
        (λ e. let h = q.1 in inr (e, omega (arith, low), test.1 (rw e at h))) (x.only t q.0)),
  );
}

pub gathered_as : (P Q : ℕ → Type 0) (r : ℕ) → ((B : ℕ) → P B ↔ Q B) → IsSetOf P r → IsSetOf Q r
gathered_as P Q r e g = record { member = λ B. (λ p. (e B).0 ((g.member B).0 p), λ q. (g.member B).1 ((e B).1 q)) }

pub gathered_none : (P : ℕ → Type 0) → ((B : ℕ) → P B → ⊥) → IsSetOf P 0
gathered_none P none = record { member = λ B. (λ p. absurd (none_has B p), λ p. absurd (none B p)) }

pub by_marks_end : (sheet : List ConceptSet) (finals : ℕ) (rows : List ConceptSet) (s alive out : ℕ)
    → AreAlive finals rows most_states alive → IsSetOf (ByMark sheet finals rows s (Has alive)) out
    → IsSetOf (ByMark sheet finals rows s (λ t. t < most_states)) out
by_marks_end sheet finals rows s alive out a =
    gathered_as _ _ out
    (λ B. (
      λ w. record { number = w.number; of = w.holds.marked.to; holds = w.holds },
      λ w. record { number = w.number; of = alive_in B a w.of w.holds.goes; holds = w.holds },
    ))

pub live_end : (finals : ℕ) (rows : List ConceptSet) (c alive out : ℕ) → AreAlive finals rows most_states alive
    → IsSetOf (λ t. Has alive t × IsLive finals rows c t) out → IsSetOf (IsLive finals rows c) out
live_end finals rows c alive out a = gathered_as _ _ out (λ t. (λ q. q.1, λ l. (alive_in c a l.low l.goes, l)))

-- one more piece joined
pub joined_with : {P : ℕ → Type 0} {out piece new : ℕ} → IsSetOf P piece → IsUnion out piece new → (B : ℕ) → Has new B ↔ (Has out B ⊎ P B)
joined_with g u B = (
  λ p. ⊎_elim (λ q. inl q) (λ q. inr ((g.member B).0 q)) ((u.member B).0 p),
  λ p. (u.member B).1 (⊎_elim (λ q. inl q) (λ q. inr ((g.member B).1 q)) p),
)

-- a role by which transitions lead is put in
pub roles_more : (transitions : List (List StateSet)) (w out r reach new : ℕ) (none : Bool)
    → ((R s t : ℕ) → R < r → Relates (relation_at transitions R) s t → Has out R)
    → r < w → ((s t : ℕ) → Relates (relation_at transitions r) s t → Has reach t) → IsTrue none ↔ IsEmpty reach
    → InsertsIf w out r (not none) new
    → (R s t : ℕ) → R < r + 1 → Relates (relation_at transitions R) s t → Has new R
roles_more transitions w out r reach new none old h e test ins R s t l p = side (ℕ_discrete R r)
  where
    on : (b : Bool) → IsTrue b ↔ IsEmpty reach → Has reach t → not b ≡ true
    on true k q = absurd (k.0 refl t q)
    on false k q = refl

    side : Dec (R ≡ r) → Has new R
    side (yes q) = (ins.member R).1 (inr (q, h, on none test (e s t (rw q at p))))
    side (no ne) = (ins.member R).1 (inl (old R s t (omega arith) p))

-- the concepts with a mark from s to t: all of them where t is final, else those from which the rows lead on
module _ (sheet : List ConceptSet) (finals : ℕ) (rows : List ConceptSet) (s t : ℕ) (h : s < most_states) (k : t < most_states) where
  marked : (B : ℕ) → Has (concepts_at sheet (pair s t)) B → Marked sheet s t B
  marked B p = record { from = h; to = k; has = p }

  pub along_all : Has finals t → IsSetOf (Along sheet finals rows s t) (concepts_at sheet (pair s t))
  along_all f = record { member = λ B. (λ p. record { marked = marked B p; goes = inl f }, λ w. w.marked.has) }

  pub along_some : (r : ℕ) → (Has finals t → ⊥) → IsIntersection (concepts_at sheet (pair s t)) (concepts_at rows t) r
      → IsSetOf (Along sheet finals rows s t) r
  along_some r none i = record { member = λ B. (to B, from B) }
    where
      to : (B : ℕ) → Has r B → Along sheet finals rows s t B
      to B p = let w = (i.member B).0 p in record { marked = marked B w.0; goes = inr w.1 }

      from : (B : ℕ) → Along sheet finals rows s t B → Has r B
      from B w = (i.member B).1 (w.marked.has, ⊎_elim (λ f. absurd (none f)) (λ p. p) w.goes)

abbrev pub no_concepts : ConceptSet
no_concepts = record { 0 = 0 }

-- ---- what is added

pub adds_none : {P : ℕ → ℕ → Type 0} {rows : List ConceptSet} → ((s B : ℕ) → s < most_states → P s B → ⊥) → Adds P rows rows
adds_none none = record { long = refl; small = λ h. h; at = λ s B h. (λ p. inl p, ⊎_elim (λ p. p) (λ q. absurd (none s B h q))) }

pub adds_as : {P Q : ℕ → ℕ → Type 0} {a b : List ConceptSet} → ((s B : ℕ) → s < most_states → P s B ↔ Q s B) → Adds P a b → Adds Q a b
adds_as same v = record {
  long = v.long;
  small = v.small;
  at = λ s B h. (
    λ p. ⊎_elim (λ q. inl q) (λ q. inr ((same s B h).0 q)) ((v.at s B h).0 p),
    λ p. (v.at s B h).1 (⊎_elim (λ q. inl q) (λ q. inr ((same s B h).1 q)) p),
  );
}

-- one after the other
pub adds_then : {P Q R : ℕ → ℕ → Type 0} {a b c : List ConceptSet} → Adds P a b → Adds Q b c → ((s B : ℕ) → R s B ↔ (P s B ⊎ Q s B))
    → Adds R a c
adds_then v w same = record {
  long = w.long ∙ v.long;
  small = λ h. w.small (v.small h);
  at = λ s B h. (
    λ p. ⊎_elim (λ q. ⊎_elim (λ r. inl r) (λ r. inr ((same s B).1 (inl r))) ((v.at s B h).0 q)) (λ q. inr ((same s B).1 (inr q)))
        ((w.at s B h).0 p),
    λ p. (w.at s B h).1 (⊎_elim (λ q. inl ((v.at s B h).1 (inl q)))
        (λ q. ⊎_elim (λ r. inl ((v.at s B h).1 (inr r))) (λ r. inr r) ((same s B).0 q)) p),
  );
}

-- the concepts at one state
pub put_one : (rows : List ConceptSet) (concepts k : ℕ) (x : ConceptSet) → k < length rows → IsUnion (concepts_at rows k) concepts x.0
    → x.0 < 2 ^ concept_width
    → Adds (PutAt concepts k) rows (set rows k x)
put_one rows concepts k x h u fits = record {
  long = length-set rows k x;
  small = λ small. stored (λ s (y : ConceptSet). s < most_states → y.0 < 2 ^ concept_width) rows k x no_concepts h (λ _. fits)
      (λ s ne. small s);
  at = λ s B l.
      stored (λ s (y : ConceptSet). (B : ℕ) → Has y.0 B ↔ (Has (concepts_at rows s) B ⊎ PutAt concepts k s B)) rows k x no_concepts h
      (λ B. (
        λ p. ⊎_elim (λ q. inl q) (λ q. inr (refl, q)) ((u.member B).0 p),
        λ p. (u.member B).1 (⊎_elim (λ q. inl q) (λ q. inr q.1) p),
      ))
      (λ s ne B. (λ p. inl p, ⊎_elim (λ p. p) (λ q. absurd (ne q.0)))) s B;
}

-- a step down by R: leads has the states from which R leads to a live one
pub steps_put : (paths : PathsBelow) (rows : List ConceptSet) (R live leads concepts : ℕ) → R < role_width
    → concepts ≡ concepts_at paths.below.now (base + R)
    → IsSetOf (IsLive paths.finals.0 rows (base + flip R)) live
    → IsImage (Transposed (Relates (relation_at paths.transitions.now R))) live leads
    → (s B : ℕ) → s < most_states → PutEach (Has leads) concepts s B ↔ StepBy paths rows R s B
steps_put paths rows R live leads concepts h e l i s B low = (to, from)
  where
    to : PutEach (Has leads) concepts s B → StepBy paths rows R s B
    to w =
        let z = w.holds.0 in
        let c = w.holds.1 in
        let q = (i.member w.number).0 w.of in
        let r = (l.member q.number).0 q.of in
        record {
          to = q.number;
          child = record { role = h; has = rw e at c };
          down = record { from = low; to = r.low; leads = rw z q.holds };
          goes = r.goes;
        }

    from : StepBy paths rows R s B → PutEach (Has leads) concepts s B
    from w = record {
      number = s;
      of = (i.member s).1 (record {
        number = w.to;
        of = (l.member w.to).1 (record { low = w.down.to; goes = w.goes });
        holds = w.down.leads;
      });
      holds = (refl, rw e w.child.has);
    }

-- the roles are all that lead anywhere
pub steps_all : (paths : PathsBelow) (rows : List ConceptSet) (roles : ℕ) → Covers paths.transitions.now roles → (s B : ℕ)
    → Further paths rows s B ↔ (ByMarks paths rows s B ⊎ Witness (Has roles) (λ R. StepBy paths rows R s B))
steps_all paths rows roles lead s B = (
  ⊎_elim (λ m. inl m) (λ w. inr (record { number = w.0; of = lead.at w.0 s w.1.to w.1.child.role w.1.down.leads; holds = w.1 })),
  ⊎_elim (λ m. inl m) (λ w. inr (w.number, w.holds)),
)

-- the sets of the states below i have what marks add
pub record IsMarked (paths : PathsBelow) (rows : List ConceptSet) (s : ℕ) (x : ConceptSet) : Type 0 where
  pub small : x.0 < 2 ^ concept_width
  pub at : (B : ℕ) → Has x.0 B ↔ (Has (concepts_at rows s) B ⊎ ByMarks paths rows s B)

pub marked_one : (paths : PathsBelow) (rows : List ConceptSet) (s old marks : ℕ) (x : ConceptSet) → IsSetOf (ByMarks paths rows s) marks
    → IsUnion old marks x.0
    → old ≡ concepts_at rows s → x.0 < 2 ^ concept_width → IsMarked paths rows s x
marked_one paths rows s old marks x m u e fits = record { small = fits; at = let v = rw e at u in joined_with m v }

pub marked_all : (paths : PathsBelow) (rows now : List ConceptSet) (i : ℕ) → length rows ≡ most_states
    → Filling (IsMarked paths rows) no_concepts most_states rows now i → most_states ≤ i
    → Adds (ByMarks paths rows) rows now
marked_all paths rows now i l w h =
    let all = all_done (IsMarked paths rows) no_concepts most_states rows now i w h in
    record { long = w.long ∙ sym l; small = λ _ s k. (all s k).small; at = λ s B k. (all s k).at B }

-- the numbers of the sets together: they grow
abbrev pub total : List ConceptSet → ℕ
total [] = 0
total (x ∷ rows) = x.0 + total rows

pub total_most : (m : ℕ) (rows : List ConceptSet) → ((s : ℕ) → s < length rows → concepts_at rows s < m) → total rows ≤ length rows * m
total_most m [] h = omega arith
total_most m (x ∷ rows) h =
    let a : x.0 < m = h 0 (omega arith) in
    let b = total_most m rows (λ s l. h (suc s) (omega arith)) in
    omega (arith, a, b)

total_more : (a b : List ConceptSet) → length a ≡ length b → ((s : ℕ) → s < length a → concepts_at a s ≤ concepts_at b s)
    → total a ≤ total b
total_more [] [] e h = omega arith
total_more [] (y ∷ b) e h = omega arith
total_more (x ∷ a) [] e h = absurd (omega (arith, e))
total_more (x ∷ a) (y ∷ b) e h =
    let i : x.0 ≤ y.0 = h 0 (omega arith) in
    let j = total_more a b (omega (arith, e)) (λ s l. h (suc s) (omega arith)) in
    omega (arith, i, j)

pub total_grows : (a b : List ConceptSet) → length a ≡ length b → ((s : ℕ) → s < length a → concepts_at a s ≤ concepts_at b s) → (k : ℕ)
    → k < length a
    → concepts_at a k < concepts_at b k → total a < total b
total_grows [] b e h k l g = absurd (omega arith)
total_grows (x ∷ a) [] e h k l g = absurd (omega (arith, e))
total_grows (x ∷ a) (y ∷ b) e h zero l g = let j = total_more a b (omega (arith, e)) (λ s l. h (suc s) (omega arith)) in let i : x.0 < y.0 =
    g in omega (arith, i, j)
total_grows (x ∷ a) (y ∷ b) e h (suc k) l g =
    let i : x.0 ≤ y.0 = h 0 (omega arith) in
    let j = total_grows a b (omega (arith, e)) (λ s l. h (suc s) (omega arith)) k (omega arith) g in
    omega (arith, i, j)

-- all that is there leads on
pub record Leading (paths : PathsBelow) (rows : List ConceptSet) : Type 0 where
  pub long : length rows ≡ most_states
  pub small : Small rows
  pub sound : (s B : ℕ) → s < most_states → Has (concepts_at rows s) B → LeadsOn paths s B

goes_on : (paths : PathsBelow) (rows : List ConceptSet) → Leading paths rows → (s B : ℕ) → s < most_states → Goes paths.finals.0 rows s B
    → LeadsOn paths s B
goes_on paths rows l s B h (inl f) = ends f
goes_on paths rows l s B h (inr p) = l.sound s B h p

module _ (paths : PathsBelow) (rows next : List ConceptSet) (l : Leading paths rows) (f : Adds (Further paths rows) rows next) where
  pub leading_more : Leading paths next
  leading_more = record { long = f.long ∙ l.long; small = f.small l.small; sound = λ s B h p. side s B h ((f.at s B h).0 p) }
    where
      side : (s B : ℕ) → s < most_states → Has (concepts_at rows s) B ⊎ Further paths rows s B → LeadsOn paths s B
      side s B h (inl p) = l.sound s B h p
      side s B h (inr (inl w)) = let a = w.holds in around a.marked (goes_on paths rows l w.number B a.marked.to a.goes)
      side s B h (inr (inr w)) = let x = w.1 in deeper x.child x.down (goes_on paths rows l x.to _ x.down.to x.goes)

  kept : (s : ℕ) → s < most_states → concepts_at rows s ≤ concepts_at next s
  kept s h = as_number _ _ (λ B p. (f.at s B h).1 (inl p))

  pub total_less : (s : ℕ) → s < most_states → concepts_at rows s ≢ concepts_at next s → total rows < total next
  total_less s h ne =
      let k = kept s h in
      let less : concepts_at rows s < concepts_at next s = omega (arith, k, ne) in
      total_grows rows next (sym f.long) (λ i j. kept i (omega (arith, j, l.long))) s (omega (arith, l.long)) less

  pub total_within : total next ≤ most_states * 2 ^ concept_width
  total_within = let e = f.long ∙ l.long in let t =
      total_most (2 ^ concept_width) next (λ s h. f.small l.small s (omega (arith, e))) in rw e at t

  -- where nothing is added, all from which the way leads on is there
  pub leading_end : ((s : ℕ) → s < most_states → concepts_at rows s ≡ concepts_at next s) → AreCoReachable paths rows
  leading_end e = record { long = l.long; at = λ s B h. (goes_on paths rows l s B h, λ w. all w h) }
    where
      put : (s B : ℕ) → s < most_states → Further paths rows s B → Has (concepts_at rows s) B
      put s B h w = let p = (f.at s B h).1 (inr w) in rw (e s h) p

      all : {s B : ℕ} → LeadsOn paths s B → s < most_states → Goes paths.finals.0 rows s B
      all (ends x) h = inl x
      all {s} {B} (around {t = t} m w) h = inr (put s B h
          (inl (record { number = t; of = m.to; holds = record { marked = m; goes = all w m.to } })))
      all {s} {B} (deeper {t = t} {R = R} c d w) h = inr (put s B h (inr (R, record { to = t; child = c; down = d; goes = all w d.to })))

pub leading_start : (paths : PathsBelow) → Leading paths (replicate most_states no_concepts)
leading_start paths = record {
  long = length-replicate {A = ConceptSet} most_states no_concepts;
  small = λ s h. rw (nothing s h) (omega arith);
  sound = λ s B h p. absurd (none_has B (rw (nothing s h) at p));
}
  where
    nothing : (s : ℕ) → s < most_states → concepts_at (replicate most_states no_concepts) s ≡ 0
    nothing s h = ap (λ (x : ConceptSet). x.0) (get_or-replicate {A = ConceptSet} most_states s no_concepts no_concepts h)

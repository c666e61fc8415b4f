-- Sets of states, one for each individual, that grow: what is added, and whether anything was.
use Rattle.std.specs.Prelude.{◌≡◌, ◌≢◌, refl, ◌⊎◌, ◌↔◌, Bool, true, false, ◌||◌, List, [], ◌∷◌, ◌++◌, ℕ, ◌+◌, ◌^◌, ◌<◌, ◌≤◌, length, set}
use Rattle.std.specs.Prelude.{Contains}
use Rattle.std.proofs.Common.{sym, ap, ◌∙◌, inl, inr, ⊎_elim, arith, length-set}
use Rattle.std.proofs.lemmas.Bool.{false≢true}
use Rattle.std.proofs.lemmas.List.Elements.{Contains-append_left, Contains-push, Contains-push_cases}
use Rattle.std.proofs.lemmas.List.Sums.{sum_by-set}
use Rattle.std.proofs.Math.Decide.{ℕ_discrete}
use Rattle.kinds.specs.Kinds.{most_individuals}
use Rattle.sets.specs.Bits.{Has, IsUnion, state_width}
use Rattle.sets.specs.declared.states.StateSet.{StateSet}
use Rattle.edges.specs.declared.FactEdge.{FactEdge}
use Rattle.walk.specs.declared.walk.Guide.{Guide}
use Rattle.sets.specs.Rows.{no_states}
use Rattle.sets.specs.Relations.{states_at, IsImage}
use Rattle.walk.specs.Transposed.{EndsWithin}
use Rattle.walk.specs.Passes.{LedByRole, total, Ready, Raised, Grows, InSet, ByEdge, ByEdges}
use Rattle.walk.proofs.SetLaws.{union_more, states_at-set_same, states_at-set_other}

tested : (b : Bool) → (b ≡ true) ⊎ (b ≡ false)
tested true = inl refl
tested false = inr refl

-- neither of two tests passes, or one does
pub or_none : (x y : Bool) → (x || y) ≡ false → (x ≡ false) × (y ≡ false)
or_none true y e = absurd (false≢true (sym e))
or_none false y e = (refl, e)

pub or_some : (x y : Bool) → (x || y) ≡ true → (x ≡ true) ⊎ (y ≡ true)
or_some true y e = inl refl
or_some false y e = inr e

-- one store
pub total-set : (l : List StateSet) (x : ℕ) (v : StateSet) → x < length l → total (set l x v) + states_at l x ≡ total l + v.0
total-set l x v h = sum_by-set (λ (s : StateSet). s.0) l x v no_states h

pub ready-set : (l : List StateSet) (x : ℕ) (v : StateSet) → Ready l → v.0 < 2 ^ state_width → Ready (set l x v)
ready-set l x v r fits = record { long = length-set l x v ∙ r.long; small = λ b h. side b h (ℕ_discrete b x) }
  where
    side : (b : ℕ) → b < most_individuals → Dec (b ≡ x) → states_at (set l x v) b < 2 ^ state_width
    side b h (yes e) = rw (e, states_at-set_same l x v (let k = r.long in omega arith)) fits
    side b h (no ne) = rw (states_at-set_other l x b v ne) (r.small b h)

pub raised_none : (l : List StateSet) → Raised l l false
raised_none l = record { ready = λ h. h; keeps = λ b t p. p; still = λ e. refl; grows = λ e. absurd (false≢true e) }

pub raised_most : {old new : List StateSet} {grew : Bool} → Raised old new grew → total old ≤ total new
raised_most {old} {new} {grew} w = ⊎_elim (λ e. omega (arith, w.grows e)) (λ e. omega (arith, ap total (w.still e))) (tested grew)

raised_then : {a b c : List StateSet} {x y : Bool} → Raised a b x → Raised b c y → Raised a c (x || y)
raised_then {a} {b} {c} {x} {y} v w =
    record {
      ready = λ h. w.ready (v.ready h);
      keeps = λ i t p. w.keeps i t (v.keeps i t p);
      still = λ e. let p = or_none x y e in w.still p.1 ∙ v.still p.0;
      grows = λ e. ⊎_elim (λ p. omega (arith, v.grows p, raised_most w)) (λ p. omega (arith, raised_most v, w.grows p)) (or_some x y e);
    }

-- one after the other, under any name of both
pub grows_then : {P Q R : ℕ → ℕ → Type 0} {a b c : List StateSet} {x y : Bool} → Grows P a b x → Grows Q b c y
    → ((i t : ℕ) → P i t ⊎ Q i t → R i t)
    → ((i t : ℕ) → R i t → P i t ⊎ Q i t) → Grows R a c (x || y)
grows_then v w to from =
    record {
      raised = raised_then v.raised w.raised;
      comes =
          λ i t p. ⊎_elim (λ q. ⊎_elim (λ r. inl r) (λ r. inr (to i t (inl r))) (v.comes i t q)) (λ q. inr (to i t (inr q)))
          (w.comes i t p);
      has = λ i t p. ⊎_elim (λ q. w.raised.keeps i t (v.has i t q)) (λ q. w.has i t q) (from i t p);
    }

pub grows_same : {P Q : ℕ → ℕ → Type 0} {old new : List StateSet} {grew : Bool} → ((b t : ℕ) → P b t → Q b t) → ((b t : ℕ) → Q b t → P b t)
    → Grows P old new grew → Grows Q old new grew
grows_same to from w =
    record {
      raised = w.raised;
      comes = λ b t p. ⊎_elim (λ q. inl q) (λ q. inr (to b t q)) (w.comes b t p);
      has = λ b t q. w.has b t (from b t q);
    }

-- a set put into that of one individual
module _ (l : List StateSet) (x m : ℕ) (all : StateSet) (u : IsUnion (states_at l x) m all.0) where
  -- which has it already
  pub join_none : all.0 ≡ states_at l x → Grows (InSet x m) l l false
  join_none e =
      record {
        raised = raised_none l;
        comes = λ b t p. inl p;
        has = λ b t p. let q = p.there in rw q (let r = (u.member t).1 (inr p.in_set) in rw e at r);
      }

  -- or not
  pub join_some : Ready l → x < most_individuals → all.0 ≢ states_at l x → all.0 < 2 ^ state_width → Grows (InSet x m) l (set l x all) true
  join_some r h differs fits =
      record {
        raised = record {
          ready = λ k. ready-set l x all k fits;
          keeps = λ b t p. keeps b t p (ℕ_discrete b x);
          still = λ z. absurd (false≢true (sym z));
          grows = λ z. omega (arith, total-set l x all within, union_more _ _ _ u, differs);
        };
        comes = λ b t p. comes b t p (ℕ_discrete b x);
        has = λ b t p. let q = p.there in rw (q, here) ((u.member t).1 (inr p.in_set));
      }
    where
      within : x < length l
      within = let k = r.long in omega arith

      here : states_at (set l x all) x ≡ all.0
      here = states_at-set_same l x all within

      keeps : (b t : ℕ) → Has (states_at l b) t → Dec (b ≡ x) → Has (states_at (set l x all) b) t
      keeps b t p (yes q) = rw (q, here) ((u.member t).1 (inl (rw q at p)))
      keeps b t p (no ne) = rw (states_at-set_other l x b all ne) p

      comes : (b t : ℕ) → Has (states_at (set l x all) b) t → Dec (b ≡ x) → Has (states_at l b) t ⊎ InSet x m b t
      comes b t p (yes q) = ⊎_elim (λ r. inl (rw q r)) (λ r. inr (record { there = q; in_set = r })) ((u.member t).0 (rw (q, here) at p))
      comes b t p (no ne) = inl (rw (states_at-set_other l x b all ne) at p)

-- one edge, by the image of the states
pub grows_edge : (g : Guide) (edge : FactEdge) (m n : ℕ) (old new : List StateSet) (grew : Bool) → IsImage (LedByRole g edge.role.0) m n
    → Grows (InSet edge.to.0 n) old new grew → Grows (ByEdge g edge m) old new grew
grows_edge g edge m n old new grew i w =
    grows_same (λ b t p. record { there = p.there; led = (i.member t).0 p.in_set })
    (λ b t p. record { there = p.there; in_set = (i.member t).1 p.led }) w

-- and one by which no state can be new
pub edge_passed : (g : Guide) (edge : FactEdge) (m : ℕ) (old : List StateSet)
    → EndsWithin g.directed.now.transitions.now edge.role.0 (states_at old edge.to.0)
    → Grows (ByEdge g edge m) old old false
edge_passed g edge m old within = record {
  raised = raised_none old;
  comes = λ b t p. inl p;
  has = λ b t p. let e = p.there in rw e (within p.led.number t p.led.holds);
}

-- edges that were given, one after another
module _ (g : Guide) (m : ℕ) where
  pub followed_none : (l : List StateSet) → Grows (ByEdges g (Contains []) m) l l false
  followed_none l = record { raised = raised_none l; comes = λ b t p. inl p; has = λ b t p. absurd (let n = p.among.1 in omega arith) }

  pub followed_more : (given : List FactEdge) (edge : FactEdge) (old now new : List StateSet) (x y : Bool)
      → Grows (ByEdges g (Contains given) m) old now x
      → Grows (ByEdge g edge m) now new y → Grows (ByEdges g (Contains (given ++ edge ∷ [])) m) old new (x || y)
  followed_more given edge old now new x y w n = grows_then w n to from
    where
      to : (b t : ℕ) → ByEdges g (Contains given) m b t ⊎ ByEdge g edge m b t → ByEdges g (Contains (given ++ edge ∷ [])) m b t
      to b t (inl p) = record { edge = p.edge; among = Contains-append_left given (edge ∷ []) p.edge p.among; there = p.there; led = p.led }
      to b t (inr p) = record { edge = edge; among = Contains-push given edge; there = p.there; led = p.led }

      from : (b t : ℕ) → ByEdges g (Contains (given ++ edge ∷ [])) m b t → ByEdges g (Contains given) m b t ⊎ ByEdge g edge m b t
      from b t p =
          ⊎_elim (λ n. inl (record { edge = p.edge; among = n; there = p.there; led = p.led }))
          (λ e. inr (rw e (record { there = p.there; led = p.led })))
          (Contains-push_cases given edge p.edge p.among)

  pub followed_all : {E F : FactEdge → Type 0} (old new : List StateSet) (x : Bool) → ((edge : FactEdge) → E edge ↔ F edge)
      → Grows (ByEdges g E m) old new x
      → Grows (ByEdges g F m) old new x
  followed_all old new x all w =
      grows_same (λ b t p. record { edge = p.edge; among = (all p.edge).0 p.among; there = p.there; led = p.led })
      (λ b t p. record { edge = p.edge; among = (all p.edge).1 p.among; there = p.there; led = p.led }) w

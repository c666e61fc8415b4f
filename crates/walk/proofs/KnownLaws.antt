-- What is known of individuals: nothing at first, then one component more; and what it is for a walk.
use Rattle.std.specs.Prelude.{◌≡◌, None, Some, List, [], ℕ, ◌+◌, ◌<◌, length, set, replicate, slice_index_or}
use Rattle.std.specs.Option.{ForSome}
use Rattle.std.proofs.Common.{sym, ◌∙◌, ⊎_elim, arith, length-set, get_or-set_same, get_or-set_other}
use Rattle.std.proofs.lemmas.List.{length-replicate, get_or-replicate}
use Rattle.std.proofs.lemmas.Option.{same_Some, none-some}
use Rattle.std.proofs.Math.Decide.{ℕ_discrete}
use Rattle.kinds.specs.declared.Individual.{Individual}
use Rattle.kinds.specs.declared.State.{State}
use Rattle.kinds.specs.Kinds.{most_individuals, individual}
use Rattle.sets.specs.declared.states.StateSet.{StateSet}
use Rattle.walk.specs.declared.components.Component.{Component}
use Rattle.walk.specs.declared.directed.Directed.{Directed}
use Rattle.walk.specs.declared.known.Known.{Known}
use Rattle.walk.specs.declared.strides.Strides.{Strides}
use Rattle.walk.specs.Directions.{Move}
use Rattle.walk.specs.Guides.{IsForward}
use Rattle.walk.specs.Known.{most_kept, place_in, IsKnown, kept_at, AreKnown, PutsMember}
use Rattle.walk.specs.Passes.{AreKnownBy}
use Rattle.walk.specs.Telling.{IsMember, IsComponent}
use Rattle.walk.specs.Walks.{WalkedBy}
use Rattle.walk.proofs.WalkLaws.{ahead_of}

-- no individual has a place
pub known_none : (s : Strides) (start : State) (k : Known) (sets : List StateSet)
    → k.places ≡ replicate most_individuals most_kept → k.sets ≡ replicate most_kept sets → AreKnown s start k
known_none s start k sets e many = record {
  long = rw e (length-replicate {A = ℕ} most_individuals most_kept);
  many = rw many (length-replicate {A = List StateSet} most_kept sets);
  below = λ f l i. absurd (none f l i);
  at = λ f l i. absurd (none f.0 l i);
}
  where
    none : (f : ℕ) → f < most_individuals → IsKnown k f → ⊥
    none f l i = let g = get_or-replicate {A = ℕ} most_individuals f most_kept 0 l in let p = rw e at i in omega arith

-- what is kept in the place k is what the members of the component reach
pub record IsKept (c : Component) (k : ℕ) (old new : Known) : Type 0 where
  pub low : k < new.count
  pub known : (s : Strides) (start : State) → IsComponent s start c → AreKnown s start old
      → AreKnown s start new × (kept_at new k ≡ c.reached)

-- the next place, before a member has it
pub kept_first : (c : Component) (old new : Known) → old.count < most_kept → new.places ≡ old.places → new.count ≡ old.count + 1
    → new.sets ≡ set old.sets old.count c.reached → IsKept c old.count old new
kept_first c old new h ep ec es = record { low = omega (arith, ec); known = λ s start is w. (known s start w, rw es (own w.many)) }
  where
    own : length old.sets ≡ most_kept → slice_index_or (set old.sets old.count c.reached) old.count [] ≡ c.reached
    own many = get_or-set_same old.sets old.count c.reached [] (omega (arith, many))

    other : (p : ℕ) → p < old.count → slice_index_or (set old.sets old.count c.reached) p [] ≡ slice_index_or old.sets p []
    other p b = get_or-set_other old.sets old.count p c.reached [] (λ q. omega arith)

    known : (s : Strides) (start : State) → AreKnown s start old → AreKnown s start new
    known s start w =
        record {
          long = rw ep w.long;
          many = rw es (length-set old.sets old.count c.reached ∙ w.many);
          below = λ f l i. let b = w.below f l (rw ep at i) in rw (ep, ec) (omega arith);
          at = λ f l i. let j = rw ep at i in rw (ep, es, other (place_in old f.0) (w.below f.0 l j)) (w.at f l j);
        }

-- and one individual after another
module _ (c : Component) (k f : ℕ) (now new : Known) (h : f < most_individuals) (p : PutsMember c f k now new) where
  module _ (s : Strides) (start : State) (is : IsComponent s start c) (low : k < now.count) (own : kept_at now k ≡ c.reached)
      (v : AreKnown s start now) where
    below : (g : ℕ) → g < most_individuals → IsKnown new g → Dec (g ≡ f) → place_in new g < new.count
    below g l i (yes e) = rw (e, p.count) (⊎_elim (λ q. rw q (v.below f h (rw (e, q) at i))) (λ q. rw q.0 low) p.own)
    below g l i (no ne) = rw (p.others g ne, p.count) (v.below g l (rw (p.others g ne) at i))

    same : (g : Individual) → g.0 ≡ f → IsKnown new f → place_in new f ≡ place_in now f → WalkedBy s g start (kept_at new (place_in new g.0))
    same g e i q = rw (p.sets, e, q) (let x = v.at g (rw e h) (rw e (rw q at i)) in rw e at x)

    member : (g : Individual) → g.0 ≡ f → (place_in new f ≡ k) × IsMember c f → WalkedBy s g start (kept_at new (place_in new g.0))
    member g e q = rw (p.sets, e, q.0, own) (let x = is.at g (rw e q.1) in rw e at x)

    at : (g : Individual) → g.0 < most_individuals → IsKnown new g.0 → Dec (g.0 ≡ f) → WalkedBy s g start (kept_at new (place_in new g.0))
    at g l i (yes e) = let j = rw e at i in ⊎_elim (λ q. same g e j q) (λ q. member g e q) p.own
    at g l i (no ne) = rw (p.sets, p.others g.0 ne) (v.at g l (rw (p.others g.0 ne) at i))

    known : AreKnown s start new
    known = record {
      long = p.long ∙ v.long;
      many = rw p.sets v.many;
      below = λ g l i. below g l i (ℕ_discrete g f);
      at = λ g l i. at g l i (ℕ_discrete g.0 f);
    }

  pub kept_more : (old : Known) → IsKept c k old now → IsKept c k old new
  kept_more old w = record {
    low = rw p.count w.low;
    known = λ s start is v. let u = w.known s start is v in (known s start is w.low u.1 u.0, rw p.sets u.1);
  }

-- what is known of individuals is true of what walks forward go by
pub known_lent : (s : Strides) (start : State) (d : Directed) → IsForward s.transitions.now d → (k : Known) → AreKnown s start k
    → AreKnownBy (Move d.direction s.loops.now.rows d.transitions.now s.edges.now.facts.numbers.now s.edges.now.roles.0) start.0 k
known_lent s start d forward k w = record {
  many = w.many;
  at = λ a l i. ahead_of _ _ _ _ s.covers d (individual a) start _ forward (w.at (individual a) l i);
}

-- a walk is lent what is known, or nothing
pub lent_some : {A : Type 0} (P : A → Type 0) (x : A) → P x → ForSome (Some x) P
lent_some P x p y e = rw (sym (same_Some x y e)) p

pub lent_none : {A : Type 0} (P : A → Type 0) → ForSome None P
lent_none P y e = absurd (none-some y e)

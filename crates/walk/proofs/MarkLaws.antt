-- Marks that are added: one after the other, and one word.
use Rattle.std.specs.Prelude.{◌≡◌, ◌≢◌, refl, ◌⊎◌, Bool, true, List, [], ℕ, ◌+◌, ◌^◌, ◌<◌, length, set, slice_index_or}
use Rattle.std.proofs.Common.{sym, ◌∙◌, inl, inr, ⊎_elim, arith, length-set}
use Rattle.std.proofs.Math.Decide.{ℕ_discrete}
use Rattle.std.specs.Int.RustNames.{bit_or}
use Rattle.kinds.specs.Kinds.{most_individuals, most_states}
use Rattle.sets.specs.Bits.{Has, Inserts, IsUnion, state_width}
use Rattle.sets.specs.declared.states.StateSet.{StateSet}
use Rattle.sets.proofs.Laws.{is_union}
use Rattle.walk.specs.declared.multi.MultiWalk.{MultiWalk}
use Rattle.sets.specs.Relations.{states_at}
use Rattle.walk.specs.Sources.{most_sources, word_at, Marked}
use Rattle.walk.specs.MultiWalks.{words_total, Within, Ready, Grown, At, Fills}
use Rattle.walk.proofs.SetLaws.{states_at-set_same, states_at-set_other, union_more}
use Rattle.walk.proofs.WordLaws.{both, stored_here, stored_other, stored_long, stored_total, left_marked}

pub grown_none : {P : ℕ → ℕ → ℕ → Type 0} (w : MultiWalk) → Ready w → ((k y u : ℕ) → P k y u → Marked w.words k y u) → Grown P w w
grown_none w r h =
    record {
      ready = r;
      all = refl;
      keeps = λ k y u p. p;
      comes = λ k y u p. inl p;
      has = h;
      waits = λ y u p. p;
      put = λ k y u p. inl p;
      less = omega arith;
    }

-- one after the other, under any name of both
pub grown_then : {P Q R : ℕ → ℕ → ℕ → Type 0} {a b c : MultiWalk} → Grown P a b → Grown Q b c → ((k i t : ℕ) → P k i t ⊎ Q k i t → R k i t)
    → ((k i t : ℕ) → R k i t → P k i t ⊎ Q k i t) → Grown R a c
grown_then v w to from =
    record {
      ready = w.ready;
      all = w.all ∙ v.all;
      keeps = λ k i t p. w.keeps k i t (v.keeps k i t p);
      comes =
          λ k i t p. ⊎_elim (λ q. ⊎_elim (λ r. inl r) (λ r. inr (to k i t (inl r))) (v.comes k i t q)) (λ q. inr (to k i t (inr q)))
          (w.comes k i t p);
      has = λ k i t p. ⊎_elim (λ q. w.keeps k i t (v.has k i t q)) (λ q. w.has k i t q) (from k i t p);
      waits = λ i t p. w.waits i t (v.waits i t p);
      put = λ k i t p. ⊎_elim (λ q. ⊎_elim (λ r. inl r) (λ r. inr (w.waits i t r)) (v.put k i t q)) (λ q. inr q) (w.put k i t p);
      less = omega (arith, v.less, w.less);
    }

-- under another name; what has to be marked may be known otherwise
pub grown_same : {P Q : ℕ → ℕ → ℕ → Type 0} {old new : MultiWalk} → ((k y u : ℕ) → P k y u → Q k y u)
    → ((k y u : ℕ) → Q k y u → P k y u ⊎ Marked old.words k y u)
    → Grown P old new → Grown Q old new
grown_same to from w =
    record {
      ready = w.ready;
      all = w.all;
      keeps = w.keeps;
      comes = λ k y u p. ⊎_elim (λ q. inl q) (λ q. inr (to k y u q)) (w.comes k y u p);
      has = λ k y u q. ⊎_elim (λ p. w.has k y u p) (λ p. w.keeps k y u p) (from k y u q);
      waits = w.waits;
      put = w.put;
      less = w.less;
    }

pub mark_none : (w : MultiWalk) (b t sources : ℕ) → Ready w → bit_or (word_at w.words b t) sources ≡ word_at w.words b t
    → Grown (At b t sources) w w
mark_none w b t sources r e =
    grown_none w r
    (λ k y u p. let a = p.there in let c = p.state in
    rw (a, c) (let q = ((is_union (word_at w.words b t) sources).member k).1 (inr p.first) in rw e at q))

-- Some firsts are stored in one word; with it the sets of what is full and of what is behind may change
pub record Stores (w : MultiWalk) (b t sources : ℕ) (full behind : List StateSet) : Type 0 where
  pub ready : Ready w
  pub row : b < most_individuals
  pub low : t < most_states
  pub part : Within sources w.all
  pub inside : bit_or (word_at w.words b t) sources < 2 ^ most_sources
  pub many : length behind ≡ most_individuals
  pub small : (a : ℕ) → states_at behind a < 2 ^ state_width
  pub on : Bool
  pub is : on ≡ true → bit_or (word_at w.words b t) sources ≡ w.all
  pub fills : Fills b t on w.full full

module _ (w : MultiWalk) (b t sources : ℕ) (full behind : List StateSet) (s : Stores w b t sources full behind) where
  abbrev pub word : ℕ
  word = bit_or (word_at w.words b t) sources

  abbrev pub after : MultiWalk
  after =
      record { words = set w.words b (set (slice_index_or w.words b []) t word); behind = behind; full = full; all = w.all }

  pub union : IsUnion (word_at w.words b t) sources word
  union = is_union (word_at w.words b t) sources

  pub wide : b < length w.words
  wide = let e = s.ready.wide in let r = s.row in omega arith

  pub long : t < length (slice_index_or w.words b [])
  long = let e = s.ready.long b s.row in let l = s.low in omega arith

  pub here : word_at after.words b t ≡ word
  here = stored_here w.words b t word wide long

  pub other : (y u : ℕ) → ((y ≡ b) × (u ≡ t) → ⊥) → word_at after.words y u ≡ word_at w.words y u
  other y u ne = stored_other w.words b t word wide y u ne

  pub place : (y u : ℕ) → Dec ((y ≡ b) × (u ≡ t))
  place y u = both (ℕ_discrete y b) (ℕ_discrete u t)

  keeps_at : (k y u : ℕ) → Marked w.words k y u → Dec ((y ≡ b) × (u ≡ t)) → Marked after.words k y u
  keeps_at k y u p (yes e) = rw (e.0, e.1, here) ((union.member k).1 (inl (rw (e.0, e.1) at p)))
  keeps_at k y u p (no ne) = rw (other y u ne) p

  pub keeps : (k y u : ℕ) → Marked w.words k y u → Marked after.words k y u
  keeps k y u p = keeps_at k y u p (place y u)

  pub own : (k : ℕ) → {y u : ℕ} → (y ≡ b) × (u ≡ t) → Has sources k → At b t sources k y u
  own k e p = record { there = e.0; state = e.1; low = let h = e.1 in let l = s.low in omega arith; first = p }

  comes_at : (k y u : ℕ) → Marked after.words k y u → Dec ((y ≡ b) × (u ≡ t)) → Marked w.words k y u ⊎ At b t sources k y u
  comes_at k y u p (yes e) = ⊎_elim (λ q. inl (rw (e.0, e.1) q)) (λ q. inr (own k e q)) ((union.member k).0 (rw (e.0, e.1, here) at p))
  comes_at k y u p (no ne) = inl (rw (other y u ne) at p)

  pub comes : (k y u : ℕ) → Marked after.words k y u → Marked w.words k y u ⊎ At b t sources k y u
  comes k y u p = comes_at k y u p (place y u)

  pub has : (k y u : ℕ) → At b t sources k y u → Marked after.words k y u
  has k y u p = let e = p.there in let c = p.state in rw (e, c, here) ((union.member k).1 (inr p.first))

  fit : (y u : ℕ) → Dec ((y ≡ b) × (u ≡ t)) → word_at after.words y u < 2 ^ most_sources
  fit y u (yes e) = rw (e.0, e.1, here) s.inside
  fit y u (no ne) = rw (other y u ne) (s.ready.fits y u)

  within : (k y u : ℕ) → Marked after.words k y u → Has w.all k
  within k y u p = ⊎_elim (λ q. s.ready.within k y u q) (λ q. s.part k q.first) (comes k y u p)

  is_full : (k y u : ℕ) → Has (states_at full y) u → Has w.all k → Marked after.words k y u
  is_full k y u p h =
      ⊎_elim (λ q. keeps k y u (s.ready.full k y u q h)) (λ q. let e = s.is q.2 in rw (q.0, q.1, here) (rw (sym e) at h))
      (s.fills.comes y u p)

  pub stores_ready : Ready after
  stores_ready =
      record {
        wide = length-set w.words b (set (slice_index_or w.words b []) t word) ∙ s.ready.wide;
        long = λ a h. stored_long w.words b t word wide most_states a (s.ready.long a h);
        fits = λ a u. fit a u (place a u);
        many = s.many;
        small = s.small;
        within = within;
        full = is_full;
      }

  pub stores_total : words_total after.words + word_at w.words b t ≡ words_total w.words + word
  stores_total = stored_total w.words b t word wide long

-- one word that has a first more: its node is behind
module _ (w : MultiWalk) (b t sources : ℕ) (full : List StateSet) (set_b : StateSet) (ready : Ready w) (row : b < most_individuals)
    (low : t < most_states)
    (differs : bit_or (word_at w.words b t) sources ≢ word_at w.words b t) (part : Within sources w.all)
    (inside : bit_or (word_at w.words b t) sources < 2 ^ most_sources)
    (ins : Inserts state_width (states_at w.behind b) t set_b.0) (fits : set_b.0 < 2 ^ state_width)
    (on : Bool) (is : on ≡ true → bit_or (word_at w.words b t) sources ≡ w.all) (fills : Fills b t on w.full full) where
  abbrev behind : List StateSet
  behind = set w.behind b set_b

  at_b : states_at behind b ≡ set_b.0
  at_b = states_at-set_same w.behind b set_b (let e = ready.many in omega arith)

  small : (y : ℕ) → Dec (y ≡ b) → states_at behind y < 2 ^ state_width
  small y (yes e) = rw (e, at_b) fits
  small y (no ne) = rw (states_at-set_other w.behind b y set_b ne) (ready.small y)

  pub stores : Stores w b t sources full behind
  stores =
      record {
        ready = ready;
        row = row;
        low = low;
        part = part;
        inside = inside;
        many = length-set w.behind b set_b ∙ ready.many;
        small = λ a. small a (ℕ_discrete a b);
        on = on;
        is = is;
        fills = fills;
      }

  waits : (y u : ℕ) → Has (states_at w.behind y) u → Dec (y ≡ b) → Has (states_at behind y) u
  waits y u p (yes e) = rw (e, at_b) ((ins.member u).1 (inl (rw e at p)))
  waits y u p (no ne) = rw (states_at-set_other w.behind b y set_b ne) p

  own_waits : Has (states_at behind b) t
  own_waits = rw at_b ((ins.member t).1 (inr (refl, omega arith)))

  put : (k y u : ℕ) → Marked (after w b t sources full behind stores).words k y u → Dec ((y ≡ b) × (u ≡ t))
      → Marked w.words k y u ⊎ Has (states_at behind y) u
  put k y u p (yes e) = inr (rw (e.0, e.1) own_waits)
  put k y u p (no ne) = inl (rw (other w b t sources full behind stores y u ne) at p)

  pub mark_some : Grown (At b t sources) w (after w b t sources full behind stores)
  mark_some =
      record {
        ready = stores_ready w b t sources full behind stores;
        all = refl;
        keeps = keeps w b t sources full behind stores;
        comes = comes w b t sources full behind stores;
        has = has w b t sources full behind stores;
        waits = λ y u p. waits y u p (ℕ_discrete y b);
        put = λ k y u p. put k y u p (place w b t sources full behind stores y u);
        less = left_marked w (after w b t sources full behind stores) (stores_ready w b t sources full behind stores)
            (omega (
              arith,
              stores_total w b t sources full behind stores,
              union_more _ _ _ (union w b t sources full behind stores),
              differs,
            ));
      }

-- The firsts of a multi-walk, marked one after another in the start state.
use Rattle.std.specs.Prelude.{◌≡◌, refl, ◌⊎◌, List, [], ℕ, ◌+◌, ◌<◌, replicate, slice_index_or}
use Rattle.std.proofs.Common.{ap, inl, inr, ⊎_elim, arith}
use Rattle.std.proofs.lemmas.List.{length-replicate, get_or-replicate}
use Rattle.std.proofs.Math.Decide.{ℕ_discrete, dec_lt}
use Rattle.std.proofs.Math.ListN.{get_or-eq_default}
use Rattle.std.specs.Int.RustNames.{bit_or}
use Rattle.kinds.specs.declared.Individual.{Individual}
use Rattle.kinds.specs.Kinds.{most_individuals, most_states}
use Rattle.sets.specs.Bits.{Has, IsOnly}
use Rattle.sets.specs.declared.states.StateSet.{StateSet}
use Rattle.sets.proofs.Laws.{is_union}
use Rattle.walk.specs.declared.multi.MultiWalk.{MultiWalk}
use Rattle.sets.specs.Relations.{states_at}
use Rattle.sets.specs.Rows.{no_states}
use Rattle.walk.specs.Sources.{most_sources, word_at, Marked, first_at}
use Rattle.walk.specs.MultiWalks.{Grown, At, IsUnmarked, StartsAt, Begun}
use Rattle.walk.proofs.SetLaws.{none_has, past_end}
use Rattle.walk.proofs.MarkLaws.{grown_same}

-- ---- nothing

abbrev zeros : List ℕ
zeros = replicate most_states 0

zero_row : (t : ℕ) → slice_index_or zeros t 0 ≡ 0
zero_row t = side (dec_lt t most_states)
  where
    side : Dec (t < most_states) → slice_index_or zeros t 0 ≡ 0
    side (yes l) = get_or-replicate {A = ℕ} most_states t 0 0 l
    side (no l) = get_or-eq_default zeros 0 {n = t} (omega (arith, length-replicate {A = ℕ} most_states 0))

abbrev rows_of_zeros : List (List ℕ)
rows_of_zeros = replicate most_individuals zeros

zero_rows : (a t : ℕ) → word_at rows_of_zeros a t ≡ 0
zero_rows a t = side (dec_lt a most_individuals)
  where
    side : Dec (a < most_individuals) → word_at rows_of_zeros a t ≡ 0
    side (yes l) = rw (get_or-replicate {A = List ℕ} most_individuals a zeros [] l) (zero_row t)
    side (no l) =
        rw (get_or-eq_default rows_of_zeros [] {n = a} (omega (arith, length-replicate {A = List ℕ} most_individuals zeros)))
        (get_or-eq_default [] 0 {n = t} (omega arith))

abbrev no_sets : List StateSet
no_sets = replicate most_individuals no_states

empty_at : (b : ℕ) → states_at no_sets b ≡ 0
empty_at b = side (dec_lt b most_individuals)
  where
    side : Dec (b < most_individuals) → states_at no_sets b ≡ 0
    side (yes l) = ap (λ (x : StateSet). x.0) (get_or-replicate {A = StateSet} most_individuals b no_states no_states l)
    side (no l) = past_end no_sets b (omega (arith, length-replicate {A = StateSet} most_individuals no_states))

pub unmarked : IsUnmarked
    (record { words = replicate most_individuals (replicate most_states 0); behind = no_sets; full = no_sets; all = 0 })
unmarked =
    record {
      wide = length-replicate {A = List ℕ} most_individuals zeros;
      long = λ a l. rw (get_or-replicate {A = List ℕ} most_individuals a zeros [] l) (length-replicate {A = ℕ} most_states 0);
      none = zero_rows;
      many = length-replicate {A = StateSet} most_individuals no_states;
      clean = empty_at;
      empty = empty_at;
    }

-- ---- first after first

-- a first more is awaited
pub every_more : (n all bit : ℕ) → ((k : ℕ) → k < n → Has all k) → IsOnly most_sources n bit → n < most_sources → (k : ℕ) → k < n + 1
    → Has (bit_or all bit) k
every_more n all bit g only l k m = ((is_union all bit).member k).1 (side (ℕ_discrete k n))
  where
    side : Dec (k ≡ n) → Has all k ⊎ Has bit k
    side (yes e) = inr ((only.member k).1 (e, omega arith))
    side (no e) = inl (g k (omega arith))

module _ (firsts : List Individual) (start : ℕ) where
  -- the first has a row, or has none
  pub put_some : (i bit : ℕ) (old new : MultiWalk) → IsOnly most_sources i bit → i < most_sources → first_at firsts i < most_individuals
      → Grown (At (first_at firsts i) start bit) old new
      → Grown (StartsAt firsts start i) old new
  put_some i bit old new only l row g =
      grown_same
      (λ k y u p. let e = p.there in
      record { own = ((only.member k).0 p.first).0; there = p.there; row = rw e row; state = p.state; low = p.low })
      (λ k y u p. inl
      (record { there = p.there; state = p.state; low = p.low; first = (only.member k).1 (let e = p.own in (e, omega arith)) })) g

  -- all firsts below the count are awaited
  pub begun_none : (count all : ℕ) (w : MultiWalk) → IsUnmarked w → ((k : ℕ) → k < count → Has all k)
      → Begun firsts start count 0 (record { words = w.words; behind = w.behind; full = w.full; all = all })
  begun_none count all w b awaits =
      record {
        ready = record {
          wide = b.wide;
          long = b.long;
          fits = λ a t. omega (arith, b.none a t);
          many = b.many;
          small = λ a. omega (arith, b.clean a);
          within = λ k a t p. absurd (never k a t p);
          full = λ k a t p h. absurd (none_has t (rw (b.empty a) at p));
        };
        awaits = awaits;
        begins = λ k l. absurd (omega arith);
        sound = λ k y u p. absurd (never k y u p);
        behind = λ k y u p. absurd (never k y u p);
      }
    where
      never : (k y u : ℕ) → Marked w.words k y u → ⊥
      never k y u p = none_has k (rw (b.none y u) at p)

  pub begun_more : (count n : ℕ) (old new : MultiWalk) → Begun firsts start count n old → Grown (StartsAt firsts start n) old new
      → Begun firsts start count (n + 1) new
  begun_more count n old new b g =
      record {
        ready = g.ready;
        awaits = λ k l. rw g.all (b.awaits k l);
        begins = λ k l i j. begins k l i j (ℕ_discrete k n);
        sound = λ k y u p. ⊎_elim (λ q. let r = b.sound k y u q in let l = r.0 in (omega arith, r.1)) (λ q. own k y u q) (g.comes k y u p);
        behind = λ k y u p. ⊎_elim (λ q. g.waits y u (b.behind k y u q)) (λ q. q) (g.put k y u p);
      }
    where
      own : (k y u : ℕ) → StartsAt firsts start n k y u → (k < n + 1) × StartsAt firsts start k k y u
      own k y u q =
          let e = q.own in
          let t = q.there in
          (omega arith, record { own = refl; there = rw e t; row = q.row; state = q.state; low = q.low })

      begins : (k : ℕ) → k < n + 1 → first_at firsts k < most_individuals → start < most_states → Dec (k ≡ n)
          → Marked new.words k (first_at firsts k) start
      begins k l i j (yes e) =
          g.has k (first_at firsts k) start (record { own = e; there = ap (first_at firsts) e; row = i; state = refl; low = j })
      begins k l i j (no ne) = g.keeps k (first_at firsts k) start (b.begins k (omega arith) i j)

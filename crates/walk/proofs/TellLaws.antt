-- The answers as they are made.
use Rattle.std.specs.Prelude.{◌≡◌, refl, ◌⊎◌, ◌↔◌, Bool, true, false, IsTrue, Option, Some, None, List, [], ℕ, ◌+◌, ◌<◌, ◌≤◌, length}
use Rattle.std.specs.Prelude.{get_or, set, replicate, slice_index}
use Rattle.std.proofs.Common.{sym, ap, ◌∙◌, inl, inr, ⊎_elim, arith, ext_get_or, length-set, get_or-set_same, get_or-set_other}
use Rattle.std.proofs.Math.Decide.{ℕ_discrete, dec_lt}
use Rattle.std.proofs.Math.ListN.{get_or-eq_default}
use Rattle.std.proofs.lemmas.Bool.{false≢true}
use Rattle.std.proofs.lemmas.List.{length-replicate, get_or-replicate}
use Rattle.std.specs.Int.RustNames.{bit_or}
use Rattle.kinds.specs.declared.Individual.{Individual}
use Rattle.kinds.specs.declared.Ask.{Ask}
use Rattle.kinds.specs.declared.Ask.TheVariants.{Pair, From}
use Rattle.kinds.specs.Asks.{first_of}
use Rattle.kinds.specs.Kinds.{most_individuals}
use Rattle.sets.specs.Bits.{Has, Meets, IsUnion, IsEmpty, TakesFirst}
use Rattle.sets.specs.declared.states.StateSet.{StateSet}
use Rattle.sets.proofs.Laws.{is_union}
use Rattle.walk.specs.declared.asking.Asking.{Asking}
use Rattle.walk.specs.declared.batch.Batch.{Batch}
use Rattle.walk.specs.declared.question.Question.{Question}
use Rattle.walk.specs.declared.strides.Strides.{Strides}
use Rattle.walk.specs.Asks.{Hit, PairHit, FromHit, PairAsked, FromAsked, Asked, YesBy}
use Rattle.walk.specs.Batches.{most_batch, size_of, ask_in}
use Rattle.walk.specs.Meant.{AreAnswers}
use Rattle.sets.specs.Relations.{states_at}
use Rattle.walk.specs.Sources.{Marked, first_at, AreMarked, InState, IsAt, InOne, IsIn}
use Rattle.walk.specs.Strides.{Walked}
use Rattle.walk.specs.Telling.{IsTold, Tells, Answering, HitBy, IsHitBy}
use Rattle.walk.specs.Walks.{ReachesBy}
use Rattle.walk.proofs.SetLaws.{none_has}

-- two tests of one fact are equal
same_test : (P : Type 0) (a b : Bool) → IsTrue a ↔ P → IsTrue b ↔ P → a ≡ b
same_test P true b s t = sym (t.1 (s.0 refl))
same_test P false true s t = s.1 (t.0 refl)
same_test P false false s t = refl

module _ (loops transitions : List (List StateSet)) (facts : List ℕ) (question : Question) where
  -- THEOREM: what a walk from x reached tells of an ask of x
  pub told-right : (x : Individual) (reached : List StateSet) → Walked loops transitions facts x question.start reached
      → (ask : Ask) (b : Bool) → (first_of ask).0 ≡ x.0 → IsTrue b ↔ Hit reached question ask
      → IsTrue b ↔ Asked loops transitions facts question ask
  told-right x reached w (From first) b e s = (λ p. met (s.0 p), λ a. s.1 (hit a))
    where
      met : FromHit reached question.accepting.now.rows → FromAsked loops transitions facts question first.0
      met h =
          let m = h.meets in
          let r = (w.at h.to m.0).0 m.1 in
          record { to = h.to; state = m.0; low = h.low; accepts = m.2; reaches = rw e r }

      hit : FromAsked loops transitions facts question first.0 → FromHit reached question.accepting.now.rows
      hit a = let r = a.reaches in record { to = a.to; low = a.low; meets = (a.state, (w.at a.to a.state).1 (rw e at r), a.accepts) }
  told-right x reached w (Pair first second) b e s = (λ p. met (s.0 p), λ a. s.1 (hit a))
    where
      met : PairHit reached question.finals.0 second.0 → PairAsked loops transitions facts question first.0 second.0
      met h = let r = (w.at second.0 h.0).0 h.1 in record { state = h.0; final = h.2; reaches = rw e r }

      hit : PairAsked loops transitions facts question first.0 second.0 → PairHit reached question.finals.0 second.0
      hit a = let r = a.reaches in (a.state, (w.at second.0 a.state).1 (rw e at r), a.final)

-- no individual was reached in an accepts of it
pub not_out : (reached accepting : List StateSet) (i : ℕ) → ((k : ℕ) → k < i → Meets (states_at reached k) (states_at accepting k) → ⊥)
    → most_individuals ≤ i
    → IsTrue false ↔ FromHit reached accepting
not_out reached accepting i none h = (λ e. absurd (false≢true e), λ w. absurd (let l = w.low in none w.to (omega arith) w.meets))

-- ---- what the words of a multi-walk tell

-- of the states of a set those in rest are still to come
pub record PastState (states rest : ℕ) (words : List ℕ) (k : ℕ) : Type 0 where
  pub here : InState states words k
  pub past : Has rest here.state → ⊥

pub record Gathered (states rest : ℕ) (words : List ℕ) (word : ℕ) : Type 0 where
  pub part : (s : ℕ) → Has rest s → Has states s
  pub at : (k : ℕ) → Has word k ↔ PastState states rest words k

module _ (states : ℕ) (words : List ℕ) where
  pub gathered_none : Gathered states states words 0
  gathered_none = record { part = λ s p. p; at = λ k. (λ p. absurd (none_has k p), λ p. absurd (p.past p.here.has)) }

  pub gathered_more : (w s rest after word : ℕ) → Gathered states rest words word → TakesFirst w rest s after
      → Gathered states after words (bit_or word (slice_index words s))
  gathered_more w s rest after word g first = record { part = λ i p. g.part i ((first.rest.member i).0 p).0; at = λ k. (to k, from k) }
    where
      union : IsUnion word (slice_index words s) (bit_or word (slice_index words s))
      union = is_union word (slice_index words s)

      to : (k : ℕ) → Has (bit_or word (slice_index words s)) k → PastState states after words k
      to k p =
          ⊎_elim (λ q. let h = (g.at k).0 q in record { here = h.here; past = λ r. h.past ((first.rest.member h.here.state).0 r).0 })
          (λ q. record {
            here = record { state = s; has = g.part s first.member; first = q };
            past = λ r. ((first.rest.member s).0 r).1 refl;
          }) ((union.member k).0 p)

      from : (k : ℕ) → PastState states after words k → Has (bit_or word (slice_index words s)) k
      from k p = (union.member k).1 (side (ℕ_discrete p.here.state s))
        where
          side : Dec (p.here.state ≡ s) → Has word k ⊎ Has (slice_index words s) k
          side (yes e) = let f = p.here.first in inr (rw e at f)
          side (no ne) = inl ((g.at k).1 (record { here = p.here; past = λ r. p.past ((first.rest.member p.here.state).1 (r, ne)) }))

  pub gathered_end : (rest word : ℕ) → Gathered states rest words word → IsEmpty rest → IsAt states words word
  gathered_end rest word g none =
      record { at = λ k. (λ p. ((g.at k).0 p).here, λ p. (g.at k).1 (record { here = p; past = none p.state })) }

-- all individuals, one after another
module _ (words : List (List ℕ)) (sets : List StateSet) where
  pub out_none : IsIn words sets 0 0
  out_none = record { at = λ k. (λ p. absurd (none_has k p), λ p. absurd (let l = p.low in omega arith)) }

  pub out_more : (n word own : ℕ) → IsIn words sets n word → IsAt (states_at sets n) (get_or words n []) own
      → IsIn words sets (n + 1) (bit_or word own)
  out_more n word own g w = record { at = λ k. (to k, from k) }
    where
      to : (k : ℕ) → Has (bit_or word own) k → InOne words sets (n + 1) k
      to k p =
          ⊎_elim (λ q. let h = (g.at k).0 q in let l = h.low in record { to = h.to; low = omega arith; in_state = h.in_state })
          (λ q. record { to = n; low = omega arith; in_state = (w.at k).0 q }) (((is_union word own).member k).0 p)

      from : (k : ℕ) → InOne words sets (n + 1) k → Has (bit_or word own) k
      from k p = ((is_union word own).member k).1 (side (ℕ_discrete p.to n))
        where
          side : Dec (p.to ≡ n) → Has word k ⊎ Has own k
          side (yes e) = let q = p.in_state in inr ((w.at k).1 (rw e at q))
          side (no ne) = let l = p.low in inl ((g.at k).1 (record { to = p.to; low = omega arith; in_state = p.in_state }))

  pub out_end : (n word : ℕ) → IsIn words sets n word → most_individuals ≤ n → n ≤ most_individuals
      → IsIn words sets most_individuals word
  out_end n word g h l = let e : n ≡ most_individuals = omega arith in rw e at g

module _ (s : Strides) (firsts : List Individual) (count : ℕ) (q : Question) (words : List (List ℕ))
    (w : AreMarked s firsts count q.start words)
    (k : ℕ) (below : k < count) where
  reached : (b t : ℕ) → Marked words k b t → ReachesBy s (first_at firsts k) q.start.0 b t
  reached b t p = ((w.at k b t).0 p).1

  marked : (b t : ℕ) → ReachesBy s (first_at firsts k) q.start.0 b t → Marked words k b t
  marked b t r = (w.at k b t).1 (below, r)

  -- THEOREM: the marks tell the answer to an ask of first k
  told : (ask : Ask) → (first_of ask).0 ≡ first_at firsts k → HitBy words q k ask ↔ YesBy s q ask
  told (Pair first second) e = (to, from)
    where
      to : HitBy words q k (Pair first second) → YesBy s q (Pair first second)
      to p = record { state = p.state; final = p.has; reaches = rw e (reached second.0 p.state p.first) }

      from : YesBy s q (Pair first second) → HitBy words q k (Pair first second)
      from y =
          let r = y.reaches in
          record { state = y.state; has = y.final; first = marked second.0 y.state (rw e at r) }
  told (From first) e = (to, from)
    where
      to : HitBy words q k (From first) → YesBy s q (From first)
      to p =
          let i = p.in_state in
          record {
            to = p.to;
            state = i.state;
            low = p.low;
            accepts = i.has;
            reaches = rw e (reached p.to i.state i.first);
          }

      from : YesBy s q (From first) → HitBy words q k (From first)
      from y =
          let r = y.reaches in
          record {
            to = y.to;
            low = y.low;
            in_state =
                record {
                  state = y.state;
                  has = y.accepts;
                  first = marked y.to y.state (rw e at r);
                };
          }

  pub marks-right : (ask : Ask) (word : ℕ) (b : Bool) → (first_of ask).0 ≡ first_at firsts k → IsHitBy words q ask word
      → IsTrue b ↔ Has word k → IsTrue b ↔ YesBy s q ask
  marks-right ask word b e h i = let y = told ask e in (λ p. y.0 ((h.at k).0 (i.0 p)), λ p. i.1 ((h.at k).1 (y.1 p)))

-- ---- answers

-- no ask has its answer
abbrev pub no_answers : List (Option Bool)
no_answers = replicate most_batch None

module _ (g : Asking) where
  abbrev Given : ℕ → List (Option Bool) → Type 0
  Given j v = IsTold g j (get_or v j None)

  -- the answer to ask k is put in
  pub tells_one : {Q : ℕ → Type 0} (k : ℕ) (old : List (Option Bool)) (b : Bool) → length old ≡ most_batch → k < size_of g.batch
      → IsTrue b ↔ YesBy g.strides g.question (ask_in g.batch k)
      → ((j : ℕ) → Q j → j ≡ k) → Tells g Q old (set old k (Some b))
  tells_one {Q} k old b long h right only =
      record { long = length-set old k (Some b); each = λ j. side j (ℕ_discrete j k); own = λ j q l. let e = only j q in rw e own }
    where
      here : get_or (set old k (Some b)) k None ≡ Some b
      here = get_or-set_same old k (Some b) None (omega arith)

      own : Given k (set old k (Some b))
      own = rw here (record { inside = h; is = record { answer = b; is = refl; right = right } })

      side : (j : ℕ) → Dec (j ≡ k) → (get_or (set old k (Some b)) j None ≡ get_or old j None) ⊎ Given j (set old k (Some b))
      side j (yes e) = rw e (inr own)
      side j (no ne) = inl (get_or-set_other old k j (Some b) None ne)

  -- an answer that was right is so still
  still : (j : ℕ) (old new : List (Option Bool)) → (get_or new j None ≡ get_or old j None) ⊎ Given j new → Given j old → Given j new
  still j old new (inl e) h = rw e h
  still j old new (inr h) _ = h

  -- no ask has its answer yet
  pub answering_none : Answering g 0 no_answers
  answering_none =
      record {
        long = length-replicate {A = Option Bool} most_batch None;
        each = λ j. inl (open_at j (dec_lt j most_batch));
        given = λ j l. absurd (omega arith);
      }
    where
      open_at : (j : ℕ) → Dec (j < most_batch) → get_or no_answers j None ≡ None
      open_at j (yes l) = get_or-replicate {A = Option Bool} most_batch j None None l
      open_at j (no l) = get_or-eq_default no_answers None {n = j} (omega (arith, length-replicate {A = Option Bool} most_batch None))

  -- ask k has its answer too
  next : (k : ℕ) (answers : List (Option Bool)) → Answering g k answers → (k < size_of g.batch → Given k answers)
      → Answering g (k + 1) answers
  next k answers a own = record { long = a.long; each = a.each; given = λ j l m. side j l m (ℕ_discrete j k) }
    where
      side : (j : ℕ) → j < k + 1 → j < size_of g.batch → Dec (j ≡ k) → Given j answers
      side j l m (yes e) = rw e (own (rw e at m))
      side j l m (no ne) = a.given j (omega arith) m

-- THEOREM: the contract of the answers leaves one outcome
pub answers-once : (s : Strides) (question : Question) (batch : Batch) (n : ℕ) (r q : List (Option Bool))
    → AreAnswers s question batch n r → AreAnswers s question batch n q → r ≡ q
answers-once s question batch n r q v w = ext_get_or None r q (v.long ∙ sym w.long) (λ i h. side i (dec_lt i (size_of batch)))
  where
    side : (i : ℕ) → Dec (i < size_of batch) → get_or r i None ≡ get_or q i None
    side i (no m) = v.rest i (omega arith) ∙ sym (w.rest i (omega arith))
    side i (yes m) =
        let x = v.each i m in
        let y = w.each i m in
        x.is ∙ ap (λ (b : Bool). Some b) (same_test (YesBy s question (ask_in batch i)) x.answer y.answer x.right y.right) ∙ sym y.is

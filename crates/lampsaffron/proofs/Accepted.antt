-- A list is accepted exactly where it is what the other call gives.
use Rattle.std.specs.Prelude.{◌≡◌, refl, List, [], ◌∷◌, ◌++◌, ℕ, zero, suc, ◌+◌, ◌*◌, ◌≤◌, ◌<◌, map, length, slice_index}
use Rattle.std.proofs.Common.{sym, ap, ◌∙◌, subst, arith, length-append, ext_get_or}
use Rattle.std.proofs.Math.Decide.{ℕ_discrete, dec_lt}
use Rattle.std.proofs.lemmas.List.{append_assoc, get_or-append-add}
use Rattle.kinds.specs.declared.Counts.{Counts}
use Rattle.kinds.specs.Kinds.{number-concept, concept-number}
use Rattle.laws.specs.First.{fails, holds}
use Rattle.laws.specs.Member.{◌∈◌}
use Rattle.laws.specs.Numbers.{upto, numbered, numbered-in}
use Rattle.theory.specs.Listing.{Listing}
use Rattle.theory.proofs.ListingLaws.{listing-once}
use Rattle.meaning.specs.Collection.{WellFormed}
use Rattle.meaning.specs.Lent.{Tables, Whole, field, records, collection}
use Rattle.meaning.specs.Listing.{numbered_lite}
use Rattle.meaning.proofs.ListingLaws.{entry-fits, lite-length, most-entries}
use Rattle.lampsaffron.specs.Listing.{Entry, entry_width, entry_numbers, list_numbers, most_entries}
use Rattle.lampsaffron.specs.Departs.{entry_count, entry_at, list_entries, EntryDeclared, EntriesDeclared, HasEntry, HasEntries}
use Rattle.lampsaffron.specs.Departs.{DepartsNumber, AcceptedIsGiven}
use Rattle.lampsaffron.proofs.ListingLaws.{numbers-long, AllHold, passed}
use Rattle.lampsaffron.proofs.DepartsLaws.{Canonical, entries-long, all-met}

-- the numbers of entries, behind others, are those entries
module _ (pre : List ℕ) (k : ℕ) (long : length pre ≡ entry_width * k) (e : Entry) (rest : List ℕ) where
  at : (j : ℕ) → slice_index (pre ++ (entry_numbers e ++ rest)) (entry_width * k + j) ≡ slice_index (entry_numbers e ++ rest) j
  at j = let g = get_or-append-add pre (entry_numbers e ++ rest) j 0 in rw long at g

  own-entry : HasEntry (pre ++ (entry_numbers e ++ rest)) k e
  own-entry = record {
    within = omega (arith, long, length-append pre (entry_numbers e ++ rest));
    round = at 0;
    from = at 1;
    to = at 2;
    of = at 3;
  }

own-entries : (pre : List ℕ) (k : ℕ) → length pre ≡ entry_width * k → (es : List Entry) → HasEntries (pre ++ list_numbers es) k es
own-entries pre k long [] = tt
own-entries pre k long (e ∷ es) =
    let l : length (pre ++ entry_numbers e) ≡ entry_width * suc k = length-append pre (entry_numbers e) ∙ omega (arith, long) in
    let rest = own-entries (pre ++ entry_numbers e) (suc k) l es in
    (own-entry pre k long e (list_numbers es), rw (append_assoc pre (entry_numbers e) (list_numbers es)) at rest)

-- entries of two lists that are the same have the same numbers
same-field : (a b : List ℕ) (k : ℕ) (es : List Entry) → HasEntries a k es → HasEntries b k es
    → (i : ℕ) → entry_width * k ≤ i → i < entry_width * (k + length es) → slice_index a i ≡ slice_index b i
same-field a b k [] g h i l m = absurd (omega arith)
same-field a b k (e ∷ es) g h i l m = by (dec_lt i (entry_width * suc k)) (same-field a b (suc k) es g.1 h.1 i)
  where
    is : (j : ℕ) → slice_index a (entry_width * k + j) ≡ slice_index b (entry_width * k + j) → i ≡ entry_width * k + j
        → slice_index a i ≡ slice_index b i
    is j f q = rw q f

    by : Dec (i < entry_width * suc k)
        → (entry_width * suc k ≤ i → i < entry_width * (suc k + length es) → slice_index a i ≡ slice_index b i)
        → slice_index a i ≡ slice_index b i
    by (no n) on = on (omega arith) (omega arith)
    by (yes q) on = elim (ℕ_discrete i (entry_width * k)) [
      | yes z ↦ is 0 (g.0.round ∙ sym h.0.round) (omega arith)
      | no z ↦ elim (ℕ_discrete i (entry_width * k + 1)) [
        | yes o ↦ is 1 (g.0.from ∙ sym h.0.from) o
        | no o ↦ elim (ℕ_discrete i (entry_width * k + 2)) [
          | yes w ↦ is 2 (g.0.to ∙ sym h.0.to) w
          | no w ↦ is 3 (g.0.of ∙ sym h.0.of) (omega arith)
        ]
      ]
    ]

-- a list has the entries that are read of it
read-entries : (list : List ℕ) (m k : ℕ) → k + m ≡ entry_count list → HasEntries list k (map (entry_at list) (upto m k))
unfolding upto
read-entries list zero k e = tt
read-entries list (suc m) k e = (
  record { within = omega arith; round = refl; from = refl; to = refl; of = sym (number-concept (field entry_width list 3 k)) },
  read-entries list m (suc k) (omega arith),
)

own-read : (list : List ℕ) → HasEntries list 0 (list_entries list)
unfolding records numbered
own-read list = read-entries list (entry_count list) 0 (omega arith)

module _ (c : Counts) (t : Tables) where
  -- what is accepted passed all tests, and is the list
  record Accepted (list : List ℕ) : Type 0 where
    whole : Whole entry_width most_entries list
    is : Listing (numbered_lite (collection c t)) (list_entries list)

  accepted : (list : List ℕ) {number : ℕ} → DepartsNumber c t list number → number ≡ 0 → Accepted list
  accepted list (fails n) e = absurd (omega arith)
  accepted list (holds a (fails n)) e = absurd (omega arith)
  accepted list (holds a (holds w (fails n))) e = absurd (omega arith)
  accepted list (holds a (holds w (holds s (fails n)))) e = absurd (omega arith)
  accepted list (holds a (holds w (holds s (holds n (fails d))))) e = absurd (omega arith)
  accepted list (holds a (holds w (holds s (holds n (holds d (fails k)))))) e = absurd (omega arith)
  accepted list (holds a (holds w (holds s (holds n (holds d (holds k (fails l))))))) e = absurd (omega arith)
  accepted list (holds a (holds w (holds s (holds n (holds d (holds k (holds l q))))))) e = record { whole = w; is = l }

  module _ (es : List Entry) (is : Listing (numbered_lite (collection c t)) es) where
    -- a list that is accepted has the numbers of the sheet's
    one-list : (list : List ℕ) → Accepted list → list ≡ list_numbers es
    one-list list a =
        let e = listing-once (numbered_lite (collection c t)) (list_entries list) es a.is is in
        let many = ap length e in
        let long : length list ≡ length (list_numbers es) = omega (arith, a.whole.unbroken, entries-long list, numbers-long es, many) in
        let read = own-read list in
        ext_get_or 0 list (list_numbers es) long
        (λ i h. same-field list (list_numbers es) 0 es (rw e at read) (own-entries [] 0 refl es) i (omega arith)
        (omega (arith, long, numbers-long es)))

    module _ (ok : AllHold c t) where
      𝓒-ok : WellFormed (collection c t)
      𝓒-ok = record { counts = ok.counts; numbers = ok.numbers.declared }

      fits : (e : Entry) → e ∈ es → EntryDeclared c e
      fits e i = let f = entry-fits (collection c t) 𝓒-ok es is e.0 e.1 e.2 e.3 i in
          record { from = f.valid.from; to = f.valid.to; of = f.valid.of }

      canonical : Canonical es
      canonical e i = concept-number c ok.counts.names e.3 (fits e i).of

      same : list_entries (list_numbers es) ≡ es
      same = all-met (list_numbers es) es canonical (length es) (record { met = own-entries [] 0 refl es; more = omega arith })
          (omega (arith, numbers-long es))

      declared : EntriesDeclared c (list_numbers es)
      unfolding records
      declared = record { each = λ k h. fits _ (rw same at (numbered-in (entry_at (list_numbers es)) (entry_count (list_numbers es)) k h)) }

      -- and its numbers are accepted
      own-accepted : DepartsNumber c t (list_numbers es) 0
      own-accepted =
          let a = lite-length (collection c t) 𝓒-ok es is in
          let b = most-entries c ok.counts in
          let n = numbers-long es in
          holds ok.counts
          (holds (record { unbroken = omega arith; few = omega arith })
          (holds ok.tables (holds ok.numbers
          (holds declared (holds ok.sane (holds (subst (Listing (numbered_lite (collection c t))) (sym same) is) refl))))))

-- THEOREM: a list is accepted exactly where it is what the other call gives
pub accepted-given : AcceptedIsGiven
accepted-given c t old new g list =
    let p = g.told refl in
    let ok = passed c t (length old.list) g.number_is refl in
    let e = p.2.front in (
      λ n. one-list c t p.0 p.1 list (accepted c t list n refl) ∙ sym e,
      λ q. let a = own-accepted c t p.0 p.1 ok in subst (λ l. DepartsNumber c t l 0) (sym (q ∙ e)) a,
    )

-- The list of a closed sheet, over any rules' kind with numbers: there is one, and it tells all.
use Rattle.std.specs.Prelude.{◌≡◌, refl, ◌↔◌, ◌⊎◌, AllPairs, Bool, List, [], ◌∷◌, T, ℕ, zero, suc, ◌+◌, ◌*◌, ◌≤◌, ◌<◌, length, slice_index, slice_index_or, map, count_by, nat_le, ◌==◌}
use Rattle.std.specs.List.Sorted.{IsStrictlySortedBy}
use Rattle.std.specs.Ordering.{on, nat_cmp, ordering_then, MatchOrdering}
use Rattle.std.specs.declared.cmp.Ordering.{Ordering}
use Rattle.std.specs.declared.cmp.Ordering.TheVariants.{Less, Equal, Greater}
use Rattle.std.specs.Cmp.{IsTotalOrder, nat_cmp_is, ranks}
use Rattle.std.proofs.Common.{sym, ap, ◌∙◌, subst, inl, inr, arith, ext_get_or, le→leb, leb→le}
use Rattle.std.proofs.Math.Dec.{eqb_refl}
use Rattle.std.proofs.Math.Facts.{eqb_yes}
use Rattle.std.proofs.Math.Decide.{dec_lt}
use Rattle.std.proofs.Math.Nat.{le-max_left, le-max_right, max-le}
use Rattle.std.proofs.Math.ListN.{get_or-map}
use Rattle.std.proofs.lemmas.List.{length-map}
use Rattle.std.proofs.lemmas.Cmp.{nat_list_cmp_total}
use Rattle.std.proofs.lemmas.Map.Lookups.{exact_bytes}
use Rattle.std.proofs.lemmas.Map.Keys.{Less-from_sorted}
use mathlib.Core.List.Memᴰ
use Rattle.laws.specs.Member.{◌∈◌, map-in, map-out}
use Rattle.laws.specs.Numbers.{numbered, length-numbered, get_d_numbered}
use Rattle.laws.specs.Once.{AtMostOne}
use Rattle.laws.specs.Select.{select, select_in, select-out, length-select}
use Rattle.laws.specs.Distinct.{Distinct, distinct-few, distinct-map, distinct-select}
use Rattle.laws.specs.Rises.{rises-both, rises-map, rises-distinct, rises-there, strict-once}
use Rattle.theory.specs.Sheet.{Markable, Mark, Needed}
use Rattle.theory.specs.Marks.{Added, Counted, Stands, RoundCounts}
use Rattle.theory.specs.LawsOfMarks.{Countable}
use Rattle.theory.specs.Listing.{Numbered, FirstIn, mark_numbers, mark_order, FirstMarks, MarksByRound, Entry, entry_numbers, entry_order, Listing, Lists, ListsUpTo, counts_of, last_round, entries_from, entries_of}
use Rattle.theory.specs.LawsOfListing.{AreToldApart, EntryPrecedes}
use Rattle.theory.proofs.SheetLaws.{mark-markable, marks-later, sheet-stays}
use Rattle.theory.proofs.Tests.{rounds-bound}
use Rattle.theory.proofs.MarksLaws.{triples, triple-in, triples-long, split, stands-there, adds-there, adds-some}

-- a number of counts that is that of lists
counts-at : {A : Type 0} (rounds : List (List A)) (n k : ℕ) → length rounds ≡ suc n → k < n
    → slice_index (counts_of rounds) k ≡ length (slice_index_or rounds (suc k) [])
counts-at [] n k e h = omega (arith, e)
counts-at (x ∷ rounds) n k e h = get_or-map length rounds k []

counts-long : {A : Type 0} (rounds : List (List A)) (n : ℕ) → length rounds ≡ suc n → length (counts_of rounds) ≡ n
counts-long [] n e = omega (arith, e)
counts-long (x ∷ rounds) n e = length-map rounds length ∙ omega (arith, e)

-- numbers go before what comes after them: the first that differ decide
then-less : (a b : ℕ) (o : Ordering) {P : Type 0} → (o ≡ Less → P) → ordering_then (nat_cmp a b) o ≡ Less → (a < b) ⊎ ((a ≡ b) × P)
then-less a b o {P} on = by (nat_cmp a b) (ranks a b)
  where
    by : (r : Ordering) → MatchOrdering r (a < b) (a ≡ b) (b < a) → ordering_then r o ≡ Less → (a < b) ⊎ ((a ≡ b) × P)
    by Less h e = inl h
    by Equal h e = inr (h, on e)
    by Greater h e = cc

last-less : (a b : ℕ) → ordering_then (nat_cmp a b) Equal ≡ Less → a < b
last-less a b e = elim (then-less a b Equal {P = ⊥} (λ h. cc) e) [ inl h ↦ h | inr h ↦ absurd h.1 ]

below-less : (a b : ℕ) (o : Ordering) → a < b → ordering_then (nat_cmp a b) o ≡ Less
below-less a b o h = rw (← nat_cmp_is a b Less h) refl

same-then : (a b : ℕ) (o : Ordering) → a ≡ b → ordering_then (nat_cmp a b) o ≡ o
same-then a b o h = rw (← nat_cmp_is a b Equal h) refl

module _ (𝓝 : Numbered) where
  open 𝓝 use {kind, state_number, concept_number}

  abbrev pub Triple : Type 0
  Triple = kind.State × kind.State × kind.Concept

  mark-total : IsTotalOrder (mark_order 𝓝)
  mark-total =
      let o = nat_list_cmp_total in
      record {
        antisymm = λ x y. o.antisymm (mark_numbers 𝓝 x) (mark_numbers 𝓝 y);
        trans = λ x y z. o.trans (mark_numbers 𝓝 x) (mark_numbers 𝓝 y) (mark_numbers 𝓝 z);
        congr = λ x y z. o.congr (mark_numbers 𝓝 x) (mark_numbers 𝓝 y) (mark_numbers 𝓝 z);
      }

  entry-total : IsTotalOrder (entry_order 𝓝)
  entry-total =
      let o = nat_list_cmp_total in
      record {
        antisymm = λ x y. o.antisymm (entry_numbers 𝓝 x) (entry_numbers 𝓝 y);
        trans = λ x y z. o.trans (entry_numbers 𝓝 x) (entry_numbers 𝓝 y) (entry_numbers 𝓝 z);
        congr = λ x y z. o.congr (entry_numbers 𝓝 x) (entry_numbers 𝓝 y) (entry_numbers 𝓝 z);
      }

  -- THEOREM: the entries of the list go by the round, then by s, then by t, then by B
  pub listing-in-order : (list : List (Entry 𝓝)) → Listing 𝓝 list → AllPairs (EntryPrecedes 𝓝) list
  listing-in-order list l = λ i j d h k. precedes _ _ (Less-from_sorted (entry_order 𝓝) list i j d l.sorted h k)
    where
      precedes : (x y : Entry 𝓝) → entry_order 𝓝 x y ≡ Less → EntryPrecedes 𝓝 x y
      precedes (m, s, t, B) (n, u, v, C) e = then-less _ _ _ (λ f. then-less _ _ _ (λ g. then-less _ _ _ (λ h. last-less _ _ h) g) f) e

  -- THEOREM: the marks that first stand in a round are one list
  pub marks-once : (n : ℕ) → AtMostOne (FirstMarks 𝓝 n)
  marks-once n x y a b =
      strict-once (mark_order 𝓝) mark-total x y a.sorted b.sorted
      (λ (s, t, B) i. (b.are s t B).1 ((a.are s t B).0 i)) (λ (s, t, B) i. (a.are s t B).1 ((b.are s t B).0 i))

  -- THEOREM: and so are those of all rounds up to one
  pub rounds-once : (n : ℕ) → AtMostOne (MarksByRound 𝓝 n)
  rounds-once n x y a b =
      ext_get_or [] x y (a.long ∙ sym b.long) (λ k l. marks-once k _ _ (a.each k (omega (arith, l, a.long))) (b.each k (omega (arith, l, a.long))))

  -- THEOREM: the list of the closed sheet is one
  pub listing-once : AtMostOne (Listing 𝓝)
  listing-once x y a b =
      strict-once (entry_order 𝓝) entry-total x y a.sorted b.sorted
      (λ (n, s, t, B) i. (b.are n s t B).1 ((a.are n s t B).0 i)) (λ (n, s, t, B) i. (a.are n s t B).1 ((b.are n s t B).0 i))

  -- THEOREM: the marks of round 0 first stand in it
  pub first-zero : (s t : kind.State) (B : kind.Concept) → FirstIn 𝓝 0 s t B ↔ Mark kind 0 s t B
  first-zero s t B = (λ f. f.stands, λ m. record { stands = m; no_sooner = λ k h. absurd (omega arith) })

  -- THEOREM: and in each further round those that it adds
  pub first-next : (n : ℕ) (s t : kind.State) (B : kind.Concept) → FirstIn 𝓝 (suc n) s t B ↔ Added kind n s t B
  first-next n s t B = (
    λ f. record { then = f.stands; before = f.no_sooner n (omega arith) },
    λ a. record { stands = a.then; no_sooner = λ m h k. a.before (marks-later kind n m (omega arith) s t B k) },
  )

  -- THEOREM: a mark first stands in one round
  pub first-once : (s t : kind.State) (B : kind.Concept) → AtMostOne (λ n. FirstIn 𝓝 n s t B)
  first-once s t B m n f g =
      elim (dec_lt m n) [
        | yes l ↦ absurd (g.no_sooner m l f.stands)
        | no l ↦ elim (dec_lt n m) [ yes h ↦ absurd (f.no_sooner n h g.stands) | no h ↦ omega arith ]
      ]

  -- THEOREM: the lengths of the lists are how many marks the rounds add
  pub counts-by-round : (n : ℕ) (rounds : List (List Triple)) → MarksByRound 𝓝 n rounds → RoundCounts kind n (counts_of rounds)
  counts-by-round n rounds r = record {
    long = counts-long rounds n (omega (arith, r.long));
    each = λ k h.
        let m = r.each (suc k) (omega (arith, h)) in
        record {
          marks = slice_index_or rounds (suc k) [];
          once = rises-distinct (mark_order 𝓝) mark-total _ m.sorted;
          are = λ s t B. (λ i. (first-next k s t B).0 ((m.are s t B).0 i), λ a. (m.are s t B).1 ((first-next k s t B).1 a));
          many = sym (counts-at rounds n k (omega (arith, r.long)) h);
        };
  }

  -- a mark of the sheet after any number of rounds stands in the closed sheet
  mark-closed : (n : ℕ) → Needed kind n → (m : ℕ) (s t : kind.State) (B : kind.Concept) → Mark kind m s t B → Mark kind n s t B
  mark-closed n needed m s t B k =
      elim (dec_lt n m) [
        | yes h ↦ (sheet-stays kind n needed m (omega arith) s t B).0 k
        | no h ↦ marks-later kind n m (omega arith) s t B k
      ]

  -- so that none first stands later
  pub none-later : (n : ℕ) → Needed kind n → (m : ℕ) (s t : kind.State) (B : kind.Concept) → FirstIn 𝓝 m s t B → m ≤ n
  none-later n needed m s t B f =
      elim (dec_lt n m) [ yes h ↦ absurd (f.no_sooner n h (mark-closed n needed m s t B f.stands)) | no h ↦ omega arith ]

  -- each mark of a sheet first stands in some round
  first-there : Countable kind → (n : ℕ) (s t : kind.State) (B : kind.Concept) → Mark kind n s t B → (m : ℕ) × (m ≤ n) × FirstIn 𝓝 m s t B
  first-there c zero s t B k = (0, omega arith, (first-zero s t B).1 k)
  first-there c (suc n) s t B k = side (split kind c n s t B k) (first-there c n s t B)
    where
      side : Mark kind n s t B ⊎ Added kind n s t B → (Mark kind n s t B → (m : ℕ) × (m ≤ n) × FirstIn 𝓝 m s t B)
          → (m : ℕ) × (m ≤ suc n) × FirstIn 𝓝 m s t B
      side (inl h) on = let w = on h in (w.0, omega (arith, w.1), w.2)
      side (inr a) on = (suc n, omega arith, (first-next n s t B).1 a)

  -- the mark of an entry
  mark_of : Entry 𝓝 → Triple
  mark_of x = (x.1, x.2, x.3)

  -- the last round is the smallest that is no earlier than any entry's
  last-least : (l : List (Entry 𝓝)) (x : Entry 𝓝) → x ∈ l → x.0 ≤ last_round 𝓝 l
  last-least [] x i = absurd (Memᴰ.not-nil i)
  last-least (y ∷ l) x i =
      let a = le-max_left y.0 (last_round 𝓝 l) in
      let b = le-max_right y.0 (last_round 𝓝 l) in
      elim (Memᴰ.cases_cons i) [ inl e ↦ rw e a | inr j ↦ omega (arith, b, last-least l x j) ]

  last_most : (n : ℕ) (l : List (Entry 𝓝)) → ((x : Entry 𝓝) → x ∈ l → x.0 ≤ n) → last_round 𝓝 l ≤ n
  last_most n [] h = omega arith
  last_most n (y ∷ l) h = max-le (h y (Memᴰ.head refl)) (last_most n l (λ x i. h x (Memᴰ.tail i)))

  module _ (list : List (Entry 𝓝)) (l : Listing 𝓝 list) where
    -- THEOREM: it has each mark once
    pub entry-once : (s t : kind.State) (B : kind.Concept) → AtMostOne (λ n. (n, s, t, B) ∈ list)
    entry-once s t B m n i j = first-once s t B m n ((l.are m s t B).0 i) ((l.are n s t B).0 j)

    entry-marks : (x y : Entry 𝓝) → x ∈ list → y ∈ list → mark_of x ≡ mark_of y → x ≡ y
    unfolding mark_of
    entry-marks (m, s, t, B) (n, u, v, C) i j e =
        let a = ap (λ (x : Triple). x.0) e in
        let b = ap (λ (x : Triple). x.1) e in
        let d = ap (λ (x : Triple). x.2) e in
        let k : ◌∈◌ {A = Entry 𝓝} (n, s, t, B) list = rw (a, b, d) j in
        let q = entry-once s t B m n i k in
        rw (a, b, d, q) refl

    list-distinct : Distinct list
    list-distinct = rises-distinct (entry_order 𝓝) entry-total list l.sorted

    -- the marks of the entries whose round passes a test are counted by the entries
    module _ (f : kind.State → kind.State → kind.Concept → Type 0) (test : ℕ → Bool)
        (into : (s t : kind.State) (B : kind.Concept) → f s t B → (m : ℕ) × T (test m) × FirstIn 𝓝 m s t B)
        (out : (m : ℕ) (s t : kind.State) (B : kind.Concept) → T (test m) → FirstIn 𝓝 m s t B → f s t B) where
      passed : List (Entry 𝓝)
      passed = select list (λ x. test x.0)

      listed-counts : Counted kind f (count_by (λ x. test x.0) list)
      unfolding passed mark_of
      listed-counts = record {
        marks = map mark_of passed;
        once =
            distinct-map mark_of passed
            (λ x y i j. entry-marks x y (select-out list (λ x. test x.0) i).0 (select-out list (λ x. test x.0) j).0)
            (distinct-select list (λ x. test x.0) list-distinct);
        are = λ s t B. (to s t B, from s t B);
        many = length-map passed mark_of ∙ length-select list (λ x. test x.0);
      }
        where
          to : (s t : kind.State) (B : kind.Concept) → (s, t, B) ∈ map mark_of passed → f s t B
          to s t B i =
              let w = map-out mark_of passed i in
              let v = select-out list (λ x. test x.0) w.1 in
              let x = w.0 in
              subst (λ (y : Triple). f y.0 y.1 y.2) (sym w.2) (out x.0 x.1 x.2 x.3 v.1 ((l.are x.0 x.1 x.2 x.3).0 v.0))

          from : (s t : kind.State) (B : kind.Concept) → f s t B → (s, t, B) ∈ map mark_of passed
          from s t B h =
              let w = into s t B h in
              map-in mark_of (select_in list (λ x. test x.0) ((l.are w.0 s t B).1 w.2) w.1)

    -- THEOREM: each round adds as many marks as entries have it
    pub counts-listed : (n : ℕ) → RoundCounts kind n (numbered (λ k. count_by (λ x. x.0 == suc k) list) n)
    counts-listed n = record {
      long = length-numbered many n;
      each = λ k h. rw (get_d_numbered many n k 0 h) (listed-counts (Added kind k) (λ m. m == suc k) (into k) (out k));
    }
      where
        many : ℕ → ℕ
        many k = count_by (λ x. x.0 == suc k) list

        into : (k : ℕ) (s t : kind.State) (B : kind.Concept) → Added kind k s t B → (m : ℕ) × T (m == suc k) × FirstIn 𝓝 m s t B
        into k s t B a = (suc k, eqb_refl (suc k), (first-next k s t B).1 a)

        out : (k m : ℕ) (s t : kind.State) (B : kind.Concept) → T (m == suc k) → FirstIn 𝓝 m s t B → Added kind k s t B
        out k m s t B h f = let e = eqb_yes h in (first-next k s t B).0 (rw e at f)

    module _ (c : Countable kind) where
      -- THEOREM: a mark stands after n rounds exactly when an entry has it with a round up to n
      pub listed-after : (n : ℕ) (s t : kind.State) (B : kind.Concept) → Mark kind n s t B ↔ ListsUpTo 𝓝 list n s t B
      listed-after n s t B = (
        λ k. let w = first-there c n s t B k in (w.0, omega (arith, w.1), (l.are w.0 s t B).1 w.2),
        λ w. let f = (l.are w.0 s t B).0 w.2 in marks-later kind n w.0 (omega (arith, w.1)) s t B f.stands,
      )

      -- THEOREM: and in the closed sheet when an entry has it
      pub listed-closed : (n : ℕ) → Needed kind n → (s t : kind.State) (B : kind.Concept)
          → Mark kind n s t B ↔ Lists 𝓝 list s t B
      listed-closed n needed s t B = (
        λ k. let w = first-there c n s t B k in (w.0, (l.are w.0 s t B).1 w.2),
        λ w. let f = (l.are w.0 s t B).0 w.1 in mark-closed n needed w.0 s t B f.stands,
      )

      needed-last : (n : ℕ) → Needed kind n → n ≡ last_round 𝓝 list
      needed-last zero needed =
          let h = last_most 0 list (λ (m, s, t, B) i. none-later 0 needed m s t B ((l.are m s t B).0 i)) in
          omega (arith, h)
      needed-last (suc k) needed =
          let h = last_most (suc k) list (λ (m, s, t, B) i. none-later (suc k) needed m s t B ((l.are m s t B).0 i)) in
          let a = adds-there kind c k in
          let some = adds-some kind c (suc k) needed k (omega arith) a.0 a.1 in
          let b = reached a.1.marks (λ s t B i. (a.1.are s t B).0 i) (omega (arith, some, a.1.many)) in
          omega (arith, h, b)
        where
          reached : (marks : List Triple) → ((s t : kind.State) (B : kind.Concept) → (s, t, B) ∈ marks → Added kind k s t B)
              → 1 ≤ length marks → suc k ≤ last_round 𝓝 list
          reached [] added some = absurd (omega (arith, some))
          reached ((s, t, B) ∷ marks) added some =
              last-least list (suc k, s, t, B) ((l.are (suc k) s t B).1 ((first-next k s t B).1 (added s t B (Memᴰ.head refl))))

      -- THEOREM: the rounds needed are the last round of an entry
      pub needed-is-last : (n : ℕ) → Needed kind n ↔ (n ≡ last_round 𝓝 list)
      needed-is-last n = (
        needed-last n,
        λ e.
            let w = rounds-bound kind c.tests c.decide c.sane in
            let d = needed-last w.0 w.2 in
            rw (e ∙ sym d) w.2,
      )

      -- THEOREM: after a round as many marks stand as entries have a round up to it
      pub stands-listed : (n : ℕ) → Stands kind n (count_by (λ x. nat_le x.0 n) list)
      stands-listed n =
          listed-counts (Mark kind n) (λ m. nat_le m n)
          (λ s t B k. let w = first-there c n s t B k in (w.0, le→leb w.0 n w.1, w.2))
          (λ m s t B h f. marks-later kind n m (leb→le m n h) s t B f.stands)

      -- THEOREM: it has no more entries than there are concepts × states × states
      pub listing-length : length list ≤ length kind.concepts * length kind.states * length kind.states
      unfolding mark_of
      listing-length =
          let few = distinct-few (map mark_of list) (triples kind)
          (distinct-map mark_of list entry-marks list-distinct) within in
          omega (arith, few, length-map list mark_of, triples-long kind)
        where
          within : (x : Triple) → x ∈ map mark_of list → x ∈ triples kind
          within x i =
              let w = map-out mark_of list i in
              let y = w.0 in
              let f = (l.are y.0 y.1 y.2 y.3).0 w.1 in
              rw w.2 (triple-in kind y.1 y.2 y.3 (mark-markable kind y.0 y.1 y.2 y.3 f.stands))

  module _ (c : Countable kind) (apart : AreToldApart 𝓝) where
    told-apart : (x y : Triple) → Markable kind x.0 x.1 x.2 → Markable kind y.0 y.1 y.2 → mark_order 𝓝 x y ≡ Equal → x ≡ y
    told-apart (s, t, B) (u, v, C) p q e =
        let same = exact_bytes (mark_numbers 𝓝 (s, t, B)) (mark_numbers 𝓝 (u, v, C)) e in
        let a = apart.states s u p.from q.from (ap (λ l. slice_index l 0) same) in
        let b = apart.states t v p.to q.to (ap (λ l. slice_index l 1) same) in
        let d = apart.concepts B C p.of q.of (ap (λ l. slice_index l 2) same) in
        rw (a, b, d) refl

    in-order : (n m : ℕ) → Counted kind (FirstIn 𝓝 n) m → (marks : List Triple) × FirstMarks 𝓝 n marks
    in-order n m a =
        let markable : (x : Triple) → x ∈ a.marks → Markable kind x.0 x.1 x.2 =
        λ (s, t, B) i. mark-markable kind n s t B ((a.are s t B).0 i).stands in
        let w = rises-there (mark_order 𝓝) mark-total a.marks (λ x y i j. told-apart x y (markable x i) (markable y j)) in (
          w.0,
          record {
            sorted = w.1.0;
            are = λ s t B. (λ i. (a.are s t B).0 ((w.1.1 (s, t, B)).0 i), λ f. (w.1.1 (s, t, B)).1 ((a.are s t B).1 f));
          },
        )

    first-counted : (n m : ℕ) (f : kind.State → kind.State → kind.Concept → Type 0)
        → ((s t : kind.State) (B : kind.Concept) → FirstIn 𝓝 n s t B ↔ f s t B) → Counted kind f m → Counted kind (FirstIn 𝓝 n) m
    first-counted n m f same a = record {
      marks = a.marks;
      once = a.once;
      are = λ s t B. (λ i. (same s t B).1 ((a.are s t B).0 i), λ h. (a.are s t B).1 ((same s t B).0 h));
      many = a.many;
    }

    marks-there : (n : ℕ) → (marks : List Triple) × FirstMarks 𝓝 n marks
    marks-there zero = in-order 0 _ (first-counted 0 _ (Mark kind 0) first-zero (stands-there kind c 0).1)
    marks-there (suc n) = in-order (suc n) _ (first-counted (suc n) _ (Added kind n) (first-next n) (adds-there kind c n).1)

    -- THEOREM: there are lists of the marks that first stand in each round
    pub rounds-there : (n : ℕ) → (rounds : List (List Triple)) × MarksByRound 𝓝 n rounds
    rounds-there n = (
      numbered (λ k. (marks-there k).0) (suc n),
      record {
        long = length-numbered (λ k. (marks-there k).0) (suc n);
        each = λ k h. rw (get_d_numbered (λ k. (marks-there k).0) (suc n) k [] (omega arith)) ((marks-there k).1);
      },
    )

  -- a mark as an entry of round n
  entry : ℕ → Triple → Entry 𝓝
  entry n x = (n, x.0, x.1, x.2)

  -- what stands among the entries of rounds from n on
  entries-out : (n : ℕ) (rounds : List (List Triple)) (m : ℕ) (s t : kind.State) (B : kind.Concept) → (m, s, t, B) ∈ entries_from 𝓝 n rounds
      → (k : ℕ) × (k < length rounds) × (m ≡ n + k) × ((s, t, B) ∈ slice_index_or rounds k [])
  unfolding entry
  entries-out n [] m s t B i = absurd (Memᴰ.not-nil i)
  entries-out n (marks ∷ rounds) m s t B i = side (Memᴰ.append_cases (map (entry n) marks) i) (entries-out (suc n) rounds m s t B)
    where
      side : ◌∈◌ {A = Entry 𝓝} (m, s, t, B) (map (entry n) marks) ⊎ ◌∈◌ {A = Entry 𝓝} (m, s, t, B) (entries_from 𝓝 (suc n) rounds)
          → (◌∈◌ {A = Entry 𝓝} (m, s, t, B) (entries_from 𝓝 (suc n) rounds)
          → (k : ℕ) × (k < length rounds) × (m ≡ suc n + k) × ((s, t, B) ∈ slice_index_or rounds k []))
          → (k : ℕ) × (k < length (marks ∷ rounds)) × (m ≡ n + k) × ((s, t, B) ∈ slice_index_or (marks ∷ rounds) k [])
      side (inl j) on =
          let w = map-out (entry n) marks j in
          let e = ap (λ (x : Entry 𝓝). x.0) w.2 in
          (0, omega arith, omega (arith, e), subst (λ (x : Entry 𝓝). ◌∈◌ {A = Triple} (x.1, x.2, x.3) marks) (sym w.2) w.1)
      side (inr j) on = let w = on j in (suc w.0, omega (arith, w.1), omega (arith, w.2), w.3)

  entries-in : (n : ℕ) (rounds : List (List Triple)) (k : ℕ) (s t : kind.State) (B : kind.Concept)
      → k < length rounds → (s, t, B) ∈ slice_index_or rounds k [] → (n + k, s, t, B) ∈ entries_from 𝓝 n rounds
  entries-in n [] k s t B h i = absurd (omega arith)
  entries-in n (marks ∷ rounds) zero s t B h i =
      let e : n + 0 ≡ n = omega arith in
      rw e (Memᴰ.append_left (entries_from 𝓝 (suc n) rounds) (map-in (λ (x : Triple). (n, x.0, x.1, x.2)) i))
  entries-in n (marks ∷ rounds) (suc k) s t B h i =
      let e : n + suc k ≡ suc n + k = omega arith in
      rw e (Memᴰ.append_right (map (λ (x : Triple). (n, x.0, x.1, x.2)) marks) (entries-in (suc n) rounds k s t B (omega arith) i))

  -- where the marks of each round rise, so do their entries
  entries-rise : (n : ℕ) (rounds : List (List Triple))
      → ((k : ℕ) → k < length rounds → IsStrictlySortedBy (mark_order 𝓝) (slice_index_or rounds k []))
      → IsStrictlySortedBy (entry_order 𝓝) (entries_from 𝓝 n rounds)
  unfolding IsStrictlySortedBy
  entries-rise n [] h = tt
  entries-rise n (marks ∷ rounds) h =
      rises-both (entry_order 𝓝) (map (λ (x : Triple). (n, x.0, x.1, x.2)) marks) (entries_from 𝓝 (suc n) rounds)
      (rises-map (mark_order 𝓝) (entry_order 𝓝) (λ x. (n, x.0, x.1, x.2)) (λ x y e. same-then n n _ refl ∙ e) marks (h 0 (omega arith)))
      (entries-rise (suc n) rounds (λ k l. h (suc k) (omega arith)))
      (λ x (m, s, t, B) i j.
      let w = map-out (λ (x : Triple). (n, x.0, x.1, x.2)) marks i in
      let e = ap (λ (x : Entry 𝓝). x.0) w.2 in
      let v = entries-out (suc n) rounds m s t B j in
      below-less x.0 m _ (omega (arith, e, v.2)))

  -- THEOREM: the marks of the rounds up to the rounds needed are the list of the closed sheet
  pub rounds-listing : (n : ℕ) (rounds : List (List Triple)) → Needed kind n → MarksByRound 𝓝 n rounds → Listing 𝓝 (entries_of 𝓝 rounds)
  rounds-listing n rounds needed r = record {
    sorted = entries-rise _ rounds (λ k h. let m = r.each k (omega (arith, h, r.long)) in m.sorted);
    are = λ m s t B. (
      λ i.
          let w = entries-out _ rounds m s t B i in
          let e : m ≡ w.0 = omega (arith, w.2) in
          let f = r.each w.0 (omega (arith, w.1, r.long)) in
          rw e ((f.are s t B).0 w.3),
      λ f.
          let h = none-later n needed m s t B f in
          let g = r.each m (omega (arith, h)) in
          let e : 0 + m ≡ m = omega arith in
          rw e at (entries-in 0 rounds m s t B (omega (arith, h, r.long)) ((g.are s t B).1 f)),
    );
  }

  -- THEOREM: so there is one
  pub listing-there : Countable kind → AreToldApart 𝓝 → (list : List (Entry 𝓝)) × Listing 𝓝 list
  listing-there c apart =
      let w = rounds-bound kind c.tests c.decide c.sane in
      let r = rounds-there c apart w.0 in
      (entries_of 𝓝 r.0, rounds-listing w.0 r.0 w.2 r.1)

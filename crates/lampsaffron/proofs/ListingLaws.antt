-- The list of a closed sheet, put into a row entry by entry; and the number that is given.
use Rattle.std.specs.Prelude.{◌≡◌, ◌≢◌, refl, Bool, true, false, List, [], ◌∷◌, ◌++◌, ℕ, suc, ◌*◌, ◌/◌, ◌≤◌, length}
use Rattle.std.proofs.Common.{sym, subst, ap, ◌∙◌, arith}
use Rattle.std.proofs.lemmas.List.{map-append, append-nil}
use Rattle.std.proofs.lemmas.Grind.{flat_map-append}
use Rattle.kinds.specs.declared.State.{State}
use Rattle.kinds.specs.declared.Concept.{Concept}
use Rattle.kinds.specs.declared.Counts.{Counts}
use Rattle.kinds.specs.Answer.{answer_number}
use Rattle.kinds.specs.Kinds.{CountsFit}
use Rattle.laws.specs.First.{FirstOf, ◌else◌, fails, holds, first-once}
use Rattle.theory.specs.Listing.{Listing, entries_from, entries_of}
use Rattle.meaning.specs.Collection.{Collection}
use Rattle.meaning.specs.Layout.{area_length}
use Rattle.meaning.specs.Lent.{Tables, collection, NumbersFit, ShapesOk}
use Rattle.meaning.specs.Listing.{numbered_lite}
use Rattle.meaning.specs.Model.{Contradiction}
use Rattle.meaning.proofs.ClashLaws.{clash-is}
use Rattle.meaning.proofs.Reply.{clash}
use Rattle.meaning.proofs.ListingLaws.{lite-length, most-entries}
use Rattle.tables.specs.declared.collection.Refusal.{Refusal}
use Rattle.tables.specs.declared.collection.Refusal.TheVariants.{BadCount, BadTable, BadNumber}
use Rattle.tables.specs.Lists.{lists}
use Rattle.tables.specs.Refusals.{answer_of}
use Rattle.sheet.specs.declared.round_marks.RoundMarks.{RoundMarks}
use Rattle.index.specs.declared.lent.Lent.{Lent}
use Rattle.index.specs.Marks.{SheetTold}
use Rattle.index.specs.Worked.{IsRefused}
use Rattle.index.specs.Works.{meant, Passes}
use Rattle.index.proofs.Joined.{well}
use Rattle.index.proofs.Replies as replies
use Rattle.index.proofs.ToldWhole.{sheet-listed}
use Rattle.lampsaffron.specs.Front.{Puts}
use Rattle.lampsaffron.specs.Listing.{Entry, entries_in, entry_width, entry_numbers, list_numbers, most_entries, left}
use Rattle.lampsaffron.specs.Listing.{ListingNumber, PutsList, TellsList, TellsListing}
use Rattle.lampsaffron.proofs.Front.{all_put, puts-front, puts-nothing}

-- the entries of one mark more; and their numbers
pub entries-one : (round : ℕ) (marks : RoundMarks) (x : State × State × Concept)
    → entries_in round (marks ++ x ∷ []) ≡ entries_in round marks ++ (round, x.0, x.1, x.2) ∷ []
entries-one round marks x = map-append (λ (x : State × State × Concept). (round, x.0, x.1, x.2)) marks (x ∷ [])

pub entries-more : (round : ℕ) (marks : RoundMarks) (x : State × State × Concept)
    → list_numbers (entries_in round (marks ++ x ∷ [])) ≡ list_numbers (entries_in round marks) ++ entry_numbers (round, x.0, x.1, x.2)
entries-more round marks x =
    ap list_numbers (entries-one round marks x)
    ∙ (flat_map-append entry_numbers (entries_in round marks) ((round, x.0, x.1, x.2) ∷ [])
    ∙ ap (λ l. list_numbers (entries_in round marks) ++ l) (append-nil (entry_numbers (round, x.0, x.1, x.2))))

-- what is put of rounds are the numbers of their entries
abbrev pub put_entries : ℕ → RoundMarks → List ℕ
put_entries round marks = list_numbers (entries_in round marks)

entries-put : (𝓒 : Collection) (n : ℕ) (rounds : List RoundMarks)
    → all_put put_entries n rounds ≡ list_numbers (entries_from (numbered_lite 𝓒) n rounds)
unfolding all_put
entries-put 𝓒 n [] = refl
entries-put 𝓒 n (marks ∷ rounds) =
    ap (λ l. put_entries n marks ++ l) (entries-put 𝓒 (suc n) rounds)
    ∙ sym (flat_map-append entry_numbers (entries_in n marks) (entries_from (numbered_lite 𝓒) (suc n) rounds))

pub numbers-long : (list : List Entry) → length (list_numbers list) ≡ entry_width * length list
numbers-long [] = refl
numbers-long (e ∷ list) = omega (arith, numbers-long list)

module _ (l : Lent) (p : Passes l.collection) where
  abbrev 𝓒 : Collection
  𝓒 = meant l.collection

  -- there is a place for each entry
  few-entries : (list : List Entry) → Listing (numbered_lite 𝓒) list → length list ≤ most_entries
  few-entries list is =
      let a = lite-length 𝓒 (well l.collection p) list is in
      let b = most-entries l.collection.counts p.counts in
      omega (arith, a, b)

  module _ (rounds : List RoundMarks) (t : SheetTold 𝓒 rounds) where
    -- THEOREM: where all rounds were put, the list is
    pub list-put : (Contradiction 𝓒 → ⊥) → {n : ℕ} {old new : List ℕ} → Puts (all_put put_entries 0 rounds) old 0 new n
        → PutsList l.collection.counts (lists l.collection) n old new
    list-put sane puts = (
      entries_of (numbered_lite 𝓒) rounds,
      sheet-listed 𝓒 (well l.collection p) rounds t sane,
      rw (entries-put 𝓒 0 rounds) at (puts-front puts),
    )

  -- where there is no sheet the row stays
  pub none-put : (rounds : List RoundMarks) → SheetTold 𝓒 rounds → ((Contradiction 𝓒 → ⊥) → ⊥) → {n : ℕ} {old new : List ℕ}
      → Puts (all_put put_entries 0 rounds) old 0 new n → new ≡ old
  none-put rounds t broken {n} {old} {new} puts = by (clash 𝓒) refl
    where
      by : (b : Bool) → clash 𝓒 ≡ b → new ≡ old
      by true e =
          let none = t.none ((clash-is 𝓒 (well l.collection p)).0 e) in
          let is = rw (none, entries-put 𝓒 0 []) at puts in
          puts-nothing is
      by false e = absurd (broken (replies.fails (clash-is 𝓒 (well l.collection p)) e))

  -- THEOREM: and there is a place for all that is told
  pub few-told : (rounds : List RoundMarks) → SheetTold 𝓒 rounds → length (all_put put_entries 0 rounds) ≤ entry_width * most_entries
  few-told rounds t = by (clash 𝓒) refl
    where
      by : (b : Bool) → clash 𝓒 ≡ b → length (all_put put_entries 0 rounds) ≤ entry_width * most_entries
      by true e =
          let none = t.none ((clash-is 𝓒 (well l.collection p)).0 e) in
          rw (none, entries-put 𝓒 0 []) (omega arith)
      by false e =
          let is = sheet-listed 𝓒 (well l.collection p) rounds t (replies.fails (clash-is 𝓒 (well l.collection p)) e) in
          let list = entries_of (numbered_lite 𝓒) rounds in
          rw (entries-put 𝓒 0 rounds) (omega (arith, numbers-long list, few-entries list is))

module _ (c : Counts) (t : Tables) (room : ℕ) (fit : CountsFit c) (place : entry_width * most_entries ≤ room) where
  -- the number by whether there is a sheet
  pub number-sheet : ShapesOk t → NumbersFit c t → (Contradiction (collection c t) → ⊥) → ListingNumber c t room 0
  number-sheet s n sane = holds fit (holds place (holds s (holds n (holds sane refl))))

  pub number-none : ShapesOk t → NumbersFit c t → ((Contradiction (collection c t) → ⊥) → ⊥) → ListingNumber c t room 2
  number-none s n broken = holds fit (holds place (holds s (holds n (fails broken))))

-- the number of a collection that is refused, where its counts are not: 5 or 6
pub refused-number : (l : Lent) → CountsFit l.collection.counts → (why : Refusal) → IsRefused l area_length area_length why
    → (Rest : ℕ → Type 0)
    → FirstOf (ShapesOk (lists l.collection) else 5 ∷ NumbersFit l.collection.counts (lists l.collection) else 6 ∷ []) Rest
    (answer_number (answer_of why))
refused-number l fit BadCount h Rest = absurd (h.bad_count.0 refl fit)
refused-number l fit BadTable h Rest =
    let w = h.bad_table.0 refl in fails (λ s. w.tables (record { tables = s; area = refl; spare = refl }))
refused-number l fit BadNumber h Rest = let w = h.bad_number.0 refl in holds w.tables.tables (fails w.numbers)

-- all tests hold, and there is a sheet
pub record AllHold (c : Counts) (t : Tables) : Type 0 where
  pub counts : CountsFit c
  pub tables : ShapesOk t
  pub numbers : NumbersFit c t
  pub sane : Contradiction (collection c t) → ⊥

module _ (c : Counts) (t : Tables) (room : ℕ) where
  -- 7 is never given
  pub listing-seven : {number : ℕ} → ListingNumber c t room number → number ≢ 7
  listing-seven (fails n) e = omega arith
  listing-seven (holds a (fails n)) e = omega arith
  listing-seven (holds a (holds b (fails n))) e = omega arith
  listing-seven (holds a (holds b (holds s (fails n)))) e = omega arith
  listing-seven (holds a (holds b (holds s (holds n (fails k))))) e = omega arith
  listing-seven (holds a (holds b (holds s (holds n (holds k q))))) e = omega (arith, q)

  -- THEOREM: one number is given
  pub listing-number-once : (n m : ℕ) → ListingNumber c t room n → ListingNumber c t room m → n ≡ m
  listing-number-once = first-once (first-once (first-once (first-once (first-once (λ n m h k. h ∙ sym k)))))

  -- after 0 all tests hold
  pub passed : {number : ℕ} → ListingNumber c t room number → number ≡ 0 → AllHold c t
  passed (fails n) e = absurd (omega arith)
  passed (holds a (fails n)) e = absurd (omega arith)
  passed (holds a (holds b (fails n))) e = absurd (omega arith)
  passed (holds a (holds b (holds s (fails n)))) e = absurd (omega arith)
  passed (holds a (holds b (holds s (holds n (fails k))))) e = absurd (omega arith)
  passed (holds a (holds b (holds s (holds n (holds k q))))) e = record { counts = a; tables = s; numbers = n; sane = k }

  -- and the list has so many entries as it has place for
  pub told-few : {number : ℕ} → ListingNumber c t room number → number ≡ 0 → (n : ℕ) {old new : List ℕ} → PutsList c t n old new
      → n ≤ entry_width * most_entries
  told-few is e n p =
      let all = passed is e in
      let a = lite-length (collection c t) (record { counts = all.counts; numbers = all.numbers.declared }) p.0 p.1 in
      let b = most-entries c all.counts in
      omega (arith, a, b, p.2.many, numbers-long p.0)

-- where nothing is written
pub tells-kept : {c : Counts} {t : Tables} {list new : List ℕ} (entries : ℕ) {number : ℕ} → ListingNumber c t (length list) number
    → number ≢ 0 → new ≡ list → TellsListing c t (left list entries) number (left new entries)
tells-kept entries is n e = record { number_is = is; told = λ z. absurd (n z); kept = λ m. ap (λ l. left l entries) e }

-- what is lent is what is passed
module _ (l : Lent) {c : Counts} {t : Tables} (e : l.collection.counts ≡ c) (f : lists l.collection ≡ t) where
  pub as-passed : (P : Counts → Tables → Type 0) → P l.collection.counts (lists l.collection) → P c t
  as-passed P h = subst (λ (x : Counts × Tables). P x.0 x.1) (λ i. (e i, f i)) h

  -- so the row, by whatever name, tells how many entries the list has
  pub tells-list : {n : ℕ} {old new new' : List ℕ} → PutsList l.collection.counts (lists l.collection) n old new → new' ≡ new
      → TellsList c t (n / entry_width) old new'
  tells-list {n} {old} {new} p q =
      let g : entry_width * (n / entry_width) ≡ n = omega (arith, p.2.many, numbers-long p.0) in
      rw (g, q) (as-passed (λ c t. PutsList c t n old new) p)

-- A row of pairs that is put into a row of asks, and asked in turn, is told so.
use Rattle.std.specs.Prelude.{◌≡◌, ◌≢◌, refl, IfSome, List, ℕ, ◌+◌, ◌*◌, ◌<◌, ◌≤◌, min, length, take, slice_index, set}
use Rattle.std.proofs.Common.{sym, ap, ◌∙◌, subst, add-zero, arith, length-set, get_or-set_same, get_or-set_other, length-take, below_more}
use Rattle.std.proofs.lemmas.List.{get_or-take}
use Rattle.kinds.specs.declared.Answer.{Answer}
use Rattle.kinds.specs.declared.Ask.{Ask}
use Rattle.kinds.specs.declared.Counts.{Counts}
use Rattle.meaning.specs.Lent.{Tables, field}
use Rattle.tables.specs.Asks.{ask_width, read_ask}
use Rattle.tables.specs.Lists.{lists}
use Rattle.index.specs.declared.lent.Lent.{Lent}
use Rattle.index.specs.Preparation.{Preparation, made_of, preparation}
use Rattle.index.specs.Row.{ask_count, StandsAt, InTurn}
use Rattle.index.proofs.Rows.{retold}
use Rattle.lampsaffron.specs.Boundary.{pair_width, pair_count, pair_at, most_asks, RowFits, Tells, TellsEach}
use Rattle.lampsaffron.specs.Row.{HasPair, HasPairs}
use Rattle.lampsaffron.specs.Asks.{AsksFit}

pub pairs_none : (pairs row : List ℕ) → length row ≡ ask_width * most_asks → HasPairs pairs row 0
pairs_none pairs row e = record { long = e; each = λ k h. absurd (omega arith) }

module _ (pairs row : List ℕ) (n : ℕ) (w : HasPairs pairs row n) (h : n < most_asks) where
  abbrev one : List ℕ
  one = set row (ask_width * n) 0

  abbrev two : List ℕ
  two = set one (ask_width * n + 1) (slice_index pairs (pair_width * n))

  abbrev all : List ℕ
  all = set two (ask_width * n + 2) (slice_index pairs (pair_width * n + 1))

  long-one : length one ≡ ask_width * most_asks
  long-one = length-set row (ask_width * n) 0 ∙ w.long

  long-two : length two ≡ ask_width * most_asks
  long-two = length-set one (ask_width * n + 1) (slice_index pairs (pair_width * n)) ∙ long-one

  long-all : length all ≡ ask_width * most_asks
  long-all = length-set two (ask_width * n + 2) (slice_index pairs (pair_width * n + 1)) ∙ long-two

  -- the numbers of another ask stay
  stays : (i : ℕ) → i ≢ ask_width * n → i ≢ ask_width * n + 1 → i ≢ ask_width * n + 2 → slice_index all i ≡ slice_index row i
  stays i a b c =
      get_or-set_other two (ask_width * n + 2) i (slice_index pairs (pair_width * n + 1)) 0 c
      ∙ get_or-set_other one (ask_width * n + 1) i (slice_index pairs (pair_width * n)) 0 b
      ∙ get_or-set_other row (ask_width * n) i 0 0 a

  new : HasPair pairs all n
  new = record {
    kind =
        get_or-set_other two (ask_width * n + 2) (ask_width * n) (slice_index pairs (pair_width * n + 1)) 0 (λ e. omega arith)
        ∙ get_or-set_other one (ask_width * n + 1) (ask_width * n) (slice_index pairs (pair_width * n)) 0 (λ e. omega arith)
        ∙ get_or-set_same row (ask_width * n) 0 0 (omega (arith, w.long));
    first =
        get_or-set_other two (ask_width * n + 2) (ask_width * n + 1) (slice_index pairs (pair_width * n + 1)) 0 (λ e. omega arith)
        ∙ get_or-set_same one (ask_width * n + 1) (slice_index pairs (pair_width * n)) 0 (omega (arith, long-one));
    second = get_or-set_same two (ask_width * n + 2) (slice_index pairs (pair_width * n + 1)) 0 (omega (arith, long-two));
  }

  old : (k : ℕ) → k < n → HasPair pairs all k
  old k l =
      let v = w.each k l in
      record {
        kind = stays (ask_width * k) (λ e. omega arith) (λ e. omega arith) (λ e. omega arith) ∙ v.kind;
        first = stays (ask_width * k + 1) (λ e. omega arith) (λ e. omega arith) (λ e. omega arith) ∙ v.first;
        second = stays (ask_width * k + 2) (λ e. omega arith) (λ e. omega arith) (λ e. omega arith) ∙ v.second;
      }

  pub pairs_more : HasPairs pairs all (n + 1)
  pairs_more = record { long = long-all; each = below_more (HasPair pairs all) n old new }

pub pairs_most : (pairs row : List ℕ) (n m : ℕ) → m ≤ n → HasPairs pairs row n → HasPairs pairs row m
pairs_most pairs row n m h w = record { long = w.long; each = λ k l. w.each k (omega arith) }

-- so read, it is that pair
pub pair_is : (pairs row : List ℕ) (k : ℕ) → HasPair pairs row k → read_ask row k ≡ pair_at pairs k
pair_is pairs row k h =
    let kind : field ask_width row 0 k ≡ 0 = ap (λ i. slice_index row i) (add-zero (ask_width * k)) ∙ h.kind in
    let first : field ask_width row 1 k ≡ field pair_width pairs 0 k =
    h.first ∙ ap (λ i. slice_index pairs i) (sym (add-zero (pair_width * k))) in
    let second : field ask_width row 2 k ≡ field pair_width pairs 1 k = h.second in
    rw (kind, first, second) refl

-- the part of the row that has the pairs
module _ (pairs row : List ℕ) (w : HasPairs pairs row (min (pair_count pairs) most_asks)) (few : pair_count pairs ≤ most_asks) where
  abbrev part : List ℕ
  part = take (ask_width * pair_count pairs) row

  pub part_count : ask_count part ≡ pair_count pairs
  part_count = omega (arith, length-take (ask_width * pair_count pairs) row, w.long)

  pub part_is : (k : ℕ) → k < pair_count pairs → read_ask part k ≡ pair_at pairs k
  part_is k h =
      let v = w.each k (omega arith) in
      pair_is pairs part k (record {
        kind = get_or-take (ask_width * pair_count pairs) row (ask_width * k) 0 (omega arith) ∙ v.kind;
        first = get_or-take (ask_width * pair_count pairs) row (ask_width * k + 1) 0 (omega arith) ∙ v.first;
        second = get_or-take (ask_width * pair_count pairs) row (ask_width * k + 2) 0 (omega arith) ∙ v.second;
      })

-- what is lent is what is passed
pub lent-is : (l : Lent) {counts : Counts} {tables : Tables} {allowance : ℕ} → l.collection.counts ≡ counts
    → lists l.collection ≡ tables → l.allowance ≡ allowance
    → (area spare : ℕ) → preparation l area spare ≡ made_of counts tables allowance area spare
lent-is l e f g area spare = λ i. record { counts = e i; tables = f i; allowance = g i; area = area; spare = spare }

-- so are asks in turn of it asks of that
pub passed-turns : (l : Lent) {counts : Counts} {tables : Tables} {allowance : ℕ} → l.collection.counts ≡ counts
    → lists l.collection ≡ tables → l.allowance ≡ allowance
    → {ask : ℕ → Ask} {tells : ℕ → Answer → Type 0} {area spare x y : List ℕ} {long long' n : ℕ}
    → InTurn (preparation l long long') ask tells area spare n x y
    → InTurn (made_of counts tables allowance long long') ask tells area spare n x y
passed-turns l e f g {ask} {tells} {area} {spare} {x} {y} {long} {long'} {n} turns =
    subst (λ p. InTurn p ask tells area spare n x y) (lent-is l e f g long long') turns

-- answers that stand in a row, each of which has an entry, are told where they are asked in turn
pub told-each : (p : Preparation) (ask ask' : ℕ → Ask) (area spare x y : List ℕ) (answers : List Answer) (n : ℕ) (numbers counts : List ℕ)
    → length numbers ≡ n → length counts ≡ n → ((k : ℕ) → k < n → ask k ≡ ask' k) → TellsEach answers numbers counts
    → InTurn p ask (StandsAt answers) area spare n x y → InTurn p ask' (Tells numbers counts) area spare n x y
told-each p ask ask' area spare x y answers n numbers counts e f are each turns =
    retold n turns are (λ k r h s.
    let w = each k (omega (arith, h, e)) (omega (arith, h, f)) in
    subst (λ o. IfSome o (λ r. Tells numbers counts k r)) s w)

pub told : (p : Preparation) (pairs t area spare x y : List ℕ) (answers : List Answer) (long : ℕ) (numbers counts : List ℕ) → 256 ≡ long
    → RowFits pairs (length numbers) (length counts) → ask_count t ≡ pair_count pairs
    → ((k : ℕ) → k < pair_count pairs → read_ask t k ≡ pair_at pairs k)
    → TellsEach answers numbers counts → InTurn p (read_ask t) (StandsAt answers) area spare (min (ask_count t) long) x y
    → InTurn p (pair_at pairs) (Tells numbers counts) area spare (pair_count pairs) x y
told p pairs t area spare x y answers long numbers counts e fits same are each turns =
    let few : min (ask_count t) long ≡ pair_count pairs = omega (arith, e, same, fits.whole.few) in
    told-each p (read_ask t) (pair_at pairs) area spare x y answers (pair_count pairs) numbers counts fits.number_each fits.count_each are
    each (rw few at turns)

-- a row of asks of both kinds that fits is told so
pub told-asks : (p : Preparation) (t area spare x y : List ℕ) (answers : List Answer) (long : ℕ) (numbers counts : List ℕ) → 256 ≡ long
    → AsksFit t (length numbers) (length counts) → TellsEach answers numbers counts
    → InTurn p (read_ask t) (StandsAt answers) area spare (min (ask_count t) long) x y
    → InTurn p (read_ask t) (Tells numbers counts) area spare (ask_count t) x y
told-asks p t area spare x y answers long numbers counts e fits each turns =
    let few : min (ask_count t) long ≡ ask_count t = omega (arith, e, fits.whole.few) in
    told-each p (read_ask t) (read_ask t) area spare x y answers (ask_count t) numbers counts fits.number_each fits.count_each
    (λ k h. refl) each (rw few at turns)

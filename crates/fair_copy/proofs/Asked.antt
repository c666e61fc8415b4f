-- The copy with the asks of the file behind it: it is whole, and but for the asks it is the copy.
use Rattle.std.specs.Prelude.{◌≡◌, ◌≢◌, refl, ◌⊎◌, ⊤, Bool, true, false, ℕ, ◌+◌, ◌≤◌, Option, None, Some, cond, unwrap_or}
use Rattle.std.proofs.Common.{sym, ap, ap₂, ◌∙◌, inl, inr, subst, append-nil, arith}
use Rattle.std.proofs.lemmas.List.Concat.{flat_map-cons}
use Rattle.std.proofs.lemmas.Grind.{flat_map-append}
use mathlib.Core.List.Memᴰ
use mathlib.Core.List.{List, [], ◌∷◌, ◌++◌}
use Rattle.laws.specs.Member.{◌∈◌}
use Rattle.kinds.specs.declared.Counts.{Counts}
use Rattle.expression.specs.Listed.{Listed}
use Rattle.frames.specs.Text.{text}
use Rattle.frames.specs.Written.{FitsLine, frame_bytes}
use Rattle.frames.specs.declared.Frame.{Frame}
use Rattle.frames.specs.declared.Frame.TheVariants.{Declared, Ask, AskFrom, Allowance}
use Rattle.reading.specs.Tables.{Kind, concept_rules, concept_exclusions, role_rules, role_exclusions, concept_facts, role_facts, steps, finals, asks, listed, record_in, most, entries, table, list_in, declared_by, allowance_given, expression_given, salvages}
use Rattle.reading.specs.File.{tables_of}
use Rattle.reading.specs.Reading.{Taken}
use Rattle.reading.proofs.Bounds.{few}
use Rattle.reading.proofs.TableLaws.{added, entries-cons, entries-append, table-append}
use Rattle.intake.specs.Verdicts.{accepted, no-list}
use Rattle.shell.specs.Writes.{IsSound}
use Rattle.fair_copy.specs.Asking.{is_ask, asks_of}
use Rattle.fair_copy.proofs.Members.{filter-out}
use Rattle.fair_copy.proofs.Taken.{IsDeclared, all-declared, given-allowance}
use Rattle.fair_copy.specs.Copy.{IsCopied, IsCopyOf, frames_text}
use Rattle.fair_copy.proofs.Stands.{AreWhole}
use Rattle.fair_copy.proofs.Copied.{stands-copied, headed, orderly, typed_by, copy-fits}
use Rattle.fair_copy.proofs.Fits.{AllFit}
use Rattle.fair_copy.proofs.Orderly.{IsFine, IsOrderly, no-expression, none-listed, no-salvage, orderly-taken, text-read}

-- the tables to which no ask adds a record
abbrev HasNoAsk : Kind → Type 0
HasNoAsk asks = ⊥
HasNoAsk kind = ⊤

-- an ask is fine where it is declared; it gives no allowance, and adds a record to no other table
ask-fine : (c : Counts) (f : Frame) → is_ask f ≡ true → IsDeclared c f → IsFine c f
ask-fine c (Ask a b) e h = h
ask-fine c (AskFrom a) e h = h
ask-fine c f e h = absurd cc

ask-adds : (kind : Kind) → HasNoAsk kind → (f : Frame) → is_ask f ≡ true → record_in kind f ≡ None
ask-adds asks k f e = absurd k
ask-adds kind k (Ask a b) e = refl
ask-adds kind k (AskFrom a) e = refl
ask-adds kind k f e = absurd cc

-- any other frame is no ask's record
other-adds : (f : Frame) → is_ask f ≡ false → record_in asks f ≡ None
other-adds (Ask a b) e = absurd cc
other-adds (AskFrom a) e = absurd cc
other-adds f e = refl

-- frames that add no record to a table
module _ (kind : Kind) where
  table-none : (fs : List Frame) → ((f : Frame) → f ∈ fs → record_in kind f ≡ None) → table kind fs ≡ []
  unfolding table
  table-none [] h = refl
  table-none (f ∷ fs) h =
      flat_map-cons (λ g. unwrap_or (record_in kind g) []) f fs
      ∙ ap₂ (λ (o : Option (List ℕ)) (t : List ℕ). unwrap_or o [] ++ t) (h f (Memᴰ.head refl)) (table-none fs (λ g m. h g (Memᴰ.tail m)))

  entries-none : (fs : List Frame) → ((f : Frame) → f ∈ fs → record_in kind f ≡ None) → entries kind fs ≡ 0
  unfolding entries
  entries-none [] h = refl
  entries-none (f ∷ fs) h =
      let none : added kind f ≡ 0 = rw (h f (Memᴰ.head refl)) refl in
      let on = entries-none fs (λ g m. h g (Memᴰ.tail m)) in
      omega (arith, entries-cons kind f fs)

-- the asks of a file are all that its table of asks has
table-asks : (fs : List Frame) → table asks (asks_of fs) ≡ table asks fs
unfolding table
table-asks [] = refl
table-asks (f ∷ fs) = by (is_ask f) refl (table-asks fs)
  where
    by : (b : Bool) → is_ask f ≡ b → table asks (asks_of fs) ≡ table asks fs
        → table asks (cond b (f ∷ asks_of fs) (asks_of fs)) ≡ unwrap_or (record_in asks f) [] ++ table asks fs
    by true e on = ap (λ (t : List ℕ). unwrap_or (record_in asks f) [] ++ t) on
    by false e on = rw (other-adds f e) on

entries-asks : (fs : List Frame) → entries asks (asks_of fs) ≡ entries asks fs
unfolding entries
entries-asks [] = refl
entries-asks (f ∷ fs) = by (is_ask f) refl (entries-asks fs)
  where
    by : (b : Bool) → is_ask f ≡ b → entries asks (asks_of fs) ≡ entries asks fs
        → entries asks (cond b (f ∷ asks_of fs) (asks_of fs)) ≡ entries asks (f ∷ fs)
    by true e on = entries-cons asks f (asks_of fs) ∙ ap (λ n. added asks f + n) on ∙ sym (entries-cons asks f fs)
    by false e on =
        let none : added asks f ≡ 0 = rw (other-adds f e) refl in
        let same : entries asks fs ≡ entries asks (f ∷ fs) = omega (arith, entries-cons asks f fs) in
        on ∙ same

-- asks behind other frames
module _ (ms : List Frame) (are : (f : Frame) → f ∈ ms → is_ask f ≡ true) where
  none-allowed : allowance_given ms ≡ None
  none-allowed = by (allowance_given ms) refl
    where
      by : (o : Option ℕ) → allowance_given ms ≡ o → o ≡ None
      by None e = refl
      by (Some n) e = let i = are (Allowance n) (given-allowance ms n e) in absurd cc

  allowed-before : (fs : List Frame) → allowance_given (fs ++ ms) ≡ allowance_given fs
  allowed-before [] = none-allowed
  allowed-before (Allowance n ∷ fs) = refl
  allowed-before (f ∷ fs) = allowed-before fs

  module _ (kind : Kind) (no_ask : HasNoAsk kind) where
    table-before : (fs : List Frame) → table kind (fs ++ ms) ≡ table kind fs
    table-before fs =
        table-append kind fs ms ∙ ap (λ (t : List ℕ). table kind fs ++ t) (table-none kind ms (λ f m. ask-adds kind no_ask f (are f m)))
        ∙ append-nil (table kind fs)

    entries-before : (fs : List Frame) → entries kind (fs ++ ms) ≡ entries kind fs
    entries-before fs =
        let none = entries-none kind ms (λ f m. ask-adds kind no_ask f (are f m)) in
        omega (arith, entries-append kind fs ms)

  -- an allowance among them all stands before the asks
  record StandsBefore (fs before : List Frame) (n : ℕ) : Type 0 where
    rest : List Frame
    is : fs ≡ before ++ Allowance n ∷ rest

  stands-before : (fs before rest : List Frame) (n : ℕ) → fs ++ ms ≡ before ++ Allowance n ∷ rest → StandsBefore fs before n
  stands-before [] before rest n e =
      let i = are (Allowance n) (rw e (Memᴰ.append_right before (Memᴰ.head refl))) in absurd cc
  stands-before (f ∷ fs) [] rest n e = let i : f ≡ Allowance n = cc in record { rest = fs; is = ap (λ g. g ∷ fs) i }
  stands-before (f ∷ fs) (g ∷ before) rest n e =
      let i : f ≡ g = cc in
      let w = stands-before fs before rest n cc in
      record { rest = w.rest; is = ap₂ ◌∷◌ i w.is }

  -- behind frames in order they are in order, where there is room for them
  module _ (c : Counts) (fs : List Frame) (o : IsOrderly c fs) (declared : (f : Frame) → f ∈ ms → IsDeclared c f)
      (room : entries asks (fs ++ ms) ≤ most asks) where
    behind-fine : (f : Frame) → f ∈ (fs ++ ms) → IsFine c f
    behind-fine f m = side (Memᴰ.append_cases fs m)
      where
        side : (f ∈ fs) ⊎ (f ∈ ms) → IsFine c f
        side (inl i) = o.fine f i
        side (inr i) = ask-fine c f (are f i) (declared f i)

    others-few : (kind : Kind) → HasNoAsk kind → entries kind (fs ++ ms) ≤ most kind
    others-few kind k = rw (entries-before kind k fs) (o.few kind)

    behind-few : (kind : Kind) → entries kind (fs ++ ms) ≤ most kind
    behind-few asks = room
    behind-few concept_rules = others-few concept_rules tt
    behind-few concept_exclusions = others-few concept_exclusions tt
    behind-few role_rules = others-few role_rules tt
    behind-few role_exclusions = others-few role_exclusions tt
    behind-few concept_facts = others-few concept_facts tt
    behind-few role_facts = others-few role_facts tt
    behind-few steps = others-few steps tt
    behind-few finals = others-few finals tt
    behind-few listed = others-few listed tt

    behind-orderly : IsOrderly c (fs ++ ms)
    behind-orderly = record {
      counts = o.counts;
      fine = behind-fine;
      allowed = λ before rest n e. let w = stands-before fs before rest n e in o.allowed before w.rest n w.is;
      few = behind-few;
    }

module _ (fs : List Frame) (q : Listed) (w : AreWhole fs q) (copy : List Frame) (k : IsCopyOf fs q copy) where
  abbrev pub behind : List Frame
  behind = copy ++ asks_of fs

  asking : (f : Frame) → f ∈ asks_of fs → is_ask f ≡ true
  asking f m = (filter-out is_ask fs m).1

  -- a copy asks nothing
  copy-adds : (f : Frame) → f ∈ copy → record_in asks f ≡ None
  copy-adds f m = by f (stands-copied ((k.same f).0 m))
    where
      by : (f : Frame) → IsCopied f → record_in asks f ≡ None
      by (Ask a b) h = absurd h
      by (AskFrom a) h = absurd h
      by f h = refl

  -- so that its asks are those of the file
  pub behind-asks : table asks behind ≡ table asks fs
  behind-asks =
      table-append asks copy (asks_of fs)
      ∙ ap (λ (t : List ℕ). t ++ table asks (asks_of fs)) (table-none asks copy copy-adds)
      ∙ table-asks fs

  pub behind-many : entries asks behind ≡ entries asks fs
  behind-many = omega (arith, entries-append asks copy (asks_of fs), entries-none asks copy copy-adds, entries-asks fs)

  -- THEOREM: and they are whole together,
  behind-is : behind ≡ Declared (declared_by fs) ∷ ((headed fs q w copy k).rest ++ asks_of fs)
  behind-is = ap (λ l. l ++ asks_of fs) (headed fs q w copy k).is

  rest-many : entries asks ((headed fs q w copy k).rest ++ asks_of fs) ≤ most asks
  rest-many =
      let l = (headed fs q w copy k).rest ++ asks_of fs in
      omega (
        arith,
        few asks fs w.are.taken,
        behind-many,
        ap (entries asks) behind-is,
        entries-cons asks (Declared (declared_by fs)) l,
      )

  behind-taken : Taken behind
  behind-taken =
      rw behind-is
      (orderly-taken (declared_by fs) ((headed fs q w copy k).rest ++ asks_of fs)
      (behind-orderly (asks_of fs) asking (declared_by fs) (headed fs q w copy k).rest (orderly fs q w copy k)
      (λ f m. all-declared fs w.are.taken f (filter-out is_ask fs m).0) rest-many))

  behind-fits : AllFit behind
  behind-fits f m = side (Memᴰ.append_cases copy m)
    where
      side : (f ∈ copy) ⊎ (f ∈ asks_of fs) → FitsLine f
      side (inl i) = copy-fits fs q w copy k f i
      side (inr i) = w.lined f (filter-out is_ask fs i).0

  behind-begun : behind ≢ []
  behind-begun e = absurd (let d = sym behind-is ∙ e in cc)

  pub behind-declared : declared_by behind ≡ declared_by fs
  behind-declared = ap declared_by behind-is

  pub behind-allowed : allowance_given behind ≡ allowance_given copy
  behind-allowed = allowed-before (asks_of fs) asking copy

  behind-typed : expression_given behind ≡ None
  behind-typed =
      ap expression_given behind-is
      ∙ no-expression (declared_by fs) ((headed fs q w copy k).rest ++ asks_of fs)
      (behind-orderly (asks_of fs) asking (declared_by fs) (headed fs q w copy k).rest (orderly fs q w copy k)
      (λ f m. all-declared fs w.are.taken f (filter-out is_ask fs m).0) rest-many).fine

  -- there is no list among them
  pub behind-unlisted : list_in behind ≡ []
  unfolding list_in
  behind-unlisted =
      ap list_in behind-is
      ∙ none-listed (declared_by fs) ((headed fs q w copy k).rest ++ asks_of fs)
      (behind-orderly (asks_of fs) asking (declared_by fs) (headed fs q w copy k).rest (orderly fs q w copy k)
      (λ f m. all-declared fs w.are.taken f (filter-out is_ask fs m).0) rest-many).fine

  -- and salvage is not chosen
  pub behind-plain : salvages behind ≡ false
  behind-plain =
      ap salvages behind-is
      ∙ no-salvage (declared_by fs) ((headed fs q w copy k).rest ++ asks_of fs)
      (behind-orderly (asks_of fs) asking (declared_by fs) (headed fs q w copy k).rest (orderly fs q w copy k)
      (λ f m. all-declared fs w.are.taken f (filter-out is_ask fs m).0) rest-many).fine

  pub behind-whole : AreWhole behind (typed_by behind)
  behind-whole = record {
    are = record { taken = behind-taken; begun = behind-begun; asks = record { typed = λ e. refl; expressed = rw behind-typed tt } };
    lined = behind-fits;
  }

  -- with the tables of the copy
  pub behind-tables : tables_of behind (typed_by behind) ≡ tables_of copy (typed_by copy)
  behind-tables =
      let same = λ (kind : Kind) (no_ask : HasNoAsk kind). table-before (asks_of fs) asking kind no_ask copy in
      rw (same concept_rules tt, same concept_exclusions tt, same role_rules tt, same role_exclusions tt)
      (rw (same concept_facts tt, same role_facts tt, same steps tt, same finals tt) refl)

  pub behind-read : IsSound (frames_text copy ++ frames_text (asks_of fs)) behind
  unfolding frames_text
  behind-read =
      subst (λ (x : List ℕ). IsSound x behind) (flat_map-append (λ f. text (frame_bytes f)) copy (asks_of fs))
      (accepted behind (text-read behind behind-taken behind-begun behind-fits) (no-list behind-unlisted))

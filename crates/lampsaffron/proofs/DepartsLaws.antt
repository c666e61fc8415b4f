-- A list that is held against the sheet's: what was met of it, and where it departs.
use Rattle.std.specs.Prelude.{◌≡◌, ◌≢◌, refl, List, [], ◌∷◌, ◌++◌, ℕ, zero, suc, ◌+◌, ◌-◌, ◌<◌, ◌≤◌, Some, map, take, length, slice_get}
use Rattle.std.proofs.Common.{sym, ap, ◌∙◌, arith, add-zero, zero-add, length-append}
use Rattle.std.proofs.Math.Decide.{dec_lt}
use Rattle.std.proofs.Math.Seq.{take-append_seam, take-length, get_or-append_seam}
use Rattle.std.proofs.lemmas.List.{append_assoc, append-nil}
use Rattle.std.proofs.lemmas.Option.{slice_get_within, slice_get_past, slice_get-get_or, get_or_from_slice_get}
use mathlib.Core.List.Memᴰ
use Rattle.kinds.specs.declared.Counts.{Counts}
use Rattle.kinds.specs.Kinds.{number_of, concept_of, number-concept, role-concept, CountsFit, ConceptDeclared}
use Rattle.laws.specs.Departs.{DepartsAt}
use Rattle.laws.specs.Member.{◌∈◌}
use Rattle.laws.specs.Numbers.{upto, numbered, length-numbered, get_d_numbered}
use Rattle.theory.specs.Listing.{entries_from, entries_of}
use Rattle.meaning.specs.Collection.{Collection}
use Rattle.meaning.specs.Lent.{field, records}
use Rattle.meaning.specs.Listing.{numbered_lite}
use Rattle.sheet.specs.declared.round_marks.RoundMarks.{RoundMarks}
use Rattle.sheet.specs.Told.{Told, Failed, none, next}
use Rattle.lampsaffron.specs.Listing.{Entry, entries_in, entry_width}
use Rattle.lampsaffron.specs.Departs.{entry_count, entry_at, list_entries, HasEntry, HasEntries, Meets, Departs}

-- a declared concept has a number below 128
pub concept-low : (c : Counts) → CountsFit c → (n : ℕ) → ConceptDeclared c (concept_of n) → n < 128
concept-low c fit n h = by (dec_lt n 64)
  where
    by : Dec (n < 64) → n < 128
    by (yes l) = omega arith
    by (no g) =
        let e : n ≡ 64 + (n - 64) = omega arith in
        let d = rw (e, role-concept (n - 64)) at h in
        omega (arith, d, fit.roles)

-- ---- entries that were met

has-both : (list : List ℕ) (k : ℕ) (es fs : List Entry) → HasEntries list k es → HasEntries list (k + length es) fs
    → HasEntries list k (es ++ fs)
has-both list k [] fs a b = let e : k + 0 ≡ k = omega arith in rw e at b
has-both list k (x ∷ es) fs a b =
    let e : k + suc (length es) ≡ suc k + length es = omega arith in
    (a.0, has-both list (suc k) es fs a.1 (rw e at b))

module _ {list : List ℕ} where
  pub meets-none : (i : ℕ) → Meets list i [] i
  meets-none i = record { met = tt; more = omega arith }

  pub meets-both : {es fs : List Entry} {i j k : ℕ} → Meets list i es j → Meets list j fs k → Meets list i (es ++ fs) k
  meets-both {es} {fs} {i} a b =
      let e = a.more in
      record { met = has-both list i es fs a.met (rw e at b.met); more = omega (arith, a.more, b.more, length-append es fs) }

  pub meets-one : (e : Entry) (i : ℕ) → HasEntry list i e → Meets list i (e ∷ []) (i + 1)
  meets-one e i h = record { met = (h, tt); more = refl }

  -- an entry was not met, after others
  pub departs-after : {es fs : List Entry} {i j k : ℕ} → Meets list i es j → Departs list j fs k → Departs list i (es ++ fs) k
  departs-after {es} {fs} m d = record {
    front = es ++ d.front;
    next = d.next;
    rest = d.rest;
    all = ap (λ l. es ++ l) d.all ∙ sym (append_assoc es d.front (d.next ∷ d.rest));
    met = meets-both m d.met;
    other = d.other;
  }

  -- and whatever was to follow
  pub departs-before : {es : List Entry} (fs : List Entry) {i k : ℕ} → Departs list i es k → Departs list i (es ++ fs) k
  departs-before fs d = record {
    front = d.front;
    next = d.next;
    rest = d.rest ++ fs;
    all = ap (λ l. l ++ fs) d.all ∙ append_assoc d.front (d.next ∷ d.rest) fs;
    met = d.met;
    other = d.other;
  }

-- ---- what was met of rounds

pub entries-append : (𝓒 : Collection) (n : ℕ) (rounds rest : List RoundMarks)
    → entries_from (numbered_lite 𝓒) n (rounds ++ rest)
    ≡ entries_from (numbered_lite 𝓒) n rounds ++ entries_from (numbered_lite 𝓒) (n + length rounds) rest
entries-append 𝓒 n [] rest = rw (add-zero n) refl
entries-append 𝓒 n (marks ∷ rounds) rest =
    let e : suc n + length rounds ≡ n + suc (length rounds) = omega arith in
    let g = entries-append 𝓒 (suc n) rounds rest in
    ap (λ l. entries_in n marks ++ l) (rw e at g)
    ∙ sym (append_assoc (entries_in n marks) (entries_from (numbered_lite 𝓒) (suc n) rounds)
    (entries_from (numbered_lite 𝓒) (n + suc (length rounds)) rest))

entries-last : (𝓒 : Collection) (rounds : List RoundMarks) (marks : RoundMarks)
    → entries_of (numbered_lite 𝓒) (rounds ++ marks ∷ []) ≡ entries_of (numbered_lite 𝓒) rounds ++ entries_in (length rounds) marks
entries-last 𝓒 rounds marks =
    entries-append 𝓒 0 rounds (marks ∷ [])
    ∙ ap (λ l. entries_of (numbered_lite 𝓒) rounds ++ l) (rw (zero-add (length rounds)) (append-nil (entries_in (length rounds) marks)))

module _ {S : Type 0} (list : S → List ℕ) (met : S → ℕ) (hears : S → ℕ → RoundMarks → S → Type 0)
    (meets : (x : S) (r : ℕ) (marks : RoundMarks) (y : S) → hears x r marks y
    → (list y ≡ list x) × Meets (list x) (met x) (entries_in r marks) (met y)) (𝓒 : Collection) where
  -- THEOREM: of a listener that was told rounds all entries were met
  pub met-told : {from to : S} {rounds : List RoundMarks} → Told hears from rounds to
      → (list to ≡ list from) × Meets (list from) (met from) (entries_of (numbered_lite 𝓒) rounds) (met to)
  met-told none = (refl, meets-none _)
  met-told (next {rounds = rounds} {at = at} {to = to} {marks = marks} t h) =
      let v = met-told t in
      let q = meets at (length rounds) marks to h in
      (q.0 ∙ v.0, rw (entries-last 𝓒 rounds marks) (meets-both v.1 (let m = q.1 in rw v.0 at m)))

  -- THEOREM: and of one that failed they were met up to where the list departs
  pub departed : {E : Type 0} {fails : S → ℕ → RoundMarks → E → S → Type 0} {from to : S} {rounds : List RoundMarks} {e : E}
      → ((x : S) (r : ℕ) (marks : RoundMarks) (e : E) (y : S) → fails x r marks e y
      → Departs (list x) (met x) (entries_in r marks) (met y))
      → Failed hears fails from rounds e to → Departs (list from) (met from) (entries_of (numbered_lite 𝓒) rounds) (met to)
  departed full f =
      let v = met-told f.told in
      let d = full f.at _ _ _ _ f.failed in
      rw (f.all, entries-last 𝓒 f.before f.last) (departs-after v.1 (rw v.0 at d))

-- ---- the list as entries

-- the concept of an entry is that of its number
abbrev pub Canonical : List Entry → Type 0
Canonical es = (e : Entry) → e ∈ es → concept_of (number_of e.3) ≡ e.3

module _ (list : List ℕ) where
  read-is : (k : ℕ) (e : Entry) → concept_of (number_of e.3) ≡ e.3 → HasEntry list k e → entry_at list k ≡ e
  read-is k e c h = rw (h.round, h.from, h.to, h.of, c) refl

  is-read : (k : ℕ) (e : Entry) → slice_get (list_entries list) k ≡ Some e → HasEntry list k e
  unfolding records
  is-read k e g =
      let l = slice_get_within (list_entries list) k e g in
      let n = length-numbered (entry_at list) (entry_count list) in
      let w : k < entry_count list = omega (arith, l, n) in
      let a = get_d_numbered (entry_at list) (entry_count list) k e w in
      let r : entry_at list k ≡ e = sym a ∙ get_or_from_slice_get (list_entries list) k e e g in
      record {
        within = w;
        round = ap (λ (x : Entry). x.0) r;
        from = ap (λ (x : Entry). x.1.0) r;
        to = ap (λ (x : Entry). x.2.0) r;
        of = sym (number-concept (field entry_width list 3 k)) ∙ ap (λ (x : Entry). number_of x.3) r;
      }

  -- what was met stands at the front
  met-front : (m k : ℕ) (es : List Entry) → k + m ≡ entry_count list → Canonical es → HasEntries list k es
      → take (length es) (map (entry_at list) (upto m k)) ≡ es
  unfolding upto
  met-front m k [] e c h = refl
  met-front zero k (x ∷ es) e c h = let w = h.0.within in absurd (omega arith)
  met-front (suc m) k (x ∷ es) e c h =
      rw (read-is k x (c x (Memᴰ.head refl)) h.0, met-front m (suc k) es (omega arith) (λ y i. c y (Memᴰ.tail i)) h.1) refl

  met-is : (es : List Entry) (k : ℕ) → Canonical es → Meets list 0 es k → take k (list_entries list) ≡ es
  unfolding records numbered
  met-is es k c m =
      let e : k ≡ length es = let q = m.more in omega arith in
      rw e (met-front (entry_count list) 0 es (omega arith) c m.met)

  -- no more than there are
  met-within : (k : ℕ) (es : List Entry) → k ≤ entry_count list → HasEntries list k es → k + length es ≤ entry_count list
  met-within k [] l h = omega arith
  met-within k (x ∷ es) l h = let w = h.0.within in let r = met-within (suc k) es (omega arith) h.1 in omega arith

  -- so what was met is few
  pub met-few : (es : List Entry) (k : ℕ) → Meets list 0 es k → k ≤ entry_count list
  met-few es k m = let w = met-within 0 es (omega arith) m.met in let q = m.more in omega arith

  pub departs-few : (es : List Entry) (k : ℕ) → Departs list 0 es k → k ≤ entry_count list
  departs-few es k d = met-few d.front k d.met

  pub entries-long : length (list_entries list) ≡ entry_count list
  unfolding records
  entries-long = length-numbered (entry_at list) (entry_count list)

  module _ (es : List Entry) (c : Canonical es) (k : ℕ) where
    -- THEOREM: where all were met that the list has, it is these
    pub all-met : Meets list 0 es k → k ≡ entry_count list → list_entries list ≡ es
    all-met m e =
        let t = met-is es k c m in
        let l = take-length (list_entries list) in
        let n = entries-long in
        sym l ∙ (let q : length (list_entries list) ≡ k = omega (arith, n, e) in rw q t)

    -- THEOREM: where all were met, and the list has more, it departs behind them
    pub longer-departs : Meets list 0 es k → k ≢ entry_count list → DepartsAt (list_entries list) es k
    longer-departs m n =
        let e : k ≡ length es = let q = m.more in omega arith in
        let w = met-few es k m in
        record {
          same_before = met-is es k c m ∙ (rw e (sym (take-length es)));
          not_there = λ g.
              let some = slice_get-get_or (list_entries list) k (entry_at list 0) (omega (arith, n, w, entries-long)) in
              let none = slice_get_past es k (omega arith) in
              cc;
        }

    -- THEOREM: where one was not met it departs there
    pub other-departs : Departs list 0 es k → DepartsAt (list_entries list) es k
    other-departs d =
        let e : k ≡ length d.front = let q = d.met.more in omega arith in
        let many = ap length d.all ∙ length-append d.front (d.next ∷ d.rest) in
        let seam = take-append_seam d.front (d.next ∷ d.rest) in
        record {
          same_before = met-is d.front k front d.met ∙ sym (rw (d.all, e) seam);
          not_there = λ g. d.other (is-read k d.next (g ∙ there e (omega (arith, many))));
        }
      where
        front : Canonical d.front
        front x i = c x (rw d.all (Memᴰ.append_left (d.next ∷ d.rest) i))

        there : k ≡ length d.front → k < length es → slice_get es k ≡ Some d.next
        there e l =
            let seam = get_or-append_seam d.front d.next d.rest d.next in
            slice_get-get_or es k d.next l ∙ (rw (d.all, e, seam) refl)

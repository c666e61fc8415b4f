-- Of the salvage of a collection's facts.
use Rattle.std.specs.Prelude.{◌≡◌, refl, Bool, true, false, ◌⊎◌, ◌↔◌, Option, None, Some, ℕ, ◌≤◌, ◌<◌, List, [], ◌∷◌, ◌++◌, map, length, take, slice_get}
use Rattle.std.proofs.Common.{ap, sym, ◌∙◌, inl, inr, ⊎_elim, append_assoc, append-nil, get_or, arith}
use Rattle.std.proofs.lemmas.Option.{slice_get_cases, slice_get_past}
use mathlib.Core.List.Memᴰ
use Rattle.kinds.specs.declared.State.{State}
use Rattle.kinds.specs.declared.Concept.{Concept}
use Rattle.laws.specs.Member.{◌∈◌, Within, map-in, map-out}
use Rattle.meaning.specs.Collection.{Collection, WellFormed, Each}
use Rattle.meaning.specs.Model.{Contradiction}
use Rattle.meaning.specs.Listing.{numbered_lite}
use Rattle.meaning.specs.LawsOfSheet.{Marked}
use Rattle.theory.specs.Listing.{Listing}
use Rattle.salvage.specs.declared.Typed.{Typed}
use Rattle.salvage.specs.Salvages.{◌◂◌, marked}
use Rattle.salvage.specs.Facts.{Fact, facts_among, FactDeclared, EntryDeclared, with_facts, Clashing, IsSalvage, salvaged, NamesAll, entries_of}
use Rattle.salvage.specs.Laws.{Salvaging}
use Rattle.salvage.proofs.SalvageLaws.{Growing, last_in, in_longer, longer, marked_within, marked_whole, kept_sane, marks_each, keeps_more, starts, starts_at, kept_at, back, sane_keeps, salvages_there, alike}
use Rattle.salvage.proofs.FactLaws.{with_facts_formed, clash_grows, clash_known, nothing_clashes}
use Rattle.salvage.proofs.EntryLaws.{among_in, among_out, among_within, among_none, among_declared, all_named}

module _ (𝓒 : Collection) (ok : WellFormed 𝓒) where
  pub growing : Growing (Clashing 𝓒) (EntryDeclared 𝓒.counts)
  growing = record {
    grows = λ l m g w. clash_grows 𝓒 ok (facts_among l) (facts_among m) (among_declared 𝓒.counts m g) (among_within l m w);
    known = λ l g. clash_known 𝓒 ok (facts_among l) (among_declared 𝓒.counts l g);
  }

  pub there : (l : List (Option Fact)) → Each l (EntryDeclared 𝓒.counts) → (marks : List Bool) × IsSalvage 𝓒 l marks
  there l g = salvages_there (Clashing 𝓒) growing [] l g

module _ (𝓒 : Collection) (l : List (Option Fact)) (marks : List Bool) where
  pub sane : IsSalvage 𝓒 l marks → ¬ Contradiction (salvaged 𝓒 l marks)
  sane s = kept_sane (Clashing 𝓒) (nothing_clashes 𝓒) s

  pub kept_where : IsSalvage 𝓒 l marks → (i : ℕ) (x : Option Fact) → slice_get l i ≡ Some x
      → (slice_get marks i ≡ Some true) ↔ ¬ Clashing 𝓒 (marked true (take i l) (take i marks) ◂ x)
  kept_where s i x e =
      elim (kept_at (Clashing 𝓒) s i x e) [
        | inl w ↦ (λ h. w.1, λ h. w.0)
        | inr w ↦ (λ h. let f : true ≡ false = cc in cc, λ n. absurd (n w.1))
      ]

  pub dropped_where : IsSalvage 𝓒 l marks → (i : ℕ) (x : Option Fact) → slice_get l i ≡ Some x
      → (slice_get marks i ≡ Some false) ↔ Clashing 𝓒 (marked true (take i l) (take i marks) ◂ x)
  dropped_where s i x e =
      elim (kept_at (Clashing 𝓒) s i x e) [
        | inl w ↦ (λ h. let f : true ≡ false = cc in cc, λ c. absurd (w.1 c))
        | inr w ↦ (λ h. w.1, λ h. w.0)
      ]

  -- an entry that is no fact does not clash: those kept before it do not
  pub others_kept : IsSalvage 𝓒 l marks → (i : ℕ) → slice_get l i ≡ Some None → slice_get marks i ≡ Some true
  others_kept s i e =
      (kept_where s i None e).1 (λ c. before (rw (among_none (marked true (take i l) (take i marks))) at c))
    where
      before : ¬ Clashing 𝓒 (marked true (take i l) (take i marks))
      before = kept_sane (Clashing 𝓒) (nothing_clashes 𝓒) (starts_at (Clashing 𝓒) i s)

module _ (𝓒 : Collection) where
  pub later : (l m : List (Option Fact)) (marks : List Bool) → IsSalvage 𝓒 (l ++ m) marks → IsSalvage 𝓒 l (take (length l) marks)
  later l m marks s = starts (Clashing 𝓒) l m s

  pub others_after : (m l : List (Option Fact)) (marks : List Bool) → Each m (λ x. x ≡ None) → IsSalvage 𝓒 l marks
      → IsSalvage 𝓒 (l ++ m) (marks ++ map (λ x. true) m)
  others_after [] l marks g s = rw (append-nil l, append-nil marks) s
  others_after (x ∷ m) l marks g s =
      let n : ¬ Clashing 𝓒 (marked true l marks ◂ None) = λ c. sane 𝓒 l marks s (rw (among_none (marked true l marks)) at c) in
      let e : None ≡ x = sym (g x (Memᴰ.head refl)) in
      let w = others_after m (l ◂ x) (marks ◂ true) (λ y i. g y (Memᴰ.tail i)) (rw (← e) (keeps_more (Clashing 𝓒) s None n)) in
      rw (append_assoc l (x ∷ []) m, append_assoc marks (true ∷ []) (map (λ y. true) m)) at w

module _ {𝓒 : Collection} {l : List (Option Fact)} {marks : List Bool} (s : Salvaging 𝓒 l marks) where
  kept_declared : Each (marked true l marks) (EntryDeclared 𝓒.counts)
  kept_declared x m = s.declared x (marked_within true l marks x m)

  pub formed : WellFormed (salvaged 𝓒 l marks)
  formed = with_facts_formed 𝓒 s.formed (facts_among (marked true l marks)) (among_declared 𝓒.counts (marked true l marks) kept_declared)

  -- the kept entries, and with them other facts
  with_declared : (m : List Fact) → Each m (FactDeclared 𝓒.counts)
      → Each (marked true l marks ++ map (λ y. Some y) m) (EntryDeclared 𝓒.counts)
  with_declared m g o p =
      ⊎_elim
      (λ q. kept_declared o q)
      (λ q. let v = map-out (λ (y : Fact). Some y) m q in rw v.2 (g v.0 v.1))
      (Memᴰ.append_cases (marked true l marks) p)

  with_within : (m : List Fact) → Within (facts_among (marked true l marks)) m → (y : Fact)
      → Some y ∈ (marked true l marks ++ map (λ z. Some z) m) → y ∈ m
  with_within m w y p =
      ⊎_elim
      (λ q. w y (among_in (marked true l marks) q))
      (λ q. let v = map-out (λ (z : Fact). Some z) m q in let e : y ≡ v.0 = cc in rw e v.1)
      (Memᴰ.append_cases (marked true l marks) p)

  pub most : (x : Fact) → Some x ∈ marked false l marks → (m : List Fact) → Each m (FactDeclared 𝓒.counts)
      → Within (facts_among (marked true l marks)) m → x ∈ m → Contradiction (with_facts 𝓒 m)
  most x i m g w j =
      let c = back (Clashing 𝓒) (growing 𝓒 s.formed) s.salvage (Some x) i (marked true l marks ++ map (λ y. Some y) m) (with_declared m g)
      (λ z p. Memᴰ.append_left (map (λ y. Some y) m) p) (Memᴰ.append_right (marked true l marks) (map-in (λ (y : Fact). Some y) j)) in
      clash_grows 𝓒 s.formed (facts_among (marked true l marks ++ map (λ y. Some y) m)) m g
      (λ y p. with_within m w y (among_out (marked true l marks ++ map (λ z. Some z) m) p)) c

  pub put_back : (x : Fact) → Some x ∈ marked false l marks → Contradiction (with_facts 𝓒 (facts_among (marked true l marks) ◂ x))
  put_back x i =
      most x i (facts_among (marked true l marks) ◂ x)
      (λ y k. ⊎_elim
      (λ p. among_declared 𝓒.counts (marked true l marks) kept_declared y p)
      (λ e. rw e (s.declared (Some x) (marked_within false l marks (Some x) i)))
      (longer k))
      (λ y k. in_longer x k)
      (last_in (facts_among (marked true l marks)) x)

  pub kept : ¬ Clashing 𝓒 l → Each marks (λ b. b ≡ true)
  kept n = sane_keeps (Clashing 𝓒) (growing 𝓒 s.formed) s.declared n s.salvage

  pub whole : ¬ Clashing 𝓒 l → marked true l marks ≡ l
  whole n = marked_whole l marks (kept n)

  -- a place is inside the row, with its entry, or past its end
  abbrev Place : ℕ → Type 0
  Place i =
      ((x : Option Fact) × (i < length l) × (slice_get l i ≡ Some x) × (get_or l i x ≡ x))
      ⊎ ((length l ≤ i) × (slice_get l i ≡ None))

  pub marked_alike : (i j : ℕ) → slice_get l i ≡ slice_get l j → slice_get marks i ≡ slice_get marks j
  marked_alike i j e = side (slice_get_cases l i).1 (slice_get_cases l j).1
    where
      each : length marks ≡ length l
      each = marks_each (Clashing 𝓒) s.salvage

      side : Place i → Place j → slice_get marks i ≡ slice_get marks j
      side (inl a) b = alike (Clashing 𝓒) (growing 𝓒 s.formed) s.declared s.salvage i j a.0 a.2 (sym e ∙ a.2)
      side (inr a) (inl b) = let f : None ≡ Some b.0 = sym a.1 ∙ e ∙ b.2 in cc
      side (inr a) (inr b) = slice_get_past marks i (omega (arith, each, a.0)) ∙ sym (slice_get_past marks j (omega (arith, each, b.0)))

pub collection_whole : (𝓒 : Collection) (order : List Typed) (marks : List Bool) → NamesAll order 𝓒.concept-facts 𝓒.role-facts
    → Salvaging 𝓒 (entries_of 𝓒 order) marks → ¬ Contradiction 𝓒 → salvaged 𝓒 (entries_of 𝓒 order) marks ≡ 𝓒
collection_whole 𝓒 order marks names s n =
    let all = all_named 𝓒 order names in
    let w = whole s (λ c. n (rw all at c)) in
    ap (λ (k : List (Option Fact)). with_facts 𝓒 (facts_among k)) w ∙ all

-- the sheet is made of rules and question alone
pub facts_change_no_mark : (𝓒 : Collection) (l : List Fact) (n : ℕ) (s t : State) (B : Concept)
    → Marked (with_facts 𝓒 l) n s t B ↔ Marked 𝓒 n s t B
facts_change_no_mark 𝓒 l n s t B = (λ m. m, λ m. m)

pub facts_change_no_list : (𝓒 : Collection) (l : List Fact) (list : List (ℕ × State × State × Concept))
    → Listing (numbered_lite (with_facts 𝓒 l)) list ↔ Listing (numbered_lite 𝓒) list
facts_change_no_list 𝓒 l list = (λ m. m, λ m. m)

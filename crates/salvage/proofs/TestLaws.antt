-- The tests, one entry after the other, are the salvage.
use Rattle.std.specs.Prelude.{◌≡◌, refl, Bool, true, false, ◌↔◌, Option, None, Some, List, [], ◌∷◌}
use Rattle.std.proofs.Common.{ap, ◌∙◌, ⊎_elim}
use mathlib.Core.List.Memᴰ
use Rattle.meaning.specs.Collection.{Collection, WellFormed, Each}
use Rattle.meaning.specs.Model.{Contradiction}
use Rattle.salvage.specs.Salvages.{◌◂◌, marked, Salvages, done, keeps, drops}
use Rattle.salvage.specs.Facts.{Fact, of, between, facts_among, FactDeclared, EntryDeclared, with_facts, Clashing, IsSalvage}
use Rattle.salvage.specs.Tests.{Fails, Tested, none, other, good, bad}
use Rattle.salvage.proofs.SalvageLaws.{longer, in_longer, last_in, marked_within, marked_more, marks_each, kept_sane, keeps_more, drops_more}
use Rattle.salvage.proofs.FactLaws.{nothing_clashes}
use Rattle.salvage.proofs.EntryLaws.{among_more, among_none, among_declared}
use Rattle.salvage.proofs.TouchingLaws.{name_test_is, role_test_is}

module _ (𝓒 : Collection) (ok : WellFormed 𝓒) where
  pub test_is : (l : List Fact) (x : Fact) → Each (l ◂ x) (FactDeclared 𝓒.counts) → ¬ Contradiction (with_facts 𝓒 l)
      → Contradiction (with_facts 𝓒 (l ◂ x)) ↔ Fails 𝓒 l x
  test_is l (of A a) g n = name_test_is 𝓒 l ok n A a g
  test_is l (between r a b) g n = role_test_is 𝓒 l ok n r a b g

  -- the same of entries
  pub entry_test_is : (l : List (Option Fact)) (x : Fact) → Each (l ◂ Some x) (EntryDeclared 𝓒.counts) → ¬ Clashing 𝓒 l
      → Clashing 𝓒 (l ◂ Some x) ↔ Fails 𝓒 (facts_among l) x
  entry_test_is l x g n =
      let h = among_declared 𝓒.counts (l ◂ Some x) g in
      let t = test_is (facts_among l) x (rw (among_more l x) at h) n in
      (λ c. t.0 (rw (among_more l x) at c), λ f. rw (among_more l x) (t.1 f))

  pub other_sane : (l : List (Option Fact)) → ¬ Clashing 𝓒 l → ¬ Clashing 𝓒 (l ◂ None)
  other_sane l n c = n (rw (among_none l) at c)

  more_declared : (l : List (Option Fact)) (x : Option Fact) → Each l (EntryDeclared 𝓒.counts) → EntryDeclared 𝓒.counts x
      → Each (l ◂ x) (EntryDeclared 𝓒.counts)
  more_declared l x g h y m = ⊎_elim (λ k. g y k) (λ e. rw e h) (longer m)

  rest_declared : (x : Option Fact) (r : List (Option Fact)) → Each (x ∷ r) (EntryDeclared 𝓒.counts) → Each r (EntryDeclared 𝓒.counts)
  rest_declared x r g y m = g y (Memᴰ.tail m)

  -- the facts kept before are those among the entries kept before
  tests_make : {kept : List Fact} {rest : List (Option Fact)} {marks : List Bool} → Tested 𝓒 kept rest marks → (l : List (Option Fact))
      → facts_among l ≡ kept → Each l (EntryDeclared 𝓒.counts) → Each rest (EntryDeclared 𝓒.counts) → ¬ Clashing 𝓒 l
      → Salvages (Clashing 𝓒) l rest marks
  tests_make none l e g h n = done
  tests_make (other {rest = r} s) l e g h n =
      let more = more_declared l None g tt in
      keeps (other_sane l n) (tests_make s (l ◂ None) (among_none l ∙ e) more (rest_declared None r h) (other_sane l n))
  tests_make (good {rest = r} {x = x} f s) l e g h n =
      let more = more_declared l (Some x) g (h (Some x) (Memᴰ.head refl)) in
      let sane : ¬ Clashing 𝓒 (l ◂ Some x) = λ c. f (rw e at ((entry_test_is l x more n).0 c)) in
      keeps sane (tests_make s (l ◂ Some x) (among_more l x ∙ ap (λ (k : List Fact). k ◂ x) e) more (rest_declared (Some x) r h) sane)
  tests_make (bad {rest = r} {x = x} f s) l e g h n =
      let more = more_declared l (Some x) g (h (Some x) (Memᴰ.head refl)) in
      drops ((entry_test_is l x more n).1 (rw e f)) (tests_make s l e g (rest_declared (Some x) r h) n)

  salvage_tests : {l rest : List (Option Fact)} {marks : List Bool} → Salvages (Clashing 𝓒) l rest marks → Each l (EntryDeclared 𝓒.counts)
      → Each rest (EntryDeclared 𝓒.counts) → ¬ Clashing 𝓒 l → Tested 𝓒 (facts_among l) rest marks
  salvage_tests done g h n = none
  salvage_tests (keeps {kept = l} {rest = r} {x = None} {marks = bs} m s) g h n =
      let t : Tested 𝓒 (facts_among (l ◂ None)) r bs = salvage_tests s (more_declared l None g tt) (rest_declared None r h) m in
      other (rw (among_none l) at t)
  salvage_tests (keeps {kept = l} {rest = r} {x = Some x} {marks = bs} m s) g h n =
      let more = more_declared l (Some x) g (h (Some x) (Memᴰ.head refl)) in
      let t : Tested 𝓒 (facts_among (l ◂ Some x)) r bs = salvage_tests s more (rest_declared (Some x) r h) m in
      good (λ f. m ((entry_test_is l x more n).1 f)) (rw (among_more l x) at t)
  salvage_tests (drops {kept = l} {rest = r} {x = None} c s) g h n = absurd (other_sane l n c)
  salvage_tests (drops {kept = l} {rest = r} {x = Some x} c s) g h n =
      let more = more_declared l (Some x) g (h (Some x) (Memᴰ.head refl)) in
      bad ((entry_test_is l x more n).0 c) (salvage_tests s g (rest_declared (Some x) r h) n)

  pub tests_salvage : (l : List (Option Fact)) (marks : List Bool) → Each l (EntryDeclared 𝓒.counts)
      → Tested 𝓒 [] l marks ↔ IsSalvage 𝓒 l marks
  tests_salvage l marks g =
      let bare : Each [] (EntryDeclared 𝓒.counts) = λ x m. absurd (Memᴰ.not-nil m) in
      (λ t. tests_make t [] refl bare g (nothing_clashes 𝓒), λ s. salvage_tests s bare g (nothing_clashes 𝓒))

-- a salvage, and one entry more: its mark is as its test says, against the facts kept before
module _ (𝓒 : Collection) (ok : WellFormed 𝓒) (l : List (Option Fact)) (marks : List Bool) (salvage : IsSalvage 𝓒 l marks) where
  within_declared : (x : Option Fact) → Each (l ◂ x) (EntryDeclared 𝓒.counts) → Each (marked true l marks ◂ x) (EntryDeclared 𝓒.counts)
  within_declared x g y m = ⊎_elim (λ k. g y (in_longer x (marked_within true l marks y k))) (λ e. g y (rw e (last_in l x))) (longer m)

  pub next_good : (x : Fact) → Each (l ◂ Some x) (EntryDeclared 𝓒.counts) → ¬ Fails 𝓒 (facts_among (marked true l marks)) x
      → IsSalvage 𝓒 (l ◂ Some x) (marks ◂ true)
  next_good x g f =
      let n = kept_sane (Clashing 𝓒) (nothing_clashes 𝓒) salvage in
      keeps_more (Clashing 𝓒) salvage (Some x) (λ c. f ((entry_test_is 𝓒 ok (marked true l marks) x (within_declared (Some x) g) n).0 c))

  pub next_bad : (x : Fact) → Each (l ◂ Some x) (EntryDeclared 𝓒.counts) → Fails 𝓒 (facts_among (marked true l marks)) x
      → IsSalvage 𝓒 (l ◂ Some x) (marks ◂ false)
  next_bad x g f =
      let n = kept_sane (Clashing 𝓒) (nothing_clashes 𝓒) salvage in
      drops_more (Clashing 𝓒) salvage (Some x) ((entry_test_is 𝓒 ok (marked true l marks) x (within_declared (Some x) g) n).1 f)

  pub next_other : IsSalvage 𝓒 (l ◂ None) (marks ◂ true)
  next_other =
      keeps_more (Clashing 𝓒) salvage None (other_sane 𝓒 ok (marked true l marks) (kept_sane (Clashing 𝓒) (nothing_clashes 𝓒) salvage))

  -- and the facts kept then
  pub next_kept : (x : Fact) → facts_among (marked true (l ◂ Some x) (marks ◂ true)) ≡ facts_among (marked true l marks) ◂ x
  next_kept x =
      let w = marked_more l marks (Some x) (marks_each (Clashing 𝓒) salvage) in
      rw w.0 (among_more (marked true l marks) x)

  pub next_dropped : (x : Option Fact) → facts_among (marked true (l ◂ x) (marks ◂ false)) ≡ facts_among (marked true l marks)
  next_dropped x = let w = marked_more l marks x (marks_each (Clashing 𝓒) salvage) in rw w.1 refl

  pub next_none : facts_among (marked true (l ◂ None) (marks ◂ true)) ≡ facts_among (marked true l marks)
  next_none =
      let w = marked_more l marks None (marks_each (Clashing 𝓒) salvage) in
      rw w.0 (among_none (marked true l marks))

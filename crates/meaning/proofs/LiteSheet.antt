-- DL-Lite's loop sheet as it is computed: in each round the definition's, and with the definition's rounds needed.
use Rattle.std.specs.Prelude.{◌≡◌, ◌↔◌, Bool, ℕ, T, IsTrue}
use Rattle.kinds.specs.declared.State.{State}
use Rattle.kinds.specs.declared.Concept.{Concept}
use Rattle.laws.specs.Member.{◌∈◌}
use Rattle.laws.specs.Truth.{test-same}
use Rattle.meaning.specs.Collection.{Collection, NumbersDeclared}
use Rattle.theory.specs.Sheet.{Markable, Mark, Needed}
use Rattle.theory.proofs.SheetLaws.{mark→loop, loop→mark}
use Rattle.theory.specs.Tree.{Loop}
use Rattle.meaning.specs.Lite.{lite, valid_concepts, declared_states}
use Rattle.meaning.proofs.Declared.{lite-sane}
use Rattle.theory.proofs.Tests.{sheet, work, after, after_is, mark-is, mark-in, mark-out, works}
use Rattle.meaning.proofs.LiteTests.{lite_tests, lite-decides}

-- the sheet after n rounds; the same with a memory of what was computed; the rounds needed and the closed sheet
abbrev pub lite_sheet : Collection → ℕ → State → State → Concept → Bool
lite_sheet 𝓒 = sheet (lite 𝓒) (lite_tests 𝓒)

abbrev pub lite_after : Collection → ℕ → State → State → Concept → Bool
lite_after 𝓒 = after (lite 𝓒) (lite_tests 𝓒)

abbrev pub lite_work : Collection → ℕ × (State → State → Concept → Bool)
lite_work 𝓒 = work (lite 𝓒) (lite_tests 𝓒)

module _ (𝓒 : Collection) (ok : NumbersDeclared 𝓒) where
  pub lite-mark-in : (n : ℕ) (s t : State) (B : Concept) → Mark (lite 𝓒) n s t B → T (lite_sheet 𝓒 n s t B)
  lite-mark-in = mark-in (lite 𝓒) (lite_tests 𝓒) (lite-decides 𝓒 ok) (lite-sane 𝓒 ok)

  pub lite-mark-out : (n : ℕ) (s t : State) (B : Concept) → Markable (lite 𝓒) s t B → T (lite_sheet 𝓒 n s t B) → Mark (lite 𝓒) n s t B
  lite-mark-out = mark-out (lite 𝓒) (lite_tests 𝓒) (lite-decides 𝓒 ok) (lite-sane 𝓒 ok)

  pub lite-after : (n : ℕ) → lite_after 𝓒 n ≡ lite_sheet 𝓒 n
  lite-after = after_is (lite 𝓒) (lite_tests 𝓒) (lite-decides 𝓒 ok) (lite-sane 𝓒 ok)

  pub lite-needed : Needed (lite 𝓒) (lite_work 𝓒).0
  lite-needed = (works (lite 𝓒) (lite_tests 𝓒) (lite-decides 𝓒 ok) (lite-sane 𝓒 ok)).0

  closed-sheet : (lite_work 𝓒).1 ≡ lite_sheet 𝓒 (lite_work 𝓒).0
  closed-sheet = (works (lite 𝓒) (lite_tests 𝓒) (lite-decides 𝓒 ok) (lite-sane 𝓒 ok)).1

  -- the closed sheet that is computed holds exactly the loops
  pub closed-is : (s t : State) (B : Concept) → s ∈ declared_states 𝓒.counts → B ∈ valid_concepts 𝓒.counts
      → IsTrue ((lite_work 𝓒).1 s t B) ↔ Loop (lite 𝓒) B s t
  closed-is s t B m b =
      let n = (lite_work 𝓒).0 in
      rw closed-sheet
      (test-same (mark-is (lite 𝓒) (lite_tests 𝓒) (lite-decides 𝓒 ok) (lite-sane 𝓒 ok) n s t B m b) (mark→loop (lite 𝓒) n s t B)
      (λ l. loop→mark (lite 𝓒) (lite-sane 𝓒 ok) n lite-needed.holds l b m))

-- The marks of a salvage as a test of contradiction computes them.
use Rattle.std.specs.Prelude.{◌≡◌, refl, Bool, true, false, ◌↔◌, IsTrue, Option, List, [], ◌∷◌, ◌++◌}
use Rattle.meaning.specs.Collection.{Collection, WellFormed, Each}
use Rattle.meaning.proofs.Reply.{clash}
use Rattle.meaning.proofs.ClashLaws.{clash-is}
use Rattle.salvage.specs.Salvages.{◌◂◌, Salvages, done, keeps, drops}
use Rattle.salvage.specs.Facts.{Fact, facts_among, EntryDeclared, with_facts, Clashing, IsSalvage}
use Rattle.salvage.proofs.SalvageLaws.{with_next, after_kept, after_dropped}
use Rattle.salvage.proofs.FactLaws.{with_facts_formed}
use Rattle.salvage.proofs.EntryLaws.{among_declared}

module _ (𝓒 : Collection) where
  unfoldable pub clashes : List (Option Fact) → Bool
  clashes l = clash (with_facts 𝓒 (facts_among l))

  -- the marks of the first, after the second was kept
  unfoldable pub marks_after : List (Option Fact) → List (Option Fact) → List Bool
  marks_after [] kept = []
  marks_after (x ∷ l) kept =
      elim (clashes (kept ◂ x)) [
        | true ↦ false ∷ marks_after l kept
        | false ↦ true ∷ marks_after l (kept ◂ x)
      ]

  module _ (ok : WellFormed 𝓒) where
    clashes_is : (l : List (Option Fact)) → Each l (EntryDeclared 𝓒.counts) → IsTrue (clashes l) ↔ Clashing 𝓒 l
    unfolding clashes
    clashes_is l g = clash-is (with_facts 𝓒 (facts_among l)) (with_facts_formed 𝓒 ok (facts_among l) (among_declared 𝓒.counts l g))

    marks_salvage : (l kept : List (Option Fact)) → Each (kept ++ l) (EntryDeclared 𝓒.counts)
        → Salvages (Clashing 𝓒) kept l (marks_after l kept)
    unfolding marks_after
    marks_salvage [] kept g = done
    marks_salvage (x ∷ l) kept g =
        side (clashes (kept ◂ x)) (clashes_is (kept ◂ x) (with_next kept l x g))
        (marks_salvage l kept (after_dropped kept l x g))
        (marks_salvage l (kept ◂ x) (after_kept kept l x g))
      where
        side : (b : Bool) → (IsTrue b ↔ Clashing 𝓒 (kept ◂ x)) → Salvages (Clashing 𝓒) kept l (marks_after l kept)
            → Salvages (Clashing 𝓒) (kept ◂ x) l (marks_after l (kept ◂ x))
            → Salvages (Clashing 𝓒) kept (x ∷ l) (elim b [ true ↦ false ∷ marks_after l kept | false ↦ true ∷ marks_after l (kept ◂ x) ])
        side true h s t = drops (h.0 refl) s
        side false h s t = keeps (λ c. let e : false ≡ true = h.1 c in cc) t

    pub computed : (l : List (Option Fact)) → Each l (EntryDeclared 𝓒.counts) → IsSalvage 𝓒 l (marks_after l [])
    computed l g = marks_salvage l [] g

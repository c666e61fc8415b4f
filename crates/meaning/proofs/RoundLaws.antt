-- A round of a collection's sheet: only what is declared is marked, and the third rule adds its mark.
use Rattle.std.specs.Prelude.{ℕ, suc}
use Rattle.kinds.specs.declared.State.{State}
use Rattle.kinds.specs.declared.Concept.{Concept}
use Rattle.meaning.specs.Collection.{Collection}
use Rattle.meaning.specs.Lite.{lite}
use Rattle.theory.specs.Sheet.{Markable, hung}
use Rattle.meaning.specs.LawsOfSheet.{Marked, Valid, ByChild}
use Rattle.meaning.proofs.Declared.{state-in, state-out, concept-in, concept-out}
use Rattle.theory.proofs.SheetLaws.{mark-markable}

module _ (𝓒 : Collection) where
  pub valid-out : {s t : State} {B : Concept} → Markable (lite 𝓒) s t B → Valid 𝓒 s t B
  valid-out {s} {t} {B} m = record { from = state-out 𝓒.counts s m.from; to = state-out 𝓒.counts t m.to; of = concept-out 𝓒.counts B m.of }

  pub valid-in : {s t : State} {B : Concept} → Valid 𝓒 s t B → Markable (lite 𝓒) s t B
  valid-in {s} {t} {B} v = record { from = state-in 𝓒.counts s v.from; to = state-in 𝓒.counts t v.to; of = concept-in 𝓒.counts B v.of }

  pub marked-valid : (n : ℕ) (s t : State) (B : Concept) → Marked 𝓒 n s t B → Valid 𝓒 s t B
  marked-valid n s t B m = valid-out (mark-markable (lite 𝓒) n s t B m)

  -- a child's mark, with a step down and one back up
  pub hangs : (n : ℕ) (s v : State) (B : Concept) → Valid 𝓒 s v B → ByChild 𝓒 n s v B → Marked 𝓒 (suc n) s v B
  hangs n s v B d h = (valid-in d, hung h.child (h.S, h.down, h.along-down) h.loop (h.T, h.up, h.along-up))

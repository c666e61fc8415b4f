-- The area that holds a collection's sheet: 1 at the place of a mark, and nowhere else.
use Rattle.std.specs.Prelude.{◌≡◌, ◌↔◌, List, ℕ}
use Rattle.std.proofs.Math.Path.{refl}
use Rattle.kinds.specs.declared.State.{State}
use Rattle.kinds.specs.declared.Concept.{Concept}
use Rattle.meaning.specs.Collection.{Collection, WellFormed}
use Rattle.meaning.specs.Layout.{place, bit_in, Lays}
use Rattle.meaning.specs.LawsOfSheet.{Marked, Valid}
use Rattle.meaning.proofs.LayoutLaws.{place-once}
use Rattle.meaning.proofs.RoundLaws.{marked-valid}

module _ (𝓒 : Collection) (ok : WellFormed 𝓒) (n : ℕ) (area : List ℕ) (lays : Lays (Marked 𝓒 n) area) where
  pub mark-is-one : (s t : State) (B : Concept) → Valid 𝓒 s t B → (bit_in area (place s t B) ≡ 1) ↔ Marked 𝓒 n s t B
  mark-is-one s t B v = (
    λ e.
        let w = (lays.marks (place s t B)).0 e in
        let d = marked-valid 𝓒 n w.0 w.1 w.2 w.3 in
        let p = place-once 𝓒.counts ok.counts w.0 w.1 w.2 s t B d.to d.of v.to v.of w.4 in
        rw (p.0, p.1, p.2) at w.3,
    λ m. (lays.marks (place s t B)).1 (s, t, B, m, refl),
  )

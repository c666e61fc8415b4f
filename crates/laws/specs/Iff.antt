-- Facts that say the same, one after another and side by side.
use Rattle.std.specs.Prelude.{◌⊎◌, ◌↔◌}
use Rattle.std.proofs.Common.{inl, inr, ⊎_elim}

pub iff_then : {A B C : Type 0} → A ↔ B → B ↔ C → A ↔ C
iff_then f g = (λ a. g.0 (f.0 a), λ c. f.1 (g.1 c))

pub iff_both : {A B C D : Type 0} → A ↔ C → B ↔ D → (A × B) ↔ (C × D)
iff_both f g = (λ p. (f.0 p.0, g.0 p.1), λ p. (f.1 p.0, g.1 p.1))

pub iff_either : {A B C D : Type 0} → A ↔ C → B ↔ D → (A ⊎ B) ↔ (C ⊎ D)
iff_either f g = (⊎_elim (λ a. inl (f.0 a)) (λ b. inr (g.0 b)), ⊎_elim (λ c. inl (f.1 c)) (λ d. inr (g.1 d)))

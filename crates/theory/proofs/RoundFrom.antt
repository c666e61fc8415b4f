-- Where a mark of the next round comes from: only from the sheet of the round before.
use Rattle.std.specs.Prelude.{ℕ, suc}
use Rattle.theory.specs.Kind.{Kind}
use Rattle.theory.specs.Sheet.{Round, kept, tested, joined, hung, Mark}
use Rattle.theory.specs.LawsOfSheet.{Before, stood, by-test, by-meeting, by-child}

module _ (𝓚 : Kind) where
  before : (n : ℕ) (s t : 𝓚.State) (B : 𝓚.Concept) → Round 𝓚 (Mark 𝓚 n) s t B → Before 𝓚 n s t B
  before n s t B (kept m) = stood m
  before n s t B (tested e) = by-test e
  before n s t B (joined {u = u} l m) = by-meeting u l m
  before n s t B (hung {R = R} {u = t'} {v = u} c d l e) =
      by-child (record { R = R; t = t'; u = u; child = c; down = d; loop = l; up = e })

  pub round-adds : (n : ℕ) (s t : 𝓚.State) (B : 𝓚.Concept) → Mark 𝓚 (suc n) s t B
      → Before 𝓚 n s t B
  round-adds n s t B m = before n s t B m.1

-- Growth: a rules' kind that yields more has every mark in each round.
use Rattle.std.specs.Prelude.{ℕ, zero, suc}
use Rattle.std.proofs.Common.{ap}
use Rattle.theory.specs.Kind.{Kind}
use Rattle.theory.specs.Sheet.{Markable, Round, kept, tested, joined, hung, Mark}
use Rattle.theory.specs.Grows.{Grows}

-- what is in the sheet f is, under its name there, in the sheet h
abbrev Stands : (𝓚 𝓛 : Kind) → Grows 𝓚 𝓛 → (𝓚.State → 𝓚.State → 𝓚.Concept → Type 0) → (𝓛.State → 𝓛.State → 𝓛.Concept → Type 0) → Type 0
Stands 𝓚 𝓛 g f h = (s t : 𝓚.State) (B : 𝓚.Concept) → f s t B → h (g.state s) (g.state t) (g.con B)

module _ {𝓚 𝓛 : Kind} (g : Grows 𝓚 𝓛) where
  round-grows : (f : 𝓚.State → 𝓚.State → 𝓚.Concept → Type 0) (h : 𝓛.State → 𝓛.State → 𝓛.Concept → Type 0) → Stands 𝓚 𝓛 g f h → Stands 𝓚 𝓛 g (Round 𝓚 f) (Round 𝓛 h)
  round-grows f h each s t B (kept m) = kept (each s t B m)
  round-grows f h each s t B (tested e) = tested (g.tests B s t e)
  round-grows f h each s t B (joined {u = u} k l) = joined (each s u B k) (each u t B l)
  round-grows f h each s t B (hung {R = R} {u = u} {v = v} c d k e) =
      let m = each u v (𝓚.end R) k in
      hung (g.children B R c) (g.downs R s u d) (rw (g.ends R) at m) (g.ups R v t e)

  -- THEOREM: where what it may mark is no less, it has every mark in each round
  pub mark-grows : Stands 𝓚 𝓛 g (Markable 𝓚) (Markable 𝓛) → (n : ℕ) → Stands 𝓚 𝓛 g (Mark 𝓚 n) (Mark 𝓛 n)
  mark-grows able zero s t B m = (able s t B m.0, ap g.state m.1)
  mark-grows able (suc n) s t B m = (able s t B m.0, round-grows (Mark 𝓚 n) (Mark 𝓛 n) (mark-grows able n) s t B m.1)

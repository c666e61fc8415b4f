-- Where a mark of the next round comes from: a mark that stood, or one of the three rules, which read only the sheet of the round before.
use Rattle.std.specs.Prelude.{ℕ, suc}
use Rattle.kinds.specs.declared.State.{State}
use Rattle.kinds.specs.declared.Concept.{Concept}
use Rattle.meaning.specs.Collection.{Collection}
use Rattle.meaning.specs.Lite.{lite}
use Rattle.theory.specs.Sheet.{Round, kept, tested, joined, hung, Mark}
use Rattle.meaning.specs.LawsOfSheet.{Marked, Before, stood, by-test, by-meeting, by-child}

module _ (𝓒 : Collection) where
  before : (n : ℕ) {s t : State} {B : Concept} → Round (lite 𝓒) (Mark (lite 𝓒) n) s t B → Before 𝓒 n s t B
  before n (kept m) = stood m
  before n (tested e) = by-test e
  before n (joined {u = u} m k) = by-meeting (u, m, k)
  before n (hung {R = R} {u = u} {v = v} c d m e) = by-child (record {
    R = R;
    S = d.0;
    T = e.0;
    t = u;
    u = v;
    child = c;
    down = d.1;
    along-down = d.2;
    loop = m;
    up = e.1;
    along-up = e.2;
  })

  pub adds : (n : ℕ) (s t : State) (B : Concept) → Marked 𝓒 (suc n) s t B → Before 𝓒 n s t B
  adds n s t B m = before n m.1

-- Tables with the same records as those that a call is lent (docs/RULES.md, section 3).
use Rattle.std.specs.Prelude.{◌↔◌, List, ℕ}
use Rattle.laws.specs.Member.{◌∈◌}
use Rattle.meaning.specs.Lent.{Tables, Call, collection, collection_of, records, step_width, step_kind, ShapesOk}
use Rattle.meaning.specs.Demands.{Larger}

-- the numbers that say of each step whether it reads a role or is a test
abbrev pub step_kinds : Tables → List ℕ
step_kinds t = records step_width step_kind t.steps

-- t has the records that the call c is lent and no other, repeated or ordered as it may be; test 5,
-- for which repeats count, says the same of both
pub record SameSets (c : Call) (t : Tables) : Type 0 where
  pub more : Larger (collection_of c) (collection c.counts t)
  pub fewer : Larger (collection c.counts t) (collection_of c)
  pub kinds : (k : ℕ) → (k ∈ step_kinds c.tables) ↔ (k ∈ step_kinds t)
  pub shapes : ShapesOk c.tables ↔ ShapesOk t

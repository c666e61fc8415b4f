-- Tables that differ only in the deed numbers of their facts (docs/RULES.md, section 3).
use Rattle.std.specs.Prelude.{◌≡◌, List, ℕ, ◌+◌, ◌/◌, ◌<◌, length}
use Rattle.meaning.specs.Lent.{Tables, Call, field, concept_fact_width, role_fact_width}

-- two tables of the same length, in which each whole record has the same fields but the last
pub record SameButLast (width : ℕ) (t u : List ℕ) : Type 0 where
  pub long : length t ≡ length u
  pub fields : (j k : ℕ) → j + 1 < width → k < length t / width
      → field width t j k ≡ field width u j k

-- the last field of a fact is its deed number; all else is equal
pub record SameButDeeds (t u : Tables) : Type 0 where
  pub concept-rules : t.concept-rules ≡ u.concept-rules
  pub concept-exclusions : t.concept-exclusions ≡ u.concept-exclusions
  pub role-rules : t.role-rules ≡ u.role-rules
  pub role-exclusions : t.role-exclusions ≡ u.role-exclusions
  pub concept-facts : SameButLast concept_fact_width t.concept-facts u.concept-facts
  pub role-facts : SameButLast role_fact_width t.role-facts u.role-facts
  pub steps : t.steps ≡ u.steps
  pub finals : t.finals ≡ u.finals

-- the same call with other tables
abbrev pub lent_with : Call → Tables → Call
lent_with c t = record c { tables = t }

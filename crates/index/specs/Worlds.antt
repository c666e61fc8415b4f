-- What an answer says of the worlds that the facts and rules may speak of.
use Rattle.std.specs.Prelude.{ℕ, Bool, IsTrue}
use Rattle.kinds.specs.declared.ConceptName.{ConceptName}
use Rattle.kinds.specs.declared.Individual.{Individual}
use Rattle.kinds.specs.declared.SignedRole.{SignedRole}
use Rattle.meaning.specs.Lent.{Call, collection_of}
use Rattle.meaning.specs.Worlds.{World, IsWorld, HasPathIn}

-- a world whose things are numbers: the names of each, the signed roles of an ordered pair, and
-- which thing an individual is
pub record Numbered : Type 0 where
  pub name : ℕ → ConceptName → Bool
  pub edge : ℕ → SignedRole → ℕ → Bool
  pub person : Individual → ℕ

abbrev pub world_of : Numbered → World
world_of w = record {
  structure = record {
    Thing = ℕ;
    name = λ x A. IsTrue (w.name x A);
    edge = λ x R y. IsTrue (w.edge x R y);
  };
  person = w.person;
}

-- a world that has the facts of a call, keeps its rules, and breaks no exclusion
abbrev pub IsWorldOf : Call → World → Type 0
IsWorldOf c = IsWorld (collection_of c)

-- a world has a path, as it is asked for
abbrev pub HasPath : Call → World → Type 0
HasPath c 𝓦 = HasPathIn (collection_of c) 𝓦 c.ask

-- such a path is forced: each world of numbers has one
abbrev pub IsForced : Call → Type 0
IsForced c = (w : Numbered) → IsWorldOf c (world_of w) → HasPath c (world_of w)

-- no world of numbers has the facts, keeps the rules and breaks no exclusion
abbrev pub HasNoWorld : Call → Type 0
HasNoWorld c = (w : Numbered) → IsWorldOf c (world_of w) → ⊥

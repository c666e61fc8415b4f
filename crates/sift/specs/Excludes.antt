-- What the tables of exclusions of a collection hold: of declared numbers, what its rules exclude.
use Rattle.std.specs.Prelude.{◌↔◌, slice_index_or}
use Rattle.kinds.specs.declared.SignedRole.{SignedRole}
use Rattle.kinds.specs.declared.Concept.{Concept}
use Rattle.kinds.specs.Kinds.{number_of, SignedDeclared, ConceptDeclared}
use Rattle.meaning.specs.Collection.{Collection}
use Rattle.meaning.specs.Lent.{collection}
use Rattle.tables.specs.declared.collection.Collection as code
use Rattle.tables.specs.Lists.{lists}
use Rattle.salvage.specs.Excluded.{rules_of, Apart, Conflict, Barred}
use Rattle.sets.specs.Bits.{Has}
use Rattle.sets.specs.Rows.{no_concepts, no_roles}
use Rattle.sift.specs.declared.excluded.Excluded.{Excluded}

-- the collection that lent tables mean
abbrev pub meant : code.Collection → Collection
meant c = collection c.counts (lists c)

pub record Excludes (𝓒 : Collection) (x : Excluded) : Type 0 where
  pub apart : (C D : Concept) → ConceptDeclared 𝓒.counts C → ConceptDeclared 𝓒.counts D
      → Has (slice_index_or x.apart (number_of C) no_concepts).0 (number_of D)
      ↔ Apart (rules_of 𝓒) C D
  pub barred : (C : Concept) → ConceptDeclared 𝓒.counts C
      → Has x.barred.0 (number_of C) ↔ Barred (rules_of 𝓒) C
  pub conflicts : (R S : SignedRole) → SignedDeclared 𝓒.counts R → SignedDeclared 𝓒.counts S
      → Has (slice_index_or x.conflicts R.0 no_roles).0 S.0 ↔ Conflict (rules_of 𝓒) R S

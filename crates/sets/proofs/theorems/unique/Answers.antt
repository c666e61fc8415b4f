-- A set is known by its members.
use Rattle.sets.proofs.Once.{set-once, first-once, bytes-once}
use Rattle.sets.proofs.theorems.unique.Goals as goal

pub returns-clause-one_set : goal.returns-clause-one_set
returns-clause-one_set g c = set-once g.P.AnyProperty.Holds

pub returns-clause-one_first : goal.returns-clause-one_first
returns-clause-one_first g c = first-once

pub returns-clause-one_row_of_bytes : goal.returns-clause-one_row_of_bytes
returns-clause-one_row_of_bytes g c = bytes-once

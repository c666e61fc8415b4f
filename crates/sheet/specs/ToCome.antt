-- The marks that are still to come, of those that are told of a round.
use Rattle.std.specs.Prelude.{ℕ, List, ◌++◌}
use Rattle.kinds.specs.Kinds.{most_states}
use Rattle.sets.specs.Bits.{members}
use Rattle.sets.specs.Relations.{states_at}
use Rattle.sets.specs.declared.states.StateSet.{StateSet}
use Rattle.sheet.specs.Listed.{marks_at, marks_to, marks_from}
use Rattle.sheet.specs.declared.round_marks.MarksToCome.TheInside.{Inside}

-- the states to which pairs lead from s
abbrev pub led_to : List StateSet → ℕ → List ℕ
led_to pairs s = members most_states (states_at pairs s)

-- of the row of the pair that is looked at; to the states that follow; from the states that follow
abbrev pub to_come : Inside → List (ℕ × ℕ × ℕ)
to_come i =
    marks_at i.first.0 i.second.0 i.row.0
    ++ (marks_to i.marks.now.rows i.first.0 (members most_states i.to.0)
    ++ marks_from i.marks.now.rows (led_to i.marks.now.pairs) (members most_states i.from.0))

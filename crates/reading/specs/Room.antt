-- How many more numbers, entries and lines that are given once go into what is held: a line that is
-- taken leaves fewer.
use Rattle.std.specs.Prelude.{ℕ, zero, suc, Bool, true, false, ◌+◌, ◌-◌, ◌*◌, List, Option, None, Some, length}
use Rattle.reading.specs.declared.File.{File}
use Rattle.reading.specs.Tables.{Kind, concept_rules, concept_exclusions, role_rules, role_exclusions, concept_facts, role_facts, steps, finals, asks, width, most, most_listed}

-- a table of some numbers has room for so many more, and a list of some entries for so many
unfoldable pub table_room : Kind → List ℕ → ℕ
table_room kind numbers = width kind * most kind - length numbers

unfoldable pub list_room : ℕ → ℕ
list_room listed = most_listed - listed

-- what is given once may be given once more, or not
unfoldable pub once_room : {A : Type 0} → Option A → ℕ
once_room None = 1
once_room (Some given) = 0

-- a file that has not chosen salvage may choose it once, and one that has may not again
unfoldable pub choice_room : Bool → ℕ
choice_room false = 1
choice_room true = 0

-- and of line 1
unfoldable pub first_room : ℕ → ℕ
first_room zero = 1
first_room (suc lines) = 0

abbrev pub room_left : File → ℕ
room_left file =
    first_room file.lines + once_room file.allowance + once_room file.expression
    + choice_room file.salvages
    + table_room concept_rules file.concept_rules
    + table_room concept_exclusions file.concept_exclusions
    + table_room role_rules file.role_rules
    + table_room role_exclusions file.role_exclusions
    + table_room concept_facts file.concept_facts
    + table_room role_facts file.role_facts
    + table_room steps file.steps
    + table_room finals file.finals
    + table_room asks file.asks
    + list_room file.listed

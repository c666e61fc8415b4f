-- The number of each refusal (docs/RULES.md, section 7), and why a line that is no frame, or whose
-- marks have no automaton, is refused.
use Rattle.std.specs.Prelude.{ℕ}
use Rattle.frames.specs.declared.Misread.{Misread}
use Rattle.frames.specs.declared.Misread.TheVariants as unread
use Rattle.expression.specs.declared.listed.Refusal as expression
use Rattle.expression.specs.declared.listed.Refusal.TheVariants as row
use Rattle.reading.specs.declared.Refusal.{Refusal}
use Rattle.reading.specs.declared.Refusal.TheVariants.{BadCount, BadTable, BadNumber, BadAsk, BadLine, BadFrame, OutOfPlace, NoExpression, TooDeep, AnotherShape, NotTheSheet}

-- the number of each refusal; 7 is never given, and 15 to no line by itself
abbrev pub refusal_number : Refusal → ℕ
refusal_number BadCount = 4
refusal_number BadTable = 5
refusal_number BadNumber = 6
refusal_number BadAsk = 8
refusal_number BadLine = 9
refusal_number BadFrame = 10
refusal_number OutOfPlace = 11
refusal_number NoExpression = 12
refusal_number TooDeep = 13
refusal_number AnotherShape = 14
refusal_number NotTheSheet = 15

-- and of a line that is no frame
abbrev pub refusal_of : Misread → Refusal
refusal_of unread.BadLine = BadLine
refusal_of unread.BadFrame = BadFrame

-- and of a row of marks that has no automaton: one of more marks than states can be declared for is
-- of another shape
abbrev pub refusal_of_row : expression.Refusal → Refusal
refusal_of_row row.TooDeep = TooDeep
refusal_of_row row.NoExpression = NoExpression
refusal_of_row (row.TooManyMarks n) = AnotherShape

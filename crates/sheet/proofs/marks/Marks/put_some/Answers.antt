-- An empty row adds nothing.
use Rattle.sheet.proofs.Laws.{put_none}
use Rattle.sheet.proofs.marks.Marks.put_some.Goals as goal

pub returns-then-is_empty : goal.returns-then-is_empty
returns-then-is_empty c = put_none _ _ _ (c.is_empty.ensures.0 c.if-is_empty.true)

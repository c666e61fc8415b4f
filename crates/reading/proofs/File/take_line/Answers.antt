-- Each exit is where a step of the line's reading ends it.
use Rattle.reading.proofs.RoomLaws.{room_kept}
use Rattle.reading.proofs.Turns.{room_passed, small_said, turn_unread, turn_refused, turn_kept}
use Rattle.reading.proofs.File.take_line.Goals as goal

pub returns-in_err-frame-clause-turn : goal.returns-in_err-frame-clause-turn
returns-in_err-frame-clause-turn c = turn_unread c.in_err-frame.ensures c.from_residual.ensures.1

pub returns-in_err-judge-clause-turn : goal.returns-in_err-judge-clause-turn
returns-in_err-judge-clause-turn c = turn_refused c.in_ok-frame.ensures c.in_err-judge.ensures c.from_residual-in_err-judge.ensures.1

pub keep-requires-clause-room : goal.keep-requires-clause-room
keep-requires-clause-room c = room_passed c.args.self.now c.in_ok-frame.frame c.in_ok-judge.ensures

pub keep-requires-clause-small : goal.keep-requires-clause-small
keep-requires-clause-small c = small_said _ _ c.in_ok-frame.ensures

pub returns-clause-turn : goal.returns-clause-turn
returns-clause-turn c = turn_kept c.in_ok-frame.ensures c.in_ok-judge.ensures c.keep.ensures.judged c.keep.ensures.ok c.keep.ensures.err

pub returns-clause-room : goal.returns-clause-room
returns-clause-room c = room_kept _ _ _ _ c.in_ok-judge.ensures c.keep.ensures.ok

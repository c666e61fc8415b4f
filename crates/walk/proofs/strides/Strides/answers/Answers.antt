-- `Strides::answers`: no ask has its answer yet, and then each has.
use Rattle.walk.proofs.TellLaws.{answering_none}
use Rattle.walk.proofs.strides.Strides.answers.Goals as goal

pub answer_all-requires : goal.answer_all-requires
answer_all-requires c = answering_none _

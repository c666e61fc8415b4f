-- Each turn adds the byte at the reader's place.
use Rattle.frames.proofs.ReaderLaws.{marks_next}
use Rattle.frames.proofs.reader.Reader.marks.Goals as goal

pub marks-preserved : goal.marks-preserved
marks-preserved c = marks_next c.marks.invariant c.marks-test.true c.far_byte.ensures.next c.far_byte.ensures.value c.push.ensures

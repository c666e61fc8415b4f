use Rattle.std.specs.Prelude.{take}
use Rattle.std.specs.List.{flat_map}
use Rattle.fair_copy.specs.Copy.{frames_text}
use Rattle.fair_copy.specs.Framed.{part_frames}
use Rattle.fair_copy.proofs.report.put_file.Given as goal

abbrev pub invariant-loop-part : goal.invariant-loop-part
invariant-loop-part g l = g.T.Taker.takes l.fn.to (frames_text (flat_map (part_frames l.file) (take l.part-index l.part-items))) l.to

-- Lane by lane.
use Rattle.std.proofs.Common.{take, refl, w8}
use Rattle.std.proofs.lemmas.Simd.{length-chunk, chunk-fits}
use Rattle.frames.proofs.Lanes.{worth_lanes}
use Rattle.frames.proofs.pairs.worths.Goals as goal

pub returns : goal.returns
returns c =
    let held = c.args.held.now in
    worth_lanes (take 16 held) held (length-chunk 0 16 held c.requires) (chunk-fits w8 0 16 held c.type_inv.held) refl

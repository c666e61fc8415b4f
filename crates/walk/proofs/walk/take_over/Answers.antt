-- `take_over`: nothing where the individual is not known, or was not reached in the state; else what it reaches.
use Rattle.walk.specs.Known.{kept_at}
use Rattle.walk.specs.Passes.{MoveOf, AreAhead}
use Rattle.walk.proofs.AbsorbLaws.{absorbed}
use Rattle.walk.proofs.walk.take_over.Goals as goal

pub returns : goal.returns
returns c =
    let known = c.in-Some.known in
    let e = c.place_of-k.ensures in
    let low = c.if-k-ge-KEPT.false in
    let ahead : AreAhead (MoveOf c.args.guide.now) c.args.a c.args.guide.now.state.0 (kept_at known.now c.place_of-k.result) =
    rw e ((c.requires.lent known c.in-Some.is).at c.args.a c.requires.row (rw e at low)) in
    absorbed _ _ _ _ ahead _ _ c.absorb.ensures (c.contains.ensures.0 c.if-not-contains.false) _

-- A line of a kind's own bytes, or of a fact's and its deed number.
use Rattle.std.proofs.Common.{◌≡◌, ◌*◌, ◌/◌, arith}
use Rattle.frames.specs.Kinds.{frame_length}
use Rattle.frames.proofs.FrontLaws.{own_length, few_bytes, begins_line}
use Rattle.frames.proofs.kind.Kind.line_at.Goals as goal

pub returns-then-held-own-eq10 : goal.returns-then-held-own-eq10
returns-then-held-own-eq10 c =
    let few = few_bytes c.args.self in
    let own : 2 * c.length-own.result / 2 ≡ frame_length c.args.self = omega (arith, c.length-own.ensures) in
    begins_line c.args.self _ _ (grind (arith, few)) (grind (arith, few)) (grind (arith, few)) (omega arith) (grind arith) (rw own (own_length c.args.self))

pub returns-in-ConceptFact : goal.returns-in-ConceptFact
returns-in-ConceptFact c = begins_line c.args.self _ _ (grind arith) (grind arith) (grind arith) (grind arith) (grind arith) (grind arith)

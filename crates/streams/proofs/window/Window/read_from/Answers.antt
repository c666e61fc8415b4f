use Rattle.std.proofs.Common.{ℕ, ◌≤◌, List, ◌++◌, length, take, ap, ◌∙◌, arith}
use Rattle.streams.proofs.Held.{grown, Keeps-read}
use Rattle.streams.proofs.window.Window.read_from.Goals as goal

pub returns-clause-left : goal.returns-clause-left
returns-clause-left g c =
    let w = c.self.inside in
    let n = c.in_ok-n.n in
    let got = take n c.read_some.new.buffer in
    let within : w.to ≤ length w.bytes = omega arith in
    Keeps-read _ _ _ _ got
    (grown w.bytes c.copy_within.new.self c.read_some.new.buffer w.from w.to _ n c.copy_within.ensures.after (omega arith) within c.in_ok-n.ensures.bound.0
    ∙ ap (λ (l : List ℕ). l ++ got) c.self.view_is)
    c.in_ok-n.ensures.bytes.0

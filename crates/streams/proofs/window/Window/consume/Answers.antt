use Rattle.std.proofs.Common.{ℕ, length, drop, ap, ◌∙◌, arith}
use Rattle.std.proofs.lemmas.List.{length-take, length-drop}
use Rattle.streams.proofs.Held.{consumed}
use Rattle.streams.proofs.window.Window.consume.Goals as goal

pub returns : goal.returns
returns c =
    let held = ap length c.self.view_is in
    consumed _ _ _ c.args.count (omega (arith, length-take {A = ℕ}, length-drop {A = ℕ}, held)) ∙ ap (drop c.args.count) c.self.view_is

use Rattle.std.proofs.Common.{◌∙◌, sym}
use Rattle.laws.specs.Iff.{iff_then}
use Rattle.sorted.proofs.TidyLaws.{same-rows, tidied-alike}
use Rattle.sorted.proofs.compared.same_in_order.Goals as goal

pub returns : goal.returns
returns g c =
    let t = same-rows c.tidied.result.now c.tidied-2.result.now in
    iff_then (λ e. t.0 (sym c.eq.ensures ∙ e), λ e. c.eq.ensures ∙ t.1 e) (tidied-alike c.tidied.ensures c.tidied-2.ensures)

use Rattle.std.proofs.Common.{◌∙◌, subst, take}
use Rattle.sorted.specs.Rows.{AreTidied}
use Rattle.sorted.proofs.TidyLaws.{tidied-by}
use Rattle.sorted.proofs.compared.tidied.Goals as goal

pub returns : goal.returns
returns g c =
    let e = c.copy_from_slice.ensures.after ∙ c.as_chunks.ensures.front in
    let t = c.tidy-kept.ensures in
    subst (λ l. AreTidied l (take c.tidy-kept.result c.tidy-kept.new.records)) e (tidied-by t.rises t.keeps t.adds_none)

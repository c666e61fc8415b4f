use Rattle.std.specs.Prelude.{◌≡◌, count_by, take}
use Rattle.sift.specs.Salvage.{is_kind}
use Rattle.sift.proofs.count.Given as goal

abbrev pub invariant-loop-typed : goal.invariant-loop-typed
invariant-loop-typed l = l.named ≡ count_by (is_kind l.kind) (take l.typed-index l.order)

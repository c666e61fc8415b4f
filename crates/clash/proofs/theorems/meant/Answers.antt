-- A test says yes exactly where the canonical model breaks an exclusion.
use Rattle.clash.proofs.Mean.{clash-mean}
use Rattle.clash.proofs.theorems.meant.Goals as goal

pub returns : goal.returns
returns c = record { clash_means = λ counts t w x o. clash-mean counts t w.counts w.numbers x o }

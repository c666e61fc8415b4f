-- The tests of single facts.
use Rattle.salvage.proofs.LocalLaws.{local_is}
use Rattle.salvage.proofs.TestLaws.{test_is, tests_salvage}
use Rattle.salvage.proofs.theorems.tests.Goals as goal

pub returns : goal.returns
returns c = record {
  local = local_is;
  says = λ 𝓒 l x ok g n. test_is 𝓒 ok l x g n;
  salvage = λ 𝓒 l marks ok g. tests_salvage 𝓒 ok l marks g;
}

use Rattle.shell.proofs.WritesLaws.{start-writes}
use Rattle.listing.specs.Lists.{CopiesAndLists}
use Rattle.listing.proofs.Inputs.{lists-once, input-listed-once, input-listed-fits}
use Rattle.listing.proofs.theorems.text.Goals as goal

pub returns : goal.returns
returns c = record {
  said = λ fs t. lists-once fs;
  once = input-listed-once;
  fits = λ input text wrote. input-listed-fits wrote;
  start = start-writes CopiesAndLists;
}

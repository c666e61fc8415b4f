use Rattle.reading.proofs.SalvageLaws.{read-formed, facts-read, names-all, entries-are, salvage-decides, salvage-drops_facts}
use Rattle.reading.proofs.theorems.entries.Goals as goal

pub returns : goal.returns
returns c = record {
  formed = read-formed;
  facts = facts-read;
  named = names-all;
  read = entries-are;
  decides = λ fs t q c marks s. salvage-decides fs t q marks s c;
  drops = salvage-drops_facts;
}

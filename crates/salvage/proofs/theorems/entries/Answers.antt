-- The entries that an order makes of a collection's facts.
use Rattle.salvage.proofs.EntryLaws.{collection_declared, entries_each, all_named}
use Rattle.salvage.proofs.SalvagedLaws.{collection_whole}
use Rattle.salvage.proofs.theorems.entries.Goals as goal

pub returns : goal.returns
returns c = record {
  declared = λ 𝓒 order ok. collection_declared 𝓒 ok order;
  each = λ 𝓒 order. entries_each order 𝓒.concept-facts 𝓒.role-facts;
  all = all_named;
  whole = collection_whole;
}

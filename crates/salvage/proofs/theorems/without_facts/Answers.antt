-- Without facts: no contradiction, and the same sheet.
use Rattle.salvage.proofs.FactLaws.{nothing_clashes}
use Rattle.salvage.proofs.SalvagedLaws.{facts_change_no_mark, facts_change_no_list}
use Rattle.salvage.proofs.theorems.without_facts.Goals as goal

pub returns : goal.returns
returns c = record { empty = nothing_clashes; sheet = facts_change_no_mark; list = facts_change_no_list }

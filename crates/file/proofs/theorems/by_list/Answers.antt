use Rattle.file.proofs.ByList.{lines-say-by-list, rounds-told-by-list}
use Rattle.file.proofs.theorems.by_list.Goals as goal

pub returns : goal.returns
returns c = record { answers = lines-say-by-list; rounds = rounds-told-by-list }

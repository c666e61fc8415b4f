-- What is told of a closed sheet.
use Rattle.index.proofs.ToldWhole.{sheet-once, sheet-listed}
use Rattle.index.proofs.theorems.listed.Goals as goal

pub returns : goal.returns
returns c = record { one_telling = sheet-once; a_list = sheet-listed }

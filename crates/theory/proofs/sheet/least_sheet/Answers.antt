-- Each round adds what a closed sheet has.
use Rattle.theory.proofs.SheetLaws.{sheet-smallest}
use Rattle.theory.proofs.sheet.least_sheet.Goals as goal

pub returns : goal.returns
returns g c = record { least = sheet-smallest g.F.AnySheet.kind g.F.AnySheet.marks }

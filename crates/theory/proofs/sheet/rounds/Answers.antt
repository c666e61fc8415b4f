-- The laws of SheetLaws, and the bound of Tests.
use Rattle.theory.proofs.SheetLaws.{marks-later, rounds-unique, sheet-stays, sheet-closed, mark↔tree}
use Rattle.theory.proofs.Tests.{rounds-bound}
use Rattle.theory.proofs.RoundFrom.{round-adds}
use Rattle.theory.proofs.sheet.rounds.Goals as goal

pub returns : goal.returns
returns g c = record {
  stay = marks-later g.K.AnyKind.kind;
  rounds_once = rounds-unique g.K.AnyKind.kind;
  stays = sheet-stays g.K.AnyKind.kind;
  closed = sheet-closed g.K.AnyKind.kind;
  path = mark↔tree g.K.AnyKind.kind;
  bound = rounds-bound g.K.AnyKind.kind;
  adds = round-adds g.K.AnyKind.kind;
}

-- The area: the laws of the layout.
use Rattle.meaning.specs.LawsOfSheet.{Marked}
use Rattle.meaning.proofs.LayoutLaws.{lays-once}
use Rattle.meaning.proofs.AreaLaws.{mark-is-one}
use Rattle.meaning.proofs.CalculateLaws.{sheet-lays}
use Rattle.meaning.proofs.sheet.area.Goals as goal

pub returns : goal.returns
returns c = record {
  one = mark-is-one;
  area_there = λ 𝓒 ok n. (_, sheet-lays 𝓒 ok n);
  area_once = λ 𝓒 n. lays-once (Marked 𝓒 n);
}

-- And those of a collection: the laws of LiteMarks.
use Rattle.meaning.specs.Lite.{lite}
use Rattle.theory.proofs.MarksLaws.{counts-there, adds-some}
use Rattle.meaning.proofs.LiteMarks.{standing-once, lite-countable, lite-make, area-stands, lite-few, lite-most}
use Rattle.meaning.proofs.sheet.counts.Goals as goal

pub returns : goal.returns
returns c = record {
  countable = lite-countable;
  there = λ 𝓒 ok. counts-there (lite 𝓒) (lite-countable 𝓒 ok);
  stands = lite-make;
  area_stands = λ 𝓒 ok n counts area r lays. area-stands 𝓒 ok n area lays counts r;
  standing_once = standing-once;
  adds_some = λ 𝓒 ok. adds-some (lite 𝓒) (lite-countable 𝓒 ok);
  adds_few = lite-few;
  at_most = lite-most;
}

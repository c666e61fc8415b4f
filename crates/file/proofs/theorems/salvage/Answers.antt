use Rattle.file.proofs.Salvaged.{asks-once, asks-some, dropped-are-told, dropped-are-facts, dropped-told-alone, plain-drops-none, plain-answers-all, never-contradiction}
use Rattle.file.proofs.Without.{writes-without-dropped}
use Rattle.file.proofs.theorems.salvage.Goals as goal

pub returns : goal.returns
returns c = record {
  once = asks-once;
  some = asks-some;
  told = dropped-are-told;
  facts = dropped-are-facts;
  alone = dropped-told-alone;
  plain = plain-drops-none;
  plain_all = plain-answers-all;
  never_2 = never-contradiction;
  without = writes-without-dropped;
}

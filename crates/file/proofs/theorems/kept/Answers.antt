use Rattle.file.proofs.Salvaged.{kept-are-sane, dropped-clash, sane-loses-nothing, repeats-alike}
use Rattle.file.proofs.theorems.kept.Goals as goal

pub returns : goal.returns
returns c = record { sane = kept-are-sane; back = dropped-clash; whole = sane-loses-nothing; repeats = repeats-alike }

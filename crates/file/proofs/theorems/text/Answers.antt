use Rattle.shell.proofs.WritesLaws.{start-writes, written-once, served-once}
use Rattle.file.specs.Writes.{frames_width, Reports}
use Rattle.file.proofs.WritesLaws.{reports-once, writes-once, writes-length}
use Rattle.file.proofs.DeedLaws.{writes-without-deeds}
use Rattle.file.proofs.theorems.text.Goals as goal

pub returns : goal.returns
returns c = record {
  once = λ input text out w v. writes-once w v;
  fits = λ input text w. writes-length w;
  start = start-writes (Reports frames_width);
  deeds = writes-without-deeds;
  written_once = written-once (Reports frames_width) (λ fs taken x y. reports-once fs taken);
  served_once = served-once (Reports frames_width) (λ fs taken x y. reports-once fs taken);
}

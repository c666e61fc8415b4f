use Rattle.file.proofs.FormerLaws.{writes-as-it-did, wrote-as-it-does, former-writes-once, former-writes-some}
use Rattle.file.proofs.theorems.former.Goals as goal

pub returns : goal.returns
returns c = record {
  sound = writes-as-it-did;
  any_other = λ input text w. wrote-as-it-does w;
  once = λ input text out w v. former-writes-once w v;
  some = λ input text w. former-writes-some w;
}

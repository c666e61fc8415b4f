-- There is one answer, one set, and one relation.
use Rattle.clash.proofs.Once.{clash-once, concerned-once, relation-once}
use Rattle.clash.proofs.theorems.unique.Goals as goal

pub returns : goal.returns
returns c = record {
  one_answer = clash-once;
  one_set = concerned-once;
  one_relation = λ table roles m n p q. relation-once table roles m n p.1 q.1 p.0 q.0;
}

use Rattle.std.specs.Iterator.Adapters.{zip_first, zip_second}
use Rattle.std.specs.Slice.Iter.{iter_rest}
use Rattle.expression.specs.Listed.{Listed}
use Rattle.file.proofs.Each.{IsLeft}
use Rattle.file.proofs.Turns.{Done}
use Rattle.file.proofs.replies.put_replies.Given as goal

abbrev pub invariant-loop-ask : goal.invariant-loop-ask
invariant-loop-ask g l = record {
  question : Listed;
  here : IsLeft l.file question (zip_first l.ask-iterator) (iter_rest (zip_second l.ask-iterator));
  done : Done l.file question (zip_first l.ask-iterator).next (λ out. g.T.Taker.takes l.fn.to out l.to);
}

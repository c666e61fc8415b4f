-- What each definition over an expression is called, it is.
use Rattle.expression.proofs.Meant.{empty-means, first-means, last-means, next-means}
use Rattle.expression.proofs.theorems.meant.Goals as goal

pub returns : goal.returns
returns c = record {
  empty_means = λ e. empty-means e;
  first_means = λ e k. first-means e k;
  last_means = λ e k. last-means e k;
  next_means = λ e j k. next-means e j k;
}

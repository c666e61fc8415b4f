use Rattle.std.proofs.Common.{◌≢◌, Iter, inl, inr, ⊎_elim, ap, ◌∙◌, arith}
use Rattle.std.specs.Slice.Iter.{iter_rest}
use Rattle.laws.specs.Truth.{test-false}
use Rattle.kinds.specs.declared.Answer.{Answer}
use Rattle.kinds.specs.declared.Ask.{Ask}
use Rattle.tables.specs.declared.table.Records.{Records}
use Rattle.file.specs.Text.{count_width, answer_line}
use Rattle.file.specs.Replying.{ask_count}
use Rattle.file.proofs.Answering.{nothing-asked}
use Rattle.file.proofs.Each.{all_left, ask_in_bytes, answered_next, left_next, none_left}
use Rattle.file.proofs.Turns.{passed_on, none_done, more_done, all_done, all_from}
use Rattle.file.proofs.replies.put_replies.Goals as goal

pub loop-ask-init : goal.loop-ask-init
loop-ask-init g c =
    let z = c.zip-ask-items.ensures in
    let rest = ap (λ (i : Iter Answer). iter_rest i) z.second ∙ c.iter-2.ensures.rest in
    let numbers = ap (λ (r : Records Ask). r.table.numbers.now) z.first ∙ ap (λ n. n.now) c.iter.ensures.numbers ∙ c.asks-2.ensures in
    let first = ap (λ (r : Records Ask). r.next) z.first ∙ c.iter.ensures.first in
    let worked = c.in_ok-tell_rounds.ensures.ok in
    let left = all_left _ _ _ c.tell_rounds.new.answers _ c.requires numbers first rest (omega (arith, c.tell_rounds.array_long)) worked in
    rw (c.into_iter-ask-iterator.ensures.into_iter_gives)
    (record { question = worked.rounds.question; here = left; done = rw first (none_done _ _ worked.rounds) })

pub put_answer-requires : goal.put_answer-requires
put_answer-requires g c =
    let p = c.in-Some.ensures.steps in
    ask_in_bytes _ _ _ _ _ _ _ _ c.loop-ask.invariant.here p.0.0 p.0.1 p.1 c.requires c.loop-ask.invariant.done.is

pub loop-ask-preserved : goal.loop-ask-preserved
loop-ask-preserved g c =
    let p = c.in-Some.ensures.steps in
    let v = c.loop-ask.invariant in
    let line = answered_next _ _ _ _ _ _ _ _ v.here p.0.0 p.0.1 p.1 _ (ap (λ n. answer_line n c.in-Some.ask c.in-Some.answer.now) (c.of-width.ensures ∙ ap count_width c.collection.ensures.counts)) in
    let done = more_done c.args.file.now v.question _ (λ out. g.T.Taker.takes c.args.to.now out c.put_answer.new.to) _ _ line
    (λ x t. g.met.T.Taker.more _ _ _ x _ t c.in_ok-put_answer.ensures.ok) v.done in
    record {
      question = v.question;
      here = left_next _ _ _ _ _ _ _ _ v.here p.0.0 p.0.1 p.1;
      done = rw p.0.0.after done;
    }

pub returns-in_err-tell_rounds-clause-err : goal.returns-in_err-tell_rounds-clause-err
returns-in_err-tell_rounds-clause-err g c =
    passed_on c.from_residual.result _ _ c.from_residual.ensures.1
    (all_from c.args.file.now _ _ (λ x y t. g.met.T.Taker.before _ _ x y _ t) 0 (omega arith)
    (none_done _ _ c.in_err-tell_rounds.ensures.err))

pub returns-in_err-put_answer-clause-err : goal.returns-in_err-put_answer-clause-err
returns-in_err-put_answer-clause-err g c =
    let p = c.in-Some.ensures.steps in
    let v = c.loop-ask.invariant in
    let line = answered_next _ _ _ _ _ _ _ _ v.here p.0.0 p.0.1 p.1 _ (ap (λ n. answer_line n c.in-Some.ask c.in-Some.answer.now) (c.of-width.ensures ∙ ap count_width c.collection.ensures.counts)) in
    let next = left_next _ _ _ _ _ _ _ _ v.here p.0.0 p.0.1 p.1 in
    passed_on c.from_residual-in_err-put_answer.result _ _ c.from_residual-in_err-put_answer.ensures.1
    (all_from c.args.file.now v.question _ (λ x y t. g.met.T.Taker.before _ _ x y _ t) _ (omega (arith, p.0.0.after, next.within))
    (more_done c.args.file.now v.question _ _ _ _ line (λ x t. g.met.T.Taker.after _ _ _ x _ _ t c.in_err-put_answer.ensures.err) v.done))

pub returns-clause-ok : goal.returns-clause-ok
returns-clause-ok g c =
    let v = c.loop-ask.invariant in
    all_done c.args.file.now v.question _ _ (none_left _ _ _ _ v.here (⊎_elim (λ n. inl n.1.0.0) (λ n. inr n.1.0) c.in-None.ensures.steps))
    v.done

pub returns-then-is_empty-clause-ok : goal.returns-then-is_empty-clause-ok
returns-then-is_empty-clause-ok g c =
    nothing-asked c.args.file.now _ _ c.collection.ensures.tables.is (rw c.asks.ensures at (c.is_empty.ensures.0 c.if-is_empty.true))
    (g.met.T.Taker.none _)

pub tell_rounds-requires-clause-some : goal.tell_rounds-requires-clause-some
tell_rounds-requires-clause-some g c =
    let none : ask_count c.args.file.now ≢ 0 = rw c.asks.ensures at (test-false c.is_empty.ensures c.if-is_empty.false) in
    omega (arith, none)

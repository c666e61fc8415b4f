use Rattle.std.proofs.Common.{rules, ◌++◌, ◌∙◌, ap, refl, subst, length}
use Rattle.meaning.specs.Layout.{area_length}
use Rattle.theory.specs.Listing.{counts_of}
use Rattle.file.specs.Text.{bytes_of, count_width}
use Rattle.file.specs.Replying.{held_width}
use Rattle.file.specs.Rounds.{told_line, round_lines}
use Rattle.file.proofs.Answering.{is_own, own-passes, replies-answer, counts-told}
use Rattle.file.proofs.Listening.{rounds-put, rounds-failed}
use Rattle.file.proofs.Rounds.{texts-told}
use Rattle.file.proofs.Turns.{passed_on}
use Rattle.file.proofs.replies.tell_rounds.Goals as goal

pub invariant_of-checked : goal.invariant_of-checked
invariant_of-checked g c =
    let its = c.requires.lent in
    let passes = own-passes c.args.file.now c.requires.read its.tables.question its.tables.is c.requires.some in
    record { passes = passes c.args.lent.collection its.counts its.tables.are }

pub returns-in_err-prepared-clause-err : goal.returns-in_err-prepared-clause-err
returns-in_err-prepared-clause-err g c =
    let file = c.args.file.now in
    let its = c.requires.lent in
    let q = its.tables.question in
    let is = its.tables.is in
    let some = c.requires.some in
    let lent = is_own file q c.args.lent.collection c.args.lent.allowance area_length area_length its.counts its.tables.are its.allowance
    refl refl in
    let (made, rest, marks, failed) = c.in_err-prepared.ensures.failed in
    let all = made ++ rest in
    let put = rounds-failed (λ l. l.to.ghost_name) (λ l. l.width) (λ l. l.to.now) (λ w n m. told_line (bytes_of w) n (length m))
    g.T.Taker.takes g.T.Taker.fails g.met.T.Taker.none g.met.T.Taker.more c.new-lines.result g.met.T.Taker.after g.met.T.Taker.before
    made rest _ _ failed in
    let same = put.0 in
    let wide = ap bytes_of c.new-lines.ensures.width ∙ c.of-width.ensures ∙ ap count_width its.counts in
    let so = rw (c.new-lines.ensures.to, wide, texts-told (held_width file) all) at put.1 in
    passed_on c.from_residual.result _ _ c.from_residual.ensures.1
    (record {
      question = q;
      is = is;
      counts = counts_of all;
      told = counts-told file c.requires.read q is some all (rw lent at marks);
      so =
          subst (λ s. g.T.Taker.fails c.args.to.now (round_lines (held_width file) 0 (counts_of all)) c.in_err-prepared.field-0.0 s)
          (search rules) so;
    })

pub returns-clause-ok : goal.returns-clause-ok
returns-clause-ok g c =
    let file = c.args.file.now in
    let its = c.requires.lent in
    let q = its.tables.question in
    let is = its.tables.is in
    let some = c.requires.some in
    let lent = is_own file q c.args.lent.collection c.args.lent.allowance area_length area_length its.counts its.tables.are its.allowance
    refl refl in
    let (all, marks, told) = c.in_ok-prepared.ensures.told in
    let made = c.in_ok-prepared.ensures.own ∙ lent in
    let put = rounds-put (λ l. l.to.ghost_name) (λ l. l.width) (λ l. l.to.now) (λ w n m. told_line (bytes_of w) n (length m))
    g.T.Taker.takes g.T.Taker.fails g.met.T.Taker.none g.met.T.Taker.more c.new-lines.result told in
    let same = put.0 in
    let wide = ap bytes_of c.new-lines.ensures.width ∙ c.of-width.ensures ∙ ap count_width its.counts in
    let so = rw (c.new-lines.ensures.to, wide, texts-told (held_width file) all) at put.2 in
    replies-answer file _
    (record {
      question = q;
      is = is;
      counts = counts_of all;
      told = counts-told file c.requires.read q is some all (rw lent at marks);
      so = subst (λ s. g.T.Taker.takes c.args.to.now (round_lines (held_width file) 0 (counts_of all)) s) (search rules) so;
    })
    _ (rw (made, c.asks-asks.ensures) at c.reply_all.ensures.answered)

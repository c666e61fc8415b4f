-- `settle`: what ground, rounds and walks found, in the words of the rules.
use Rattle.std.specs.Prelude.{[]}
use Rattle.std.proofs.Common.{refl, sym}
use Rattle.std.proofs.lemmas.Bool.{false≢true}
use Rattle.sheet.specs.Told.{none}
use Rattle.sheet.proofs.TellingLaws.{passed_on}
use Rattle.index.proofs.Heard.{by_round, begins_of}
use Rattle.index.proofs.Joined.{needed_of, more_of, holds_of, closed_of}
use Rattle.index.proofs.work.settle.Goals as goal

pub returns-in_default-clause-found : goal.returns-in_default-clause-found
returns-in_default-clause-found g c = rw c.new-ground.ensures at (c.in_default.ensures.none.0 refl)

pub returns-in_default-clause-told : goal.returns-in_default-clause-told
returns-in_default-clause-told g c = ([], refl, none)

pub returns-in-Spent-clause-found : goal.returns-in-Spent-clause-found
returns-in-Spent-clause-found g c =
    let w = more_of _ c.args.checked.now.passes _ (rw c.new-ground.ensures at c.lay_out.ensures) _
    (rw c.in-Spent.is at c.in_ok-ran.ensures.ended) in (
      w.0,
      record {
        sane = (let n = rw c.new-ground.ensures at c.in-Some.ensures.none in λ k. false≢true (sym (n.1 k)));
        needed = w.1;
        more = w.2;
      },
    )

pub returns-in-Spent-clause-first : goal.returns-in-Spent-clause-first
returns-in-Spent-clause-first g c a =
    let r = rw c.new-ground.ensures at c.lay_out.ensures in
    holds_of _ c.args.checked.now.passes _ r _ _ (c.leave.ensures.first a _ _ (rw c.in-Spent.is at c.in_ok-ran.ensures.sheet))

pub returns-in-Spent-clause-told : goal.returns-in-Spent-clause-told
returns-in-Spent-clause-told g c =
    let w = rw c.in-Spent.is at c.in_ok-ran.ensures.told in
    (w.0, by_round c.args.checked.now.lent c.args.checked.now.passes _ (rw c.new-ground.ensures at c.lay_out.ensures) _ w.0 w.1, w.2)

pub paths-paths-requires-clause-sheet : goal.paths-paths-requires-clause-sheet
paths-paths-requires-clause-sheet g c =
    let r = rw c.new-ground.ensures at c.lay_out.ensures in
    let w = needed_of _ c.args.checked.now.passes _ r _ _ (rw c.in-Needed.is at c.in_ok-ran.ensures.ended) in
    rw c.new-ground.ensures (closed_of _ c.args.checked.now.passes _ r _ _ w.0 (rw c.in-Needed.is at c.in_ok-ran.ensures.sheet).sheet)

pub returns-in-Needed-clause-found : goal.returns-in-Needed-clause-found
returns-in-Needed-clause-found g c =
    let r = rw c.new-ground.ensures at c.lay_out.ensures in
    let w = needed_of _ c.args.checked.now.passes _ r _ _ (rw c.in-Needed.is at c.in_ok-ran.ensures.ended) in
    let n = rw c.new-ground.ensures at c.in-Some.ensures.none in
    record { sane = λ k. false≢true (sym (n.1 k)); needed = w.0; allowed = w.1; paths = rw c.new-ground.ensures at c.paths-paths.ensures }

pub returns-in-Needed-clause-first : goal.returns-in-Needed-clause-first
returns-in-Needed-clause-first g c a =
    let r = rw c.new-ground.ensures at c.lay_out.ensures in
    holds_of _ c.args.checked.now.passes _ r _ _ (c.leave.ensures.first a _ _ (rw c.in-Needed.is at c.in_ok-ran.ensures.sheet))

pub returns-in-Needed-clause-told : goal.returns-in-Needed-clause-told
returns-in-Needed-clause-told g c =
    let w = rw c.in-Needed.is at c.in_ok-ran.ensures.told in
    (w.0, by_round c.args.checked.now.lent c.args.checked.now.passes _ (rw c.new-ground.ensures at c.lay_out.ensures) _ w.0 w.1, w.2)

pub returns-in_err-ran-clause-failed : goal.returns-in_err-ran-clause-failed
returns-in_err-ran-clause-failed g c =
    let r = rw c.new-ground.ensures at c.lay_out.ensures in
    let n = rw c.new-ground.ensures at c.in-Some.ensures.none in
    let w = c.in_err-ran.ensures.failed in
    passed_on c.from_residual.result _ _ c.from_residual.ensures.1
    (w.1, begins_of c.args.checked.now.lent c.args.checked.now.passes _ r w.0 w.1 w.2 w.3 (λ k. false≢true (sym (n.1 k))), w.4)

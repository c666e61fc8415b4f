use Rattle.std.proofs.Common.{rules, ℕ, ◌++◌, refl, subst, map}
use Rattle.meaning.specs.Listing.{numbered_lite}
use Rattle.theory.specs.Listing.{entries_of}
use Rattle.reading.specs.Tables.{frame_of}
use Rattle.index.specs.Works.{meant}
use Rattle.fair_copy.specs.Copy.{frames_text}
use Rattle.fair_copy.proofs.Putting.{passed_on}
use Rattle.file.proofs.Listening.{rounds-put, rounds-failed}
use Rattle.listing.specs.Held.{round_frames}
use Rattle.listing.proofs.Reported.{told-list}
use Rattle.listing.proofs.Telling.{told-so, failed-so, texts-entries}
use Rattle.listing.proofs.report.tell_list.Goals as goal

pub returns-in_err-tell_sheet-clause-err : goal.returns-in_err-tell_sheet-clause-err
returns-in_err-tell_sheet-clause-err g c =
    let its = c.args.checked.now.lent.collection in
    let (made, rest, told, failed) = c.in_err-tell_sheet.ensures.failed in
    let all = made ++ rest in
    let list = entries_of (numbered_lite (meant its)) all in
    let put = rounds-failed {K = ℕ} (λ l. l.to.ghost_name) (λ l. 0) (λ l. l.to.now) (λ k n m. frames_text (round_frames n m))
    g.T.Taker.takes g.T.Taker.fails g.met.T.Taker.none g.met.T.Taker.more c.new-lines.result g.met.T.Taker.after g.met.T.Taker.before
    made rest _ _ (failed-so (λ a n m b h. (h.0, refl, h.1)) (λ a n m e b h. (h.0, refl, h.1)) failed) in
    let same = put.0 in
    let so = rw (c.new-lines.ensures.to, texts-entries (meant its) 0 all) at put.1 in
    passed_on c.from_residual.result _ _ c.from_residual.ensures.1
    (record {
      list = list;
      is = told-list its c.args.checked.now.passes all told;
      so = subst (λ s. g.T.Taker.fails c.args.to.now (frames_text (map frame_of list)) c.in_err-tell_sheet.field-0.0 s) (search rules) so;
    })

pub returns-clause-ok : goal.returns-clause-ok
returns-clause-ok g c =
    let its = c.args.checked.now.lent.collection in
    let (all, told, heard) = c.in_ok-tell_sheet.ensures.told in
    let list = entries_of (numbered_lite (meant its)) all in
    let put = rounds-put {K = ℕ} (λ l. l.to.ghost_name) (λ l. 0) (λ l. l.to.now) (λ k n m. frames_text (round_frames n m))
    g.T.Taker.takes g.T.Taker.fails g.met.T.Taker.none g.met.T.Taker.more c.new-lines.result
    (told-so (λ a n m b h. (h.0, refl, h.1)) heard) in
    let same = put.0 in
    let so = rw (c.new-lines.ensures.to, texts-entries (meant its) 0 all) at put.2 in
    record {
      list = list;
      is = told-list its c.args.checked.now.passes all told;
      so = subst (λ s. g.T.Taker.takes c.args.to.now (frames_text (map frame_of list)) s) (search rules) so;
    }

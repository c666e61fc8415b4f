-- What the marks that were told come to, where there is a sheet, and where one of them was stopped at.
use Rattle.std.proofs.Common.{rules, true, false, [], subst}
use Rattle.std.proofs.lemmas.Bool.{false≢true}
use Rattle.streams.specs.Input.{Input, left_of}
use Rattle.intake.specs.Compared.{IsCompared}
use Rattle.intake.specs.Next.{TakesLines}
use Rattle.intake.proofs.Comparing.{named, whole-compared, nothing-taken, named-at, part-compared}
use Rattle.intake.proofs.FileSheet.{sheet-well, lent-passes, is-sheet, broken}
use Rattle.intake.proofs.SheetLaws.{sheet-broken}
use Rattle.intake.proofs.comparison.compare.Goals as goal

pub invariant_of-checked : goal.invariant_of-checked
invariant_of-checked g c =
    let file = c.args.file.now in
    let its = c.sheet_of.ensures.tables in
    let passes =
    lent-passes file c.requires.read c.requires.begun its.question its.is c.sheet_of.result c.sheet_of.ensures.counts its.are in
    record { passes = passes }

pub returns-in-Ok-true-clause-compared : goal.returns-in-Ok-true-clause-compared
returns-in-Ok-true-clause-compared g c =
    let file = c.args.file.now in
    let its = c.sheet_of.ensures.tables in
    let ok = sheet-well file c.requires.read c.requires.begun its.question its.is in
    let held =
    is-sheet file c.requires.read c.requires.begun its.question its.is c.sheet_of.result c.sheet_of.ensures.counts its.are in
    let told = rw held at c.in-Ok-true.ensures.told in
    let there = rw held at c.in-Ok-true.ensures.there in
    let named-so =
    named file its.question its.is ok (λ l. l.lines.ghost_name) (λ l. l.lines.now) (λ l. l.right) _ c.new-comparison.ensures.none _ told in
    let so =
    whole-compared file its.question its.is ok (λ l. l.lines.ghost_name) (λ l. l.lines.now) (λ l. l.right) c.new-comparison.result
    c.new-comparison.ensures.none c.tell_sheet.new.listener (there.0 c.in-Ok-true.field-0-test) told in
    let right = c.tell_sheet.new.listener.right in
    subst (λ (s : Input). IsCompared file c.args.lines.now s (record { right = right; is_whole = true })) (search rules)
    (rw c.new-comparison.ensures.lines at so)

pub returns-in-Ok-false-clause-broken : goal.returns-in-Ok-false-clause-broken
returns-in-Ok-false-clause-broken g c =
    let file = c.args.file.now in
    let its = c.sheet_of.ensures.tables in
    let held =
    is-sheet file c.requires.read c.requires.begun its.question its.is c.sheet_of.result c.sheet_of.ensures.counts its.are in
    let there = rw (c.in-Ok-false.field-0-test, held) at c.in-Ok-false.ensures.there in
    let none =
    sheet-broken file its.question (broken file c.requires.read c.requires.begun its.question its.is (λ sane. false≢true (there.1 sane))) in
    record { question = its.question; is = its.is; plain = none.0; broken = none.1 }

pub returns-in-Ok-false-clause-unlooked : goal.returns-in-Ok-false-clause-unlooked
returns-in-Ok-false-clause-unlooked g c =
    let file = c.args.file.now in
    let its = c.sheet_of.ensures.tables in
    let ok = sheet-well file c.requires.read c.requires.begun its.question its.is in
    let held =
    is-sheet file c.requires.read c.requires.begun its.question its.is c.sheet_of.result c.sheet_of.ensures.counts its.are in
    let told = rw held at c.in-Ok-false.ensures.told in
    let there = rw (c.in-Ok-false.field-0-test, held) at c.in-Ok-false.ensures.there in
    let none = broken file c.requires.read c.requires.begun its.question its.is (λ sane. false≢true (there.1 sane)) in
    let named-so =
    named file its.question its.is ok (λ l. l.lines.ghost_name) (λ l. l.lines.now) (λ l. l.right) _ c.new-comparison.ensures.none _ told in
    let so =
    nothing-taken file its.question its.is ok (λ l. l.lines.ghost_name) (λ l. l.lines.now) (λ l. l.right) c.new-comparison.result
    c.new-comparison.ensures.none c.tell_sheet.new.listener none told in
    subst (λ (s : Input). TakesLines (left_of c.args.lines.now) (left_of s) []) (search rules) (rw c.new-comparison.ensures.lines at so)

pub returns-in-Err-Departs-clause-compared : goal.returns-in-Err-Departs-clause-compared
returns-in-Err-Departs-clause-compared g c =
    let file = c.args.file.now in
    let its = c.sheet_of.ensures.tables in
    let ok = sheet-well file c.requires.read c.requires.begun its.question its.is in
    let held =
    is-sheet file c.requires.read c.requires.begun its.question its.is c.sheet_of.result c.sheet_of.ensures.counts its.are in
    let failed = rw (c.in-Err-Departs.field-0-is, held) at c.in-Err-Departs.ensures.failed in
    let named-so =
    named-at file its.question its.is ok (λ l. l.lines.ghost_name) (λ l. l.lines.now) (λ l. l.right) c.new-comparison.result
    c.new-comparison.ensures.none c.tell_sheet.new.listener g.S.Source.fails _ failed in
    let so =
    part-compared file its.question its.is ok (λ l. l.lines.ghost_name) (λ l. l.lines.now) (λ l. l.right) c.new-comparison.result
    c.new-comparison.ensures.none c.tell_sheet.new.listener g.S.Source.fails failed in
    let right = c.tell_sheet.new.listener.right in
    subst (λ (s : Input). IsCompared file c.args.lines.now s (record { right = right; is_whole = false })) (search rules)
    (rw c.new-comparison.ensures.lines at so)

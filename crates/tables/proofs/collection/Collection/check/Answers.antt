-- `check`: each answer at the first test that fails, with those that held before it.
use Rattle.tables.specs.Order.{no-count, no-table, no-number, passed}
use Rattle.tables.proofs.Meant.{fails, numbers-meant}
use Rattle.tables.proofs.collection.Collection.check.Goals as goal

pub returns-then-not-fit : goal.returns-then-not-fit
returns-then-not-fit c =
    let w = no-count _ _ _ (fails c.fit.ensures c.if-not-fit.true) in
    record { ok = w.ok; bad_count = w.bad_count; bad_table = w.bad_table; bad_number = w.bad_number }

pub returns-then-not-tables_fit : goal.returns-then-not-tables_fit
returns-then-not-tables_fit c =
    let w = no-table _ _ _ (c.fit.ensures.0 c.if-not-fit.false) (λ h. fails c.tables_fit.ensures c.if-not-tables_fit.true h) in
    record { ok = w.ok; bad_count = w.bad_count; bad_table = w.bad_table; bad_number = w.bad_number }

pub returns-then-not-records_fit : goal.returns-then-not-records_fit
returns-then-not-records_fit c =
    let w = no-number _ _ _ (c.fit.ensures.0 c.if-not-fit.false) (c.tables_fit.ensures.0 c.if-not-tables_fit.false)
    (λ h. fails c.records_fit.ensures c.if-not-records_fit.true ((numbers-meant c.args.self.now).1 h)) in
    record { ok = w.ok; bad_count = w.bad_count; bad_table = w.bad_table; bad_number = w.bad_number }

pub returns : goal.returns
returns c =
    let w = passed _ _ _ (c.fit.ensures.0 c.if-not-fit.false) (c.tables_fit.ensures.0 c.if-not-tables_fit.false)
    ((numbers-meant c.args.self.now).0 (c.records_fit.ensures.0 c.if-not-records_fit.false)) in
    record { ok = w.ok; bad_count = w.bad_count; bad_table = w.bad_table; bad_number = w.bad_number }

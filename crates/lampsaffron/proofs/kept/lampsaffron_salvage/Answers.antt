-- `lampsaffron_salvage`: what was told of the collection that is lent, of what is passed; and what follows of it.
use Rattle.lampsaffron.proofs.SalvageLaws.{number_never, passed, sane, back, repeats, whole, salvage_deeds}
use Rattle.lampsaffron.proofs.kept.lampsaffron_salvage.Goals as goal

pub returns-clause-two_never : goal.returns-clause-two_never
returns-clause-two_never c = (number_never _ _ _ c.tell_salvage.ensures.number).0

pub returns-clause-seven_never : goal.returns-clause-seven_never
returns-clause-seven_never c = (number_never _ _ _ c.tell_salvage.ensures.number).1

pub returns-clause-sane : goal.returns-clause-sane
returns-clause-sane c = λ z.
    let l = c.collection.ensures in
    let told = c.tell_salvage.ensures in
    sane _ _ _ (passed _ _ _ (rw (l.counts, l.tables) at told.number) z).0 (rw (l.counts, l.tables) at (told.marks z))

pub returns-clause-back : goal.returns-clause-back
returns-clause-back c = λ z.
    let l = c.collection.ensures in
    let told = c.tell_salvage.ensures in
    back _ _ _ (passed _ _ _ (rw (l.counts, l.tables) at told.number) z).0 (rw (l.counts, l.tables) at (told.marks z))

pub returns-clause-whole : goal.returns-clause-whole
returns-clause-whole c = λ z.
    let l = c.collection.ensures in
    let told = c.tell_salvage.ensures in
    let all = passed _ _ _ (rw (l.counts, l.tables) at told.number) z in
    whole _ _ _ all.0 (rw (l.counts, l.tables) at (told.marks z)) all.1

pub returns-clause-repeats : goal.returns-clause-repeats
returns-clause-repeats c = λ z.
    let l = c.collection.ensures in
    let told = c.tell_salvage.ensures in
    repeats _ _ _ (passed _ _ _ (rw (l.counts, l.tables) at told.number) z).0 (rw (l.counts, l.tables) at (told.marks z))

pub returns-clause-deeds : goal.returns-clause-deeds
returns-clause-deeds c = λ u s.
    let l = c.collection.ensures in
    let told = c.tell_salvage.ensures in
    salvage_deeds _ _ u s _ (record {
      number_is = rw (l.counts, l.tables) at told.number;
      marked = λ z. rw (l.counts, l.tables) at (told.marks z);
      rest = told.rest;
      kept = told.kept_kept;
    })

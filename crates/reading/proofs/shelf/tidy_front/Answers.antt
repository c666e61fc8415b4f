-- What `tidy` leaves at the front stands at the front of all records.
use Rattle.std.proofs.Common.{◌≤◌, length, arith}
use Rattle.std.proofs.lemmas.List.{take-append-le}
use Rattle.sorted.proofs.TidyLaws.{tidied-by}
use Rattle.reading.proofs.shelf.tidy_front.Goals as goal

pub returns-clause-tidied : goal.returns-clause-tidied
returns-clause-tidied g c =
    let t = c.tidy.ensures in
    let inside : c.tidy.result ≤ length c.tidy.new.records = omega (arith, t.within, t.length) in
    rw (take-append-le c.tidy.result c.tidy.new.records _ inside) (tidied-by t.rises t.keeps t.adds_none)

-- What the list's comparison and the lines behind its right entries come to.
use Rattle.std.proofs.Common.{arith, ◌≡◌, ◌+◌, refl}
use Rattle.streams.specs.Input.{left_of}
use Rattle.reading.proofs.Turns.{few_lines}
use Rattle.intake.proofs.Taking.{broken-read, counted-read, right-few, fault-found, whole-found, departs-found, cut-read}
use Rattle.intake.proofs.take_list.Goals as goal

pub returns-in_default-clause-found : goal.returns-in_default-clause-found
returns-in_default-clause-found g c =
    broken-read (rw c.in_default.is at c.in-Ok.ensures.broken) (left_of c.args.lines.now) (left_of c.compare.new.lines) c.read_on.result c.read_on.new.file
    (rw c.in_default.is at c.in-Ok.ensures.unlooked) c.read_on.ensures.found

pub count_right-requires-clause-lines : goal.count_right-requires-clause-lines
count_right-requires-clause-lines g c =
    let w = rw c.in-Some.is at c.in-Ok.ensures.compared in
    omega (arith, few_lines c.requires.read, right-few w c.requires.read c.requires.is_open)

pub returns-in-Err-2-clause-found : goal.returns-in-Err-2-clause-found
returns-in-Err-2-clause-found g c =
    let w = rw c.in-Some.is at c.in-Ok.ensures.compared in
    fault-found w c.read_on-2.new.file c.in-Err-2.fault (rw (c.in-Err-2.is, c.count_right.ensures) at c.in_ok-fault.ensures.found)

pub returns-in-Err-2-clause-taken : goal.returns-in-Err-2-clause-taken
returns-in-Err-2-clause-taken g c =
    let w = rw c.in-Some.is at c.in-Ok.ensures.compared in
    c.in_ok-fault.ensures.taken (rw c.count_right.ensures (counted-read w c.requires.read c.requires.is_open))

pub returns-in-Err-2-clause-line : goal.returns-in-Err-2-clause-line
returns-in-Err-2-clause-line g c =
    let w = rw c.in-Some.is at c.in-Ok.ensures.compared in
    rw c.in-Err-2.is at (c.in_ok-fault.ensures.line (rw c.count_right.ensures (counted-read w c.requires.read c.requires.is_open)))

pub returns-then-is_all-clause-found : goal.returns-then-is_all-clause-found
returns-then-is_all-clause-found g c =
    let w = rw c.in-Some.is at c.in-Ok.ensures.compared in
    whole-found w c.read_on-2.new.file (c.is_all.ensures.0 c.if-is_all.true)
    (rw (c.in_default-2.is, c.count_right.ensures) at c.in_ok-fault.ensures.found)

pub returns-then-is_all-clause-taken : goal.returns-then-is_all-clause-taken
returns-then-is_all-clause-taken g c =
    let w = rw c.in-Some.is at c.in-Ok.ensures.compared in
    c.in_ok-fault.ensures.taken (rw c.count_right.ensures (counted-read w c.requires.read c.requires.is_open))

pub returns-clause-found : goal.returns-clause-found
returns-clause-found g c =
    let w = rw c.in-Some.is at c.in-Ok.ensures.compared in
    let t = cut-read c.cut_list.ensures (c.in_ok-fault.ensures.taken (rw c.count_right.ensures (counted-read w c.requires.read c.requires.is_open))) in
    let line : c.saturating_add.result ≡ c.cut_list.new.file.lines + 1 = omega (arith, c.saturating_add.ensures, few_lines t) in
    rw line
    (departs-found w c.read_on-2.new.file (λ all. let d = c.is_all.ensures.1 all in let e = c.if-is_all.false in cc) _ c.cut_list.new.file
    c.cut_list.ensures refl (rw (c.in_default-2.is, c.count_right.ensures) at c.in_ok-fault.ensures.found))

pub returns-clause-taken : goal.returns-clause-taken
returns-clause-taken g c =
    let w = rw c.in-Some.is at c.in-Ok.ensures.compared in
    cut-read c.cut_list.ensures (c.in_ok-fault.ensures.taken (rw c.count_right.ensures (counted-read w c.requires.read c.requires.is_open)))

pub returns-clause-line : goal.returns-clause-line
returns-clause-line g c =
    let w = rw c.in-Some.is at c.in-Ok.ensures.compared in
    let t = cut-read c.cut_list.ensures (c.in_ok-fault.ensures.taken (rw c.count_right.ensures (counted-read w c.requires.read c.requires.is_open))) in
    omega (arith, c.saturating_add.ensures, few_lines t)

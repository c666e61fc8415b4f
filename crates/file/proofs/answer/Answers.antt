use Rattle.std.proofs.Common.{arith, length-take}
use Rattle.file.proofs.WritesLaws.{writes-once, writes-length}
use Rattle.file.proofs.Told.{listed, text-long, text-lines, fault-told}
use Rattle.file.proofs.DeedLaws.{writes-without-deeds}
use Rattle.file.proofs.FormerLaws.{writes-as-it-did}
use Rattle.file.proofs.LeftOut.{list-changes-nothing}
use Rattle.file.proofs.Default.{never-spent}
use Rattle.file.proofs.answer.Goals as goal

pub unreachable-requires : goal.unreachable-requires
unreachable-requires c = let o = c.in-None.ensures.no_room in omega (arith, o.so, writes-length o.is, c.told-text)

pub returns-clause-only : goal.returns-clause-only
returns-clause-only c = λ out w. writes-once w c.in-Some.ensures.written

pub returns-clause-long : goal.returns-clause-long
returns-clause-long c = λ fs q s counts t.
    omega (arith, text-long c.in-Some.ensures.written fs q s counts t, length-take c.in-Some.n c.answer.new.text, c.in-Some.ensures.within)

pub returns-clause-many : goal.returns-clause-many
returns-clause-many c = λ fs q s counts t. text-lines c.in-Some.ensures.written fs q s counts t

pub returns-clause-listed : goal.returns-clause-listed
returns-clause-listed c = λ fs s. listed c.in-Some.ensures.written fs s

pub returns-clause-unspent : goal.returns-clause-unspent
returns-clause-unspent c = λ fs s none. never-spent _ _ c.in-Some.ensures.written fs s none

pub returns-clause-fault : goal.returns-clause-fault
returns-clause-fault c = λ before r f. (fault-told c.in-Some.ensures.written before r f).listed

pub returns-clause-deeds : goal.returns-clause-deeds
returns-clause-deeds c = λ other s. (writes-without-deeds _ other s _).0 c.in-Some.ensures.written

pub returns-clause-former : goal.returns-clause-former
returns-clause-former c = λ fs s. (writes-as-it-did _ fs s _).0 c.in-Some.ensures.written

pub returns-clause-list_left_out : goal.returns-clause-list_left_out
returns-clause-list_left_out c = λ other l fs s. (list-changes-nothing _ other l fs s _).0 c.in-Some.ensures.written

use Rattle.std.specs.Prelude.{refl}
use Rattle.sift.proofs.EntryLaws.{gives_role, gives_no_role}
use Rattle.sift.proofs.entries.FactsLeft.next_role.Goals as goal

pub returns-in-Some : goal.returns-in-Some
returns-in-Some c =
    gives_role c.args.self.now
    (record { concepts = c.args.self.now.concepts; roles = c.next.new.self }) c.in-Some.fact c.in-Some.ensures.steps refl

pub returns-in-None : goal.returns-in-None
returns-in-None c =
    gives_no_role c.args.self.now (record { concepts = c.args.self.now.concepts; roles = c.next.new.self }) c.in-None.ensures.steps refl

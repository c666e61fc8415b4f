use Rattle.std.specs.Prelude.{refl}
use Rattle.sift.proofs.EntryLaws.{gives_concept, gives_no_concept}
use Rattle.sift.proofs.entries.FactsLeft.next_concept.Goals as goal

pub returns-in-Some : goal.returns-in-Some
returns-in-Some c =
    gives_concept c.args.self.now
    (record { concepts = c.next.new.self; roles = c.args.self.now.roles }) c.in-Some.fact c.in-Some.ensures.steps refl

pub returns-in-None : goal.returns-in-None
returns-in-None c =
    gives_no_concept c.args.self.now (record { concepts = c.next.new.self; roles = c.args.self.now.roles }) c.in-None.ensures.steps refl

use Rattle.reading.proofs.DeedLaws.{reads-without-deeds, concept-facts-kept, role-facts-kept}
use Rattle.reading.proofs.theorems.deeds.Goals as goal

pub returns : goal.returns
returns c = record { reading = reads-without-deeds; concept_facts = concept-facts-kept; role_facts = role-facts-kept }

-- C ≤ D leads to each relation that keeps the rules: by cases.
use Rattle.meaning.proofs.Least.{concept-least}
use Rattle.meaning.proofs.orders.least_concepts.Goals as goal

pub returns : goal.returns
returns g c = record { concepts_least = λ 𝓒 keeps C D l. concept-least 𝓒 g.F.AnyConcepts.holds keeps l }

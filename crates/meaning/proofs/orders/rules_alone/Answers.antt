-- Neither order mentions an exclusion.
use Rattle.meaning.proofs.orders.rules_alone.Goals as goal

pub returns : goal.returns
returns c = record { only = λ 𝓒. (λ R S. (λ l. l, λ l. l), λ C D. (λ l. l, λ l. l)) }

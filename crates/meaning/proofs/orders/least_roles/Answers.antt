-- R ≤ S leads to each relation that keeps the rules: by cases.
use Rattle.meaning.proofs.Least.{role-least}
use Rattle.meaning.proofs.orders.least_roles.Goals as goal

pub returns : goal.returns
returns g c = record { roles_least = λ 𝓒 keeps R S l. role-least 𝓒 g.F.AnyRoles.holds keeps l }

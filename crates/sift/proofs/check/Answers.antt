use Rattle.laws.specs.Truth.{test-false}
use Rattle.sift.proofs.check.Goals as goal

pub returns-then-not-order_fits-clause-bad_number : goal.returns-then-not-order_fits-clause-bad_number
returns-then-not-order_fits-clause-bad_number c =
    (λ e. absurd cc, λ h. absurd (test-false c.order_fits.ensures c.if-not-order_fits.true h.tables.fits))

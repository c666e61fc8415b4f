-- `close_roles` meets its contract: every role is on both sides.
use Rattle.std.proofs.lemmas.Nat.Bits.{bit_at_ones}
use Rattle.orders.proofs.roles.close_roles.Goals as goal

pub close-requires : goal.close-requires
close-requires c = record { from = λ i j hi hj p. bit_at_ones 64 i hi; to = λ i j hi hj p. bit_at_ones 64 j hj }

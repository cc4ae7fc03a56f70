-- `grid_number::held_below`: the negation of a magnitude up to 2 ^ 31 is an i32.
-- Assumes nothing.
use Rattle.grid_number.proofs.Held.{negation-fits}
use Rattle.laws.proofs.Signed.{result-reads}
use Rattle.std.proofs.Common.{to_z-of_z, w64}
use Rattle.grid_number.proofs.held_below.Goals as goal

pub overflow_cast-result : goal.overflow_cast-result
overflow_cast-result c = rw (result-reads w64 c.with_sign.result c.with_sign.type_inv, c.with_sign.ensures) (negation-fits c.args.size c.requires)

pub returns : goal.returns
returns c = rw (result-reads w64 c.with_sign.result c.with_sign.type_inv, c.with_sign.ensures) (to_z-of_z (negation-fits c.args.size c.requires))

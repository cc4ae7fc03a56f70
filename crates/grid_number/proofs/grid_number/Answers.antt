-- `grid_number::grid_number`: by the sign of the product; what is neither above nor below zero gives 0.
-- Assumes nothing.
use Rattle.laws.specs.Binary64.{◌⊗◌}
use Rattle.laws.proofs.Signed.{result-reads}
use Rattle.std.proofs.Common.{sym, w32}
use lib.Ieee.Fits.{mul-fits, neg-fits}
use Rattle.grid_number.specs.GridNumber.{rounded, scale}
use Rattle.grid_number.proofs.Rounding.{above-zero-sign, below-zero-sign, negation-above-zero, magnitude-neg, neither-rounds-to-zero}
use lib.Ieee.{of_bits, binary64}
use Rattle.grid_number.proofs.grid_number.Goals as goal

pub rounded_magnitude-requires : goal.rounded_magnitude-requires
unfolding of_bits
rounded_magnitude-requires c = record { t = mul-fits binary64 c.args.value scale; y_value = c.if-y.true }

pub returns-then-y : goal.returns-then-y
unfolding of_bits rounded
returns-then-y c = let y = c.args.value ⊗ scale in
    rw (result-reads w32 c.held_above.result c.held_above.type_inv, above-zero-sign y c.if-y.true, ← c.rounded_magnitude.ensures.0)
    c.held_above.ensures

pub rounded_magnitude-requires-then-y-2 : goal.rounded_magnitude-requires-then-y-2
unfolding of_bits
rounded_magnitude-requires-then-y-2 c = let value = c.args.value in record { t = neg-fits binary64 (value ⊗ scale) (mul-fits binary64 value scale); y_value = negation-above-zero (value ⊗ scale) c.if-y-2.true }

pub returns-then-y-2 : goal.returns-then-y-2
unfolding of_bits rounded
returns-then-y-2 c = let y = c.args.value ⊗ scale in
    rw (result-reads w32 c.held_below.result c.held_below.type_inv, below-zero-sign y c.if-y-2.true, ← magnitude-neg y, ← c.rounded_magnitude-then-y-2.ensures.0)
    c.held_below.ensures

pub returns : goal.returns
unfolding of_bits
returns c = sym (neither-rounds-to-zero (c.args.value ⊗ scale) c.if-y.false c.if-y-2.false)

-- `subexp::rung_step`: a rung's step is 2 to its bits. Assumes nothing.
use Prim.Native.Nat.{ℕ, ◌^◌}
use mathlib.Core.Path.{ap, ◌∙◌}
use native.Mathlib.Omega.{arith}
use lib.Pow.{pow_mono}
use Rattle.subexp.proofs.rung_step.Goals as goal

pub returns : goal.returns
returns c = (c.power.ensures ∙ ap (λ (b : ℕ). 2 ^ b) c.rung_bits.ensures.0, omega (arith, c.power.ensures, pow_mono c.rung_bits.ensures.1))

-- `ordinals_of`: each turn writes the codes of the next length behind those before it.
-- Assumes nothing.
use Prim.Native.Nat.{◌+◌}
use mathlib.Core.Path.{◌≡◌}
use Rattle.laws.specs.Buffer.{onto}
use Rattle.laws.specs.Parts.{listing}
use Rattle.price.specs.Prices.{shortest}
use Rattle.price.specs.Listed.{listed}
use Rattle.price.specs.Call.{no_prices}
use Rattle.price.proofs.ordinals_of.Given as goal

abbrev pub invariant-loop-j : goal.invariant-loop-j
invariant-loop-j l = l.ordinals ≡ onto (listing (λ k. listed l.abs_bits (shortest + k)) l.j) no_prices

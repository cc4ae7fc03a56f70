-- `root::guess`: the patterns that it makes are numbers', and so is the number whose pattern it takes.
-- Assumes nothing.
use Prim.Native.Nat.{◌+◌, ◌-◌, ◌*◌, ◌/◌}
use native.Mathlib.Omega.{arith}
use Rattle.root.proofs.Patterns.{not-nan}
use Rattle.root.proofs.Ends.{less-is-no-nan}
use Rattle.root.proofs.guess.Goals as goal

pub float_from_bits-x : goal.float_from_bits-x
float_from_bits-x c = not-nan (c.args.m + (1022 + c.args.odd) * 4503599627370496) (omega (arith, c.requires.significand.high, c.requires.odd_bound))

pub float_from_bits-first : goal.float_from_bits-first
float_from_bits-first c = not-nan (6910469410427058089 - (c.args.m + (1022 + c.args.odd) * 4503599627370496) / 2) (omega arith)

pub float_to_bits-result : goal.float_to_bits-result
float_to_bits-result c = less-is-no-nan _ _ c.if-nearer-2.true

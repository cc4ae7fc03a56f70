-- `floor_log2`: 2 ^ 16 parts the numbers of 16 bits from those of 17.
-- Assumes nothing.
use native.Mathlib.Omega.{arith}
use mathlib.Core.Path.{sym}
use Rattle.divisor.proofs.Rounding.{log2-between}
use Rattle.divisor.proofs.floor_log2.Goals as goal

pub returns-then-d-lt65536-clause-is : goal.returns-then-d-lt65536-clause-is
returns-then-d-lt65536-clause-is c = sym (log2-between 31 15 c.args.d (omega arith) (omega arith) (omega arith))

pub returns-else-d-lt65536-clause-is : goal.returns-else-d-lt65536-clause-is
returns-else-d-lt65536-clause-is c = sym (log2-between 31 16 c.args.d (omega arith) (omega arith) (omega arith))

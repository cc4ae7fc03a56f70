-- `trim::between`: the tests say that a cut beside the guess lies between lo and hi, and the middle does.
-- Assumes nothing.
use Prim.Native.Nat.{◌<◌}
use native.Mathlib.Omega.{arith}
use Rattle.trim.proofs.between.Goals as goal

pub overflow_add-result : goal.overflow_add-result
overflow_add-result c = let guess = c.args.guess in
    let below : guess < 0x7fef_ffff_ffff_fffe = c.if-guess-lt-FAR.true in
    record { fits = omega arith }

pub overflow_sub-result : goal.overflow_sub-result
overflow_sub-result c = omega arith

pub overflow_add-result-2 : goal.overflow_add-result-2
overflow_add-result-2 c = omega arith

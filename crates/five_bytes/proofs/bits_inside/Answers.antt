-- `five_bytes::bits_inside`: a rest by 2 ^ n has n bits, 32 at most. Assumes nothing.
use Prim.Native.Nat.{◌-◌, ◌/◌, ◌^◌}
use native.Mathlib.Nat.{mod-lt}
use native.Mathlib.Omega.{arith}
use lib.Pow.{pow_pos, pow_mono}
use Rattle.five_bytes.proofs.bits_inside.Goals as goal

pub overflow_cast-result-2 : goal.overflow_cast-result-2
overflow_cast-result-2 c = let a = c.args in
    rw c.wide_power.ensures (omega (arith, mod-lt (a.word / 2 ^ (40 - a.used - a.n)) (pow_pos a.n), pow_mono c.requires.1))

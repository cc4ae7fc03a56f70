-- `subexp::last_rung`: behind the first rung each reaches as far as a power of two. Assumes nothing.
use Prim.Native.Nat.{◌<◌}
use native.Mathlib.Omega.{arith}
use Rattle.subexp.proofs.Window.{last-later}
use Rattle.subexp.proofs.last_rung.Goals as goal

pub overflow_sub-result : goal.overflow_sub-result
overflow_sub-result c = let a = c.args in
    let more : 24 < a.num_syms = omega arith in
    omega (arith, (last-later a.num_syms c.bit_length.result more c.requires.1 c.bit_length.ensures.0).0)

pub returns : goal.returns
returns c = let a = c.args in
    let more : 24 < a.num_syms = omega arith in
    (last-later a.num_syms c.bit_length.result more c.requires.1 c.bit_length.ensures.0).1

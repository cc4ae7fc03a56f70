-- `bits::ns_width`: n lies below 2 ^ w and not below half of it, so m is what 2 ^ w has over n. Assumes nothing.
use Prim.Native.Nat.{ℕ, ◌-◌, ◌^◌, ◌≤◌}
use mathlib.Core.Path.{◌≡◌, ap, ◌∙◌}
use native.Mathlib.Omega.{arith}
use lib.Pow.{pow_mono}
use Rattle.bits.specs.Ns.{bit_length}
use Rattle.bits.proofs.BitLength.{bit_length-length, bit_length-le, bit_length-step}
use Rattle.bits.proofs.ns_width.Goals as goal

pub power-requires : goal.power-requires
power-requires c = omega (arith, bit_length-le c.args.n 17 (omega arith))

pub overflow_sub-result : goal.overflow_sub-result
overflow_sub-result c = omega (arith, (bit_length-length c.args.n).below, c.power.ensures, ap (λ (k : ℕ). 2 ^ k) c.bit_length-w.ensures.0)

pub returns : goal.returns
returns c = let e : c.power.result ≡ 2 ^ bit_length c.args.n = c.power.ensures ∙ ap (λ (k : ℕ). 2 ^ k) c.bit_length-w.ensures.0 in
    let seventeen : bit_length c.args.n ≤ 17 = bit_length-le c.args.n 17 (omega arith) in
    record {
      w = c.bit_length-w.ensures.0;
      m = ap (λ (p : ℕ). p - c.args.n) e;
      least = omega (arith, bit_length-step c.args.n (omega arith), c.bit_length-w.ensures.0);
      most = omega (arith, c.bit_length-w.ensures.0);
      few = omega (arith, pow_mono seventeen);
    }

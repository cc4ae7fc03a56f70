use Prim.Native.Nat.{◌≤◌, ◌<◌}
use mathlib.Core.Path.{refl, sym, ◌∙◌}
use native.Mathlib.Omega.{arith}
use lib.Ieee.{binary64, of_bits}
use Rattle.root.specs.Inner.{leading}
use Rattle.root.proofs.Scaling.{power-left, doubled-again, doubled-up}
use Rattle.root.proofs.Patterns.{subnormal-value, root-of-normal}
use Rattle.root.proofs.subnormal_root.Goals as goal

pub loop-m-init : goal.loop-m-init
loop-m-init c = record { is = refl; high = omega (arith, c.requires.1); deep = omega arith }

pub overflow_sub-power : goal.overflow_sub-power
overflow_sub-power c = let at = c.loop-m in
    let entry = c.before in
    let short : at.m < leading = omega arith in
    power-left entry.args.pattern at.m at.power entry.requires.0 short at.invariant

pub loop-m-smaller : goal.loop-m-smaller
loop-m-smaller c = let at = c.loop-m in
    let entry = c.before in
    let short : at.m < leading = omega arith in
    omega (arith, power-left entry.args.pattern at.m at.power entry.requires.0 short at.invariant)

pub loop-m-preserved : goal.loop-m-preserved
loop-m-preserved c = let at = c.loop-m in
    let entry = c.before in
    let n = entry.args.pattern in
    let short : at.m < leading = omega arith in
    doubled-again n at.m at.power (power-left n at.m at.power entry.requires.0 short at.invariant) short at.invariant

pub significand_root-requires : goal.significand_root-requires
significand_root-requires c = let at = c.loop-m in
    let reached : leading ≤ at.m = omega arith in
    let normal = doubled-up reached at.invariant in record { significand = normal.digits; power_bound = normal.deep }

pub returns : goal.returns
returns c = let at = c.loop-m in
    let entry = c.before in
    let n = entry.args.pattern in
    let reached : leading ≤ at.m = omega arith in
    c.significand_root.ensures
    ∙ sym (root-of-normal (of_bits binary64 n) n at.m at.power (doubled-up reached at.invariant) (subnormal-value n entry.requires.1))

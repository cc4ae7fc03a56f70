-- `root::significand_root`: the factor of an odd power stays inside, and the pattern is that of the digits found.
-- Assumes nothing.
use Prim.Native.Nat.{ℕ, ◌+◌, ◌*◌, ◌/◌, ◌%◌, ◌<◌}
use mathlib.Core.Path.{sym, ap, ◌∙◌}
use native.Mathlib.Omega.{arith}
use lib.Ieee.{binary64, of_bits}
use Rattle.root.specs.Inner.{leading}
use Rattle.root.proofs.Scaling.{tall}
use Rattle.root.proofs.Patterns.{not-nan, root-found, root-is-significand, root-pattern}
use Rattle.root.proofs.significand_root.Goals as goal

pub overflow_mul-tall : goal.overflow_mul-tall
overflow_mul-tall c = let odd : c.args.power % 2 < 2 = omega arith in
    omega (arith, (tall c.args.m (c.args.power % 2) c.requires.significand odd).high)

pub nearest_root-k-requires : goal.nearest_root-k-requires
nearest_root-k-requires c = let entry = c.before in
    let odd : entry.args.power % 2 < 2 = omega arith in
    tall entry.args.m (entry.args.power % 2) entry.requires.significand odd

pub overflow_add-result-2 : goal.overflow_add-result-2
overflow_add-result-2 c = let entry = c.before in
    let m = entry.args.m in
    let p = entry.args.power in
    omega (arith, entry.requires.power_bound, root-found m p c.nearest_root-k.result c.nearest_root-k.ensures, (root-is-significand m p entry.requires.significand).high)

pub float_from_bits-result : goal.float_from_bits-result
float_from_bits-result c = let entry = c.before in
    let m = entry.args.m in
    let p = entry.args.power in
    let k = c.nearest_root-k.result in
    not-nan ((p / 2 + 485) * leading + k) (omega (arith, entry.requires.power_bound, root-found m p k c.nearest_root-k.ensures, (root-is-significand m p entry.requires.significand).high))

pub returns : goal.returns
returns c = let entry = c.before in
    let m = entry.args.m in
    let p = entry.args.power in
    ap (λ (k : ℕ). of_bits binary64 ((p / 2 + 485) * leading + k)) (root-found m p c.nearest_root-k.result c.nearest_root-k.ensures)
    ∙ sym (root-pattern m p entry.requires.significand entry.requires.power_bound)

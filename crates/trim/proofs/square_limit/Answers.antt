use borrow.Author.Rules.{rules}
use Prim.Native.Nat.{◌-◌}
use native.Mathlib.Omega.{arith}
use lib.Ieee.{nan_bits}
use Rattle.trim.proofs.Roots.{readable, above-nought, starts, goes-up, goes_down, none_passes, some-pass}
use Rattle.trim.proofs.square_limit.Goals as goal

pub square_pattern-guess-requires : goal.square_pattern-guess-requires
square_pattern-guess-requires c = omega arith

pub loop-lo-init : goal.loop-lo-init
loop-lo-init c = starts c.args.cutoff

pub between-mid-requires : goal.between-mid-requires
between-mid-requires c = omega arith

pub float_from_bits-mid : goal.float_from_bits-mid
float_from_bits-mid c = let below = c.between-mid.ensures.upper_bound in
    let f = c.loop-lo.invariant.finite in
    readable c.between-mid.result (omega arith)

pub root-requires : goal.root-requires
root-requires c = omega arith

pub overflow_add-lo : goal.overflow_add-lo
overflow_add-lo c = let below = c.between-mid.ensures.upper_bound in
    let f = c.loop-lo.invariant.finite in
    search rules

pub loop-lo-smaller-then-root-cutoff : goal.loop-lo-smaller-then-root-cutoff
loop-lo-smaller-then-root-cutoff c = let between = c.between-mid.ensures in
    let t = c.loop-lo-test.true in
    omega (arith, between.lower_bound, between.upper_bound)

pub loop-lo-preserved-then-root-cutoff : goal.loop-lo-preserved-then-root-cutoff
loop-lo-preserved-then-root-cutoff c = let l = c.loop-lo in
    let start = c.before in
    goes-up start.args.cutoff start.requires l.invariant c.between-mid.ensures.upper_bound (rw (← c.root.ensures) c.if-root-cutoff.true)

pub loop-lo-smaller : goal.loop-lo-smaller
loop-lo-smaller c = let between = c.between-mid.ensures in
    omega (arith, between.lower_bound, between.upper_bound)

pub loop-lo-preserved : goal.loop-lo-preserved
loop-lo-preserved c = let l = c.loop-lo in
    let start = c.before in
    let between = c.between-mid.ensures in
    goes_down start.args.cutoff start.requires l.invariant between.lower_bound between.upper_bound (rw (← c.root.ensures) c.if-root-cutoff.false)

pub float_from_bits-result : goal.float_from_bits-result
unfolding nan_bits
float_from_bits-result c = tt

pub returns-then-lo-eq0 : goal.returns-then-lo-eq0
returns-then-lo-eq0 c = let l = c.loop-lo in
    none_passes c.args.cutoff l.invariant c.loop-lo-test.false c.if-lo-eq0.true

pub overflow_sub-result : goal.overflow_sub-result
overflow_sub-result c = let p = above-nought c.loop-lo.lo c.if-lo-eq0.false in omega arith

pub float_from_bits-result-2 : goal.float_from_bits-result-2
float_from_bits-result-2 c = let l = c.loop-lo in
    let p = above-nought l.lo c.if-lo-eq0.false in
    let r = l.invariant.rising in
    let f = l.invariant.finite in
    readable (l.lo - 1) (omega arith)

pub returns : goal.returns
returns c = let l = c.loop-lo in
    some-pass c.args.cutoff l.invariant c.loop-lo-test.false (above-nought l.lo c.if-lo-eq0.false)

use borrow.Author.Rules.{rules}
use Prim.Native.Nat.{ℕ, ◌<◌}
use mathlib.Core.Bool.{Bool, not}
use mathlib.Core.Path.{sym, subst}
use native.Mathlib.Omega.{arith}
use lib.Dec.{T}
use lib.Ieee.{binary64, nan_bits}
use Rattle.median.proofs.Patterns.{infinite, no_nan}
use Rattle.median.proofs.Search.{starts, goes-up, goes_down, ends}
use Rattle.median.proofs.median.Goals as goal

-- `from_bits` is defined
readable : (b : ℕ) → b < infinite → T (not (nan_bits binary64 b))
readable b h = subst (λ (t : Bool). T (not t)) (sym (no_nan b h)) tt

pub loop-lo-init : goal.loop-lo-init
loop-lo-init c = starts c.args.values.now c.requires

pub overflow_add-lo : goal.overflow_add-lo
overflow_add-lo c = let b = c.loop-lo.invariant in search rules

pub float_from_bits-mid : goal.float_from_bits-mid
float_from_bits-mid c = let m = c.between-mid.ensures.upper_bound in
    let f = c.loop-lo.invariant.finite in
    readable c.between-mid.result (omega (arith, m, f))

pub loop-lo-smaller-then-count_below-at : goal.loop-lo-smaller-then-count_below-at
loop-lo-smaller-then-count_below-at c = let m = c.between-mid.ensures in omega (arith, m.lower_bound, m.upper_bound)

pub loop-lo-preserved-then-count_below-at : goal.loop-lo-preserved-then-count_below-at
loop-lo-preserved-then-count_below-at c = let m = c.between-mid.ensures in
    goes-up c.args.values.now c.requires.plain c.loop-lo.invariant m.lower_bound m.upper_bound (rw (← c.count_below.ensures) c.if-count_below-at.true)

pub loop-lo-smaller : goal.loop-lo-smaller
loop-lo-smaller c = let m = c.between-mid.ensures in omega (arith, m.lower_bound, m.upper_bound)

pub loop-lo-preserved : goal.loop-lo-preserved
loop-lo-preserved c = let m = c.between-mid.ensures in
    goes_down c.args.values.now c.requires.plain c.loop-lo.invariant m.lower_bound m.upper_bound (rw (← c.count_below.ensures) c.if-count_below-at.false)

pub float_from_bits-result : goal.float_from_bits-result
float_from_bits-result c = let r = c.loop-lo.invariant.rising in
    let f = c.loop-lo.invariant.finite in
    readable c.loop-lo.lo (omega arith)

pub returns : goal.returns
returns c = let start = c in
    ends start.args.values.now c.loop-lo.lo c.loop-lo.hi start.requires.plain c.loop-lo.invariant c.loop-lo-test.false

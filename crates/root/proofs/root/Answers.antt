-- `root::root`: a number above 0 by its pattern; one below has no root, and what is neither is its own.
-- Assumes nothing.
use mathlib.Core.Path.{◌≡◌, sym, ap, ◌∙◌, subst}
use mathlib.Core.Bool.{true}
use lib.Dec.{T}
use lib.Ieee.{Float, binary64, div, fits, of_bits, to_bits}
use lib.Ieee.Bits.{of_bits-to_bits}
use Rattle.root.specs.Root.{root}
use Rattle.root.proofs.Patterns.{normal-root}
use Rattle.root.proofs.Ends.{above-is-no-nan, above-has-pattern, below-has-none, neither-is-its-own, infinite-is-its-own}
use Rattle.root.proofs.root.Goals as goal

-- a parameter is a binary64
held : (x : Float) → fits binary64 x ≡ true → T (fits binary64 x)
held x e = subst T (sym e) tt

pub float_to_bits-pattern : goal.float_to_bits-pattern
unfolding of_bits
float_to_bits-pattern c = above-is-no-nan c.args.x c.if-x.true

pub subnormal_root-requires : goal.subnormal_root-requires
unfolding of_bits
subnormal_root-requires c = (above-has-pattern c.args.x (held c.args.x c.well_formed.0.1) c.if-x.true, c.if-pattern-lt-LEADING.true)

pub returns-then-pattern-lt-LEADING : goal.returns-then-pattern-lt-LEADING
returns-then-pattern-lt-LEADING c = c.subnormal_root.ensures ∙ ap root (of_bits-to_bits binary64 c.args.x (held c.args.x c.well_formed.0.1))

pub returns-then-pattern-lt-INFINITY : goal.returns-then-pattern-lt-INFINITY
returns-then-pattern-lt-INFINITY c = c.significand_root.ensures
    ∙ normal-root (to_bits binary64 c.args.x) c.if-pattern-lt-LEADING.false c.if-pattern-lt-INFINITY.true
    ∙ ap root (of_bits-to_bits binary64 c.args.x (held c.args.x c.well_formed.0.1))

pub returns-then-x : goal.returns-then-x
unfolding of_bits
returns-then-x c = sym (infinite-is-its-own c.args.x (held c.args.x c.well_formed.0.1) c.if-x.true c.if-pattern-lt-INFINITY.false)

pub returns-then-x-2 : goal.returns-then-x-2
unfolding of_bits div
returns-then-x-2 c = sym (below-has-none c.args.x c.if-x-2.true)

pub returns : goal.returns
unfolding of_bits
returns c = sym (neither-is-its-own c.args.x c.if-x.false c.if-x-2.false)

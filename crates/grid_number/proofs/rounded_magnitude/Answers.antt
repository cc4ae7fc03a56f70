-- `grid_number::rounded_magnitude`: below 2 ^ 31 twice the number is exact, and from there on the limit is the answer.
-- Assumes nothing.
use Rattle.grid_number.specs.GridNumber.{limit}
use Rattle.grid_number.proofs.Rounding.{halved, at-limit, magnitude-le}
use Rattle.std.proofs.Common.{ℕ, ◌+◌, ◌/◌, ◌≤◌, sym, ap, ◌∙◌, subst, arith}
use lib.Ieee.{of_bits}
use Rattle.grid_number.proofs.rounded_magnitude.Goals as goal

pub truncating_f64_to_u64-requires : goal.truncating_f64_to_u64-requires
unfolding of_bits
truncating_f64_to_u64-requires c = let entry = c.before in
    let h = halved entry.args.y entry.requires.t entry.requires.y_value c.if-y.true in record { lower_bound = h.above; upper_bound = h.below }

pub overflow_add-result : goal.overflow_add-result
unfolding of_bits
overflow_add-result c = let entry = c.before in
    let h = halved entry.args.y entry.requires.t entry.requires.y_value c.if-y.true in
    omega (arith, c.truncating_f64_to_u64.ensures, h.whole, h.small)

pub returns-then-y : goal.returns-then-y
unfolding of_bits
returns-then-y c = let entry = c.before in
    let h = halved entry.args.y entry.requires.t entry.requires.y_value c.if-y.true in
    let e = ap (λ (n : ℕ). (n + 1) / 2) (c.truncating_f64_to_u64.ensures ∙ h.whole) ∙ h.is in
    (e, subst (λ (n : ℕ). n ≤ limit) (sym e) (magnitude-le entry.args.y))

pub returns : goal.returns
unfolding of_bits
returns c = let e = sym (at-limit c.args.y c.requires.y_value c.if-y.false) in
    (e, subst (λ (n : ℕ). n ≤ limit) (sym e) (magnitude-le c.args.y))

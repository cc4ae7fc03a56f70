-- The shear numbers of a warp's linear part, and whether a decoder keeps the warp: clause 7.11.3.6, setup shear, with its names.
-- docs/RULES.md, 'Shear'.
-- Assumes nothing.
use Rattle.std.specs.Prelude.{ℕ, ◌+◌, ◌*◌, ltb, ℤ, pos, negsuc, nat_abs, ◌-ℤ◌, ◌*ℤ◌}
use Rattle.laws.specs.Refusal.{choose, both}
use Rattle.divisor.specs.Rounding.{round2_signed, clip3}
use Rattle.divisor.specs.Divisor.{divided_by}

-- 1 << WARPEDMODEL_PREC_BITS: what stands for 1
abbrev pub unit : ℕ
unit = 65536

-- WARP_PARAM_REDUCE_BITS
abbrev pub reduce_bits : ℕ
reduce_bits = 6

-- to the range of 16 bits
unfoldable pub clamped : ℤ → ℤ
clamped x = clip3 (negsuc 32767) (pos 32767) x

-- to a multiple of 64
unfoldable pub reduced : ℤ → ℤ
reduced x = round2_signed x reduce_bits *ℤ pos 64

unfoldable pub alpha0 : ℤ → ℤ
alpha0 p2 = clamped (p2 -ℤ pos unit)

abbrev pub beta0 : ℤ → ℤ
beta0 p3 = clamped p3

unfoldable pub gamma0 : ℤ → ℤ → ℤ
gamma0 p2 p4 = clamped (divided_by p2 (p4 *ℤ pos unit))

unfoldable pub delta0 : ℤ → ℤ → ℤ → ℤ → ℤ
delta0 p2 p3 p4 p5 = clamped ((p5 -ℤ divided_by p2 (p3 *ℤ p4)) -ℤ pos unit)

-- 1 where both sums are under 1, otherwise 0
unfoldable pub warp_valid : ℤ → ℤ → ℤ → ℤ → ℕ
warp_valid alpha beta gamma delta =
    choose (both (ltb (4 * nat_abs alpha + 7 * nat_abs beta) unit) (ltb (4 * nat_abs gamma + 4 * nat_abs delta) unit)) 1 0

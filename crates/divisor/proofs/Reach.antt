-- What the codable numbers of the linear part let the code count on.
-- Assumes nothing.
use native.Mathlib.Omega.{arith}
use lib.IntN.{ℤ, pos, negsuc, nat_abs}
use Rattle.grid.proofs.Signs.{apart_of}
use Rattle.divisor.specs.Inner.{Divisor, Reach}

-- slot 2 has 16 or 17 bits
pub reach-divisor : (p : ℤ) → Reach p → Divisor (nat_abs p)
reach-divisor (pos a) h = record { low = omega (arith, h.within, apart_of a 65536); high = omega (arith, h.within, apart_of a 65536) }
reach-divisor (negsuc a) h = absurd (omega (arith, h.within))

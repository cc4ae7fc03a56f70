-- `quantize_global_param`: what isn't refused is quantized, and no row has the number 0.
-- Assumes nothing.
use Prim.Native.Nat.{ℕ}
use mathlib.Core.Path.{◌≡◌}
use native.Mathlib.Omega.{arith}
use borrow.Author.Tests.{ne_eqb}
use lib.Dec.{eqb}
use mir.Syntax.{w32}
use mir.Facts.{to_z-of_z}
use Rattle.laws.specs.Refusal.{choose}
use Rattle.laws.proofs.Signed.{result-reads}
use Rattle.refusal.specs.Number.{number_of}
use Rattle.refusal.specs.declared.Refusal.{Refusal}
use Rattle.refusal.proofs.Rows.{above-zero}
use Rattle.grid.specs.declared.Quantized.{Quantized}
use Rattle.grid.specs.Grid.{rejected, answer}
use Rattle.grid.proofs.quantize_global_param.Goals as goal

quantizes : (n : ℕ) (q : Quantized) → 0 ≡ n → q ≡ choose (eqb n 0) q (rejected n)
quantizes n q e = rw (← e)

refuses : (r : Refusal) (n : ℕ) (q : Quantized) → number_of r ≡ n → rejected (number_of r) ≡ choose (eqb n 0) q (rejected n)
refuses r n q e = rw (← e, ne_eqb (number_of r) 0 (λ z. let h = above-zero r in omega (arith, h, z)))

pub returns-in-Ok : goal.returns-in-Ok
unfolding answer
returns-in-Ok c =
    rw (result-reads w32 c.nearest_number.result c.nearest_number.type_inv, c.nearest_number.ensures, to_z-of_z c.ranges.value)
    (quantizes _ _ c.in-Ok.ensures)

pub returns-in-Err : goal.returns-in-Err
unfolding answer
returns-in-Err c = rw c.number.ensures (refuses c.in-Err.refusal _ _ c.in-Err.ensures)

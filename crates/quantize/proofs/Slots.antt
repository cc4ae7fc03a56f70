-- What the grid answers for a slot in range: the nearest codable number, within its reach.
-- Assumes nothing.
use Prim.Native.Nat.{ℕ, ◌*◌, ◌≤◌}
use mathlib.Core.Path.{◌≡◌}
use native.Mathlib.Omega.{arith}
use borrow.Author.Tests.{le-ltb}
use lib.IntN.{ℤ, pos, nat_abs, ◌-ℤ◌, +ℤ_idr}
use Rattle.grid.specs.Grid.{answer, quantized, quantize, negative, signed, nearest_ordinal}
use Rattle.grid.proofs.Signs.{signed-times, nat_abs-signed}
use Rattle.grid.proofs.Nearest.{nearest_ordinal-le}

pub accepted-answer : (gm_type flag slot : ℕ) (z : ℤ) → gm_type ≤ 3 → flag ≤ 1 → slot ≤ 5 → (answer gm_type flag slot z).value ≡ quantized gm_type flag slot z
unfolding answer
accepted-answer gm_type flag slot z a b c = rw (le-ltb 3 gm_type a, le-ltb 1 flag b, le-ltb 5 slot c)

-- slot 3 reaches 8,192 either way
pub slot-three-reach : (flag : ℕ) (z : ℤ) → nat_abs (quantized 2 flag 3 z) ≤ 8192
unfolding quantize
slot-three-reach flag z =
    let n = nearest_ordinal 12 15 (nat_abs (z -ℤ pos 0)) in
    rw (signed-times (negative (z -ℤ pos 0)) n 2, +ℤ_idr (signed (negative (z -ℤ pos 0)) (n * 2)), nat_abs-signed (negative (z -ℤ pos 0)) (n * 2))
    (omega (arith, nearest_ordinal-le 12 15 (nat_abs (z -ℤ pos 0))))

-- The lengths that a key frame's rows let pass.
-- Assumes nothing.
use Prim.Native.Nat.{ℕ, ◌*◌, ◌≤◌}
use mathlib.Core.Bool.{not}
use mathlib.Core.List.{List}
use mathlib.Core.Path.{◌≡◌}
use native.Mathlib.Omega.{arith}
use lib.Dec.{eqb}
use lib.IntN.{ℤ}
use lib.ListN.{length}
use Rattle.laws.specs.Refusal.{judge}
use Rattle.laws.proofs.Refusal.{neither, length-is, quiet}
use Rattle.key_frame.specs.Key.{key_code_rows}

module _ (types : List ℕ) (ps : List ℤ) (flag : ℕ) where
  pub lengths : judge (key_code_rows types ps flag) ≡ 0 → (length types ≡ 7) × (length ps ≡ 42)
  lengths e =
      let l = neither (not (eqb (length types) 7)) (not (eqb (length ps) 42)) (quiet (key_code_rows types ps flag) tt e).0 in
      (length-is (length types) 7 l.0, length-is (length ps) 42 l.1)

  -- room for six numbers of each type, as the test of the models asks
  pub numbers-enough : judge (key_code_rows types ps flag) ≡ 0 → 6 * length types ≤ length ps
  numbers-enough e = omega (arith, (lengths e).0, (lengths e).1)

-- The front of a buffer that holds a list: it lies in the buffer and is as long as the list.
-- Assumes nothing.
use Prim.Native.Nat.{ℕ, ◌≤◌}
use mathlib.Core.List.{List}
use mathlib.Core.Path.{◌≡◌, sym, ap, ◌∙◌}
use native.Mathlib.Omega.{arith}
use lib.ListN.{length, take, length-take}
use Rattle.laws.specs.Chosen.{Front}

module _ {A : Type 0} {l out : List A} {n : ℕ} (f : Front l out n) where
  pub front-count : n ≡ length (take n out)
  front-count = f.counted ∙ sym (ap length f.front)

  pub front-there : n ≤ length out
  front-there = omega (arith, front-count, length-take n out)

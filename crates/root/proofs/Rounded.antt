-- The root of a finite number above 0 is correctly rounded: x is N * 4 ^ h / 4 ^ 590 with N of 105 or 106 digits, and the root k * 2 ^ h / 2 ^ 590 with the one k of 53 digits for which
-- (2 k - 1) ^ 2 < 4 N < (2 k + 1) ^ 2.
-- Assumes nothing.
use Prim.Native.Nat.{ℕ, ◌+◌, ◌-◌, ◌*◌, ◌^◌, ◌≤◌, ◌<◌}
use mathlib.Core.Bool.{false}
use mathlib.Core.Path.{sym, subst}
use native.Mathlib.Nat.{lt_of_lt_of_le}
use lib.Dec.{T, lit<}
use lib.Ieee.{Float, binary64, fits}
use lib.Ieee.Exact.{HasValue}
use lib.Ieee.Positive.{positive}
use Rattle.laws.proofs.Value.{enlarged}
use Rattle.root.specs.Root.{root, nearest_root, half_digits, scaled}
use Rattle.root.specs.Inner.{Significand}
use Rattle.root.proofs.Squares.{nearest-root, low-square, high-square}
use Rattle.root.proofs.Scaling.{scaled-of, scaled_exact, scaled-range, half-digits-of}
use Rattle.root.proofs.Patterns.{root-is-significand, root_value}
use Rattle.root.proofs.Normalised.{normalised, root_is}

pub record Rounded (x : Float) : Type 0 where
  pub N : ℕ
  pub h : ℕ
  pub k : ℕ
  pub value : HasValue x false (N * 4 ^ h) (4 ^ 590)
  pub least : 4 ^ 52 ≤ N
  pub most : N < 4 ^ 53
  pub below : (2 * k - 1) * (2 * k - 1) < 4 * N
  pub above : 4 * N < (2 * k + 1) * (2 * k + 1)
  pub digits : Significand k
  pub root_value : HasValue (root x) false (k * 2 ^ h) (2 ^ 590)

pub rounded : (x : Float) → T (fits binary64 x) → T (positive x) → Rounded x
rounded x f p =
    let it = normalised x f p in
    let N = scaled it.n in
    let range = scaled-range it.normal in
    let some : 0 < N = lt_of_lt_of_le (lit< {m = 0} {n = 4 ^ 52} tt) range.0 in
    let near = nearest-root N some range.1 in
    let is = scaled-of it.normal in
    record {
      N = N;
      h = half_digits it.n;
      k = nearest_root N;
      value = subst (λ (a : ℕ). HasValue x false a (4 ^ 590)) (sym (scaled_exact it.normal)) (enlarged x false it.n (2 ^ 1074) (4 ^ 53) it.value);
      least = range.0;
      most = range.1;
      below = low-square near;
      above = high-square near;
      digits = rw is (root-is-significand it.m it.p it.normal.digits);
      root_value =
          rw (is, half-digits-of it.normal, root_is x f p) (root_value it.m it.p it.normal.digits it.normal.deep);
    }

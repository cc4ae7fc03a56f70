-- A displaced pel at a biased offset: coordinates as differences of natural numbers. Where a row of pels ends.
-- Assumes nothing.
use Prim.Native.Nat.{ℕ, suc, ◌+◌, ◌*◌, ◌-◌, ◌≤◌, ◌<◌, min}
use mathlib.Core.List.{List}
use mathlib.Core.Path.{◌≡◌}
use native.Mathlib.Nat.{mul-le-mul, mul-le-mul_right}
use native.Mathlib.Omega.{arith}
use lib.IntN.{pos, ◌+ℤ◌}
use Rattle.plane.specs.Plane.{pel, largest_side}
use Rattle.plane.specs.declared.Place.{Place}
use Rattle.plane.specs.Clamp.{clamped, displaced, offset}
use Rattle.plane.proofs.Offsets.{sub_cases, offset-cases}

pub clamped-is : (n a b y : ℕ) → clamped n (pos a +ℤ offset b y) ≡ min (a + y - b) (n - 1)
clamped-is n a b y =
    offset-cases b y (λ z. clamped n (pos a +ℤ z) ≡ min (a + y - b) (n - 1))
    (λ k e. sub_cases a (suc k) (λ z. clamped n z ≡ min (a + y - b) (n - 1)) (λ m q. omega arith) (λ m q. omega arith))
    (λ k e. omega arith)

pub displaced-is : (p : List ℕ) (place : Place) (b y x : ℕ) →
    displaced p place (offset b y) (offset b x)
    ≡ pel p place.width (min (place.r + y - b) (place.height - 1)) (min (place.c + x - b) (place.width - 1))
unfolding displaced
displaced-is p place b y x = rw (clamped-is place.height place.r b y, clamped-is place.width place.c b x)

-- n pels from row r, column c end within the plane
pub row-end : (w h r c n : ℕ) → r < h → c + n ≤ w → r * w + c + n ≤ h * w
row-end w h r c n l q =
    let k : (r + 1) * w ≤ h * w = mul-le-mul_right w (let p : r + 1 ≤ h = omega arith in p) in
    omega arith

pub plane-small : (w h : ℕ) → w ≤ largest_side → h ≤ largest_side → h * w ≤ 1048576
plane-small w h l m = mul-le-mul m l

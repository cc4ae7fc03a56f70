-- Numbers that stand for whole numbers over a power of two, with bounds on those: sums, differences and products by a number above 0 combine, where the bounds of the result stay in the format.
-- Assumes nothing.
use Prim.Native.Nat.{ℕ, ◌+◌, ◌*◌, ◌^◌, ◌≤◌, ◌<◌}
use mathlib.Core.Bool.{Bool, ◌&&◌}
use native.Mathlib.Nat.{le_refl}
use lib.Dec.{T, leb, leb→le}
use lib.IntN.{ℤ, pos, ◌+ℤ◌, ◌-ℤ◌, ◌*ℤ◌, *ℤ_comm}
use lib.Ieee.{Float}
use lib.Ieee.Fits.{and_l, and_r}
use Rattle.laws.specs.Binary64.{◌⊕◌, ◌⊖◌, ◌⊗◌}
use Rattle.laws.specs.Stands.{whole_limit, least_power, Stands}
use Rattle.laws.proofs.Stands.{add-exact, sub-exact, mul-exact, mul-exact-by, finer}
use Rattle.laws.proofs.Interval.{Between, between-add, between-sub, between-mul, between-size}

-- x stands for z / 2 ^ s, and z lies between −lo and hi
pub record Ranged (s lo hi : ℕ) (z : ℤ) (x : Float) : Type 0 where
  pub stands : Stands s z x
  pub between : Between lo hi z

-- ---- what combines

-- the power is one that the format reaches, and the bounds are within 2 ^ 53: a test that computes
abbrev pub in_format : ℕ → ℕ → ℕ → Bool
in_format s lo hi = leb s least_power && (leb lo whole_limit && leb hi whole_limit)

pub record InFormat (s lo hi : ℕ) : Type 0 where
  pub low : s ≤ least_power
  pub below : lo ≤ whole_limit
  pub above : hi ≤ whole_limit

in-format : (s lo hi : ℕ) → T (in_format s lo hi) → InFormat s lo hi
in-format s lo hi t =
    let r = and_r (leb s least_power) (leb lo whole_limit && leb hi whole_limit) t in
    record {
      low = leb→le s least_power (and_l (leb s least_power) (leb lo whole_limit && leb hi whole_limit) t);
      below = leb→le lo whole_limit (and_l (leb lo whole_limit) (leb hi whole_limit) r);
      above = leb→le hi whole_limit (and_r (leb lo whole_limit) (leb hi whole_limit) r);
    }

module _ {s lo hi lo' hi' : ℕ} {z w : ℤ} {x y : Float} (p : Ranged s lo hi z x) (q : Ranged s lo' hi' w y) where
  pub sum-ranged : T (in_format s (lo + lo') (hi + hi')) → Ranged s (lo + lo') (hi + hi') (z +ℤ w) (x ⊕ y)
  sum-ranged t =
      let r = in-format s (lo + lo') (hi + hi') t in
      let b = between-add z w p.between q.between in
      record { stands = add-exact r.low p.stands q.stands (between-size (z +ℤ w) r.below r.above b); between = b }

  pub difference-ranged : T (in_format s (lo + hi') (hi + lo')) → Ranged s (lo + hi') (hi + lo') (z -ℤ w) (x ⊖ y)
  difference-ranged t =
      let r = in-format s (lo + hi') (hi + lo') t in
      let b = between-sub z w p.between q.between in
      record { stands = sub-exact r.low p.stands q.stands (between-size (z -ℤ w) r.below r.above b); between = b }

-- the first factor is above 0
pub product-ranged : {s t most lo hi k : ℕ} {w : ℤ} {x y : Float} → 0 < k → Ranged t 0 most (pos k) x → Ranged s lo hi w y → T (in_format (s + t) (most * lo) (most * hi))
    → Ranged (s + t) (most * lo) (most * hi) (pos k *ℤ w) (x ⊗ y)
product-ranged {s = s} {t = t} {most = most} {lo = lo} {hi = hi} {k = k} {w = w} h p q c =
    let r = in-format (s + t) (most * lo) (most * hi) c in
    let b = between-mul k most w p.between.high q.between in
    record {
      stands = mul-exact-by r.low q.stands h p.stands (rw (*ℤ_comm (pos k) w) at (between-size (pos k *ℤ w) r.below r.above b));
      between = b;
    }

-- the second factor is above 0
pub right-product-ranged : {s t most lo hi k : ℕ} {w : ℤ} {x y : Float} → 0 < k → Ranged t 0 most (pos k) x → Ranged s lo hi w y → T (in_format (s + t) (most * lo) (most * hi))
    → Ranged (s + t) (most * lo) (most * hi) (w *ℤ pos k) (y ⊗ x)
right-product-ranged {s = s} {t = t} {most = most} {lo = lo} {hi = hi} {k = k} {w = w} h p q c =
    let r = in-format (s + t) (most * lo) (most * hi) c in
    let b = rw (*ℤ_comm (pos k) w) at (between-mul k most w p.between.high q.between) in
    record { stands = mul-exact r.low q.stands h p.stands (between-size (w *ℤ pos k) r.below r.above b); between = b }

-- the same number over a higher power
pub finer-ranged : {s lo hi : ℕ} {w : ℤ} {x : Float} (t : ℕ) → Ranged s lo hi w x → Ranged (s + t) (2 ^ t * lo) (2 ^ t * hi) (w *ℤ pos (2 ^ t)) x
finer-ranged {w = w} t q =
    record { stands = finer t q.stands; between = rw (*ℤ_comm (pos (2 ^ t)) w) at (between-mul (2 ^ t) (2 ^ t) w (le_refl (2 ^ t)) q.between) }

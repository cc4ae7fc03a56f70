-- Each term of a fit at a word: x and y are odd halves above 0 and u and v eighths, so every product, and every sum or difference of two, stands for the same of those whole numbers.
-- Assumes nothing.
use Prim.Native.Nat.{ℕ, ◌+◌, ◌*◌, ◌≤◌, ◌<◌, zero-le}
use mathlib.Core.Path.{◌≡◌, refl, subst}
use native.Mathlib.Omega.{arith}
use lib.Dec.{T, lit≤}
use lib.IntN.{ℤ, pos, nat_abs, ◌*ℤ◌}
use lib.Ieee.{Float, of_bits, fits}
use Rattle.laws.specs.Binary64.{◌⊗◌}
use Rattle.laws.specs.Stands.{whole_limit, least_power, Stands, Bounded}
use Rattle.laws.proofs.Stands.{of_int-stands, add-exact, div-exact, finer}
use Rattle.laws.proofs.Interval.{Between, between-subℕ, between-size}
use Rattle.laws.proofs.Ranged.{Ranged, in_format, sum-ranged, difference-ranged, product-ranged}
use Rattle.sample.specs.Word.{most_samples, row_of, col_of, v_of, u_of}
use Rattle.sample.specs.Sample.{to_centre, eight, eighths_of, centre_of, pels_of, sample_of}
use Rattle.sample.proofs.Word.{row_below, col-below, v_below, u-below}
use Rattle.exact.specs.Words.{Word}
use Rattle.exact.specs.Table.{halves_of, x_halves, y_halves, u_eighths, v_eighths, most_halves, low_eighths, high_eighths}
use Rattle.exact.specs.Table.{Sum, sum_u, sum_v, sum_x, sum_y, sum_xx, sum_xy, sum_yy, sum_xu, sum_yu, sum_xv, sum_yv, sum_q, sum_p1, sum_p2}

-- ---- the four numbers of a sample

centre-stands : Stands 1 (pos 15) to_centre
unfolding of_bits fits
centre-stands = record { held = tt; value = (refl, refl) }

eight-stands : Stands 0 (pos 8) eight
unfolding of_bits fits
eight-stands = record { held = tt; value = (refl, refl) }

pub centre-ranged : (place : ℕ) → place < 64 → Ranged 1 0 most_halves (pos (halves_of place)) (centre_of place)
centre-ranged place h =
    record {
      stands =
          subst (λ (n : ℕ). Stands 1 (pos n) (centre_of place)) (let e : 16 * place * 2 + 15 ≡ 32 * place + 15 = omega arith in e)
          (add-exact (lit≤ tt) (finer 1 (of_int-stands (pos (16 * place)) (omega arith))) centre-stands (omega arith));
      between = record { high = omega arith; low = zero-le };
    }

pub halves-above : (place : ℕ) → 0 < halves_of place
halves-above place = omega arith

pub pels-ranged : (stored : ℕ) → stored < 512 → Ranged 3 low_eighths high_eighths (eighths_of stored) (pels_of stored)
pels-ranged stored h =
    let b : Between low_eighths high_eighths (eighths_of stored) = between-subℕ stored 223 low_eighths high_eighths (omega arith) (omega arith) in
    let l : nat_abs (eighths_of stored) ≤ whole_limit = between-size (eighths_of stored) (lit≤ tt) (lit≤ tt) b in
    record { stands = div-exact 3 (lit≤ tt) (of_int-stands (eighths_of stored) l) eight-stands l; between = b }

-- ---- the terms of the table

-- what a row of the table promises
pub record Summable (r : Sum) : Type 0 where
  pub low : r.scale ≤ least_power
  pub room : most_samples * r.most ≤ whole_limit
  pub term : (w : ℕ) → Word w → Bounded r.scale r.most (r.whole w) (r.term (sample_of w))

pub row : (r : Sum) {lo hi : ℕ} → r.scale ≤ least_power → most_samples * r.most ≤ whole_limit → lo ≤ r.most → hi ≤ r.most
    → ((w : ℕ) → Word w → Ranged r.scale lo hi (r.whole w) (r.term (sample_of w))) → Summable r
row r low room below above ranged =
    record {
      low = low;
      room = room;
      term = λ w h. let t = ranged w h in record { stands = t.stands; within = between-size (r.whole w) below above t.between };
    }

module _ (w : ℕ) (h : Word w) where
  pub x-ranged : Ranged 1 0 most_halves (x_halves w) (centre_of (col_of w))
  x-ranged = centre-ranged (col_of w) (col-below w)

  pub y-ranged : Ranged 1 0 most_halves (y_halves w) (centre_of (row_of w))
  y-ranged = centre-ranged (row_of w) (row_below w h)

  pub u-ranged : Ranged 3 low_eighths high_eighths (u_eighths w) (pels_of (u_of w))
  u-ranged = pels-ranged (u_of w) (u-below w)

  pub v-ranged : Ranged 3 low_eighths high_eighths (v_eighths w) (pels_of (v_of w))
  v-ranged = pels-ranged (v_of w) (v_below w)

  -- x or y times a number
  x-times : {s lo hi : ℕ} {z : ℤ} {y : Float} → Ranged s lo hi z y → T (in_format (s + 1) (most_halves * lo) (most_halves * hi))
      → Ranged (s + 1) (most_halves * lo) (most_halves * hi) (x_halves w *ℤ z) (centre_of (col_of w) ⊗ y)
  x-times r t = product-ranged (halves-above (col_of w)) x-ranged r t

  y-times : {s lo hi : ℕ} {z : ℤ} {y : Float} → Ranged s lo hi z y → T (in_format (s + 1) (most_halves * lo) (most_halves * hi))
      → Ranged (s + 1) (most_halves * lo) (most_halves * hi) (y_halves w *ℤ z) (centre_of (row_of w) ⊗ y)
  y-times r t = product-ranged (halves-above (row_of w)) y-ranged r t

pub row-u : Summable sum_u
row-u = row sum_u (lit≤ tt) (lit≤ tt) (lit≤ tt) (lit≤ tt) (λ w h. u-ranged w h)

pub row-v : Summable sum_v
row-v = row sum_v (lit≤ tt) (lit≤ tt) (lit≤ tt) (lit≤ tt) (λ w h. v-ranged w h)

pub row-x : Summable sum_x
row-x = row sum_x (lit≤ tt) (lit≤ tt) (lit≤ tt) (lit≤ tt) (λ w h. x-ranged w h)

pub row-y : Summable sum_y
row-y = row sum_y (lit≤ tt) (lit≤ tt) (lit≤ tt) (lit≤ tt) (λ w h. y-ranged w h)

pub row-xx : Summable sum_xx
row-xx = row sum_xx (lit≤ tt) (lit≤ tt) (lit≤ tt) (lit≤ tt) (λ w h. x-times w h (x-ranged w h) tt)

pub row-xy : Summable sum_xy
row-xy = row sum_xy (lit≤ tt) (lit≤ tt) (lit≤ tt) (lit≤ tt) (λ w h. x-times w h (y-ranged w h) tt)

pub row-yy : Summable sum_yy
row-yy = row sum_yy (lit≤ tt) (lit≤ tt) (lit≤ tt) (lit≤ tt) (λ w h. y-times w h (y-ranged w h) tt)

pub row-xu : Summable sum_xu
row-xu = row sum_xu (lit≤ tt) (lit≤ tt) (lit≤ tt) (lit≤ tt) (λ w h. x-times w h (u-ranged w h) tt)

pub row-yu : Summable sum_yu
row-yu = row sum_yu (lit≤ tt) (lit≤ tt) (lit≤ tt) (lit≤ tt) (λ w h. y-times w h (u-ranged w h) tt)

pub row-xv : Summable sum_xv
row-xv = row sum_xv (lit≤ tt) (lit≤ tt) (lit≤ tt) (lit≤ tt) (λ w h. x-times w h (v-ranged w h) tt)

pub row-yv : Summable sum_yv
row-yv = row sum_yv (lit≤ tt) (lit≤ tt) (lit≤ tt) (lit≤ tt) (λ w h. y-times w h (v-ranged w h) tt)

pub row-q : Summable sum_q
row-q = row sum_q (lit≤ tt) (lit≤ tt) (lit≤ tt) (lit≤ tt) (λ w h. sum-ranged (x-times w h (x-ranged w h) tt) (y-times w h (y-ranged w h) tt) tt)

pub row-p1 : Summable sum_p1
row-p1 = row sum_p1 (lit≤ tt) (lit≤ tt) (lit≤ tt) (lit≤ tt) (λ w h. sum-ranged (x-times w h (u-ranged w h) tt) (y-times w h (v-ranged w h) tt) tt)

pub row-p2 : Summable sum_p2
row-p2 = row sum_p2 (lit≤ tt) (lit≤ tt) (lit≤ tt) (lit≤ tt) (λ w h. difference-ranged (y-times w h (u-ranged w h) tt) (x-times w h (v-ranged w h) tt) tt)

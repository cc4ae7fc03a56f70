-- The translation refit is exact too: the linear part of a model on the grid is a whole number of at most 8,192 over 2 ^ 16 from the identity, so what it leaves of a motion stands for a whole
-- number over 2 ^ 17, and the one law of bounded sums serves again. So two orders of the same words have the same model on the grid.
-- Assumes nothing.
use Prim.Native.Nat.{ℕ, ◌≤◌, zero-le}
use mathlib.Core.List.{List}
use mathlib.Core.Path.{◌≡◌, refl, ap, ◌∙◌, subst}
use native.Mathlib.Omega.{arith}
use borrow.Author.Tests.{lt-ltb}
use lib.Dec.{lit≤}
use lib.IntN.{ℤ, pos, nat_abs, ◌-ℤ◌, -ℤ-+ℤ_cancel, +ℤ_idr}
use lib.ListN.{length}
use lib.Ieee.{of_bits, fits}
use Rattle.laws.specs.Binary64.{◌⊖◌, one}
use Rattle.laws.proofs.Signed.{nat_abs-add-le}
use Rattle.grid.specs.Grid.{Codable}
use Rattle.grid.proofs.Table.{row-codable}
use Rattle.grid.proofs.Reach.{codable-near}
use Rattle.sample.specs.Word.{most_samples, row_of, col_of}
use Rattle.fit.specs.declared.Fitted.{Fitted}
use Rattle.fit.specs.declared.Fitted.TheVariants.{Refused, Translation, RotZoom, Affine}
use Rattle.fit.specs.Fitted.{fitted}
use Rattle.grid_number.specs.GridNumber.{grid_number, scale}
use Rattle.score.specs.Score.{continuous_of}
use Rattle.quantize.specs.declared.Linear.{Linear}
use Rattle.quantize.specs.Quantize.{linear_of, refit_totals, refitted_from, refitted, params_from, refused_model, quantized_model}
use Rattle.laws.specs.Stands.{whole_limit, Stands}
use Rattle.exact.specs.Words.{Words, SameWords}
use Rattle.exact.specs.Refit.{whole1, most_turn, sum_left_u, sum_left_v}
use Rattle.laws.proofs.Stands.{of_int-stands, sub-exact, div-exact}
use Rattle.laws.proofs.Interval.{Between, between-neg, between-size, between-of-size}
use Rattle.exact.proofs.Counts.{same_length, same-or-refused}
use Rattle.laws.proofs.Ranged.{Ranged, sum-ranged, difference-ranged, finer-ranged, right-product-ranged}
use Rattle.exact.proofs.Terms.{Summable, row, x-ranged, y-ranged, u-ranged, v-ranged, halves-above}
use Rattle.exact.proofs.Table.{same_sum}
use Rattle.exact.proofs.Fits.{same-fit}

-- ---- the linear part

scale-stands : Stands 0 (pos 65536) scale
unfolding of_bits fits
scale-stands = record { held = tt; value = (refl, refl) }

one-stands : Stands 16 (pos whole1) one
unfolding of_bits fits
one-stands = record { held = tt; value = (refl, refl) }

pub record Near (l : Linear) : Type 0 where
  pub two : Between most_turn most_turn (l.p2 -ℤ pos whole1)
  pub three : Between most_turn most_turn l.p3
  pub four : Between most_turn most_turn l.p4
  pub five : Between most_turn most_turn (l.p5 -ℤ pos whole1)

-- a number of slots 3 and 4
pub number-ranged : (z : ℤ) → Between most_turn most_turn z → Ranged 16 most_turn most_turn z (continuous_of z)
number-ranged z b =
    let l : nat_abs z ≤ whole_limit = between-size z (lit≤ tt) (lit≤ tt) b in
    record { stands = div-exact 16 (lit≤ tt) (of_int-stands z l) scale-stands l; between = b }

-- a number of slots 2 and 5, less 1
pub turn-ranged : (z : ℤ) → Between most_turn most_turn (z -ℤ pos whole1) → Ranged 16 most_turn most_turn (z -ℤ pos whole1) (continuous_of z ⊖ one)
turn-ranged z b =
    let d : nat_abs (z -ℤ pos whole1) ≤ most_turn = between-size (z -ℤ pos whole1) (lit≤ tt) (lit≤ tt) b in
    let l : nat_abs z ≤ whole_limit = subst (λ (k : ℤ). nat_abs k ≤ whole_limit) (-ℤ-+ℤ_cancel z (pos whole1)) (omega (arith, nat_abs-add-le (z -ℤ pos whole1) (pos whole1))) in
    record {
      stands = sub-exact (lit≤ tt) (div-exact 16 (lit≤ tt) (of_int-stands z l) scale-stands l) one-stands (omega arith);
      between = b;
    }

-- ---- each sum of the refit

module _ (l : Linear) (near : Near l) where
  pub row-left-u : Summable (sum_left_u l)
  row-left-u =
      row (sum_left_u l) (lit≤ tt) (lit≤ tt) (lit≤ tt) (lit≤ tt)
      (λ w h.
      difference-ranged (finer-ranged 14 (u-ranged w h))
      (sum-ranged (right-product-ranged (halves-above (col_of w)) (x-ranged w h) (turn-ranged l.p2 near.two) tt)
      (right-product-ranged (halves-above (row_of w)) (y-ranged w h) (number-ranged l.p3 near.three) tt) tt)
      tt)

  pub row-left-v : Summable (sum_left_v l)
  row-left-v =
      row (sum_left_v l) (lit≤ tt) (lit≤ tt) (lit≤ tt) (lit≤ tt)
      (λ w h.
      difference-ranged (finer-ranged 14 (v-ranged w h))
      (sum-ranged (right-product-ranged (halves-above (col_of w)) (x-ranged w h) (number-ranged l.p4 near.four) tt)
      (right-product-ranged (halves-above (row_of w)) (y-ranged w h) (turn-ranged l.p5 near.five) tt) tt)
      tt)

-- ---- a model on the grid is near the identity

-- 4,096 steps of 2 either way
in_reach : (z : ℤ) (c : ℕ) → Codable 12 15 c z → Between most_turn most_turn (z -ℤ pos c)
in_reach z c k = between-of-size (z -ℤ pos c) (codable-near 12 15 c z k)

zero-near : Between most_turn most_turn (pos 0)
zero-near = record { high = zero-le; low = zero-le }

plain-near : (z : ℤ) → Codable 12 15 0 z → Between most_turn most_turn z
plain-near z k = rw (+ℤ_idr z) at (in_reach z 0 k)

pub linear-near : (f : Fitted) (flag : ℕ) → Near (linear_of f flag)
unfolding linear_of
linear-near (Refused n) flag = record { two = zero-near; three = zero-near; four = zero-near; five = zero-near }
linear-near (Translation m0 m1) flag = record { two = zero-near; three = zero-near; four = zero-near; five = zero-near }
linear-near (RotZoom m0 m1 m2 m3) flag =
    record {
      two = in_reach _ whole1 (row-codable 2 flag 2 (grid_number m2));
      three = plain-near _ (row-codable 2 flag 3 (grid_number m3));
      four = between-neg _ (plain-near _ (row-codable 2 flag 3 (grid_number m3)));
      five = in_reach _ whole1 (row-codable 2 flag 2 (grid_number m2));
    }
linear-near (Affine m0 m1 m2 m3 m4 m5) flag =
    record {
      two = in_reach _ whole1 (row-codable 3 flag 2 (grid_number m2));
      three = plain-near _ (row-codable 3 flag 3 (grid_number m3));
      four = plain-near _ (row-codable 3 flag 4 (grid_number m4));
      five = in_reach _ whole1 (row-codable 3 flag 5 (grid_number m5));
    }

-- ---- two orders

module _ {ws vs : List ℕ} (same : SameWords ws vs) (words : Words ws) where
  pub same-refit : length ws ≤ most_samples → (l : Linear) → Near l → refitted l ws ≡ refitted l vs
  unfolding refitted_from refit_totals
  same-refit few l near =
      rw (same_length same, same_sum same words few (sum_left_u l) (row-left-u l near), same_sum same words few (sum_left_v l) (row-left-v l near))

  pub same-model : (f : Fitted) (flag : ℕ) → quantized_model f flag ws ≡ quantized_model f flag vs
  unfolding params_from
  same-model f flag =
      same-or-refused same (quantized_model f flag) (refused_model 1) (λ us h. rw (lt-ltb most_samples (length us) h))
      (λ h. rw (same_length same, same-refit h (linear_of f flag) (linear-near f flag)))

  -- of its own fit
  pub same-fitted-model : (gm_type flag : ℕ) → quantized_model (fitted gm_type ws) flag ws ≡ quantized_model (fitted gm_type vs) flag vs
  same-fitted-model gm_type flag = same-model (fitted gm_type ws) flag ∙ ap (λ (f : Fitted). quantized_model f flag vs) (same-fit same words gm_type)

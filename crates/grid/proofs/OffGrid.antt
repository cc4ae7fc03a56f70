-- A number is its own quantization exactly where it is a whole number of steps from the centre and not beyond the last codable number.
-- Assumes nothing.
use Prim.Native.Nat.{ℕ, ◌-◌, ◌*◌, ◌/◌, ◌%◌, ◌^◌, ◌≤◌, ◌<◌}
use mathlib.Core.Bool.{Bool, true, false}
use mathlib.Core.Logic.{⊎_elim}
use mathlib.Core.Path.{◌≡◌, sym, ap, subst, ◌∙◌}
use native.Mathlib.Nat.{add-zero, mul-le-mul_right}
use native.Mathlib.Omega.{arith}
use borrow.Author.Tests.{lt-ltb, le-ltb}
use lib.IntN.{ℤ, pos, nat_abs, ◌+ℤ◌, ◌-ℤ◌, ◌*ℤ◌, +ℤ-neg_ℤ_cancel, -ℤ-+ℤ_cancel}
use lib.Pow.{pow_pos, split, low, shr_mono, shl-shr}
use Rattle.laws.proofs.Cases.{lt-or-le}
use Rattle.laws.proofs.Refusal.{length-is}
use Rattle.grid.specs.Grid.{step, Codable, negative, signed, quantize}
use Rattle.grid.specs.Inner.{off_grid}
use Rattle.grid.proofs.Fixed.{own-quantization}
use Rattle.grid.proofs.Nearest.{quantized-codable}
use Rattle.grid.proofs.Signs.{signed_parts, signed-times, nat_abs-signed}

differ : false ≡ true → ⊥
differ p = let z : ◌≡◌ {A = ℕ} 0 1 = cc in omega arith

module _ (abs prec c : ℕ) (z : ℤ) where
  -- how far it is from the centre
  abbrev size : ℕ
  size = nat_abs (z -ℤ pos c)

  codable-by-steps : size ≤ 2 ^ abs * step prec → size % step prec ≡ 0 → Codable abs prec c z
  codable-by-steps near whole =
      let k : ℕ = size / step prec in
      let s : Bool = negative (z -ℤ pos c) in
      let steps : k * step prec ≡ size = omega (arith, split size (16 - prec), whole) in
      let few : k ≤ 2 ^ abs = subst (λ (n : ℕ). k ≤ n) (shl-shr (2 ^ abs) (16 - prec)) (shr_mono (16 - prec) near) in
      record {
        ordinal = signed s k;
        in-range = record { within = rw (nat_abs-signed s k) few };
        is =
            sym (-ℤ-+ℤ_cancel z (pos c))
            ∙ ap (λ (x : ℤ). x +ℤ pos c) (sym (signed_parts (z -ℤ pos c)) ∙ ap (signed s) (sym steps) ∙ sym (signed-times s k (step prec)));
      }

  pub steps-of-codable : Codable abs prec c z → (size ≤ 2 ^ abs * step prec) × (size % step prec ≡ 0)
  steps-of-codable g =
      let k : ℕ = nat_abs g.ordinal in
      let s : Bool = negative g.ordinal in
      let e : size ≡ k * step prec =
      ap (λ (x : ℤ). nat_abs (x -ℤ pos c)) g.is
      ∙ ap nat_abs (+ℤ-neg_ℤ_cancel (g.ordinal *ℤ pos (step prec)) (pos c))
      ∙ ap (λ (x : ℤ). nat_abs (x *ℤ pos (step prec))) (sym (signed_parts g.ordinal))
      ∙ ap nat_abs (signed-times s k (step prec))
      ∙ nat_abs-signed s (k * step prec) in
      (omega (arith, e, mul-le-mul_right (step prec) g.in-range.within), ap (λ (n : ℕ). n % step prec) e ∙ whole k)
    where
      whole : (k : ℕ) → k * step prec % step prec ≡ 0
      whole k = ap (λ (n : ℕ). n % step prec) (sym (add-zero (k * step prec))) ∙ low k (16 - prec) (pow_pos (16 - prec))

  pub own-on-grid : off_grid abs prec c z ≡ false → quantize abs prec c z ≡ z
  own-on-grid e =
      ⊎_elim
      (λ (far : 2 ^ abs * step prec < size). absurd (differ (sym (rw (lt-ltb (2 ^ abs * step prec) size far) at e))))
      (λ (near : size ≤ 2 ^ abs * step prec).
      own-quantization abs prec c z (codable-by-steps near (length-is (size % step prec) 0 (rw (le-ltb (2 ^ abs * step prec) size near) at e))))
      (lt-or-le (2 ^ abs * step prec) size)

  pub other-off-grid : off_grid abs prec c z ≡ true → quantize abs prec c z ≡ z → ⊥
  other-off-grid e q =
      let m = steps-of-codable (subst (Codable abs prec c) q (quantized-codable abs prec c z)) in
      differ (rw (le-ltb (2 ^ abs * step prec) size m.0, m.1) at e)

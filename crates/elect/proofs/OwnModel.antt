-- A quantized model, as it is stored, is one that a header can carry: row 7 never holds of a fitted model.
-- Assumes nothing.
use Prim.Native.Nat.{ℕ, zero, suc, ◌≤◌, ◌<◌}
use mathlib.Core.Bool.{true, false, not}
use mathlib.Core.List.{List, [], ◌∷◌}
use mathlib.Core.Path.{◌≡◌, refl, sym}
use native.Mathlib.Omega.{arith}
use lib.Dec.{lit<}
use lib.IntN.{ℤ}
use Rattle.laws.proofs.Below.{none-holds}
use Rattle.grid.specs.Grid.{abs_bits, prec_bits, centre, Codable, quantized}
use Rattle.grid.proofs.Table.{row-own}
use Rattle.models.specs.Integers.{equal}
use Rattle.models.specs.Models.{carries, filler, slot_wrong, slot_at, model_wrong}
use Rattle.models.proofs.Integers.{equal-same}
use Rattle.quantize.specs.Quantize.{row_first}
use Rattle.quantize.proofs.OnGrid.{OnGrid}

not-wrong : (z y : ℤ) → z ≡ y → not (equal z y) ≡ false
not-wrong z y e = rw (equal-same z y e)

module _ (flag : ℕ) (a b c d e f : ℤ) where
  abbrev six : List ℤ
  six = a ∷ b ∷ c ∷ d ∷ e ∷ f ∷ []

  carried : (kind i : ℕ) (z p2 p3 : ℤ) → carries kind i ≡ true → Codable (abs_bits kind flag i) (prec_bits kind flag i) (centre i) z → slot_wrong kind flag i z p2 p3 ≡ false
  unfolding slot_wrong
  carried kind i z p2 p3 h k = rw h (not-wrong z (quantized kind flag i z) (sym (row-own kind flag i z k)))

  filled : (kind i : ℕ) (z p2 p3 : ℤ) → carries kind i ≡ false → z ≡ filler kind i p2 p3 → slot_wrong kind flag i z p2 p3 ≡ false
  unfolding slot_wrong
  filled kind i z p2 p3 h k = rw h (not-wrong z (filler kind i p2 p3) k)

  translation : OnGrid 1 flag six → (i : ℕ) → i < 6 → slot_at 1 flag (row_first 1 six) 0 i ≡ false
  unfolding filler
  translation g zero l = carried 1 0 b c d refl (g.codable 1 (lit< tt))
  translation g (suc zero) l = carried 1 1 a c d refl (g.codable 0 (lit< tt))
  translation g (suc (suc zero)) l = filled 1 2 c c d refl (g.translation refl).two
  translation g (suc (suc (suc zero))) l = filled 1 3 d c d refl (g.translation refl).three
  translation g (suc (suc (suc (suc zero)))) l = filled 1 4 e c d refl (g.translation refl).four
  translation g (suc (suc (suc (suc (suc zero))))) l = filled 1 5 f c d refl (g.translation refl).five
  translation g (suc (suc (suc (suc (suc (suc i)))))) l = absurd (omega arith)

  rotzoom : OnGrid 2 flag six → (i : ℕ) → i < 6 → slot_at 2 flag (row_first 2 six) 0 i ≡ false
  unfolding filler
  rotzoom g zero l = carried 2 0 a c d refl (g.codable 0 (lit< tt))
  rotzoom g (suc zero) l = carried 2 1 b c d refl (g.codable 1 (lit< tt))
  rotzoom g (suc (suc zero)) l = carried 2 2 c c d refl (g.codable 2 (lit< tt))
  rotzoom g (suc (suc (suc zero))) l = carried 2 3 d c d refl (g.codable 3 (lit< tt))
  rotzoom g (suc (suc (suc (suc zero)))) l = filled 2 4 e c d refl (g.pair refl).four
  rotzoom g (suc (suc (suc (suc (suc zero))))) l = filled 2 5 f c d refl (g.pair refl).five
  rotzoom g (suc (suc (suc (suc (suc (suc i)))))) l = absurd (omega arith)

  affine : OnGrid 3 flag six → (i : ℕ) → i < 6 → slot_at 3 flag (row_first 3 six) 0 i ≡ false
  affine g zero l = carried 3 0 a c d refl (g.codable 0 (lit< tt))
  affine g (suc zero) l = carried 3 1 b c d refl (g.codable 1 (lit< tt))
  affine g (suc (suc zero)) l = carried 3 2 c c d refl (g.codable 2 (lit< tt))
  affine g (suc (suc (suc zero))) l = carried 3 3 d c d refl (g.codable 3 (lit< tt))
  affine g (suc (suc (suc (suc zero)))) l = carried 3 4 e c d refl (g.codable 4 (lit< tt))
  affine g (suc (suc (suc (suc (suc zero))))) l = carried 3 5 f c d refl (g.codable 5 (lit< tt))
  affine g (suc (suc (suc (suc (suc (suc i)))))) l = absurd (omega arith)

  right : (kind : ℕ) → 1 ≤ kind → kind ≤ 3 → OnGrid kind flag six → (i : ℕ) → i < 6 → slot_at kind flag (row_first kind six) 0 i ≡ false
  right zero p q g i l = absurd (omega arith)
  right (suc zero) p q g i l = translation g i l
  right (suc (suc zero)) p q g i l = rotzoom g i l
  right (suc (suc (suc zero))) p q g i l = affine g i l
  right (suc (suc (suc (suc k)))) p q g i l = absurd (omega arith)

module _ (kind flag : ℕ) (least : 1 ≤ kind) (most : kind ≤ 3) where
  -- the fitted model, on the grid and as stored, is not wrong
  pub own-right : (p : List ℤ) → OnGrid kind flag p → model_wrong kind flag (row_first kind p) 0 ≡ false
  unfolding model_wrong
  own-right (a ∷ b ∷ c ∷ d ∷ e ∷ f ∷ []) g =
      none-holds (slot_at kind flag (row_first kind (a ∷ b ∷ c ∷ d ∷ e ∷ f ∷ [])) 0) 6 (right flag a b c d e f kind least most g)
  own-right [] g = absurd (omega (arith, g.six))
  own-right (a ∷ []) g = absurd (omega (arith, g.six))
  own-right (a ∷ b ∷ []) g = absurd (omega (arith, g.six))
  own-right (a ∷ b ∷ c ∷ []) g = absurd (omega (arith, g.six))
  own-right (a ∷ b ∷ c ∷ d ∷ []) g = absurd (omega (arith, g.six))
  own-right (a ∷ b ∷ c ∷ d ∷ e ∷ []) g = absurd (omega (arith, g.six))
  own-right (a ∷ b ∷ c ∷ d ∷ e ∷ f ∷ h ∷ p) g = absurd (omega (arith, g.six))

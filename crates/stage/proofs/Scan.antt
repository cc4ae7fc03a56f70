-- How far the best of a square lies from its centre.
-- Assumes nothing.
use Prim.Native.Nat.{ℕ, ◌*◌, ◌/◌, ◌%◌, ◌≤◌, ◌<◌}
use mathlib.Core.Bool.{Bool, true, false}
use mathlib.Core.Path.{◌≡◌, refl, sym, ap, ◌∙◌}
use native.Mathlib.Nat.{mul-le-mul_right, div-lt_iff_lt-mul, mod-lt}
use native.Mathlib.Omega.{arith}
use lib.Dec.{ltb, eqb}
use lib.IntN.{ℤ, ◌+ℤ◌, +ℤ_idr}
use Rattle.laws.specs.Refusal.{choose}
use Rattle.plane.specs.Clamp.{offset}
use Rattle.plane.proofs.Offsets.{offset-pos}
use Rattle.stage.specs.Stage.{Found, priced, better, side, square, row_offset, column_offset, consider, scan}
use Rattle.stage.proofs.Turns.{run-keeps}

-- z lies within n of c
pub record Within (n : ℕ) (c z : ℤ) : Type 0 where
  pub steps : ℕ
  pub same : z ≡ c +ℤ offset n steps
  pub few : steps ≤ 2 * n

abbrev pub Inside : ℕ → ℤ → ℤ → Found → Type 0
Inside n cy cx f = Within n cy f.dy × Within n cx f.dx

choose-keeps : (P : Found → Type 0) (t : Bool) (a b : Found) → P a → P b → P (choose t a b)
choose-keeps P true a b p q = p
choose-keeps P false a b p q = q

within_step : (reach step j : ℕ) (c : ℤ) → j < side reach → Within (reach * step) c (c +ℤ offset (reach * step) (j * step))
within_step reach step j c l =
    let m : j * step ≤ 2 * reach * step = mul-le-mul_right step (let q : j ≤ 2 * reach = omega arith in q) in
    record { steps = j * step; same = refl; few = omega arith }

consider-inside : (price : ℤ → ℤ → ℕ) (reach step : ℕ) (cy cx : ℤ) (k : ℕ) (best : Found) → k < square reach → Inside (reach * step) cy cx best →
    Inside (reach * step) cy cx (consider price reach step cy cx k best)
unfolding consider
consider-inside price reach step cy cx k best l h =
    let new = priced price (row_offset reach step cy k) (column_offset reach step cx k) in
    let n : Inside (reach * step) cy cx new = (
      within_step reach step (k / side reach) cy ((div-lt_iff_lt-mul (omega arith)).1 l),
      within_step reach step (k % side reach) cx (mod-lt k (omega arith)),
    ) in
    choose-keeps (Inside (reach * step) cy cx) (eqb k (square reach / 2)) best (better best new) h
    (choose-keeps (Inside (reach * step) cy cx) (ltb new.cost best.cost) new best n h)

within-centre : (n : ℕ) (c : ℤ) → Within n c c
within-centre n c = record { steps = n; same = sym (ap (λ (z : ℤ). c +ℤ z) (offset-pos n n 0 (omega arith)) ∙ +ℤ_idr c); few = omega arith }

-- the best of a square lies in it
pub scan-inside : (price : ℤ → ℤ → ℕ) (reach step : ℕ) (cy cx : ℤ) (cost : ℕ) →
    Inside (reach * step) cy cx (scan price reach step cy cx (record { cost = cost; dy = cy; dx = cx }))
unfolding scan
scan-inside price reach step cy cx cost =
    run-keeps (consider price reach step cy cx) (λ k f. Inside (reach * step) cy cx f) 0 (square reach) (record { cost = cost; dy = cy; dx = cx }) (omega arith)
    (λ j t l h. consider-inside price reach step cy cx j t l h)
    (within-centre (reach * step) cy, within-centre (reach * step) cx)

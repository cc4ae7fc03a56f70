-- How far each stage goes.
-- Assumes nothing.
use Prim.Native.Nat.{ℕ, ◌*◌}
use mathlib.Core.List.{List}
use mathlib.Core.Path.{◌≡◌, refl, subst}
use native.Mathlib.Omega.{arith}
use lib.IntN.{ℤ, pos}
use Rattle.plane.specs.declared.Place.{Place}
use Rattle.plane.specs.Clamp.{offset}
use Rattle.cost.specs.Cost.{block_cost, eighths_cost}
use Rattle.plane.proofs.Offsets.{offset-pos}
use Rattle.stage.specs.Stage.{Found, scan, with_offset, coarse, full_pel, eighths_step}
use Rattle.stage.proofs.Scan.{Inside, scan-inside}

module _ (input ref : List ℕ) (place : Place) where
  pub coarse-inside : Inside 12 (offset 12 12) (offset 12 12) (coarse input ref place)
  unfolding coarse
  coarse-inside = rw (offset-pos 12 12 0 refl) (scan-inside (with_offset (block_cost 8 input ref place)) 12 1 (pos 0) (pos 0) (block_cost 8 input ref place (pos 0) (pos 0)))

  pub full_pel-inside : (cy cx : ℤ) → Inside 3 cy cx (full_pel input ref place cy cx)
  unfolding full_pel
  full_pel-inside cy cx = scan-inside (with_offset (block_cost 16 input ref place)) 3 1 cy cx (block_cost 16 input ref place cy cx)

  pub eighths_step-inside : (step : ℕ) (best : Found) → Inside step best.dy best.dx (eighths_step input ref place step best)
  unfolding eighths_step
  eighths_step-inside step best =
      subst (λ (n : ℕ). Inside n best.dy best.dx (scan (eighths_cost input ref place) 1 step best.dy best.dx best)) (let e : 1 * step ≡ step = omega arith in e)
      (scan-inside (eighths_cost input ref place) 1 step best.dy best.dx best.cost)

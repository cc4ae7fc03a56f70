-- How many rows a search adds: 736 to 6,184 for a block, at most 25,329,664 in all.
-- Assumes nothing.
use Prim.Native.Nat.{ℕ, zero, suc, ◌+◌, ◌*◌, ◌/◌, ◌%◌, ◌≤◌, ◌<◌}
use mathlib.Core.List.{List}
use mathlib.Core.Path.{◌≡◌, refl}
use native.Mathlib.Nat.{mul-le-mul_left}
use native.Mathlib.Numerals.{add-one}
use native.Mathlib.Omega.{arith}
use lib.IntN.{pos, ◌*ℤ◌}
use Rattle.laws.specs.Loops.{sum}
use Rattle.plane.specs.Plane.{largest_side}
use Rattle.stage.specs.Early.{coarse_early, fine_early}
use Rattle.stage.proofs.Early.{coarse-rows, fine-rows}
use Rattle.search.specs.Search.{Scene, halved, motion_early, block_at, block_columns, sample_rows, sample_count, rows_added}
use Rattle.search.proofs.Rows.{count_small}

module _ (s : Scene) where
  -- 625 × 8, 49 × 16 and 25 × 16 rows at most; at least a row of each candidate and all of the three starts
  pub block-rows : (R C : ℕ) → (736 ≤ (motion_early s R C).rows) × ((motion_early s R C).rows ≤ 6184)
  unfolding motion_early
  block-rows R C =
      let half = block_at 8 (s.width / 2) (s.height / 2) R C in
      let whole = block_at 16 s.width s.height R C in
      let far = coarse_early s.input_half s.ref_half half in
      let last = fine_early s.input s.ref whole (pos 2 *ℤ far.best.dy) (pos 2 *ℤ far.best.dx) in
      let a = coarse-rows s.input_half s.ref_half half in
      let b = fine-rows s.input s.ref whole (pos 2 *ℤ far.best.dy) (pos 2 *ℤ far.best.dx) in
      let la : 8 + 624 ≤ far.rows = a.least in
      let ma : far.rows ≤ 8 + 8 * 624 = a.most in
      let lb : 32 + 72 ≤ last.rows = b.least in
      let mb : last.rows ≤ 32 + 16 * 72 = b.most in
      (omega arith, omega arith)

  -- n blocks, wherever each of them lies
  pub rows-of-blocks : (at : ℕ → ℕ) (n : ℕ) → sum (λ k. sample_rows s (at k)) n ≤ 6184 * n
  rows-of-blocks at zero = omega arith
  rows-of-blocks at (suc n) =
      let a = rows-of-blocks at n in
      let b = (block-rows (at n / block_columns s.width) (at n % block_columns s.width)).1 in
      omega arith

  -- the next block's rows can be counted on
  pub rows-so-far : (at : ℕ → ℕ) (k : ℕ) → k < 4096 → sum (λ i. sample_rows s (at i)) k + sample_rows s (at k) ≤ 25329664
  rows-so-far at k l =
      let a : sum (λ i. sample_rows s (at i)) k + sample_rows s (at k) ≤ 6184 * suc k = rows-of-blocks at (suc k) in
      let b : 6184 * suc k ≤ 6184 * 4096 = mul-le-mul_left 6184 l in
      omega arith

  pub rows_next : (at : ℕ → ℕ) (k : ℕ) {rows new : ℕ} → rows ≡ sum (λ i. sample_rows s (at i)) k → new ≡ sample_rows s (at k) →
      rows + new ≡ sum (λ i. sample_rows s (at i)) (k + 1)
  rows_next at k e q = rw (add-one k, e, q) refl

  -- and a block of each adds 736 at least
  pub rows-at-least : (at : ℕ → ℕ) (n : ℕ) → 736 * n ≤ sum (λ k. sample_rows s (at k)) n
  rows-at-least at zero = omega arith
  rows-at-least at (suc n) =
      let a = rows-at-least at n in
      let b = (block-rows (at n / block_columns s.width) (at n % block_columns s.width)).0 in
      omega arith

pub rows-of-search : (input ref : List ℕ) (w h : ℕ) → w ≤ largest_side → h ≤ largest_side → rows_added input ref w h ≤ 25329664
unfolding rows_added
rows-of-search input ref w h narrow low =
    let a = rows-of-blocks (halved input ref w h) (λ k. k) (sample_count w h) in
    let b : 6184 * sample_count w h ≤ 6184 * 4096 = mul-le-mul_left 6184 (count_small w h narrow low) in
    omega arith

-- with no samples no rows
pub no_rows : (input ref : List ℕ) (w h : ℕ) → sample_count w h ≡ 0 → rows_added input ref w h ≡ 0
unfolding rows_added
no_rows input ref w h e = rw e refl

-- At whole pels a blend is the pel itself, so the eighths' start is a sum by whole pels.
-- Assumes nothing.
use Prim.Native.Nat.{ℕ, ◌+◌, ◌*◌, ◌-◌, ◌/◌, ◌%◌}
use mathlib.Core.List.{List}
use mathlib.Core.Path.{◌≡◌, refl, sym, ap, ◌∙◌}
use native.Mathlib.Omega.{arith}
use lib.ListN.{length, get_or}
use Rattle.laws.specs.Parts.{listing}
use Rattle.laws.proofs.Loops.{sum_same}
use Rattle.laws.proofs.Filling.{length-listing, listing-same}
use Rattle.plane.specs.declared.Offset.{Offset}
use Rattle.plane.specs.Difference.{difference}
use Rattle.cost.specs.declared.Added.{Added}
use Rattle.cost.specs.Cost.{bilinear}
use Rattle.cost.specs.Ended.{ended}
use Rattle.cost.specs.Inner.{window_cost, window_costs, bilinear_window_cost, bilinear_window_costs, AtMost, Sums}
use Rattle.stage.specs.Inner.{start_of, eightfold, Fine, FineBytes}
use Rattle.stage.proofs.Turns.{start-whole}

bilinear-whole : (a b c d : ℕ) → bilinear 0 0 a b c d ≡ a
unfolding bilinear
bilinear-whole a b c d = omega arith

whole_row : (block window : List ℕ) (y x i : ℕ) → bilinear_window_cost 16 24 block window y x 0 0 i ≡ window_cost 16 24 block window y x i
unfolding bilinear_window_cost window_cost
whole_row block window y x i =
    sum_same
    (λ j.
    difference (get_or block (i * 16 + j) 0)
    (bilinear 0 0
    (get_or window ((y + i) * 24 + x + j) 0)
    (get_or window ((y + i) * 24 + x + (j + 1)) 0)
    (get_or window ((y + i) * 24 + x + 24 + j) 0)
    (get_or window ((y + i) * 24 + x + 24 + (j + 1)) 0)))
    (λ j. difference (get_or block (i * 16 + j) 0) (get_or window ((y + i) * 24 + x + j) 0))
    16
    (λ j l.
    rw (bilinear-whole (get_or window ((y + i) * 24 + x + j) 0) (get_or window ((y + i) * 24 + x + (j + 1)) 0) (get_or window ((y + i) * 24 + x + 24 + j) 0) (get_or window ((y + i) * 24 + x + 24 + (j + 1)) 0))
    refl)

whole-costs : (block window : List ℕ) (corner full : Offset) → window_costs 16 24 block window (full.y + 3 + 1 - corner.y) (full.x + 3 + 1 - corner.x) ≡ bilinear_window_costs block window corner (eightfold full)
unfolding window_costs bilinear_window_costs
whole-costs block window corner full =
    let wy : (8 * full.y + 7 + 1) / 8 + 3 - corner.y ≡ full.y + 3 + 1 - corner.y = omega arith in
    let wx : (8 * full.x + 7 + 1) / 8 + 3 - corner.x ≡ full.x + 3 + 1 - corner.x = omega arith in
    let fy : (8 * full.y + 7 + 1) % 8 ≡ 0 = omega arith in
    let fx : (8 * full.x + 7 + 1) % 8 ≡ 0 = omega arith in
    rw (wy, wx, fy, fx)
    (listing-same (window_cost 16 24 block window (full.y + 3 + 1 - corner.y) (full.x + 3 + 1 - corner.x))
    (bilinear_window_cost 16 24 block window (full.y + 3 + 1 - corner.y) (full.x + 3 + 1 - corner.x) 0 0)
    16
    (λ i l. sym (whole_row block window (full.y + 3 + 1 - corner.y) (full.x + 3 + 1 - corner.x) i)))

pub eighths-start : (block window : List ℕ) (corner full : Offset) {r : Added} → Sums 16 (ended 4294967295 0 0 (window_costs 16 24 block window (full.y + 3 + 1 - corner.y) (full.x + 3 + 1 - corner.x))) r →
    record { cost = r.cost; y = 8 * full.y + 7; x = 8 * full.x + 7; rows = r.rows } ≡ start_of (bilinear_window_costs block window corner (eightfold full)) (8 * full.y + 7) (8 * full.x + 7)
eighths-start block window corner full s =
    start-whole (window_costs 16 24 block window (full.y + 3 + 1 - corner.y) (full.x + 3 + 1 - corner.x)) 16 (8 * full.y + 7) (8 * full.x + 7) s
    ∙ ap (λ (l : List ℕ). start_of l (8 * full.y + 7) (8 * full.x + 7)) (whole-costs block window corner full)

-- the bytes of a window, as the code splits it
pub fine-bytes : {block window highs lows : List ℕ} → Fine block window → (highs ≡ listing (λ i. get_or window i 0 / 256) (length window)) × AtMost 255 highs →
    (lows ≡ listing (λ i. get_or window i 0 % 256) (length window)) × AtMost 255 lows → FineBytes block highs lows
fine-bytes {block} {window} f p q =
    record {
      pels = f.pels;
      high_pels = ap (λ (l : List ℕ). length l) p.0 ∙ (length-listing (λ i. get_or window i 0 / 256) (length window) ∙ f.seen);
      low_pels = ap (λ (l : List ℕ). length l) q.0 ∙ (length-listing (λ i. get_or window i 0 % 256) (length window) ∙ f.seen);
      high_bytes = p.1;
      low_bytes = q.1;
    }

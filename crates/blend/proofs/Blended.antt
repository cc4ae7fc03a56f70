-- A blend of pels from the blends of their bytes: 256 times a sum by weights of 64 in all is a multiple of 64, so that only the low bytes are rounded.
-- Assumes nothing.
use Prim.Native.Nat.{ℕ, ◌+◌, ◌*◌, ◌-◌, ◌/◌, ◌%◌, ◌≤◌, ◌<◌}
use mathlib.Core.List.{List}
use mathlib.Core.Path.{◌≡◌, refl, sym, ap, ◌∙◌}
use native.Mathlib.Nat.{add-mul, mul_assoc, mul_comm, mul_left_comm, one-mul}
use native.Mathlib.Omega.{arith}
use lib.ListN.{length, take, drop, get_or}
use lib.Seq.{take_all}
use Rattle.laws.specs.Parts.{listing}
use Rattle.laws.proofs.Loops.{sum_same}
use Rattle.laws.proofs.Filling.{length-listing, listing-same, listing-take}
use Rattle.plane.specs.Difference.{difference}
use Rattle.plane.proofs.Halves.{part_at}
use Rattle.plane.proofs.Listing.{get_d-listing}
use Rattle.cost.specs.Cost.{bilinear}
use Rattle.cost.specs.Inner.{row_difference, bilinear_window_cost}
use Rattle.blend.specs.declared.Weights.{Weights}
use Rattle.blend.specs.Inner.{pel_of, window_from, weights_of, weighed, predicted_from}

term : (a u v : ℕ) → a * u * v ≡ a * (v * u)
term a u v = mul_assoc a u v ∙ ap (λ (k : ℕ). a * k) (mul_comm u v)

-- two weightings are one of four
four-weights : (u x v y a b c d : ℕ) → (a * u + b * x) * v + (c * u + d * x) * y ≡ a * (v * u) + b * (v * x) + (c * (y * u) + d * (y * x))
four-weights u x v y a b c d =
    let p : (a * u + b * x) * v ≡ a * u * v + b * x * v = add-mul (a * u) (b * x) v in
    let q : (c * u + d * x) * y ≡ c * u * y + d * x * y = add-mul (c * u) (d * x) y in
    let e0 : a * u * v ≡ a * (v * u) = term a u v in
    let e1 : b * x * v ≡ b * (v * x) = term b x v in
    let e2 : c * u * y ≡ c * (y * u) = term c u y in
    let e3 : d * x * y ≡ d * (y * x) = term d x y in
    omega (arith, p, q, e0, e1, e2, e3)

-- a pel's term from its bytes'
pel-term : (h l w : ℕ) → pel_of h l * w ≡ 256 * (h * w) + l * w
pel-term h l w = add-mul (256 * h) l w ∙ ap (λ (k : ℕ). k + l * w) (mul_assoc 256 h w)

-- four terms, by any weights
four-times : (a b c d p q r s : ℕ) → a * (4 * p) + b * (4 * q) + c * (4 * r) + d * (4 * s) ≡ 4 * (a * p + b * q + (c * r + d * s))
four-times a b c d p q r s =
    let e0 : a * (4 * p) ≡ 4 * (a * p) = mul_left_comm a 4 p in
    let e1 : b * (4 * q) ≡ 4 * (b * q) = mul_left_comm b 4 q in
    let e2 : c * (4 * r) ≡ 4 * (c * r) = mul_left_comm c 4 r in
    let e3 : d * (4 * s) ≡ 4 * (d * s) = mul_left_comm d 4 s in
    omega arith

once : (a b c d p q r s : ℕ) → a * (1 * p) + b * (1 * q) + c * (1 * r) + d * (1 * s) ≡ a * p + b * q + (c * r + d * s)
once a b c d p q r s =
    let e0 : a * (1 * p) ≡ a * p = ap (λ (k : ℕ). a * k) (one-mul p) in
    let e1 : b * (1 * q) ≡ b * q = ap (λ (k : ℕ). b * k) (one-mul q) in
    let e2 : c * (1 * r) ≡ c * r = ap (λ (k : ℕ). c * k) (one-mul r) in
    let e3 : d * (1 * s) ≡ d * s = ap (λ (k : ℕ). d * k) (one-mul s) in
    omega arith

-- only the low bytes are rounded
rounded : (h l : ℕ) → 4 * h + (l + 32) / 64 ≡ (256 * h + l + 32) / 64
rounded h l = omega arith

of-bytes : (h00 h01 h10 h11 l00 l01 l10 l11 p q r s : ℕ) →
    256 * (h00 * p + h01 * q + (h10 * r + h11 * s)) + (l00 * p + l01 * q + (l10 * r + l11 * s)) ≡ pel_of h00 l00 * p + pel_of h01 l01 * q + (pel_of h10 l10 * r + pel_of h11 l11 * s)
of-bytes h00 h01 h10 h11 l00 l01 l10 l11 p q r s =
    let e0 : pel_of h00 l00 * p ≡ 256 * (h00 * p) + l00 * p = pel-term h00 l00 p in
    let e1 : pel_of h01 l01 * q ≡ 256 * (h01 * q) + l01 * q = pel-term h01 l01 q in
    let e2 : pel_of h10 l10 * r ≡ 256 * (h10 * r) + l10 * r = pel-term h10 l10 r in
    let e3 : pel_of h11 l11 * s ≡ 256 * (h11 * s) + l11 * s = pel-term h11 l11 s in
    omega arith

-- the rule's blend of four pels
pub by_bytes : (fy fx h00 h01 h10 h11 l00 l01 l10 l11 : ℕ) →
    weighed (weights_of 4 fy fx) h00 h01 h10 h11 + (weighed (weights_of 1 fy fx) l00 l01 l10 l11 + 32) / 64
    ≡ bilinear fy fx (pel_of h00 l00) (pel_of h01 l01) (pel_of h10 l10) (pel_of h11 l11)
unfolding bilinear
by_bytes fy fx h00 h01 h10 h11 l00 l01 l10 l11 =
    let p = (8 - fy) * (8 - fx) in
    let q = (8 - fy) * fx in
    let r = fy * (8 - fx) in
    let s = fy * fx in
    let high = h00 * p + h01 * q + (h10 * r + h11 * s) in
    let low = l00 * p + l01 * q + (l10 * r + l11 * s) in
    ap (λ (k : ℕ). k + (weighed (weights_of 1 fy fx) l00 l01 l10 l11 + 32) / 64) (four-times h00 h01 h10 h11 p q r s)
    ∙ (ap (λ (k : ℕ). 4 * high + (k + 32) / 64) (once l00 l01 l10 l11 p q r s)
    ∙ (rounded high low
    ∙ (ap (λ (k : ℕ). (k + 32) / 64) (of-bytes h00 h01 h10 h11 l00 l01 l10 l11 p q r s)
    ∙ ap (λ (k : ℕ). (k + 32) / 64) (sym (four-weights (8 - fx) fx (8 - fy) fy (pel_of h00 l00) (pel_of h01 l01) (pel_of h10 l10) (pel_of h11 l11))))))

-- as the code makes it
pub predicted-is : (fy fx : ℕ) (highs lows : List ℕ) (j : ℕ) {wh wl : Weights} {high low v : ℕ} → wh ≡ weights_of 4 fy fx → wl ≡ weights_of 1 fy fx →
    high ≡ weighed wh (get_or highs j 0) (get_or highs (j + 1) 0) (get_or highs (j + 24) 0) (get_or highs (j + 24 + 1) 0) →
    low ≡ weighed wl (get_or lows j 0) (get_or lows (j + 1) 0) (get_or lows (j + 24) 0) (get_or lows (j + 24 + 1) 0) →
    v ≡ high + (low + 32) / 64 → v ≡ predicted_from fy fx highs lows j
unfolding predicted_from
predicted-is fy fx highs lows j p q h l e =
    rw (e, h, l, p, q)
    (by_bytes fy fx (get_or highs j 0) (get_or highs (j + 1) 0) (get_or highs (j + 24) 0) (get_or highs (j + 24 + 1) 0)
    (get_or lows j 0) (get_or lows (j + 1) 0) (get_or lows (j + 24) 0) (get_or lows (j + 24 + 1) 0))

-- ---- a window and its bytes

window-at : (highs lows : List ℕ) (i : ℕ) → i < length highs → get_or (window_from highs lows) i 0 ≡ pel_of (get_or highs i 0) (get_or lows i 0)
unfolding window_from
window-at highs lows i l = get_d-listing (λ k. pel_of (get_or highs k 0) (get_or lows k 0)) (length highs) i 0 l

-- the window that was split
pub window-back : (window : List ℕ) {highs lows : List ℕ} → highs ≡ listing (λ i. get_or window i 0 / 256) (length window) → lows ≡ listing (λ i. get_or window i 0 % 256) (length window) →
    window_from highs lows ≡ window
unfolding window_from
window-back window {highs} {lows} p q =
    let n : length highs ≡ length window = ap (λ (l : List ℕ). length l) p ∙ length-listing (λ i. get_or window i 0 / 256) (length window) in
    ap (listing (λ i. pel_of (get_or highs i 0) (get_or lows i 0))) n
    ∙ (listing-same (λ i. pel_of (get_or highs i 0) (get_or lows i 0)) (λ i. get_or window i 0) (length window)
    (λ i l.
    rw (
      p,
      q,
      get_d-listing (λ k. get_or window k 0 / 256) (length window) i 0 l,
      get_d-listing (λ k. get_or window k 0 % 256) (length window) i 0 l,
    ) (let e : 256 * (get_or window i 0 / 256) + get_or window i 0 % 256 ≡ get_or window i 0 = omega arith in e))
    ∙ (listing-take window 0 (length window) (omega arith) ∙ whole window))
  where
    whole : (l : List ℕ) → take (length l) l ≡ l
    whole l = take_all (length l) l (omega arith)

-- ---- a row

module _ (block highs lows : List ℕ) (y x fy fx i : ℕ) (long : length highs ≡ 576) (yl : y + 17 ≤ 24) (xl : x + 17 ≤ 24) (il : i < 16) where
  abbrev from : ℕ
  from = (y + i) * 24 + x

  pel-at : (j k : ℕ) → j < 41 → from + j ≡ k → pel_of (get_or (take (from + 41 - from) (drop from highs)) j 0) (get_or (take (from + 41 - from) (drop from lows)) j 0) ≡ get_or (window_from highs lows) k 0
  pel-at j k l e =
      rw (part_at highs from 41 j l, part_at lows from 41 j l, e) (sym (window-at highs lows k (omega arith)))

  predicted-at : (j : ℕ) → j < 16 → predicted_from fy fx (take (from + 41 - from) (drop from highs)) (take (from + 41 - from) (drop from lows)) j
      ≡ bilinear fy fx
      (get_or (window_from highs lows) ((y + i) * 24 + x + j) 0)
      (get_or (window_from highs lows) ((y + i) * 24 + x + (j + 1)) 0)
      (get_or (window_from highs lows) ((y + i) * 24 + x + 24 + j) 0)
      (get_or (window_from highs lows) ((y + i) * 24 + x + 24 + (j + 1)) 0)
  unfolding predicted_from
  predicted-at j l =
      rw (
        pel-at j ((y + i) * 24 + x + j) (omega arith) (omega arith),
        pel-at (j + 1) ((y + i) * 24 + x + (j + 1)) (omega arith) (omega arith),
        pel-at (j + 24) ((y + i) * 24 + x + 24 + j) (omega arith) (omega arith),
        pel-at (j + 24 + 1) ((y + i) * 24 + x + 24 + (j + 1)) (omega arith) (omega arith),
      ) refl

  -- the row as the code cuts it out
  pub bilinear-laid : {row : List ℕ} → row ≡ listing (predicted_from fy fx (take (from + 41 - from) (drop from highs)) (take (from + 41 - from) (drop from lows))) 16 →
      row_difference 16 (take (i * 16 + 16 - i * 16) (drop (i * 16) block)) row ≡ bilinear_window_cost 16 24 block (window_from highs lows) y x fy fx i
  unfolding row_difference bilinear_window_cost
  bilinear-laid {row} e =
      sum_same
      (λ j. difference (get_or (take (i * 16 + 16 - i * 16) (drop (i * 16) block)) j 0) (get_or row j 0))
      (λ j.
      difference (get_or block (i * 16 + j) 0)
      (bilinear fy fx
      (get_or (window_from highs lows) ((y + i) * 24 + x + j) 0)
      (get_or (window_from highs lows) ((y + i) * 24 + x + (j + 1)) 0)
      (get_or (window_from highs lows) ((y + i) * 24 + x + 24 + j) 0)
      (get_or (window_from highs lows) ((y + i) * 24 + x + 24 + (j + 1)) 0)))
      16
      (λ j l.
      let r : get_or row j 0
      ≡ bilinear fy fx
      (get_or (window_from highs lows) ((y + i) * 24 + x + j) 0)
      (get_or (window_from highs lows) ((y + i) * 24 + x + (j + 1)) 0)
      (get_or (window_from highs lows) ((y + i) * 24 + x + 24 + j) 0)
      (get_or (window_from highs lows) ((y + i) * 24 + x + 24 + (j + 1)) 0) =
      ap (λ (s : List ℕ). get_or s j 0) e
      ∙ (get_d-listing (predicted_from fy fx (take (from + 41 - from) (drop from highs)) (take (from + 41 - from) (drop from lows))) 16 j 0 l ∙ predicted-at j l) in
      rw (part_at block (i * 16) 16 j l, r) refl)

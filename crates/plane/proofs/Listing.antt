-- A list made front to back: its elements, and what a buffer holds when its front is written one place or one row at a time.
-- Assumes nothing.
use Prim.Native.Nat.{ℕ, zero, suc, ◌+◌, ◌*◌, ◌≤◌, ◌<◌, ◌-◌}
use mathlib.Core.Bool.{Bool, true, false}
use mathlib.Core.List.{List, [], ◌∷◌, append-nil}
use mathlib.Core.Path.{◌≡◌, refl, sym, ap, ◌∙◌}
use native.Mathlib.Nat.{mul-le-mul_right}
use native.Mathlib.Numerals.{add-one}
use native.Mathlib.Omega.{arith}
use lib.Dec.{ltb}
use lib.ListN.{length, take, drop, set, get_or, length-append, length-take, length-drop, drop_of_length-le, get_or-append}
use lib.Seq.{append_snoc, drop-cons, set_at, drop-drop, get_or_at, get_or-append-add}
use borrow.Author.Tests.{ltb-true, ltb-false}
use Rattle.laws.specs.Buffer.{onto}
use Rattle.laws.specs.Placed.{placed}
use Rattle.laws.specs.Parts.{listing}
use Rattle.laws.proofs.Placed.{placed_at}
use Rattle.laws.proofs.Filling.{length-listing}
use borrow.Rule.Slice.PartMut.{put_mid, Post-is}
use Rattle.plane.specs.Plane.{row_by_row}

module _ {A : Type 0} where
  pub length-row_by_row : (f : ℕ → ℕ → A) (w h : ℕ) → length (row_by_row f w h) ≡ h * w
  length-row_by_row f w zero = omega arith
  length-row_by_row f w (suc h) = rw (length-append, length-row_by_row f w h, length-listing (f h) w) (omega arith)

  -- the element at i
  pub get_d-listing : (f : ℕ → A) (n i : ℕ) (d : A) → i < n → get_or (listing f n) i d ≡ f i
  get_d-listing f zero i d h = absurd (omega arith)
  get_d-listing f (suc n) i d h = by (ltb i n) refl (λ l. get_d-listing f n i d l)
    where
      by : (t : Bool) → ltb i n ≡ t → (i < n → get_or (listing f n) i d ≡ f i) → get_or (listing f (suc n)) i d ≡ f i
      by true e r =
          let l = ltb-true i n e in
          get_or-append (listing f n) (f n ∷ []) d i (rw (length-listing f n) l) ∙ r l
      by false e r =
          let q : i ≡ n = (let l = ltb-false i n e in omega arith) in
          rw q (get_or_at (listing f n) (f n) [] d n (length-listing f n))

  -- the element at row a, column b
  pub get_d-row_by_row : (f : ℕ → ℕ → A) (w h a b : ℕ) (d : A) → a < h → b < w → get_or (row_by_row f w h) (a * w + b) d ≡ f a b
  get_d-row_by_row f w zero a b d l m = absurd (omega arith)
  get_d-row_by_row f w (suc h) a b d l m = by (ltb a h) refl (λ g. get_d-row_by_row f w h a b d g m)
    where
      by : (t : Bool) → ltb a h ≡ t → (a < h → get_or (row_by_row f w h) (a * w + b) d ≡ f a b) → get_or (row_by_row f w (suc h)) (a * w + b) d ≡ f a b
      by true e r =
          let g = ltb-true a h e in
          let k : (a + 1) * w ≤ h * w = mul-le-mul_right w (let q : a + 1 ≤ h = omega arith in q) in
          get_or-append (row_by_row f w h) (listing (f h) w) d (a * w + b) (rw (length-row_by_row f w h) (let q : a * w + b < h * w = omega arith in q)) ∙ r g
      by false e r =
          let g = ltb-false a h e in
          let q : a ≡ h = omega arith in
          rw (q, ← length-row_by_row f w h) (get_or-append-add (row_by_row f w h) (listing (f h) w) b d ∙ get_d-listing (f h) w b d m)

  -- the write at i, after the first i places
  pub listing-more : (f : ℕ → A) (old : List A) (i : ℕ) {s : List A} {v : A} → i < length old → s ≡ onto (listing f i) old → v ≡ f i → set s i v ≡ onto (listing f (i + 1)) old
  listing-more f old i {s} {v} h e q =
      rw (e, q, add-one i, length-append, length-listing f i, drop-cons old i v)
      (set_at (listing f i) (get_or old i v) (drop (suc i) old) (f i) i (length-listing f i)
      ∙ sym (rw add-one (append_snoc (listing f i) (f i) (drop (suc i) old))))

  -- every place is written
  pub listing-all : (f : ℕ → A) (old : List A) {s : List A} {i n : ℕ} → i ≡ n → length old ≡ n → s ≡ onto (listing f i) old → s ≡ listing f n
  listing-all f old {s} {i} {n} p q e =
      e
      ∙ (ap (λ (k : ℕ). onto (listing f k) old) p
      ∙ rw (length-listing f n, drop_of_length-le old {i = n} (omega arith)) (append-nil (listing f n)))

  -- a row of w written at row r, after the first r rows
  pub row_by_row-more : (f : ℕ → ℕ → A) (w r : ℕ) (old : List A) {s : List A} → s ≡ onto (row_by_row f w r) old →
      placed (r * w) (listing (f r) w) s ≡ onto (row_by_row f w (r + 1)) old
  row_by_row-more f w r old e = rw (e, add-one r) (placed_at (r * w) (row_by_row f w r) (listing (f r) w) old (length-row_by_row f w r))

  -- a part of k elements from the a-th on that comes back as ys
  pub part-back : (a k : ℕ) (xs : List A) {zs ys : List A} → length ys ≡ k → zs ≡ ys → put_mid a (a + k - a) xs zs ≡ placed a ys xs
  part-back a k xs {zs} {ys} l e =
      rw (e, l, drop-drop k a xs, Post-is a (a + k) xs (omega arith))

  pub part_length : (a k : ℕ) (xs : List A) → a + k ≤ length xs → length (take (a + k - a) (drop a xs)) ≡ k
  part_length a k xs h = rw (length-take, length-drop) (omega arith)

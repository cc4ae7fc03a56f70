-- The search for a median: a list in order has its patterns in order, so the pattern at half its length is the one below which at most that many lie, and below the next of which more lie.
-- Assumes nothing.
use Prim.Native.Nat.{ℕ, zero, suc, ◌+◌, ◌/◌, ◌≤◌, ◌<◌}
use mathlib.Core.Bool.{true, false}
use mathlib.Core.List.{List, [], ◌∷◌, map}
use mathlib.Core.Logic.{⊎_elim}
use mathlib.Core.Path.{◌≡◌, refl, sym, ap, ◌∙◌}
use native.Mathlib.Nat.{le_refl}
use native.Mathlib.Omega.{arith}
use borrow.Author.Tests.{lt-ltb}
use lib.Dec.{ltb}
use lib.ListN.{length, get_or, get_or-map}
use lib.Ieee.{Float, binary64, le, of_bits, to_bits}
use lib.Ieee.Bits.{of_bits-to_bits}
use Rattle.laws.specs.Stands.{Each}
use Rattle.laws.specs.Binary64.{nought}
use Rattle.laws.proofs.Cases.{outcome}
use Rattle.median.specs.Median.{insert, ordered, median}
use Rattle.median.specs.Inner.{Plain, Findable, below}
use Rattle.median.proofs.Patterns.{infinite, lt-of-bits, le-of-bits, bits_below, bits_back, plain-below}
use Rattle.median.proofs.Rising.{put, sorted, under, sorted-rising, under-sorted, stands_at, none-under-zero}

abbrev pub patterns : List Float → List ℕ
patterns xs = map (to_bits binary64) xs

-- ---- in order

module _ (P : Float → Type 0) where
  each-insert : (x : Float) (ys : List Float) → P x → Each P ys → Each P (insert x ys)
  each-insert x [] p e = (p, tt)
  each-insert x (y ∷ ys) p e =
      ⊎_elim
      (λ (t : le x y ≡ true). rw t (p, e))
      (λ (t : le x y ≡ false). rw t (e.0, each-insert x ys p e.1))
      (outcome (le x y))

  pub each-ordered : (xs : List Float) → Each P xs → Each P (ordered xs)
  each-ordered [] e = tt
  each-ordered (x ∷ xs) e = each-insert x (ordered xs) e.0 (each-ordered xs e.1)

  pub each_at : (xs : List Float) (i : ℕ) (d : Float) → P d → Each P xs → P (get_or xs i d)
  each_at [] i d p e = p
  each_at (x ∷ xs) zero d p e = e.0
  each_at (x ∷ xs) (suc i) d p e = each_at xs i d p e.1

patterns-insert : (x : Float) (ys : List Float) → Plain x → Each Plain ys → patterns (insert x ys) ≡ put (to_bits binary64 x) (patterns ys)
patterns-insert x [] p e = refl
patterns-insert x (y ∷ ys) p e =
    ⊎_elim
    (λ (t : ltb (to_bits binary64 y) (to_bits binary64 x) ≡ true).
    rw (le-of-bits x y p e.0, t) (ap (λ (l : List ℕ). to_bits binary64 y ∷ l) (patterns-insert x ys p e.1)))
    (λ (t : ltb (to_bits binary64 y) (to_bits binary64 x) ≡ false). rw (le-of-bits x y p e.0, t))
    (outcome (ltb (to_bits binary64 y) (to_bits binary64 x)))

pub patterns-ordered : (xs : List Float) → Each Plain xs → patterns (ordered xs) ≡ sorted (patterns xs)
patterns-ordered [] e = refl
patterns-ordered (x ∷ xs) e =
    patterns-insert x (ordered xs) e.0 (each-ordered Plain xs e.1) ∙ ap (put (to_bits binary64 x)) (patterns-ordered xs e.1)

-- ---- counts

pub below-patterns : (b : ℕ) (xs : List Float) → b < infinite → Each Plain xs → below (of_bits binary64 b) xs ≡ under b (patterns xs)
below-patterns b [] h e = refl
below-patterns b (x ∷ xs) h e = rw (lt-of-bits x (of_bits binary64 b) e.0 (plain-below b h), bits_back b h, below-patterns b xs h e.1)

all_under : (xs : List Float) → Each Plain xs → under infinite (patterns xs) ≡ length xs
all_under [] e = refl
all_under (x ∷ xs) e =
    let n = all_under xs e.1 in
    rw (lt-ltb (to_bits binary64 x) infinite (bits_below x e.0)) (let z : 1 + under infinite (patterns xs) ≡ suc (length xs) = omega arith in z)

-- ---- the search

pub zero-below : 0 < infinite
zero-below = omega arith

-- the pattern at this place of the ordered list
pub found : (xs : List Float) (b at : ℕ) → Each Plain xs → under b (patterns xs) ≤ at → at < under (suc b) (patterns xs) → of_bits binary64 b ≡ get_or (ordered xs) at nought
found xs b at e h l =
    let ns = sorted (patterns xs) in
    let same : get_or ns at 0 ≡ b =
    stands_at b at ns (sorted-rising (patterns xs)) (rw (under-sorted b (patterns xs)) h) (rw (under-sorted (suc b) (patterns xs)) l) in
    let bits : to_bits binary64 (get_or (ordered xs) at nought) ≡ b =
    sym (get_or-map (to_bits binary64) (ordered xs) at nought)
    ∙ ap (get_or (patterns (ordered xs)) at) (bits_back 0 zero-below)
    ∙ ap (λ (l : List ℕ). get_or l at 0) (patterns-ordered xs e)
    ∙ same in
    ap (of_bits binary64) (sym bits) ∙ of_bits-to_bits binary64 (get_or (ordered xs) at nought) (each_at Plain (ordered xs) at nought (plain-below 0 zero-below) (each-ordered Plain xs e)).held

-- at most as many as half the length lie below lo, and more below hi
pub record Between (xs : List Float) (lo hi : ℕ) : Type 0 where
  pub rising : lo < hi
  pub finite : hi ≤ infinite
  pub few : under lo (patterns xs) ≤ length xs / 2
  pub many : length xs / 2 < under hi (patterns xs)

pub starts : (xs : List Float) → Findable xs → Between xs 0 infinite
starts xs f =
    let s = f.some in
    let a = all_under xs f.plain in
    let z = none-under-zero (patterns xs) in
    record { rising = zero-below; finite = le_refl infinite; few = omega arith; many = omega arith }

module _ (xs : List Float) (plain : Each Plain xs) {lo mid hi : ℕ} (b : Between xs lo hi) where
  pub goes-up : lo < mid → mid < hi → below (of_bits binary64 mid) xs ≤ length xs / 2 → Between xs mid hi
  goes-up l h c =
      let f = b.finite in
      let n : under mid (patterns xs) ≡ below (of_bits binary64 mid) xs = sym (below-patterns mid xs (omega arith) plain) in
      record { rising = h; finite = f; few = omega arith; many = b.many }

  pub goes_down : lo < mid → mid < hi → length xs / 2 < below (of_bits binary64 mid) xs → Between xs lo mid
  goes_down l h c =
      let f = b.finite in
      let n : under mid (patterns xs) ≡ below (of_bits binary64 mid) xs = sym (below-patterns mid xs (omega arith) plain) in
      record { rising = l; finite = omega arith; few = b.few; many = omega arith }

pub ends : (xs : List Float) (lo hi : ℕ) → Each Plain xs → Between xs lo hi → hi ≤ lo + 1 → of_bits binary64 lo ≡ median xs
unfolding median
ends xs lo hi plain b h =
    let r = b.rising in
    let e : hi ≡ suc lo = omega arith in
    found xs lo (length xs / 2) plain b.few (rw (← e) b.many)

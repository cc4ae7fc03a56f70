-- The root of a number without sign has no sign, and a sum of squares has none: what is measured by it is never −0. A finite one has a finite root.
-- Assumes nothing.
use Prim.Native.Nat.{ℕ, zero, suc, ◌+◌, ◌*◌, ◌^◌}
use mathlib.Core.Bool.{Bool, true, false, not, cond}
use mathlib.Core.Path.{◌≡◌, refl, sym, subst}
use native.Mathlib.Nat.{zero-lt-suc}
use lib.Dec.{T, ltb, lt→ltb}
use lib.Ieee.{Float, nan, inf, fin, Format, binary64, prec, emax, low, up, down, odd, units, round, sum, add, mul, fits}
use lib.Ieee.Fits.{nan-fits, inf-fits, round-fits, add-fits}
use lib.Ieee.Scale.{finite}
use Rattle.laws.specs.Binary64.{◌⊕◌, ◌⊗◌}
use Rattle.root.specs.Root.{root, scaled_back, nearest_root, scaled, half_digits, magnitude}
use Rattle.root.proofs.Normalised.{positive-root-finite}

-- nought or above; a not-a-number has no sign
abbrev pub unsigned : Float → Bool
unsigned nan = true
unsigned (inf s) = not s
unsigned (fin s m e) = not s

-- ---- one rounding keeps the sign

odd-unsigned : (d q k l : ℕ) → unsigned (odd d false q k l) ≡ true
unfolding odd
odd-unsigned d zero k l = refl
odd-unsigned d (suc q) k l = refl

choice-unsigned : (b : Bool) (x y : Float) → unsigned x ≡ true → unsigned y ≡ true → unsigned (cond b x y) ≡ true
choice-unsigned true x y p q = p
choice-unsigned false x y p q = q

units-unsigned : (f : Format) (q k : ℕ) → unsigned (units f false q k) ≡ true
unfolding units
units-unsigned f q k =
    choice-unsigned (ltb (q * 2 ^ k) (2 ^ (low f + suc (emax f)))) (odd (suc (prec f)) false q k (low f)) (inf false) (odd-unsigned (suc (prec f)) q k (low f)) refl

pub round-unsigned : (f : Format) (num den : ℕ) → unsigned (round f false num den) ≡ true
unfolding round
round-unsigned f num den = units-unsigned f _ _

-- ---- squares and sums

pub square-unsigned : (d : Float) → unsigned (d ⊗ d) ≡ true
unfolding mul
square-unsigned nan = refl
square-unsigned (inf true) = refl
square-unsigned (inf false) = refl
square-unsigned (fin true m e) = round-unsigned binary64 (m * up e * (m * up e)) (down e * down e)
square-unsigned (fin false m e) = round-unsigned binary64 (m * up e * (m * up e)) (down e * down e)

pub sum-unsigned : (x y : Float) → unsigned x ≡ true → unsigned y ≡ true → unsigned (x ⊕ y) ≡ true
unfolding add sum
sum-unsigned nan y p q = refl
sum-unsigned (inf s) nan p q = refl
sum-unsigned (inf true) (inf t) p q = absurd (subst T (sym p) tt)
sum-unsigned (inf false) (inf true) p q = refl
sum-unsigned (inf false) (inf false) p q = refl
sum-unsigned (inf s) (fin t n d) p q = p
sum-unsigned (fin s m e) nan p q = refl
sum-unsigned (fin s m e) (inf t) p q = q
sum-unsigned (fin true m e) (fin t n d) p q = absurd (subst T (sym p) tt)
sum-unsigned (fin false m e) (fin true n d) p q = absurd (subst T (sym q) tt)
sum-unsigned (fin false m e) (fin false n d) p q = round-unsigned binary64 (m * up e * down d + n * up d * down e) (down e * down d)

-- ---- roots

pub root-unsigned : (x : Float) → unsigned x ≡ true → unsigned (root x) ≡ true
unfolding root scaled_back
root-unsigned nan p = refl
root-unsigned (inf true) p = refl
root-unsigned (inf false) p = refl
root-unsigned (fin s zero e) p = p
root-unsigned (fin true (suc m) e) p = refl
root-unsigned (fin false (suc m) e) p =
    let n = magnitude (suc m) e in round-unsigned binary64 (nearest_root (scaled n) * 2 ^ half_digits n) (2 ^ 590)

pub root-fits : (x : Float) → T (fits binary64 x) → T (fits binary64 (root x))
unfolding root scaled_back
root-fits nan h = nan-fits binary64
root-fits (inf true) h = nan-fits binary64
root-fits (inf false) h = inf-fits binary64 false
root-fits (fin s zero e) h = h
root-fits (fin true (suc m) e) h = nan-fits binary64
root-fits (fin false (suc m) e) h =
    let n = magnitude (suc m) e in round-fits binary64 false (nearest_root (scaled n) * 2 ^ half_digits n) (2 ^ 590)

pub root-finite : (x : Float) → T (fits binary64 x) → unsigned x ≡ true → finite x ≡ true → finite (root x) ≡ true
unfolding root
root-finite nan f p h = absurd (subst T (sym h) tt)
root-finite (inf s) f p h = absurd (subst T (sym h) tt)
root-finite (fin s zero e) f p h = refl
root-finite (fin true (suc m) e) f p h = absurd (subst T (sym p) tt)
root-finite (fin false (suc m) e) f p h = positive-root-finite (fin false (suc m) e) f (lt→ltb 0 (suc m) (zero-lt-suc m))

-- ---- what a residual is: the root of a sum of two squares

module _ (a b : Float) where
  pub root-of-squares-fits : T (fits binary64 (root (a ⊗ a ⊕ b ⊗ b)))
  root-of-squares-fits = root-fits (a ⊗ a ⊕ b ⊗ b) (add-fits binary64 (a ⊗ a) (b ⊗ b))

  pub squares-unsigned : unsigned (a ⊗ a ⊕ b ⊗ b) ≡ true
  squares-unsigned = sum-unsigned (a ⊗ a) (b ⊗ b) (square-unsigned a) (square-unsigned b)

  pub root-of-squares-unsigned : unsigned (root (a ⊗ a ⊕ b ⊗ b)) ≡ true
  root-of-squares-unsigned = root-unsigned (a ⊗ a ⊕ b ⊗ b) squares-unsigned

  pub root-of-squares-finite : finite (a ⊗ a ⊕ b ⊗ b) ≡ true → finite (root (a ⊗ a ⊕ b ⊗ b)) ≡ true
  root-of-squares-finite = root-finite (a ⊗ a ⊕ b ⊗ b) (add-fits binary64 (a ⊗ a) (b ⊗ b)) squares-unsigned

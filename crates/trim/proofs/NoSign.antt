-- A residual is the root of a sum of two squares, so neither has a sign: finite ones are numbers that a median is found of, and are under infinity.
-- Assumes nothing.
use Prim.Native.Nat.{ℕ, zero, suc, ◌<◌}
use mathlib.Core.Bool.{Bool, true, false}
use mathlib.Core.List.{List, [], ◌∷◌}
use mathlib.Core.Path.{◌≡◌, refl, sym, subst}
use native.Mathlib.Omega.{arith}
use lib.Dec.{T}
use lib.ListN.{length, get_or}
use lib.Ieee.{Float, nan, inf, fin, binary64, fits, lt, le}
use lib.Ieee.Fits.{add-fits}
use lib.Ieee.Scale.{finite}
use Rattle.laws.specs.Binary64.{◌⊖◌, ◌⊗◌}
use Rattle.laws.specs.Stands.{Each}
use Rattle.laws.proofs.Refusal.{both_left, both_right}
use Rattle.sample.specs.declared.MotionSample.{MotionSample}
use Rattle.root.proofs.Signs.{squares-unsigned, root-of-squares-fits, root-of-squares-unsigned}
use Rattle.median.specs.Median.{all_finite}
use Rattle.median.specs.Inner.{unsigned, Plain}
use Rattle.median.proofs.PlainLists.{each-mapped, each-plain}
use Rattle.fit.specs.declared.Fitted.{Fitted}
use Rattle.score.specs.Score.{residual_of, motion_u, motion_v}
use Rattle.trim.specs.Trim.{continuous_fit, residual, residuals_from}
use Rattle.trim.specs.Inner.{square, squares_from}

pub held : (b : Bool) → b ≡ true → T b
held b e = subst (λ (t : Bool). T t) (sym e) tt

-- ---- residuals

residual-bare : (f : Fitted) (s : MotionSample) → T (fits binary64 (residual f s)) × (unsigned (residual f s) ≡ true)
unfolding residual_of
residual-bare f s =
    let du = s.u ⊖ motion_u (continuous_fit f) s in
    let dv = s.v ⊖ motion_v (continuous_fit f) s in
    (root-of-squares-fits du dv, root-of-squares-unsigned du dv)

pub residuals-plain : {A : Type 0} (read : A → MotionSample) (f : Fitted) (xs : List A) → all_finite (residuals_from read f xs) ≡ true → Each Plain (residuals_from read f xs)
residuals-plain {A} read f xs e =
    each-plain (residuals_from read f xs)
    (each-mapped (λ (x : A). residual f (read x)) (λ (r : Float). T (fits binary64 r) × (unsigned r ≡ true)) (λ x. residual-bare f (read x)) xs) e

-- ---- their squares

pub square-bare : (f : Fitted) (s : MotionSample) → T (fits binary64 (square f s)) × (unsigned (square f s) ≡ true)
unfolding residual_of
square-bare f s =
    let du = s.u ⊖ motion_u (continuous_fit f) s in
    let dv = s.v ⊖ motion_v (continuous_fit f) s in
    (add-fits binary64 (du ⊗ du) (dv ⊗ dv), squares-unsigned du dv)

pub squares-bare : {A : Type 0} (read : A → MotionSample) (f : Fitted) (xs : List A) → Each (λ (x : Float). T (fits binary64 x) × (unsigned x ≡ true)) (squares_from read f xs)
squares-bare {A} read f xs =
    each-mapped (λ (x : A). square f (read x)) (λ (r : Float). T (fits binary64 r) × (unsigned r ≡ true)) (λ x. square-bare f (read x)) xs

pub squares-plain : {A : Type 0} (read : A → MotionSample) (f : Fitted) (xs : List A) → all_finite (squares_from read f xs) ≡ true → Each Plain (squares_from read f xs)
squares-plain read f xs e = each-plain (squares_from read f xs) (squares-bare read f xs) e

-- ---- finite numbers are under infinity

pub finite-at : (rs : List Float) (i : ℕ) → T (all_finite rs) → i < length rs → T (finite (get_or rs i nan))
finite-at [] i t h = absurd (omega arith)
finite-at (r ∷ rs) zero t h = both_left (finite r) (all_finite rs) t
finite-at (r ∷ rs) (suc i) t h = finite-at rs i (both_right (finite r) (all_finite rs) t) (omega arith)

pub under-infinity : (x : Float) → T (finite x) → le x (inf false) ≡ true
unfolding le lt
under-infinity nan t = absurd t
under-infinity (inf s) t = absurd t
under-infinity (fin s m e) t = refl

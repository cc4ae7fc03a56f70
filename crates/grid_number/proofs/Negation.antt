-- A negated number's product is the negated product, and its grid number lies on the other side of zero.
-- Assumes nothing.
use Rattle.std.proofs.Common.{◌≡◌, ℕ, zero, suc, ◌+◌, ◌*◌, ◌^◌, Bool, true, false, cond, not, eqb, ltb, ◌⊎◌, refl, ap, ◌∙◌, inl, inr}
use lib.Ieee.{Float, nan, inf, fin, Format, prec, emax, low, up, down, unlike, odd, units, round, neg, mul}
use Rattle.grid_number.specs.GridNumber.{magnitude, held, below, rounded}

odd-neg : (d : ℕ) (s : Bool) (q k l : ℕ) → odd d (not s) q k l ≡ neg (odd d s q k l)
unfolding odd neg
odd-neg d s zero k l = refl
odd-neg d s (suc q) k l = refl

choice-neg : (b : Bool) (s : Bool) (x y : Float) → x ≡ neg y → cond b x (inf (not s)) ≡ neg (cond b y (inf s))
unfolding neg
choice-neg true s x y e = e
choice-neg false s x y e = refl

units-neg : (f : Format) (s : Bool) (q k : ℕ) → units f (not s) q k ≡ neg (units f s q k)
unfolding units
units-neg f s q k = choice-neg (ltb (q * 2 ^ k) (2 ^ (low f + suc (emax f)))) s (odd (suc (prec f)) (not s) q k (low f)) (odd (suc (prec f)) s q k (low f)) (odd-neg (suc (prec f)) s q k (low f))

round-neg : (f : Format) (s : Bool) (num den : ℕ) → round f (not s) num den ≡ neg (round f s num den)
unfolding round
round-neg f s num den = units-neg f s _ _

unlike-not : (s t : Bool) → unlike (not s) t ≡ not (unlike s t)
unlike-not true true = refl
unlike-not true false = refl
unlike-not false true = refl
unlike-not false false = refl

zero-times-infinity : (b s t : Bool) → cond b nan (inf (unlike (not s) t)) ≡ neg (cond b nan (inf (unlike s t)))
unfolding neg
zero-times-infinity true s t = refl
zero-times-infinity false s t = ap inf (unlike-not s t)

pub mul-neg : (f : Format) (x y : Float) → mul f (neg x) y ≡ neg (mul f x y)
unfolding mul neg
mul-neg f nan y = refl
mul-neg f (inf s) nan = refl
mul-neg f (inf s) (inf t) = ap inf (unlike-not s t)
mul-neg f (inf s) (fin t n d) = zero-times-infinity (eqb n 0) s t
mul-neg f (fin s m e) nan = refl
mul-neg f (fin s m e) (inf t) = zero-times-infinity (eqb m 0) s t
mul-neg f (fin s m e) (fin t n d) =
    ap (λ (b : Bool). round f b (m * up e * (n * up d)) (down e * down d)) (unlike-not s t)
    ∙ round-neg f (unlike s t) (m * up e * (n * up d)) (down e * down d)

-- a number that is not a not-a-number changes its sign and keeps its magnitude
pub rounded-neg : (y : Float) → (y ≡ nan) ⊎ (rounded (neg y) ≡ held (not (below y)) (magnitude y))
unfolding rounded neg magnitude
rounded-neg nan = inl refl
rounded-neg (inf s) = inr refl
rounded-neg (fin s m e) = inr refl

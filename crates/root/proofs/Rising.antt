-- The root rises: of two numbers without sign the larger one's root is no smaller.
-- Assumes nothing.
use Prim.Native.Nat.{ℕ, zero, suc, ◌+◌, ◌*◌, ◌/◌, ◌%◌, ◌^◌, ◌≤◌, ◌<◌}
use mathlib.Core.Bool.{Bool, true, false, ◌&&◌, ◌||◌}
use mathlib.Core.Logic.{◌⊎◌, inl, inr, ⊎_elim}
use mathlib.Core.Path.{◌≡◌, refl, sym, ap, ◌∙◌, subst}
use native.Mathlib.Nat.{le_trans, le_of_lt, mul-le-mul, mul-le-mul_right, le_of_mul-le-mul_right, mul-pos, zero-lt-suc, lt_of_le_of_lt, eq-or-lt_of_le}
use native.Mathlib.Omega.{arith}
use lib.Dec.{T, ltb, eqb, ltb→lt, eqb→eq, lt→ltb}
use lib.IntN.{ℤ}
use lib.Pow.{pow-add, pow_pos, pow_mono, shr_mono}
use lib.Ieee.{Float, nan, inf, fin, binary64, up, down, size, le, fits}
use lib.Ieee.Digits.{size-lt, size-le}
use lib.Ieee.Fits.{up_pos, down_pos}
use lib.Ieee.Order.{le_of_values}
use lib.Ieee.Positive.{positive, values_of_le}
use lib.Ieee.Scale.{finite}
use Rattle.root.specs.Root.{root, nearest_root, half_digits, scaled}
use Rattle.root.specs.Inner.{leading, Significand, Tall, significand_root}
use Rattle.root.proofs.Squares.{Nearest, nearest-root, rising}
use Rattle.root.proofs.Scaling.{Normal, digits_of, half-digits-of, scaled-of, four-power, odd_power, tall}
use Rattle.root.proofs.Patterns.{root_of, root-is-significand, root_value}
use Rattle.root.proofs.Normalised.{normalised, root_is}
use Rattle.root.proofs.Signs.{unsigned, root-unsigned, root-finite}

size-rises : {n n' : ℕ} → n ≤ n' → size n ≤ size n'
size-rises {n} {n'} h = size-le n (size n') (lt_of_le_of_lt h (size-lt n'))

-- the scaled number of a significand by a power of two has 105 or 106 digits
tall-root : (t : ℕ) → Tall t → Nearest (t * leading) (nearest_root (t * leading))
tall-root t h = nearest-root (t * leading) (omega (arith, h.low)) (omega (arith, h.high))

near : (m p : ℕ) → Significand m → Nearest (m * 2 ^ (p % 2) * leading) (root_of m p)
near m p s =
    let r : p % 2 < 2 = omega arith in
    rw (odd_power (p % 2) r) (tall-root (m * (1 + p % 2)) (tall m (p % 2) s r))

scaled-rise : {n n' : ℕ} (h : ℕ) → n ≤ n' → n * 4 ^ 53 / 4 ^ h ≤ n' * 4 ^ 53 / 4 ^ h
scaled-rise h l = rw (four-power h) (shr_mono (h + h) (mul-le-mul_right (4 ^ 53) l))

higher : (k k' h h' : ℕ) → Significand k → Significand k' → h < h' → k * 2 ^ h ≤ k' * 2 ^ h'
higher k k' h h' s s' l =
    let most : k * 2 ^ h ≤ 2 * leading * 2 ^ h = mul-le-mul_right (2 ^ h) (le_of_lt s.high) in
    let next : 2 * leading * 2 ^ h ≡ leading * (2 ^ h * 2) = omega arith in
    le_trans (subst (λ (x : ℕ). k * 2 ^ h ≤ x) (next ∙ ap (λ (x : ℕ). leading * x) (sym (pow-add 2 h 1))) most)
    (mul-le-mul s'.low (pow_mono (let e : h + 1 ≤ h' = omega arith in e)))

module _ {n m p n' m' p' : ℕ} (a : Normal n m p) (b : Normal n' m' p') (less : n ≤ n') where
  -- with as many halves of digits the scaled numbers rise, and with more the root has a higher power of two
  pub digits-rise : root_of m p * 2 ^ (p / 2 + 1) ≤ root_of m' p' * 2 ^ (p' / 2 + 1)
  digits-rise =
      let powers : p / 2 ≤ p' / 2 = omega (arith, digits_of a, digits_of b, size-rises less) in
      ⊎_elim
      (λ (e : p / 2 ≡ p' / 2).
      let same : half_digits n ≡ half_digits n' = half-digits-of a ∙ ap (λ (x : ℕ). x + 1) e ∙ sym (half-digits-of b) in
      let scaled-less : m * 2 ^ (p % 2) * leading ≤ m' * 2 ^ (p' % 2) * leading =
      rw (← scaled-of a, ← scaled-of b) (subst (λ (h : ℕ). scaled n ≤ n' * 4 ^ 53 / 4 ^ h) same (scaled-rise (half_digits n) less)) in
      rw e (mul-le-mul_right (2 ^ (p' / 2 + 1)) (rising (near m p a.digits) (near m' p' b.digits) scaled-less)))
      (λ (l : p / 2 < p' / 2).
      higher (root_of m p) (root_of m' p') (p / 2 + 1) (p' / 2 + 1) (root-is-significand m p a.digits) (root-is-significand m' p' b.digits) (omega arith))
      (eq-or-lt_of_le powers)

module _ (x y : Float) (f : T (fits binary64 x)) (g : T (fits binary64 y)) (p : T (positive x)) (q : T (positive y)) where
  positive-rises : T (le x y) → T (le (root x) (root y))
  positive-rises h =
      let a = normalised x f p in
      let b = normalised y g q in
      let less : a.n ≤ b.n = le_of_mul-le-mul_right (values_of_le x y a.n (2 ^ 1074) b.n (2 ^ 1074) p q a.value b.value h) (pow_pos 1074) in
      rw (root_is x f p, root_is y g q)
      (le_of_values (significand_root a.m a.p) (significand_root b.m b.p)
      (root_of a.m a.p * 2 ^ (a.p / 2 + 1)) (2 ^ 590) (root_of b.m b.p * 2 ^ (b.p / 2 + 1)) (2 ^ 590) (pow_pos 590) (pow_pos 590)
      (root_value a.m a.p a.normal.digits a.normal.deep)
      (root_value b.m b.p b.normal.digits b.normal.deep)
      (mul-le-mul_right (2 ^ 590) (digits-rise a.normal b.normal less)))

-- ---- zeros and infinity

below-infinity : (z : Float) → finite z ≡ true → T (le z (inf false))
unfolding le
below-infinity nan h = absurd (subst T (sym h) tt)
below-infinity (inf s) h = absurd (subst T (sym h) tt)
below-infinity (fin s m e) h = tt

zero-least : (e : ℤ) (z : Float) → finite z ≡ true → unsigned z ≡ true → T (le (fin false zero e) z)
zero-least e nan h u = absurd (subst T (sym h) tt)
zero-least e (inf s) h u = absurd (subst T (sym h) tt)
zero-least e (fin true n d) h u = absurd (subst T (sym u) tt)
zero-least e (fin false n d) h u =
    let nothing : 0 * up e * 1 ≡ 0 * down e = omega arith in
    le_of_values (fin false zero e) (fin false n d) 0 1 (n * up d) (down d) (zero-lt-suc 0) (down_pos d) (refl, nothing) (refl, refl) (omega arith)

either_way : (a b c : Bool) → T (a || b && c) → T a ⊎ T b
either_way true b c h = inl tt
either_way false true c h = inr tt
either_way false false c h = absurd h

none-below-zero : (m : ℕ) (e d : ℤ) → T (le (fin false (suc m) e) (fin false zero d)) → ⊥
unfolding le
none-below-zero m e d h =
    let a = suc m * up e * down d in
    let b = 0 * up d * down e in
    let some : 0 < a = mul-pos (mul-pos (zero-lt-suc m) (up_pos e)) (down_pos d) in
    ⊎_elim (λ (l : T (ltb a b)). omega (arith, ltb→lt a b l)) (λ (l : T (eqb a b)). omega (arith, eqb→eq a b l)) (either_way (ltb a b) (eqb a b) true h)

pub root-rises : (x y : Float) → T (fits binary64 x) → T (fits binary64 y) → unsigned x ≡ true → unsigned y ≡ true → T (le x y) → T (le (root x) (root y))
unfolding le root
root-rises nan y f g p q h = absurd h
root-rises (inf true) y f g p q h = absurd (subst T (sym p) tt)
root-rises (inf false) nan f g p q h = absurd h
root-rises (inf false) (inf true) f g p q h = absurd (subst T (sym q) tt)
root-rises (inf false) (inf false) f g p q h = tt
root-rises (inf false) (fin t n d) f g p q h = absurd h
root-rises (fin true m e) y f g p q h = absurd (subst T (sym p) tt)
root-rises (fin false m e) nan f g p q h = absurd h
root-rises (fin false m e) (inf true) f g p q h = absurd (subst T (sym q) tt)
root-rises (fin false m e) (inf false) f g p q h = below-infinity (root (fin false m e)) (root-finite (fin false m e) f refl refl)
root-rises (fin false m e) (fin true n d) f g p q h = absurd (subst T (sym q) tt)
root-rises (fin false zero e) (fin false n d) f g p q h =
    zero-least e (root (fin false n d)) (root-finite (fin false n d) g refl refl) (root-unsigned (fin false n d) refl)
root-rises (fin false (suc m) e) (fin false zero d) f g p q h = absurd (none-below-zero m e d h)
root-rises (fin false (suc m) e) (fin false (suc n) d) f g p q h =
    positive-rises (fin false (suc m) e) (fin false (suc n) d) f g (lt→ltb 0 (suc m) (zero-lt-suc m)) (lt→ltb 0 (suc n) (zero-lt-suc n)) h

-- What an operation makes of numbers is told by their values alone: it rounds one fraction, whatever way the operands are written, and equal fractions round alike.
-- Two numbers of a format with one value and sign are one number, since their bits are made from the value.
-- Assumes nothing.
use Prim.Native.Nat.{ℕ, ◌+◌, ◌-◌, ◌*◌, ◌^◌, ◌≤◌, ◌<◌}
use mathlib.Core.Bool.{Bool, not, ◌&&◌}
use mathlib.Core.Logic.{⊎_elim}
use mathlib.Core.Path.{◌≡◌, sym, ap, ◌∙◌, subst}
use native.Mathlib.Nat.{mul_assoc, mul_comm, mul_left_comm, mul_right_comm, mul-mul-mul_comm, add-mul, mul-sub, zero-mul, lt_irrefl}
use native.Mathlib.Nat.{mul-pos, mul-lt-mul_of_pos_right, mul-le-mul_right, lt_of_mul-lt-mul_right, le_of_mul-le-mul_right, eq_of_mul-eq-mul_right}
use native.Mathlib.Omega.{arith}
use borrow.Author.Tests.{lt-ltb, le-ltb, ne_eqb}
use lib.Dec.{T, ltb}
use lib.Ieee.{Float, fin, Format, low, unlike, up, down, of_bits, round, neg, sum, add, sub, mul, div, fits, to_bits, inf, nan}
use lib.Ieee.Bits.{of_bits-to_bits}
use lib.Ieee.Exact.{HasValue}
use lib.Ieee.Fits.{up_pos, down_pos}
use lib.Ieee.Nearest.{div_same}
use lib.Ieee.Scale.{round_same}
use Rattle.laws.proofs.Cases.{lt-or-le}

-- ---- one sum of fractions

-- A / C and B / C are the fractions a / c and b / c
module _ (A B C a b c : ℕ) (C0 : 0 < C) (c0 : 0 < c) (p : A * c ≡ a * C) (q : B * c ≡ b * C) where
  test-alike : ltb A B ≡ ltb a b
  test-alike =
      ⊎_elim
      (λ (h : a < b). lt-ltb A B (lt_of_mul-lt-mul_right c (rw (p, q) (mul-lt-mul_of_pos_right h C0))) ∙ sym (lt-ltb a b h))
      (λ (h : b ≤ a). le-ltb A B (le_of_mul-le-mul_right (rw (p, q) (mul-le-mul_right C h)) c0) ∙ sym (le-ltb a b h))
      (lt-or-le a b)

  sum_alike : (A + B) * c ≡ (a + b) * C
  sum_alike = add-mul A B c ∙ rw (p, q) (sym (add-mul a b C))

  difference-alike : (A - B) * c ≡ (a - b) * C
  difference-alike =
      mul_comm (A - B) c ∙ mul-sub c A B ∙ rw (mul_comm c A, mul_comm c B, p, q) (sym (mul_comm (a - b) C ∙ mul-sub C a b ∙ rw (mul_comm C a, mul_comm C b)))

pub sum_same : (f : Format) (s t : Bool) (A B C a b c : ℕ) → 0 < C → 0 < c → A * c ≡ a * C → B * c ≡ b * C → sum f s A t B C ≡ sum f s a t b c
unfolding sum
sum_same f s t A B C a b c C0 c0 p q =
    rw (
      round_same f s (A + B) C (a + b) c C0 c0 (sum_alike A B C a b c C0 c0 p q),
      test-alike A B C a b c C0 c0 p q,
      test-alike B A C b a c C0 c0 q p,
      round_same f t (B - A) C (b - a) c C0 c0 (difference-alike B A C b a c C0 c0 q p),
      round_same f (s && ltb b a) (A - B) C (a - b) c C0 c0 (difference-alike A B C a b c C0 c0 p q),
    )

-- ---- each operation, by the values of its operands

-- m u / D is a / c: then so is m u k / (D k)
widened : (m u D a c k : ℕ) → m * u * c ≡ a * D → m * u * k * c ≡ a * (D * k)
widened m u D a c k h = mul_right_comm (m * u) k c ∙ ap (λ (z : ℕ). z * k) h ∙ mul_assoc a D k

-- X / E is a / c, and Y / G is b / d
divided : (X E Y G a b c d : ℕ) → X * c ≡ a * E → Y * d ≡ b * G → X * G * (b * c) ≡ a * d * (Y * E)
divided X E Y G a b c d p q =
    let l : X * G * (b * c) ≡ X * c * (b * G) = simp (mul_assoc, mul_comm, mul_left_comm) in
    let r : a * E * (Y * d) ≡ a * d * (Y * E) = simp (mul_assoc, mul_comm, mul_left_comm) in
    l ∙ rw (p, ← q) r

module _ (f : Format) where
  pub add-of-values : (x y : Float) (s t : Bool) (a b c : ℕ) → 0 < c → HasValue x s a c → HasValue y t b c → add f x y ≡ sum f s a t b c
  unfolding add
  add-of-values (fin s' m e) (fin t' n d) s t a b c c0 v w =
      sum_same f s' t' (m * up e * down d) (n * up d * down e) (down e * down d) a b c (mul-pos (down_pos e) (down_pos d)) c0
      (widened m (up e) (down e) a c (down d) v.1)
      (widened n (up d) (down d) b c (down e) w.1 ∙ ap (λ (z : ℕ). b * z) (mul_comm (down d) (down e)))
      ∙ rw (v.0, w.0)
  add-of-values nan y s t a b c c0 v w = elim v [ ]
  add-of-values (inf _) y s t a b c c0 v w = elim v [ ]
  add-of-values (fin s' m e) nan s t a b c c0 v w = elim w [ ]
  add-of-values (fin s' m e) (inf _) s t a b c c0 v w = elim w [ ]

  pub sub-of-values : (x y : Float) (s t : Bool) (a b c : ℕ) → 0 < c → HasValue x s a c → HasValue y t b c → sub f x y ≡ sum f s a (not t) b c
  unfolding sub neg
  sub-of-values x (fin t' n d) s t a b c c0 v w = add-of-values x (fin (not t') n d) s (not t) a b c c0 v (ap not w.0, w.1)
  sub-of-values x nan s t a b c c0 v w = elim w [ ]
  sub-of-values x (inf _) s t a b c c0 v w = elim w [ ]

  pub mul-of-values : (x y : Float) (s t : Bool) (a b c d : ℕ) → 0 < c → 0 < d → HasValue x s a c → HasValue y t b d
      → mul f x y ≡ round f (unlike s t) (a * b) (c * d)
  unfolding mul
  mul-of-values (fin s' m e) (fin t' n g) s t a b c d c0 d0 v w =
      rw (v.0, w.0)
      (round_same f (unlike s t) (m * up e * (n * up g)) (down e * down g) (a * b) (c * d) (mul-pos (down_pos e) (down_pos g)) (mul-pos c0 d0)
      (mul-mul-mul_comm (m * up e) (n * up g) c d ∙ rw (v.1, w.1) (mul-mul-mul_comm a (down e) b (down g))))
  mul-of-values nan y s t a b c d c0 d0 v w = elim v [ ]
  mul-of-values (inf _) y s t a b c d c0 d0 v w = elim v [ ]
  mul-of-values (fin s' m e) nan s t a b c d c0 d0 v w = elim w [ ]
  mul-of-values (fin s' m e) (inf _) s t a b c d c0 d0 v w = elim w [ ]

  pub div-of-values : (x y : Float) (s t : Bool) (a b c d : ℕ) → 0 < b → 0 < c → 0 < d → HasValue x s a c → HasValue y t b d
      → div f x y ≡ round f (unlike s t) (a * d) (b * c)
  unfolding div
  div-of-values (fin s' m e) (fin t' n g) s t a b c d b0 c0 d0 v w =
      let n0 : n ≡ 0 → ⊥ = λ z. lt_irrefl 0 (subst (λ (k : ℕ). 0 < k) (sym w.1 ∙ rw (z, zero-mul (up g), zero-mul d)) (mul-pos b0 (down_pos g))) in
      rw (ne_eqb n 0 n0, v.0, w.0)
      (round_same f (unlike s t) (m * up e * down g) (n * up g * down e) (a * d) (b * c)
      (mul-pos (mul-pos (let h : 0 < n = omega arith in h) (up_pos g)) (down_pos e)) (mul-pos b0 c0)
      (divided (m * up e) (down e) (n * up g) (down g) a b c d v.1 w.1))
  div-of-values nan y s t a b c d b0 c0 d0 v w = elim v [ ]
  div-of-values (inf _) y s t a b c d b0 c0 d0 v w = elim v [ ]
  div-of-values (fin s' m e) nan s t a b c d b0 c0 d0 v w = elim w [ ]
  div-of-values (fin s' m e) (inf _) s t a b c d b0 c0 d0 v w = elim w [ ]

-- ---- one value, one number

bits_of_value : (f : Format) (x y : Float) (s : Bool) (a c : ℕ) → 0 < c → HasValue x s a c → HasValue y s a c → to_bits f x ≡ to_bits f y
unfolding to_bits
bits_of_value f (fin s' m e) (fin t' n d) s a c c0 v w =
    let same : m * up e * down d ≡ n * up d * down e =
    eq_of_mul-eq-mul_right c c0 (m * up e * down d) (n * up d * down e)
    (widened m (up e) (down e) a c (down d) v.1
    ∙ ap (λ (z : ℕ). a * z) (mul_comm (down e) (down d))
    ∙ sym (widened n (up d) (down d) a c (down e) w.1)) in
    rw (
      v.0,
      w.0,
      div_same (m * up e * 2 ^ low f) (down e) (n * up d * 2 ^ low f) (down d) (down_pos e) (down_pos d)
          (mul_right_comm (m * up e) (2 ^ low f) (down d) ∙ ap (λ (z : ℕ). z * 2 ^ low f) same ∙ mul_right_comm (n * up d) (down e) (2 ^ low f)),
    )
bits_of_value f nan y s a c c0 v w = elim v [ ]
bits_of_value f (inf _) y s a c c0 v w = elim v [ ]
bits_of_value f (fin s' m e) nan s a c c0 v w = elim w [ ]
bits_of_value f (fin s' m e) (inf _) s a c c0 v w = elim w [ ]

pub one_number : (f : Format) (x y : Float) (s : Bool) (a c : ℕ) → 0 < c → T (fits f x) → T (fits f y) → HasValue x s a c → HasValue y s a c → x ≡ y
one_number f x y s a c c0 p q v w = sym (of_bits-to_bits f x p) ∙ ap (of_bits f) (bits_of_value f x y s a c c0 v w) ∙ of_bits-to_bits f y q

-- a fraction enlarged
pub enlarged : (x : Float) (s : Bool) (a c k : ℕ) → HasValue x s a c → HasValue x s (a * k) (c * k)
enlarged (fin t m e) s a c k v = (v.0, sym (mul_assoc (m * up e) c k) ∙ ap (λ (z : ℕ). z * k) v.1 ∙ mul_right_comm a (down e) k)
enlarged nan s a c k v = elim v [ ]
enlarged (inf _) s a c k v = elim v [ ]

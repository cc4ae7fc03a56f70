-- `byte_field::with_inside`: what stood there is taken out by a mask, and what comes fits in its place. Assumes nothing.
use Prim.Native.Nat.{ℕ, ◌+◌, ◌-◌, ◌*◌, ◌/◌, ◌%◌, ◌^◌, ◌≤◌, ◌<◌}
use mathlib.Core.Path.{◌≡◌, ap, sym, ◌∙◌, subst}
use native.Mathlib.Nat.{mod-lt}
use native.Mathlib.Omega.{arith}
use lib.Arith.{digits_lt}
use lib.Bits.{bit_and}
use lib.Pow.{pow_pos, pow-add, shr_lt}
use Rattle.byte_field.proofs.Masked.{kept-outside}
use Rattle.byte_field.proofs.with_inside.Goals as goal

record Steps (y n s v below size : ℕ) : Type 0 where
  is : y - bit_and y ((size - 1) * below) + v % size * below ≡ y / 2 ^ (s + n) * 2 ^ (s + n) + (v % 2 ^ n * 2 ^ s + y % 2 ^ s)
  whole : y - bit_and y ((size - 1) * below) + v % size * below < 256

steps : (y n s v below size : ℕ) → s + n ≤ 8 → y < 2 ^ 8 → below ≡ 2 ^ s → size ≡ 2 ^ n → Steps y n s v below size
steps y n s v below size h b eb es =
    let turned : n + s ≡ s + n = omega arith in
    let sum : 8 - (s + n) + (s + n) ≡ 8 = omega arith in
    let kept = kept-outside y s n in
    let field : v % 2 ^ n * 2 ^ s + y % 2 ^ s < 2 ^ (s + n) =
    subst (λ (m : ℕ). v % 2 ^ n * 2 ^ s + y % 2 ^ s < m) (sym (pow-add 2 n s) ∙ ap (λ (m : ℕ). 2 ^ m) turned) (digits_lt (mod-lt v (pow_pos n)) (mod-lt y (pow_pos s))) in
    let front : y / 2 ^ (s + n) < 2 ^ (8 - (s + n)) = shr_lt (8 - (s + n)) (s + n) (subst (λ (m : ℕ). y < 2 ^ m) (sym sum) b) in
    let byte : y / 2 ^ (s + n) * 2 ^ (s + n) + (v % 2 ^ n * 2 ^ s + y % 2 ^ s) < 256 =
    subst (λ (m : ℕ). y / 2 ^ (s + n) * 2 ^ (s + n) + (v % 2 ^ n * 2 ^ s + y % 2 ^ s) < m) (sym (pow-add 2 (8 - (s + n)) (s + n)) ∙ ap (λ (m : ℕ). 2 ^ m) sum)
    (digits_lt front field) in
    rw (eb, es)
    (record { is = omega (arith, kept); whole = omega (arith, kept, byte) })

at : (c : goal.After-power-size) → Steps c.args.byte c.args.n c.args.behind
    c.args.value c.power-below.result c.power-size.result
at c =
    let a = c.args in
    steps c.args.byte a.n a.behind a.value c.power-below.result c.power-size.result
    c.requires (omega arith) c.power-below.ensures c.power-size.ensures

pub overflow_cast-result : goal.overflow_cast-result
overflow_cast-result c = record { fits = (at c).whole }

pub returns : goal.returns
returns c = (at c).is

-- `byte_field::with_front`: what goes in front and what is kept behind it make a byte. Assumes nothing.
use Prim.Native.Nat.{ℕ, ◌+◌, ◌-◌, ◌*◌, ◌%◌, ◌^◌, ◌≤◌, ◌<◌}
use mathlib.Core.Path.{◌≡◌, ap, sym, ◌∙◌, subst}
use native.Mathlib.Nat.{mod-lt}
use native.Mathlib.Omega.{arith}
use lib.Arith.{digits_lt}
use lib.Pow.{pow_pos, pow-add}
use Rattle.byte_field.proofs.with_front.Goals as goal

whole : (byte k word : ℕ) → k ≤ 8 → word % 2 ^ k * 2 ^ (8 - k) + byte % 2 ^ (8 - k) < 256
whole byte k word h =
    let e : k + (8 - k) ≡ 8 = omega arith in
    subst (λ (n : ℕ). word % 2 ^ k * 2 ^ (8 - k) + byte % 2 ^ (8 - k) < n)
    (sym (pow-add 2 k (8 - k)) ∙ ap (λ (n : ℕ). 2 ^ n) e)
    (digits_lt (mod-lt word (pow_pos k)) (mod-lt byte (pow_pos (8 - k))))

pub overflow_cast-result : goal.overflow_cast-result
overflow_cast-result c = rw (c.wide_power.ensures, c.wide_power-rest.ensures) (record { fits = whole c.args.byte c.args.k c.args.word c.requires })

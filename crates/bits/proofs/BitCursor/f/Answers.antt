-- `bits::BitCursor::f`: the field lies in the five bytes from that of its first bit on. Assumes nothing.
use Prim.Native.Nat.{ℕ, ◌+◌, ◌-◌, ◌*◌, ◌/◌, ◌%◌, ◌^◌}
use mathlib.Core.Path.{◌≡◌, ap, ◌∙◌}
use native.Mathlib.Omega.{arith}
use Rattle.bits.specs.Bits.{bit_at}
use Rattle.bits.specs.Fields.{field}
use Rattle.bits.proofs.Buffer.{bit_at_lt}
use Rattle.bits.proofs.Fields.{field-inside}
use Rattle.bits.proofs.Words.{five-field}
use Rattle.bits.proofs.BitCursor.f.Goals as goal

pub returns : goal.returns
returns c = let a = c.args in
    let g = bit_at a.bytes.now in
    let j : ℕ = 8 * (a.self.at / 8) in
    let k : ℕ = a.self.at % 8 in
    let s : ℕ = 40 - k - a.n in
    let whole : 40 ≡ k + (a.n + s) = omega arith in
    let place : j + k ≡ a.self.at = omega arith in
    record {
      value =
          c.bits_inside.ensures
          ∙ ap (λ (w : ℕ). w / 2 ^ s % 2 ^ a.n) (c.five_bytes-word.ensures.0 ∙ five-field a.bytes.now (a.self.at / 8))
          ∙ ap (λ (m : ℕ). field g j m / 2 ^ s % 2 ^ a.n) whole
          ∙ field-inside g (bit_at_lt a.bytes.now) j k a.n s
          ∙ ap (λ (i : ℕ). field g i a.n) place;
      next = omega arith;
    }

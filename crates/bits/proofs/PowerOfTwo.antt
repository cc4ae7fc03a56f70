-- The Rust's `write_ns` takes the number of bits of n - 1 for its width, clause 4.10.7 that of n. The widths differ for a power of two
-- alone: there the clause's codes are all of the shorter kind and the Rust's all of the longer, with nothing added, and the bits are equal.
-- Assumes nothing.
use Prim.Native.Nat.{ℕ, suc, ◌+◌, ◌-◌, ◌^◌, ◌≤◌, ◌<◌}
use mathlib.Core.List.{List}
use mathlib.Core.Path.{◌≡◌, ap, sym, ◌∙◌}
use native.Mathlib.Decide.{dec_lt}
use native.Mathlib.Nat.{pow-suc, add-zero}
use native.Mathlib.Omega.{arith}
use borrow.Author.Tests.{le-ltb}
use lib.Dec.{ltb}
use lib.Pow.{pow_pos}
use Rattle.laws.specs.Refusal.{choose}
use Rattle.bits.specs.Fields.{field_bits}
use Rattle.bits.specs.Ns.{bit_length, ns_bits}
use Rattle.bits.proofs.BitLength.{Length, bit_length-length, bit_length-is, bit_length-zero}
use Rattle.bits.proofs.Ns.{short-code}

-- the code of v among n symbols, for the width w
abbrev pub code_of_width : ℕ → ℕ → ℕ → List ℕ
code_of_width w n v = choose (ltb v (2 ^ w - n)) (field_bits (w - 1) v) (field_bits w (v + (2 ^ w - n)))

-- the clause's width of a power of two is one more than the Rust's
pub clause-width : (k : ℕ) → bit_length (2 ^ k) ≡ suc k
clause-width k = bit_length-is (2 ^ k) (suc k) (pow_pos k) (omega (arith, pow-suc 2 k, pow_pos k)) (omega (arith, pow-suc 2 k))

module _ (k n v : ℕ) (e : n ≡ 2 ^ k) (h : v < n) where
  -- and the two widths emit equal bits
  pub power-of-two : code_of_width k n v ≡ ns_bits n v
  power-of-two =
      let long : suc k ≡ bit_length n = sym (ap bit_length e ∙ clause-width k) in
      let none : 2 ^ k - n ≡ 0 = omega arith in
      let least : 0 ≤ v = omega arith in
      let all : v < 2 ^ suc k - n = omega (arith, pow-suc 2 k) in
      let less : suc k - 1 ≡ k = omega arith in
      rw (none, le-ltb v 0 least, add-zero v)
      (sym (short-code n v (suc k) (2 ^ suc k - n) long (ap (λ (w : ℕ). 2 ^ w - n) long) all ∙ ap (λ (w : ℕ). field_bits w v) less))

-- whatever n is, `write_ns` emits the clause's bits
pub write-ns-bits : (n v : ℕ) → v < n → code_of_width (bit_length (n - 1)) n v ≡ ns_bits n v
unfolding ns_bits
write-ns-bits n v h =
    let l : Length (n - 1) (bit_length (n - 1)) = bit_length-length (n - 1) in
    elim (dec_lt n (2 ^ bit_length (n - 1))) [
      | yes a ↦
          elim (dec_lt 0 (n - 1)) [
            | yes some ↦
                let same : bit_length n ≡ bit_length (n - 1) = bit_length-is n (bit_length (n - 1)) (omega arith) a (omega (arith, l.least some)) in
                rw same
            | no one ↦
                let nought : n - 1 ≡ 0 = omega arith in
                let width : 2 ^ bit_length (n - 1) ≡ 1 = ap (λ (x : ℕ). 2 ^ x) (ap bit_length nought ∙ bit_length-zero) in
                power-of-two (bit_length (n - 1)) n v (omega (arith, width)) h
          ]
      | no a ↦ power-of-two (bit_length (n - 1)) n v (omega (arith, l.below)) h
    ]

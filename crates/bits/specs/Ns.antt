-- The ns(n) code of clause 4.10.7 for n symbols: its bits, and what is read from a stream of bits.
-- docs/RULES.md, 'Header' and 'Reading by the standard'.
-- Assumes nothing.
use Rattle.std.specs.Prelude.{ℕ, zero, suc, ◌+◌, ◌-◌, ◌*◌, ◌/◌, ◌^◌, List, ltb, eqb}
use Rattle.laws.specs.Refusal.{choose}
use Rattle.bits.specs.Fields.{field, field_bits}

-- a number read, and how many bits were taken
pub record Taken : Type 0 where
  pub value : ℕ
  pub bits : ℕ

abbrev pub halvings : ℕ → ℕ → ℕ
halvings zero x = 0
halvings (suc k) x = let more = suc (halvings k (x / 2)) in choose (eqb x 0) 0 more

-- how often x is halved until nothing is left: FloorLog2(x) + 1
unfoldable pub bit_length : ℕ → ℕ
bit_length x = halvings x x

-- how many of n symbols have the shorter code
abbrev pub short_codes : ℕ → ℕ
short_codes n = 2 ^ bit_length n - n

unfoldable pub ns_bits : ℕ → ℕ → List ℕ
ns_bits n v =
    choose (ltb v (short_codes n))
    (field_bits (bit_length n - 1) v)
    (field_bits (bit_length n) (v + short_codes n))

-- v is f(w - 1); below the count of shorter codes it is the number, otherwise one bit more is read
unfoldable pub ns : (ℕ → ℕ) → ℕ → ℕ → Taken
ns g j n =
    let v = field g j (bit_length n - 1) in
    choose (ltb v (short_codes n))
    (record { value = v; bits = bit_length n - 1 })
    (record { value = 2 * v - short_codes n + g (j + (bit_length n - 1)); bits = bit_length n })

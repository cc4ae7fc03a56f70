-- Fields put over bytes of ones and over bytes of zeros, computed: the position, the width and the value, and the six bytes that are left.
-- Assumes nothing.
use Prim.Native.Nat.{ℕ}
use mathlib.Core.List.{List, [], ◌∷◌}
use mathlib.Core.Path.{◌≡◌, refl}
use lib.ListN.{replicate}
use Rattle.bits.specs.Bits.{put_bit, put_bits}
use Rattle.bits.specs.Fields.{field_bits}

abbrev over_ones : ℕ → ℕ → ℕ → List ℕ
over_ones at width value = put_bits (replicate 6 0xFF) at (field_bits width value)

abbrev over_zeros : ℕ → ℕ → ℕ → List ℕ
over_zeros at width value = put_bits (replicate 6 0x00) at (field_bits width value)

pub record Worked : Type 0 where
  pub across_two_bytes : over_ones 3 7 0x55 ≡ 0xF5 ∷ 0x7F ∷ 0xFF ∷ 0xFF ∷ 0xFF ∷ 0xFF ∷ []
  pub four_bytes : over_ones 0 32 0xDEADBEEF ≡ 0xDE ∷ 0xAD ∷ 0xBE ∷ 0xEF ∷ 0xFF ∷ 0xFF ∷ []
  pub across_five_bytes : over_ones 7 32 0x80000001 ≡ 0xFF ∷ 0x00 ∷ 0x00 ∷ 0x00 ∷ 0x03 ∷ 0xFF ∷ []
  pub no_bit : over_ones 5 0 9 ≡ replicate 6 0xFF
  pub low_bit_alone : over_ones 1 1 2 ≡ 0xBF ∷ 0xFF ∷ 0xFF ∷ 0xFF ∷ 0xFF ∷ 0xFF ∷ []
  pub zeros_across_two : over_zeros 3 7 0x55 ≡ 0x15 ∷ 0x40 ∷ 0x00 ∷ 0x00 ∷ 0x00 ∷ 0x00 ∷ []
  pub zeros_across_five : over_zeros 7 32 0x80000001 ≡ 0x01 ∷ 0x00 ∷ 0x00 ∷ 0x00 ∷ 0x02 ∷ 0x00 ∷ []
  pub high_bits_left_out : over_zeros 6 3 0xFF ≡ 0x03 ∷ 0x80 ∷ 0x00 ∷ 0x00 ∷ 0x00 ∷ 0x00 ∷ []
  pub at_the_end_of_a_byte : over_zeros 15 2 7 ≡ 0x00 ∷ 0x01 ∷ 0x80 ∷ 0x00 ∷ 0x00 ∷ 0x00 ∷ []

pub worked : Worked
unfolding put_bit
worked =
    record {
      across_two_bytes = refl;
      four_bytes = refl;
      across_five_bytes = refl;
      no_bit = refl;
      low_bit_alone = refl;
      zeros_across_two = refl;
      zeros_across_five = refl;
      high_bits_left_out = refl;
      at_the_end_of_a_byte = refl;
    }

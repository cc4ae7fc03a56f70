-- The worked values of docs/RULES.md that are marked *: the quantizations, the coefficients' codes, the header of 17 bits from each start on, and rows 14 and 3; and four of our own.
-- Assumes nothing.
use Prim.Native.Nat.{ℕ}
use mathlib.Core.List.{List, [], ◌∷◌, map}
use mathlib.Core.Path.{◌≡◌, refl}
use lib.IntN.{ℤ, pos, negsuc}
use lib.ListN.{replicate}
use Rattle.grid.specs.Grid.{quantized, quantize, nearest_ordinal}
use Rattle.grid.specs.Symbols.{symbol_of, place_of}
use Rattle.bits.specs.Bits.{put_bit}
use Rattle.bits.specs.Ns.{bit_length, ns_bits}
use Rattle.subexp.specs.Ladder.{subexp_bits}
use Rattle.subexp.specs.Recenter.{code_of}
use Rattle.models.specs.Models.{types_over, models_wrong, model_wrong, slot_wrong, filler, priors_out}
use Rattle.header.specs.Coefficient.{coefficient_bits}
use Rattle.header.specs.Writing.{header_bits, reference_bits, model_bits, write_refusal, written, header_after}

-- six identities
abbrev pub identities : List ℤ
identities =
    pos 0 ∷ pos 0 ∷ pos 65536 ∷ pos 0 ∷ pos 0 ∷ pos 65536
    ∷ pos 0 ∷ pos 0 ∷ pos 65536 ∷ pos 0 ∷ pos 0 ∷ pos 65536
    ∷ pos 0 ∷ pos 0 ∷ pos 65536 ∷ pos 0 ∷ pos 0 ∷ pos 65536
    ∷ pos 0 ∷ pos 0 ∷ pos 65536 ∷ pos 0 ∷ pos 0 ∷ pos 65536
    ∷ pos 0 ∷ pos 0 ∷ pos 65536 ∷ pos 0 ∷ pos 0 ∷ pos 65536
    ∷ pos 0 ∷ pos 0 ∷ pos 65536 ∷ pos 0 ∷ pos 0 ∷ pos 65536 ∷ []

abbrev pub prior : List ℤ
prior = pos 0 ∷ pos 0 ∷ pos 65536 ∷ pos 0 ∷ pos 0 ∷ pos 65536 ∷ identities

-- reference 1 TRANSLATION (8192, −8192), the rest identity
abbrev types : List ℕ
types = 1 ∷ 0 ∷ 0 ∷ 0 ∷ 0 ∷ 0 ∷ 0 ∷ []

abbrev params : List ℤ
params = pos 8192 ∷ negsuc 8191 ∷ pos 65536 ∷ pos 0 ∷ pos 0 ∷ pos 65536 ∷ identities

abbrev ones : List ℕ
ones = 0xFF ∷ 0xFF ∷ 0xFF ∷ 0xFF ∷ []

pub record Worked : Type 0 where
  -- slot 2
  pub centre : quantized 3 1 2 (pos 65536) ≡ pos 65536
  pub tie_above : quantized 3 1 2 (pos 65537) ≡ pos 65538
  pub tie_below : quantized 3 1 2 (pos 65535) ≡ pos 65534
  pub beyond_the_last : quantized 3 1 2 (pos 73729) ≡ pos 73728
  pub least : quantized 3 1 2 (negsuc 2147483647) ≡ pos 57344
  -- TRANSLATION slot 0, high
  pub below_half : quantized 1 1 0 (pos 4095) ≡ pos 0
  pub half : quantized 1 1 0 (pos 4096) ≡ pos 8192
  pub negative_half : quantized 1 1 0 (negsuc 4095) ≡ negsuc 8191
  -- high TRANSLATION, prior 0: ordinals 0, 1, −1, 4, 512
  pub ordinal_0 : coefficient_bits 1 1 0 (pos 0) (pos 0) ≡ 0 ∷ 0 ∷ 0 ∷ 0 ∷ []
  pub ordinal_1 : coefficient_bits 1 1 0 (pos 8192) (pos 0) ≡ 0 ∷ 0 ∷ 1 ∷ 0 ∷ []
  pub ordinal_less_1 : coefficient_bits 1 1 0 (negsuc 8191) (pos 0) ≡ 0 ∷ 0 ∷ 0 ∷ 1 ∷ []
  pub ordinal_4 : coefficient_bits 1 1 0 (pos 32768) (pos 0) ≡ 1 ∷ 0 ∷ 0 ∷ 0 ∷ 0 ∷ []
  pub ordinal_512 : coefficient_bits 1 1 0 (pos 4194304) (pos 0) ≡ replicate 17 1
  -- prior 4194304, ordinal 511
  pub far_prior : coefficient_bits 1 1 0 (pos 4186112) (pos 4194304) ≡ 0 ∷ 0 ∷ 0 ∷ 1 ∷ []
  -- slot 3, prior 0, ordinal 4096
  pub last_of_slot_3 : coefficient_bits 3 1 3 (pos 8192) (pos 0) ≡ replicate 23 1
  -- two that docs/RULES.md doesn't list, chosen so that the prior isn't on the grid and so that the slot's centre is 65536:
  -- high TRANSLATION, prior 4096, which is halfway to ordinal 1 and rounds down to 0; slots 2 and 5, whose prior 65536 stands at ordinal 0
  pub between_two : coefficient_bits 1 1 0 (pos 8192) (pos 4096) ≡ 0 ∷ 0 ∷ 1 ∷ 0 ∷ []
  pub below_nought : coefficient_bits 1 1 0 (pos 0) (negsuc 0) ≡ 0 ∷ 0 ∷ 1 ∷ 0 ∷ []
  pub centred_2 : coefficient_bits 3 1 2 (pos 65538) (pos 65536) ≡ 0 ∷ 0 ∷ 1 ∷ 0 ∷ []
  pub centred_5 : coefficient_bits 3 1 5 (pos 65536) (pos 65536) ≡ 0 ∷ 0 ∷ 0 ∷ 0 ∷ []
  -- high, prior identity: 17 bits, A4 20 00
  pub header-bits : written 0 types params 1 prior 3 ≡ record { refusal = 0; bits = 17 }
  pub header-bytes : header_after 0 types params 1 prior (255 ∷ 255 ∷ 255 ∷ []) ≡ 0xA4 ∷ 0x20 ∷ 0x00 ∷ []
  -- from each bit of a filled first byte on
  pub from_each_bit : map (λ start. header_after start types params 1 prior ones) (0 ∷ 1 ∷ 2 ∷ 3 ∷ 4 ∷ 5 ∷ 6 ∷ 7 ∷ [])
      ≡ (0xA4 ∷ 0x20 ∷ 0x00 ∷ 0xFF ∷ [])
      ∷ (0xD2 ∷ 0x10 ∷ 0x00 ∷ 0xFF ∷ [])
      ∷ (0xE9 ∷ 0x08 ∷ 0x00 ∷ 0xFF ∷ [])
      ∷ (0xF4 ∷ 0x84 ∷ 0x00 ∷ 0xFF ∷ [])
      ∷ (0xFA ∷ 0x42 ∷ 0x00 ∷ 0xFF ∷ [])
      ∷ (0xFD ∷ 0x21 ∷ 0x00 ∷ 0xFF ∷ [])
      ∷ (0xFE ∷ 0x90 ∷ 0x80 ∷ 0xFF ∷ [])
      ∷ (0xFF ∷ 0x48 ∷ 0x40 ∷ 0xFF ∷ [])
      ∷ []
  pub count_from_bit_7 : written 7 types params 1 prior 3 ≡ record { refusal = 0; bits = 17 }
  -- seven identities
  pub identities_from_bit_0 : header_after 0 (replicate 7 0) prior 1 prior (0xFF ∷ 0xFF ∷ []) ≡ 0x00 ∷ 0xFF ∷ []
  pub identities_from_bit_1 : header_after 1 (replicate 7 0) prior 1 prior (0xFF ∷ 0xFF ∷ []) ≡ 0x80 ∷ 0xFF ∷ []
  pub identities_from_bit_2 : header_after 2 (replicate 7 0) prior 1 prior (0xFF ∷ 0xFF ∷ []) ≡ 0xC0 ∷ 0x00 ∷ []
  pub a_byte_short : written 2 (replicate 7 0) prior 1 prior 1 ≡ record { refusal = 3; bits = 0 }
  -- row 14: a flag comes first, a model behind
  pub no_such_start : written 8 types params 1 prior 3 ≡ record { refusal = 14; bits = 0 }
  pub flag_first : written 8 types params 2 prior 3 ≡ record { refusal = 4; bits = 0 }
  pub model_behind : written 8 (replicate 7 0) params 1 prior 3 ≡ record { refusal = 14; bits = 0 }

pub worked : Worked
unfolding quantize nearest_ordinal symbol_of place_of put_bit bit_length ns_bits subexp_bits code_of types_over models_wrong model_wrong slot_wrong filler priors_out
    coefficient_bits header_bits reference_bits model_bits write_refusal written header_after
worked =
    record {
      centre = refl;
      tie_above = refl;
      tie_below = refl;
      beyond_the_last = refl;
      least = refl;
      below_half = refl;
      half = refl;
      negative_half = refl;
      ordinal_0 = refl;
      ordinal_1 = refl;
      ordinal_less_1 = refl;
      ordinal_4 = refl;
      ordinal_512 = refl;
      far_prior = refl;
      last_of_slot_3 = refl;
      between_two = refl;
      below_nought = refl;
      centred_2 = refl;
      centred_5 = refl;
      header-bits = refl;
      header-bytes = refl;
      from_each_bit = refl;
      count_from_bit_7 = refl;
      identities_from_bit_0 = refl;
      identities_from_bit_1 = refl;
      identities_from_bit_2 = refl;
      a_byte_short = refl;
      no_such_start = refl;
      flag_first = refl;
      model_behind = refl;
    }

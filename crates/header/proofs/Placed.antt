-- A list of bits written at any position and read there: the bits are there, those before are as they were, up to the end of the last byte there are zeros,
-- and the bytes behind are as they were. The base is position 0.
-- Assumes nothing.
use Prim.Native.Nat.{ℕ, ◌+◌, ◌*◌, ◌≤◌, ◌<◌}
use mathlib.Core.List.{List, ◌++◌}
use mathlib.Core.Path.{◌≡◌}
use native.Mathlib.Omega.{arith}
use lib.ListN.{length, drop, length-append}
use Rattle.bits.specs.Bits.{bit_at}
use Rattle.bits.specs.Fields.{pad_bits, padding}
use Rattle.bits.proofs.Held.{Holds, AreBits}
use Rattle.bits.proofs.Buffer.{holds-front, holds-back, bits-append, put_bits-holds, put_bits-before, put_bits-bytes, length-put_bits}
use Rattle.bits.proofs.Fields.{field_bits-are-bits, length-field_bits}
use Rattle.header.specs.Writing.{bits_placed, bytes_for}

-- bits at a position of bytes that were `old`
pub record Placed (p : ℕ) (bits old new : List ℕ) : Type 0 where
  pub there : Holds (bit_at new) p bits
  pub before : (i : ℕ) → i < p → bit_at new i ≡ bit_at old i
  pub padded : Holds (bit_at new) (p + length bits) (pad_bits (p + length bits))
  pub behind : drop (bytes_for p (length bits)) new ≡ drop (bytes_for p (length bits)) old
  pub long : length new ≡ length old

module _ (p : ℕ) (bits old : List ℕ) (are : AreBits bits) (room : bytes_for p (length bits) ≤ length old) where
  abbrev pad : List ℕ
  pad = pad_bits (p + length bits)

  all-bits : AreBits (bits ++ pad)
  all-bits = bits-append bits pad are (field_bits-are-bits (padding (p + length bits)) 0)

  ends : p + length (bits ++ pad) ≡ 8 * bytes_for p (length bits)
  ends = omega (arith, length-append bits pad, length-field_bits (padding (p + length bits)) 0)

  all_there : Holds (bit_at (bits_placed p bits old)) p (bits ++ pad)
  all_there = put_bits-holds old p (bits ++ pad) all-bits (omega (arith, ends))

  pub placed : Placed p bits old (bits_placed p bits old)
  placed =
      record {
        there = holds-front (bit_at (bits_placed p bits old)) p bits pad all_there;
        before = λ i l. put_bits-before old p (bits ++ pad) i all-bits (omega (arith, ends)) l;
        padded = holds-back (bit_at (bits_placed p bits old)) p bits pad all_there;
        behind = put_bits-bytes old p (bits ++ pad) (bytes_for p (length bits)) (omega (arith, ends));
        long = length-put_bits old p (bits ++ pad);
      }

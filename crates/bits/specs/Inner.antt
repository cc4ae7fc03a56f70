-- What the functions below the public calls ask and answer; no public contract cites it.
-- Assumes nothing.
use Rattle.std.specs.Prelude.{ℕ, ◌+◌, ◌*◌, ◌^◌, ◌≤◌, ◌<◌, List, ◌≡◌, length}
use Rattle.bits.specs.declared.Field.{Field}
use Rattle.bits.specs.declared.Read.{Read}
use Rattle.bits.specs.declared.NsWidth.{NsWidth}
use Rattle.bits.specs.Bits.{put_bits}
use Rattle.bits.specs.Fields.{field_bits}
use Rattle.bits.specs.Ns.{bit_length, short_codes}

-- n bits from position j on lie in the buffer, and their positions are numbers of the machine
pub record Room (l : List ℕ) (j n : ℕ) : Type 0 where
  pub within : j + n ≤ 8 * length l
  pub small : j + n < 2 ^ 64

-- the bits bs were put at position j of l, which became l', and position j' is behind them
pub record Wrote (l : List ℕ) (j : ℕ) (bs l' : List ℕ) (j' : ℕ) : Type 0 where
  pub at : j' ≡ j + length bs
  pub buffer : l' ≡ put_bits l j bs

-- the bits bs as a field, whose number has no bit above its width
pub record FieldIs (r : Field) (bs : List ℕ) : Type 0 where
  pub bits : field_bits r.n r.value ≡ bs
  pub low : r.value < 2 ^ r.n

-- a reading gave the number v, and the cursor behind it stands at j
pub record ReadIs (r : Read) (v j : ℕ) : Type 0 where
  pub value : r.value ≡ v
  pub next : r.next.at ≡ j

-- what clause 4.10.7 computes of n symbols, with the bounds that the code's arithmetic needs
pub record NsWidthIs (r : NsWidth) (n : ℕ) : Type 0 where
  pub w : r.w ≡ bit_length n
  pub m : r.m ≡ short_codes n
  pub least : 0 < r.w
  pub most : r.w ≤ 17
  pub few : r.m ≤ 131072

-- `bits::BitCursor::write_bit`: byte at / 8 takes the bit at weight 7 - at % 8, as in the definition. Assumes nothing.
use mathlib.Core.Path.{refl}
use Rattle.bits.specs.Bits.{put_bit}
use Rattle.bits.proofs.BitCursor.write_bit.Goals as goal

pub returns : goal.returns
unfolding put_bit
returns c = record { at = refl; buffer = rw c.with_bit.ensures }

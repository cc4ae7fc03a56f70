-- The global motion parameters of a frame of either kind: its bits are those of its coded references, one behind the other, and a key frame has none.
-- docs/RULES.md, 'Key frames'; clause 5.9.24, where FrameIsIntra holds.
-- Assumes nothing.
use Rattle.std.specs.Prelude.{ℕ, ◌-◌, ◌*◌, Bool, true, false, List, [], ◌∷◌, ◌++◌, ltb, ℤ, length, get_or, replicate}
use Rattle.laws.specs.Call.{answered, left}
use Rattle.laws.specs.Loops.{sum}
use Rattle.laws.specs.Refusal.{row, judge}
use Rattle.bits.specs.Bits.{bit_at}
use Rattle.header.specs.Count.{model_count}
use Rattle.header.specs.Reading.{ReadModels, references_read}
use Rattle.header.specs.Writing.{references_bits, bits_placed, write_refusal, not_written}
use Rattle.header.specs.declared.Written.{Written}
use Rattle.header_read.specs.Called.{read_refusal, no_models, the_models}
use Rattle.header_read.specs.declared.Models.{Models}
use Rattle.key_frame.specs.Key.{identities, key_refusal}

-- how many of the seven references are coded, from the first on
abbrev pub coded : Bool → ℕ
coded true = 0
coded false = 7

-- ---- the bits

unfoldable pub frame_bits : Bool → List ℕ → List ℤ → ℕ → List ℤ → List ℕ
frame_bits intra types ps flag qs = references_bits flag ps qs types (coded intra) 0

-- how many they are
unfoldable pub frame_count : Bool → List ℕ → List ℤ → ℕ → List ℤ → ℕ
frame_count intra types ps flag qs = sum (λ r. model_count flag ps qs (get_or types r 0) (6 * r)) (coded intra)

-- ---- what the standard reads

-- the coded references from position `at` on, then the others
unfoldable pub frame_read : Bool → List ℕ → ℕ → ℕ → List ℤ → ReadModels
frame_read intra header at flag qs =
    let t : ReadModels = references_read (bit_at header) flag qs (coded intra) 0 at in
    record { types = t.types ++ replicate (7 - coded intra) 0; params = t.params ++ identities (7 - coded intra); bits = t.bits }

-- ---- the call that writes

abbrev pub frame_refusal : Bool → ℕ → List ℕ → List ℤ → ℕ → List ℤ → ℕ → ℕ
frame_refusal true start types ps flag qs room = key_refusal start types ps flag
frame_refusal false start types ps flag qs room = write_refusal start types ps flag qs room

unfoldable pub frame_written : Bool → ℕ → List ℕ → List ℤ → ℕ → List ℤ → ℕ → Written
frame_written intra start types ps flag qs room =
    answered not_written (frame_refusal intra start types ps flag qs room) (record { refusal = 0; bits = length (frame_bits intra types ps flag qs) })

-- where no reference is coded, no byte is touched
abbrev pub frame_placed : Bool → ℕ → List ℕ → List ℕ → List ℕ
frame_placed true start bits old = old
frame_placed false start bits old = bits_placed start bits old

-- the lent bytes at exit
unfoldable pub frame_after : Bool → ℕ → List ℕ → List ℤ → ℕ → List ℤ → List ℕ → List ℕ
frame_after intra start types ps flag qs header =
    left (frame_refusal intra start types ps flag qs (length header)) (frame_placed intra start (frame_bits intra types ps flag qs) header) header

-- ---- the call that reads

abbrev pub frame_read_refusal : Bool → List ℕ → ℕ → ℕ → List ℤ → ℕ
frame_read_refusal true header at flag qs = judge (row 4 (ltb 1 flag) ∷ [])
frame_read_refusal false header at flag qs = read_refusal header at flag qs

unfoldable pub frame_models : Bool → List ℕ → ℕ → ℕ → List ℤ → Models
frame_models intra header at flag qs = answered no_models (frame_read_refusal intra header at flag qs) (the_models (frame_read intra header at flag qs))

-- An inter frame is what `header` writes and `header_read` reads: seven references are coded, and none is left for an identity.
-- Assumes nothing.
use Prim.Native.Nat.{ℕ}
use mathlib.Core.Bool.{false}
use mathlib.Core.List.{List, [], ◌++◌, append-nil}
use mathlib.Core.Path.{◌≡◌, refl, ap}
use lib.IntN.{ℤ}
use lib.ListN.{length}
use Rattle.laws.specs.Call.{answered, left}
use Rattle.bits.specs.Bits.{bit_at}
use Rattle.header.specs.Count.{header_count}
use Rattle.header.specs.Reading.{ReadModels, references_read, models_read}
use Rattle.header.specs.Writing.{header_bits, bits_placed, write_refusal, not_written, written, header_after}
use Rattle.header_read.specs.Called.{read_refusal, no_models, the_models, models}
use Rattle.frame_header.specs.Frame.{frame_bits, frame_count, frame_read, frame_written, frame_after, frame_models}

module _ (types : List ℕ) (ps : List ℤ) (flag : ℕ) (qs : List ℤ) where
  pub inter_bits : frame_bits false types ps flag qs ≡ header_bits types ps flag qs
  unfolding frame_bits header_bits
  inter_bits = refl

  pub inter-count : frame_count false types ps flag qs ≡ header_count types ps flag qs
  unfolding frame_count header_count
  inter-count = refl

  pub inter-written : (start room : ℕ) → frame_written false start types ps flag qs room ≡ written start types ps flag qs room
  unfolding frame_written written
  inter-written start room =
      ap (λ (b : List ℕ). answered not_written (write_refusal start types ps flag qs room) (record { refusal = 0; bits = length b })) inter_bits

  pub inter-after : (start : ℕ) (header : List ℕ) → frame_after false start types ps flag qs header ≡ header_after start types ps flag qs header
  unfolding frame_after header_after
  inter-after start header = ap (λ (b : List ℕ). left (write_refusal start types ps flag qs (length header)) (bits_placed start b header) header) inter_bits

-- nothing behind the seven
none-behind : (t : ReadModels) → record { types = t.types ++ []; params = t.params ++ []; bits = t.bits } ≡ t
none-behind t = rw (append-nil t.types, append-nil t.params)

module _ (header : List ℕ) (at flag : ℕ) (qs : List ℤ) where
  pub inter-read : frame_read false header at flag qs ≡ models_read header at flag qs
  unfolding frame_read models_read
  inter-read = none-behind (references_read (bit_at header) flag qs 7 0 at)

  pub inter-models : frame_models false header at flag qs ≡ models header at flag qs
  unfolding frame_models models
  inter-models = ap (λ (t : ReadModels). answered no_models (read_refusal header at flag qs) (the_models t)) inter-read

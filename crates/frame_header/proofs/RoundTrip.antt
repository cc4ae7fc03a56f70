-- What was written of a frame of either kind is read back, with its count: one law over how many references are coded. A key frame codes none.
-- Assumes nothing.
use Prim.Native.Nat.{ℕ, ◌-◌, ◌≤◌}
use mathlib.Core.Bool.{Bool, true, false}
use mathlib.Core.List.{List, ◌++◌}
use mathlib.Core.Path.{◌≡◌, ap, sym, ◌∙◌}
use native.Mathlib.Omega.{arith}
use borrow.Author.Tests.{le-ltb}
use lib.IntN.{ℤ}
use lib.ListN.{length, replicate}
use Rattle.laws.proofs.Call.{answered-accepted}
use Rattle.bits.specs.Bits.{bit_at}
use Rattle.bits.proofs.Held.{Holds}
use Rattle.bits.proofs.Buffer.{bit_at_lt}
use Rattle.header.specs.Reading.{ReadModels}
use Rattle.header.specs.Writing.{not_written}
use Rattle.header.proofs.Count.{first_count}
use Rattle.header.proofs.RoundTrip.{references-back}
use Rattle.header_read.specs.Called.{the_models, models}
use Rattle.header_read.proofs.RoundTrip as inter
use Rattle.frame_header.specs.Frame.{coded, frame_bits, frame_count, frame_read, frame_refusal, frame_written, frame_after, frame_models}
use Rattle.key_frame.specs.Key.{identities}
use Rattle.frame_header.proofs.Accepted.{Carried, carried, flag-low}
use Rattle.frame_header.proofs.Inter.{inter_bits, inter-after, inter-models}

module _ (types : List ℕ) (ps : List ℤ) (flag : ℕ) (qs : List ℤ) where
  -- where a frame's bits stand, its models are read
  pub frame_back : (intra : Bool) (header : List ℕ) (at : ℕ) → Carried (coded intra) types ps flag qs → Holds (bit_at header) at (frame_bits intra types ps flag qs)
      → frame_read intra header at flag qs ≡ record { types = types; params = ps; bits = length (frame_bits intra types ps flag qs) }
  unfolding frame_read frame_bits
  frame_back intra header at k h =
      ap (λ (t : ReadModels). record { types = t.types ++ replicate (7 - coded intra) 0; params = t.params ++ identities (7 - coded intra); bits = t.bits })
      (references-back types ps flag qs (coded intra) k.front (bit_at header) (bit_at_lt header) (coded intra) 0 at (omega arith) h)
      ∙ rw (k.other-types, k.other_models)

  -- as many bits as its coded references take
  pub frame-count : (intra : Bool) → length (frame_bits intra types ps flag qs) ≡ frame_count intra types ps flag qs
  unfolding frame_bits frame_count
  frame-count intra = first_count types ps flag qs (coded intra)

  -- a key frame's call gives what is read where its flag passes
  key-called : (header : List ℕ) (at : ℕ) → flag ≤ 1 → frame_models true header at flag qs ≡ the_models (frame_read true header at flag qs)
  unfolding frame_models
  key-called header at l = rw (le-ltb 1 flag l)

  no-bits-held : (header : List ℕ) (at : ℕ) → Holds (bit_at header) at (frame_bits true types ps flag qs)
  unfolding frame_bits
  no-bits-held header at = tt

  module _ (start : ℕ) (old : List ℕ) where
    -- an accepted writing is read back by the call at its start: the models written, and as many bits as were written
    pub accepted-read : (intra : Bool) → frame_refusal intra start types ps flag qs (length old) ≡ 0
        → frame_models intra (frame_after intra start types ps flag qs old) start flag qs
        ≡ record { refusal = 0; types = types; params = ps; bits = length (frame_bits intra types ps flag qs) }
    accepted-read true e =
        let bytes : List ℕ = frame_after true start types ps flag qs old in
        key-called bytes start (flag-low types ps flag qs start (length old) true e)
        ∙ ap the_models (frame_back true bytes start (carried types ps flag qs start (length old) true e) (no-bits-held bytes start))
    accepted-read false e =
        inter-models (frame_after false start types ps flag qs old) start flag qs
        ∙ ap (λ (bytes : List ℕ). models bytes start flag qs) (inter-after types ps flag qs start old)
        ∙ inter.accepted-read start types ps flag qs old e
        ∙ ap (λ (bits : List ℕ). record { refusal = 0; types = types; params = ps; bits = length bits }) (sym (inter_bits types ps flag qs))

    pub bits-counted : (intra : Bool) → frame_refusal intra start types ps flag qs (length old) ≡ 0
        → frame_written intra start types ps flag qs (length old) ≡ record { refusal = 0; bits = frame_count intra types ps flag qs }
    unfolding frame_written
    bits-counted intra e =
        answered-accepted not_written (frame_refusal intra start types ps flag qs (length old)) _ e
        ∙ ap (λ (n : ℕ). record { refusal = 0; bits = n }) (frame-count intra)

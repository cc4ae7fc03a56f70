-- What was written is read back by the call, at the bit where its writing began; and what was read, written there again, leaves the bytes.
-- Assumes nothing.
use Prim.Native.Nat.{ℕ, ◌+◌, ◌-◌, ◌*◌, ◌/◌, ◌%◌, ◌≤◌, ◌<◌}
use mathlib.Core.List.{List, [], ◌∷◌, ◌++◌}
use mathlib.Core.Path.{◌≡◌, refl, ap, sym, ◌∙◌}
use native.Mathlib.Omega.{arith}
use borrow.Author.Tests.{le-ltb}
use lib.IntN.{ℤ}
use lib.ListN.{length, get_or, set, take}
use lib.Seq.{set-get_or}
use Rattle.bits.specs.Bits.{with_bit, bit_at, put_bit, put_bits}
use Rattle.bits.proofs.Held.{Holds}
use Rattle.bits.specs.Fields.{pad_bits}
use Rattle.bits.proofs.Buffer.{holds-join, length-put_bits}
use Rattle.bits.proofs.Byte.{parts}
use Rattle.header.specs.Reading.{ReadModels, models_read}
use Rattle.header.specs.Count.{header_count}
use Rattle.header.specs.Writing.{header_bits, bits_placed, bytes_for, write_refusal, written, header_after}
use Rattle.header.proofs.Accepted.{accepted, answer-written, bytes-written}
use Rattle.header.proofs.Count.{header-count}
use Rattle.header.proofs.RoundTrip.{Writable, round_trip}
use Rattle.header_read.specs.Called.{no_models, models}
use Rattle.header_read.specs.Inner.{within, PriorsReady}
use Rattle.header_read.proofs.Answers.{read-or-ended}
use Rattle.header_read.proofs.Cut.{cut}
use Rattle.header_read.proofs.Rewritten.{Again, rewritten}
use Rattle.header_read.proofs.Valid.{all-priors}

-- ---- written, then read

module _ (types : List ℕ) (ps : List ℤ) (flag : ℕ) (qs : List ℤ) (w : Writable types ps flag qs) (f : flag ≤ 1) (start : ℕ) (old : List ℕ)
    (room : bytes_for start (length (header_bits types ps flag qs)) ≤ length old) where
  ready : PriorsReady qs
  ready = record { places = w.priors; within = w.within }

  pub written_read : models (bits_placed start (header_bits types ps flag qs) old) start flag qs ≡ record { refusal = 0; types = types; params = ps; bits = length (header_bits types ps flag qs) }
  written_read =
      let bs : List ℕ = header_bits types ps flag qs in
      let bytes : List ℕ = bits_placed start bs old in
      let long : length bytes ≡ length old = length-put_bits old start (bs ++ pad_bits (start + length bs)) in
      let e : models_read bytes start flag qs ≡ record { types = types; params = ps; bits = length bs } = round_trip types ps flag qs w start old room in
      sym (read-or-ended bytes start flag qs f ready)
      ∙ ap (within bytes start) e
      ∙ rw (le-ltb (8 * length (bits_placed start (header_bits types ps flag qs) old)) (start + length (header_bits types ps flag qs)) (omega (arith, long)))

  -- cut short of its bytes
  pub written-cut : (n : ℕ) → n < bytes_for start (length (header_bits types ps flag qs)) → models (take n (bits_placed start (header_bits types ps flag qs) old)) start flag qs ≡ no_models 9
  written-cut n h =
      let e : (models_read (bits_placed start (header_bits types ps flag qs) old) start flag qs).bits ≡ length (header_bits types ps flag qs) =
      ap (λ (t : ReadModels). t.bits) (round_trip types ps flag qs w start old room) in
      cut (bits_placed start (header_bits types ps flag qs) old) start flag qs ready n f (omega (arith, e))

-- an accepted writing from `start` on is read there: the models written, as many bits as were written, and these are counted
module _ (start : ℕ) (types : List ℕ) (ps : List ℤ) (flag : ℕ) (qs : List ℤ) (old : List ℕ) (e : write_refusal start types ps flag qs (length old) ≡ 0) where
  pub accepted-read : models (header_after start types ps flag qs old) start flag qs ≡ record { refusal = 0; types = types; params = ps; bits = length (header_bits types ps flag qs) }
  accepted-read =
      let a = accepted types ps flag qs start (length old) e in
      ap (λ (l : List ℕ). models l start flag qs) (bytes-written types ps flag qs start old e) ∙ written_read types ps flag qs a.writable a.flagged start old a.roomy

  pub bits-counted : written start types ps flag qs (length old) ≡ record { refusal = 0; bits = header_count types ps flag qs }
  bits-counted = answer-written types ps flag qs start (length old) e ∙ ap (λ (n : ℕ). record { refusal = 0; bits = n }) (header-count types ps flag qs)

-- ---- read, then written

-- a bit put where it stands
put_bit-again : (l : List ℕ) (j b : ℕ) → bit_at l j ≡ b → put_bit l j b ≡ l
unfolding bit_at put_bit
put_bit-again l j b e =
    ap (λ (x : ℕ). set l (j / 8) x)
    (ap (λ (x : ℕ). with_bit (get_or l (j / 8) 0) (7 - j % 8) x) (sym e) ∙ parts (get_or l (j / 8) 0) (7 - j % 8))
    ∙ set-get_or l (j / 8) 0

put_bits-again : (l : List ℕ) (j : ℕ) (bs : List ℕ) → Holds (bit_at l) j bs → put_bits l j bs ≡ l
put_bits-again l j [] h = refl
put_bits-again l j (b ∷ bs) h = rw (put_bit-again l j b h.0) (put_bits-again l (j + 1) bs h.1)

-- where the bits behind the header are the zeros that the writer puts there, the same bytes
pub read-written : (header : List ℕ) (at flag : ℕ) (qs : List ℤ) → PriorsReady qs
    → Holds (bit_at header) (at + (models_read header at flag qs).bits) (pad_bits (at + (models_read header at flag qs).bits))
    → bits_placed at (header_bits (models_read header at flag qs).types (models_read header at flag qs).params flag qs) header ≡ header
read-written header at flag qs p h =
    let t : ReadModels = models_read header at flag qs in
    let bs : List ℕ = header_bits t.types t.params flag qs in
    let a : Again (bit_at header) at bs t.bits = rewritten header at flag qs (all-priors qs p.places p.within) in
    let e : length bs ≡ t.bits = a.count in
    put_bits-again header at (bs ++ pad_bits (at + length bs))
    (holds-join (bit_at header) at bs (pad_bits (at + length bs)) a.holds (rw e h))

-- A header put together on a page of its own and laid onto the lent bytes is the header put there: the page's first byte has the bits before the start,
-- and the zeros behind the header's last bit fill its last byte.
-- Assumes nothing.
use Prim.Native.Nat.{ℕ, zero, suc, ◌+◌, ◌*◌, ◌/◌, ◌^◌, ◌≤◌, ◌<◌}
use mathlib.Core.List.{List, ◌++◌}
use mathlib.Core.Path.{◌≡◌, ap, sym, ◌∙◌}
use native.Mathlib.Omega.{arith}
use lib.Dec.{lit<}
use lib.ListN.{length, take, drop, replicate, length-append}
use Rattle.std.proofs.lemmas.List.{length-take-le}
use Rattle.laws.specs.Buffer.{onto}
use Rattle.bits.specs.Bits.{put_bits}
use Rattle.bits.specs.Fields.{pad_bits, padding}
use Rattle.bits.specs.Inner.{Room, Wrote}
use Rattle.bits.proofs.Alike.{Bytes, laid-front, alike-first}
use Rattle.bits.proofs.Buffer.{put_bits-append, wrote-length, bits-append}
use Rattle.bits.proofs.Fields.{length-field_bits, field_bits-are-bits}
use Rattle.bits.proofs.Held.{AreBits}
use Rattle.header.specs.Inner.{page_of, Begins}
use Rattle.header.specs.Writing.{bytes_for, bits_placed}

zero-bytes : (n : ℕ) → Bytes (replicate n 0)
zero-bytes zero i = lit< tt
zero-bytes (suc n) zero = lit< tt
zero-bytes (suc n) (suc i) = zero-bytes n i

page-bytes : (first : ℕ) → first < 2 ^ 8 → Bytes (page_of first)
page-bytes first h zero = h
page-bytes first h (suc i) = zero-bytes 124 i

module _ (start before : ℕ) (old : List ℕ) (b : Begins start before old) (xs : List ℕ) (few : length xs ≤ 987) (roomy : bytes_for start (length xs) ≤ length old) (page : List ℕ)
    (fresh : page ≡ page_of before) (z : ℕ) (e : z ≡ start) where
  paged : length page ≡ 125
  paged = ap length fresh

  -- the references' bits have room on the page
  pub page-room : Room page z (length xs)
  page-room = record { within = omega (arith, b.low, paged); small = omega (arith, b.low) }

  module _ (p : List ℕ) (j : ℕ) (w : Wrote page z xs p j) where
    long : length p ≡ 125
    long = wrote-length page z xs p j w ∙ paged

    -- and so have the zeros behind them
    pub pad-room : Room p j (length (pad_bits j))
    pad-room =
        let n = length-field_bits (padding j) 0 in
        record { within = omega (arith, n, long, w.at, b.low); small = omega (arith, n, w.at, b.low) }

    module _ (q : List ℕ) (k : ℕ) (v : Wrote p j (pad_bits j) q k) where
      -- whole bytes
      whole : (k ≡ 8 * (k / 8)) × (k / 8 ≡ bytes_for start (length xs))
      whole =
          let n = length-field_bits (padding j) 0 in
          (omega (arith, n, w.at, v.at), omega (arith, n, w.at, v.at))

      page-long : length q ≡ 125
      page-long = wrote-length p j (pad_bits j) q k v ∙ long

      -- which the page and the lent bytes have
      pub enough : (k / 8 ≤ length q) × (k / 8 ≤ length old)
      enough = (omega (arith, page-long, whole.1, b.low), omega (arith, whole.1, roomy))

      on-page : q ≡ put_bits (page_of before) start (xs ++ pad_bits (start + length xs))
      on-page = v.buffer ∙ rw (w.buffer, w.at, e, fresh) (sym (put_bits-append (page_of before) start xs (pad_bits (start + length xs))))

      laid_onto : AreBits xs → Bytes old → onto (take (k / 8) q) old ≡ bits_placed start xs old
      laid_onto bits bytes =
          let pad : List ℕ = pad_bits (start + length xs) in
          let n = length-field_bits (padding (start + length xs)) 0 in
          let l = length-append xs pad in
          let m : ℕ = k / 8 in
          ap (λ (t : List ℕ). onto (take m t) old) on-page
          ∙ laid-front old (page_of before) start (xs ++ pad) m (bits-append xs pad bits (field_bits-are-bits (padding (start + length xs)) 0))
          (omega (arith, n, l, whole, b.low)) (omega (arith, whole, roomy)) (omega (arith, whole, b.low))
          bytes (page-bytes before b.byte) (alike-first (page_of before) old start (omega (arith, b.low)) b.front)

      -- whole bytes copied
      pub laid : AreBits xs → Bytes old → take (k / 8) q ++ drop (k / 8) old ≡ bits_placed start xs old
      laid bits bytes = ap (λ (n : ℕ). take (k / 8) q ++ drop n old) (sym (length-take-le (k / 8) q enough.0)) ∙ laid_onto bits bytes

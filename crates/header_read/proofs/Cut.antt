-- A header cut short is refused with 9, one with enough bytes reads as the whole, and bytes behind the last bit aren't read.
-- Assumes nothing.
use Prim.Native.Nat.{ℕ, ◌+◌, ◌*◌, ◌/◌, ◌≤◌, ◌<◌}
use mathlib.Core.List.{List, ◌++◌}
use mathlib.Core.Logic.{⊎_elim}
use mathlib.Core.Path.{◌≡◌, refl, ap, sym, ◌∙◌}
use native.Mathlib.Omega.{arith}
use borrow.Author.Tests.{lt-ltb}
use lib.IntN.{ℤ}
use lib.ListN.{length, take, length-take}
use lib.Seq.{get_or-take, take_at}
use Rattle.laws.proofs.Cases.{lt-or-le}
use Rattle.bits.specs.Bits.{bit_at}
use Rattle.header.specs.Reading.{ReadModels, models_read}
use Rattle.header_read.specs.Called.{no_models, models}
use Rattle.header_read.specs.Inner.{PriorsReady}
use Rattle.header_read.proofs.Answers.{read-or-ended}
use Rattle.header_read.proofs.Shift.{read_same}

-- a bit of the front part
bit_at-take : (l : List ℕ) (n j : ℕ) → j < 8 * n → bit_at (take n l) j ≡ bit_at l j
unfolding bit_at
bit_at-take l n j h =
    let i : j / 8 < n = omega arith in
    rw (get_or-take n l (j / 8) 0 i)

module _ (header : List ℕ) (at flag : ℕ) (qs : List ℤ) (p : PriorsReady qs) (n : ℕ) where
  -- the front part that holds the last bit reads as the whole
  pub front_same : at + (models_read header at flag qs).bits ≤ 8 * n → models_read (take n header) at flag qs ≡ models_read header at flag qs
  front_same h =
      read_same flag qs p.places p.within header at (take n header) at (λ i l. sym (bit_at-take header n (at + i) (omega arith)))

  -- a reading of the front part that ends in it is a reading of the whole
  whole_same : at + (models_read (take n header) at flag qs).bits ≤ 8 * n → models_read header at flag qs ≡ models_read (take n header) at flag qs
  whole_same h =
      read_same flag qs p.places p.within (take n header) at header at (λ i l. bit_at-take header n (at + i) (omega arith))

  ends-first : 8 * n < at + (models_read header at flag qs).bits → 8 * length (take n header) < at + (models_read (take n header) at flag qs).bits
  ends-first h =
      ⊎_elim
      (λ (l : 8 * n < at + (models_read (take n header) at flag qs).bits). omega (arith, length-take n header))
      (λ (l : at + (models_read (take n header) at flag qs).bits ≤ 8 * n). absurd (omega (arith, ap (λ (t : ReadModels). t.bits) (whole_same l))))
      (lt-or-le (8 * n) (at + (models_read (take n header) at flag qs).bits))

  -- cut before the last bit
  pub cut : flag ≤ 1 → 8 * n < at + (models_read header at flag qs).bits → models (take n header) at flag qs ≡ no_models 9
  cut f h =
      sym (read-or-ended (take n header) at flag qs f p)
      ∙ rw (lt-ltb (8 * length (take n header)) (at + (models_read (take n header) at flag qs).bits) (ends-first h))

-- bytes behind the last bit
pub rest-unread : (header more : List ℕ) (at flag : ℕ) (qs : List ℤ) → PriorsReady qs → at + (models_read header at flag qs).bits ≤ 8 * length header
    → models_read (header ++ more) at flag qs ≡ models_read header at flag qs
rest-unread header more at flag qs p h =
    read_same flag qs p.places p.within header at (header ++ more) at
    (λ i l.
    sym (sym (bit_at-take (header ++ more) (length header) (at + i) (omega arith)) ∙ ap (λ (b : List ℕ). bit_at b (at + i)) (take_at header more (length header) refl)))

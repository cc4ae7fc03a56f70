-- Reading depends only on the bits from its position on: where the same bits stand elsewhere, the same is read there.
-- Assumes nothing.
use Prim.Native.Nat.{ℕ, ◌+◌, ◌*◌, ◌/◌, ◌%◌, ◌<◌}
use mathlib.Core.Bool.{false}
use mathlib.Core.List.{List, [], ◌∷◌}
use mathlib.Core.Path.{◌≡◌, ap, sym, ◌∙◌}
use native.Mathlib.Nat.{add-zero, add_assoc}
use native.Mathlib.Omega.{arith}
use lib.IntN.{ℤ}
use lib.ListN.{length, drop}
use Rattle.bits.specs.Bits.{bit_at}
use Rattle.bits.proofs.Held.{Holds}
use Rattle.bits.proofs.Buffer.{bit_at-drop}
use Rattle.models.specs.Models.{priors_out}
use Rattle.header.specs.Reading.{ReadModels, models_read}
use Rattle.header.specs.Writing.{header_bits}
use Rattle.header.proofs.RoundTrip.{read_back}
use Rattle.header_read.proofs.Rewritten.{Again, rewritten}
use Rattle.header_read.proofs.Valid.{all-priors, writable}

-- the n bits of g from position j on are those of h from position k on
abbrev pub Same : (ℕ → ℕ) → ℕ → (ℕ → ℕ) → ℕ → ℕ → Type 0
Same g j h k n = (i : ℕ) → i < n → g (j + i) ≡ h (k + i)

pub holds_same : (g : ℕ → ℕ) (j : ℕ) (h : ℕ → ℕ) (k : ℕ) (bs : List ℕ) → Same g j h k (length bs) → Holds g j bs → Holds h k bs
holds_same g j h k [] s p = tt
holds_same g j h k (b ∷ bs) s p =
    let here : g j ≡ h k = rw (add-zero j, add-zero k) at (s 0 (omega arith)) in
    let later : Same g (j + 1) h (k + 1) (length bs) = λ i l. rw (add_assoc j 1 i, add_assoc k 1 i) (s (1 + i) (omega arith)) in
    (sym here ∙ p.0, holds_same g (j + 1) h (k + 1) bs later p.1)

module _ (flag : ℕ) (qs : List ℤ) (long : length qs ≡ 42) (within : priors_out qs ≡ false) where
  -- as many bits as were read
  pub read_same : (header : List ℕ) (at : ℕ) (other : List ℕ) (there : ℕ) → Same (bit_at header) at (bit_at other) there (models_read header at flag qs).bits
      → models_read other there flag qs ≡ models_read header at flag qs
  read_same header at other there s =
      let t : ReadModels = models_read header at flag qs in
      let bs : List ℕ = header_bits t.types t.params flag qs in
      let a : Again (bit_at header) at bs t.bits = rewritten header at flag qs (all-priors qs long within) in
      let h : Holds (bit_at other) there bs = holds_same (bit_at header) at (bit_at other) there bs (rw a.count s) a.holds in
      read_back t.types t.params flag qs (writable header at flag qs long within) other there h
      ∙ ap (λ (n : ℕ). record { types = t.types; params = t.params; bits = n }) a.count

  -- from the byte of the position on
  pub read-from-byte : (header : List ℕ) (at : ℕ) → models_read (drop (at / 8) header) (at % 8) flag qs ≡ models_read header at flag qs
  read-from-byte header at =
      read_same header at (drop (at / 8) header) (at % 8)
      (λ i l.
      let e : at + i ≡ 8 * (at / 8) + (at % 8 + i) = omega arith in
      rw e (sym (bit_at-drop header (at / 8) (at % 8 + i))))

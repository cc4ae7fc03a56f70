-- `Header::too_short`: the bits counted are the header's; 125 bytes are never too short.
-- Assumes nothing.
use Prim.Native.Nat.{ℕ, ◌≤◌}
use mathlib.Core.List.{List}
use mathlib.Core.Path.{◌≡◌, sym, ap, ◌∙◌}
use native.Mathlib.Omega.{arith}
use lib.Dec.{ltb}
use lib.IntN.{ℤ}
use lib.ListN.{length}
use borrow.Author.Tests.{le-ltb}
use Rattle.header.specs.Count.{header_count}
use Rattle.header.specs.Writing.{header_bits, bytes_for}
use Rattle.header.proofs.Count.{header-count}
use Rattle.header.proofs.RoundTrip.{at-most-987-bits, at-most-125-bytes}
use Rattle.header.proofs.Header.too_short.Goals as goal

module _ (types : List ℕ) (ps : List ℤ) (flag : ℕ) (qs : List ℤ) (n : ℕ) (e : n ≡ header_count types ps flag qs) where
  counted : n ≡ length (header_bits types ps flag qs)
  counted = e ∙ sym (header-count types ps flag qs)

  few : n ≤ 987
  few = omega (arith, counted, at-most-987-bits flag types ps qs)

pub overflow_add-result : goal.overflow_add-result
overflow_add-result c = let h = c.args.self in
    omega (arith, few h.types.now h.params.now h.flag h.prior.now _ c.length.ensures, c.requires.1)

pub overflow_add-result-then-room-lt-MOST_BYTES : goal.overflow_add-result-then-room-lt-MOST_BYTES
overflow_add-result-then-room-lt-MOST_BYTES c = let h = c.args.self in
    omega (arith, few h.types.now h.params.now h.flag h.prior.now _ c.length.ensures, c.requires.1)

pub returns-then-room-lt-MOST_BYTES : goal.returns-then-room-lt-MOST_BYTES
returns-then-room-lt-MOST_BYTES c = let h = c.args.self in
    ap (λ (n : ℕ). ltb c.args.room (bytes_for c.args.start n)) (counted h.types.now h.params.now h.flag h.prior.now _ c.length.ensures)

pub returns-else-room-lt-MOST_BYTES : goal.returns-else-room-lt-MOST_BYTES
returns-else-room-lt-MOST_BYTES c = let h = c.args.self in
    le-ltb c.args.room 125 (omega arith) ∙ sym (le-ltb c.args.room (bytes_for c.args.start (length (header_bits h.types.now h.params.now h.flag h.prior.now)))
    (omega (arith, at-most-125-bytes h.flag h.types.now h.params.now h.prior.now c.args.start c.requires.1)))

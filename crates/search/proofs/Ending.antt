-- How a search ends: refused, with no samples, or with its buffers written.
-- Assumes nothing.
use Prim.Native.Nat.{ℕ}
use mathlib.Core.List.{List}
use mathlib.Core.Path.{◌≡◌, ◌∙◌}
use native.Mathlib.Omega.{arith}
use borrow.Author.Tests.{lt-ltb, le-ltb, ne_eqb}
use Rattle.laws.specs.Buffer.{onto}
use Rattle.plane.specs.Plane.{half_plane}
use Rattle.search.specs.Search.{sample_count, sample_words, rows_added}
use Rattle.search.proofs.Counted.{no_rows}
use Rattle.search.specs.Refusal.{Task, Lent, Done, refusal, answer, leaves, lent}

module _ (t : Task) (l : Lent) where
  pub done_refused : {r : ℕ} → r ≡ refusal t l → (r ≡ 0 → ⊥) → Done t l (record { refusal = r; samples = 0; rows = 0 }) l
  unfolding answer leaves
  done_refused e n =
      let f = ne_eqb (refusal t l) 0 (λ q. n (e ∙ q)) in
      record { answers = rw (f, e); buffers = rw f }

  pub done_none : refusal t l ≡ 0 → sample_count t.width t.height ≡ 0 → Done t l (record { refusal = 0; samples = 0; rows = 0 }) l
  unfolding answer leaves
  done_none e z =
      record { answers = rw (e, z, no_rows t.input t.ref t.width t.height z); buffers = rw (e, le-ltb 0 (sample_count t.width t.height) (omega arith)) }

  pub done-some : refusal t l ≡ 0 → (sample_count t.width t.height ≡ 0 → ⊥) → {a b c : List ℕ} →
      a ≡ onto (half_plane t.input t.width t.height) l.input_half →
      b ≡ onto (half_plane t.ref t.width t.height) l.ref_half →
      c ≡ onto (sample_words t.input t.ref t.width t.height) l.words →
      {rows : ℕ} → rows ≡ rows_added t.input t.ref t.width t.height →
      Done t l (record { refusal = 0; samples = sample_count t.width t.height; rows = rows }) (lent a b c)
  unfolding answer leaves
  done-some e n p q r s =
      record { answers = rw (e, s); buffers = rw (e, lt-ltb 0 (sample_count t.width t.height) (omega arith), p, q, r) }

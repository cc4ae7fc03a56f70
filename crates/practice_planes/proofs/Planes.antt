-- Each pel of both planes, by its row and column, is what the rule says; and a plane is read back from the front of its buffer.
-- Assumes nothing.
use Prim.Native.Nat.{ℕ, zero, suc, ◌+◌, ◌*◌, ◌≤◌, ◌<◌}
use mathlib.Core.List.{List, [], ◌∷◌, ◌++◌}
use mathlib.Core.Path.{◌≡◌, sym, ap, ◌∙◌}
use mathlib.Core.Logic.{⊎_elim}
use native.Mathlib.Omega.{arith}
use lib.IntN.{ℤ}
use lib.ListN.{length, take, get_or, get_or-append}
use lib.Seq.{get_or_at, get_or-append-add}
use Rattle.laws.specs.Buffer.{onto}
use Rattle.laws.specs.Parts.{listing}
use Rattle.laws.proofs.Buffer.{onto-front}
use Rattle.laws.proofs.Cases.{lt-or-le}
use Rattle.laws.proofs.Products.{row_fits}
use Rattle.laws.proofs.Filling.{length-listing}
use Rattle.plane.specs.Plane.{row_by_row, pel}
use Rattle.plane.specs.Clamp.{displaced}
use Rattle.plane.proofs.Listing.{length-row_by_row}
use Rattle.generator.specs.Generator.{noise}
use Rattle.practice_planes.specs.Belt.{reference_plane, input_plane}

pub length-reference : (seed w h : ℕ) → length (reference_plane seed w h) ≡ h * w
unfolding reference_plane
length-reference seed w h = length-listing (noise seed) (h * w)

module _ (seed w h : ℕ) (old : List ℕ) {l : List ℕ} (e : l ≡ onto (reference_plane seed w h) old) where
  pub front : take (h * w) l ≡ reference_plane seed w h
  front = rw (e, ← length-reference seed w h) (onto-front (reference_plane seed w h) old)

  pub front_length : h * w ≡ length (take (h * w) l)
  front_length = sym (ap length front ∙ length-reference seed w h)

at-listing : (f : ℕ → ℕ) (n i : ℕ) → i < n → get_or (listing f n) i 0 ≡ f i
at-listing f zero i h = absurd (omega arith)
at-listing f (suc n) i h =
    ⊎_elim
    (λ (l : i < n). get_or-append (listing f n) (f n ∷ []) 0 i (rw (length-listing f n) l) ∙ at-listing f n i l)
    (λ (l : n ≤ i).
    let e : n ≡ i = omega arith in
    get_or_at (listing f n) (f n) [] 0 i (length-listing f n ∙ e) ∙ ap f e)
    (lt-or-le i n)

at_row : (f : ℕ → ℕ → ℕ) (w h r c : ℕ) → r < h → c < w → pel (row_by_row f w h) w r c ≡ f r c
at_row f w zero r c l q = absurd (omega arith)
at_row f w (suc h) r c l q =
    ⊎_elim
    (λ (k : r < h).
    get_or-append (row_by_row f w h) (listing (f h) w) 0 (r * w + c) (rw (length-row_by_row f w h) (omega (arith, row_fits w k)))
    ∙ at_row f w h r c k q)
    (λ (k : h ≤ r).
    let e : h ≡ r = omega arith in
    rw (← e)
    (ap (λ (n : ℕ). get_or (row_by_row f w h ++ listing (f h) w) (n + c) 0) (sym (length-row_by_row f w h))
    ∙ get_or-append-add (row_by_row f w h) (listing (f h) w) c 0
    ∙ at-listing (f h) w c q))
    (lt-or-le r h)

module _ (w h r c : ℕ) (row : r < h) (column : c < w) where
  -- the upper half of the state after r * w + c + 1 steps
  pub reference-pel : (seed : ℕ) → pel (reference_plane seed w h) w r c ≡ noise seed (r * w + c)
  unfolding reference_plane
  reference-pel seed = at-listing (noise seed) (h * w) (r * w + c) (omega (arith, row_fits w row))

  -- the reference pel that lies (dy, dx) from here, coordinates clamped
  pub input-pel : (reference : List ℕ) (dy dx : ℤ) →
      pel (input_plane reference w h dy dx) w r c ≡ displaced reference (record { width = w; height = h; r = r; c = c }) dy dx
  unfolding input_plane
  input-pel reference dy dx =
      at_row (λ r c. displaced reference (record { width = w; height = h; r = r; c = c }) dy dx) w h r c row column

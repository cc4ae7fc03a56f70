-- The motion of a block as the code holds it, and its range.
-- Assumes nothing.
use Prim.Native.Nat.{ℕ, ◌+◌, ◌*◌, ◌/◌}
use mathlib.Core.Path.{◌≡◌, refl, sym, ap, ◌∙◌}
use native.Mathlib.Omega.{arith}
use lib.IntN.{ℤ, pos, ◌*ℤ◌}
use Rattle.sample.specs.Word.{word_of}
use Rattle.plane.specs.Clamp.{offset}
use Rattle.stage.specs.Stage.{Found, full_pel, refined}
use Rattle.stage.specs.Early.{Tally, coarse_early, fine_early}
use Rattle.stage.specs.Inner.{seen}
use Rattle.stage.specs.declared.Best.{Best}
use Rattle.stage.proofs.Motion.{offset-same, offset-back, offset-twice}
use Rattle.stage.proofs.Early.{coarse-same, fine-same}
use Rattle.search.specs.Search.{Scene, motion_in, motion_early, stored, block_at}
use Rattle.search.specs.Inner.{sampled_at}

-- twice an offset biased by 12, biased by 27
pub twice : (n : ℕ) {z : ℤ} → offset 12 n ≡ z → offset 27 (2 * n + 3) ≡ pos 2 *ℤ z
twice n e = offset-same 27 (2 * n + 3) 24 (2 * n) (omega arith) ∙ (sym (offset-twice 12 n) ∙ ap (λ (z : ℤ). pos 2 *ℤ z) e)

-- a stored motion is the biased one
pub stored_is : (n : ℕ) {z : ℤ} → offset 223 n ≡ z → n ≡ stored z
stored_is n e = sym (offset-back 223 n) ∙ ap stored e

-- the stages in a row
pub motion-is : (s : Scene) (R C : ℕ) (far best : Best) →
    seen 12 far ≡ coarse_early s.input_half s.ref_half (block_at 8 (s.width / 2) (s.height / 2) R C) →
    seen 223 best ≡ fine_early s.input s.ref (block_at 16 s.width s.height R C) (offset 27 (2 * far.y + 3)) (offset 27 (2 * far.x + 3)) →
    record { best = (seen 223 best).best; rows = far.rows + best.rows } ≡ motion_early s R C
unfolding motion_early
motion-is s R C far best p q =
    let ty = twice far.y (ap (λ (t : Tally). t.best.dy) p) in
    let tx = twice far.x (ap (λ (t : Tally). t.best.dx) p) in
    let q' = rw (ty, tx) at q in
    ap (λ (n : ℕ). record { best = (seen 223 best).best; rows = n + best.rows }) (ap (λ (t : Tally). t.rows) p)
    ∙ ap (λ (t : Tally). record { best = t.best; rows = (coarse_early s.input_half s.ref_half (block_at 8 (s.width / 2) (s.height / 2) R C)).rows + t.rows }) q'

-- sums that end early find the same motion
pub motion-same : (s : Scene) (R C : ℕ) → (motion_early s R C).best ≡ motion_in s R C
unfolding motion_early motion_in
motion-same s R C =
    let place = block_at 16 s.width s.height R C in
    let half = block_at 8 (s.width / 2) (s.height / 2) R C in
    let far = coarse_early s.input_half s.ref_half half in
    let full : Found → Found = λ (f : Found). full_pel s.input s.ref place (pos 2 *ℤ f.dy) (pos 2 *ℤ f.dx) in
    fine-same s.input s.ref place (pos 2 *ℤ far.best.dy) (pos 2 *ℤ far.best.dx)
    ∙ ap
    (λ (f : Found). refined s.input s.ref place (pos 8 *ℤ (full f).dy) (pos 8 *ℤ (full f).dx))
    (coarse-same s.input_half s.ref_half half)

-- a block's word and its rows
pub sampled-is : (s : Scene) (R C : ℕ) (best : Best) {rows word : ℕ} →
    record { best = (seen 223 best).best; rows = rows } ≡ motion_early s R C → word ≡ word_of R C best.y best.x 0 →
    record { word = word; rows = rows } ≡ sampled_at s R C
sampled-is s R C best e q =
    let found = ap (λ (t : Tally). t.best) e ∙ motion-same s R C in
    rw (
      q,
      stored_is best.y (ap (λ (f : Found). f.dy) found),
      stored_is best.x (ap (λ (f : Found). f.dx) found),
      ap (λ (t : Tally). t.rows) e,
    )
    refl

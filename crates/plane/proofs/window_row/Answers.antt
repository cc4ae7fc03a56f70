-- `window_row`: pels whose columns lie inside are a part of the plane; others go one by one.
-- Assumes nothing.
use Prim.Native.Nat.{ℕ, ◌+◌, ◌-◌}
use mathlib.Core.List.{List}
use mathlib.Core.Path.{refl, ◌∙◌}
use native.Mathlib.Omega.{arith}
use lib.ListN.{length, take, drop, get_or}
use Rattle.plane.proofs.Listing.{listing-more, listing-all}
use Rattle.plane.proofs.Windows.{row_inside}
use Rattle.plane.proofs.window_row.Goals as goal

-- pel i of n that begin at s
abbrev part : List ℕ → ℕ → ℕ → ℕ → ℕ
part p s n i = get_or (take (s + n - s) (drop s p)) i 0

pub loop-b-preserved : goal.loop-b-preserved
loop-b-preserved c = let a = c.args in
    listing-more (part a.plane.now c.displaced_start-at.result (length a.out.now)) a.out.now c.loop-b.b (omega arith) c.loop-b.invariant refl

pub returns-after-loop-b : goal.returns-after-loop-b
returns-after-loop-b c = let a = c.args in
    let s = c.displaced_start-at in
    listing-all (part a.plane.now s.result (length a.out.now)) a.out.now {i = c.loop-b.b} (omega arith) refl c.loop-b.invariant
    ∙ row_inside a.plane.now a.place a.by a.bias (length a.out.now) s.result s.ensures
    (record { left = c.if-bias-place.true; right = c.if-place-by.true })

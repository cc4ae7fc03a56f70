-- `Header::length`: each turn adds the sum's next term.
-- Assumes nothing.
use Prim.Native.Nat.{◌*◌, ◌≤◌}
use mathlib.Core.Path.{◌≡◌}
use lib.ListN.{get_or}
use Rattle.laws.specs.Loops.{sum}
use Rattle.header.specs.Count.{model_count}
use Rattle.header.proofs.Header.length.Given as goal

abbrev pub invariant-loop-r : goal.invariant-loop-r
invariant-loop-r l = let s = l.self in
    (l.n ≡ sum (λ i. model_count s.flag s.params.now s.prior.now (get_or s.types.now i 0) (6 * i)) l.r) × (l.n ≤ 387 * l.r)

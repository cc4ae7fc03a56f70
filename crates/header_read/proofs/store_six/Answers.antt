-- `store_six`: the copy stands at its place.
-- Assumes nothing.
use Prim.Native.Nat.{ℕ, ◌+◌, ◌-◌}
use mathlib.Core.List.{List}
use mathlib.Core.Path.{◌≡◌}
use native.Mathlib.Omega.{arith}
use borrow.Author.Rules.{rules}
use borrow.Rule.Slice.PartMut.{put_mid}
use lib.IntN.{ℤ}
use lib.ListN.{length}
use Rattle.laws.specs.Placed.{placed}
use Rattle.header_read.proofs.store_six.Goals as goal

put-placed : (first k : ℕ) (six new old : List ℤ) → new ≡ six → k ≡ length six → put_mid first k old new ≡ placed first six old
put-placed first k six new old e f = rw (e, f)

pub returns : goal.returns
returns c = let six : length c.args.six ≡ 6 = search rules in
    let k : c.args.first + 6 - c.args.first ≡ length c.args.six = omega (arith, six) in
    put-placed c.args.first _ c.args.six _ c.args.params.now c.copy_from_slice.ensures.after k

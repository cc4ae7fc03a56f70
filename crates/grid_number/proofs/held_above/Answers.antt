-- `grid_number::held_above`: a size below the limit stays.
-- Assumes nothing.
use Rattle.std.proofs.Common.{◌≡◌, min, pos, ap, ◌∙◌, arith, w32}
use mir.Facts.{to_z_pos}
use Rattle.grid_number.proofs.held_above.Goals as goal

pub returns-then-size-lt-LIMIT_MAGNITUDE : goal.returns-then-size-lt-LIMIT_MAGNITUDE
returns-then-size-lt-LIMIT_MAGNITUDE c = let size = c.args.size in
    let kept : size ≡ min size 2147483647 = omega (arith, c.if-size-lt-LIMIT_MAGNITUDE.true) in
    to_z_pos w32 {n = size} (omega (arith, c.if-size-lt-LIMIT_MAGNITUDE.true)) ∙ ap pos kept

pub returns : goal.returns
returns c = ap pos (let e : 2147483647 ≡ min c.args.size 2147483647 = omega (arith, c.if-size-lt-LIMIT_MAGNITUDE.false) in e)

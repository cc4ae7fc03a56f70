-- `trim::all_finite`: the first n squares are lent.
-- Assumes nothing.
use mathlib.Core.Path.{sym}
use lib.Seq.{length-take-le}
use Rattle.trim.proofs.all_finite.Goals as goal

pub slice_bounds-all_finite-end : goal.slice_bounds-all_finite-end
slice_bounds-all_finite-end c = let s = c.before in
    sym (length-take-le s.args.n s.args.squares.now s.requires)

pub returns : goal.returns
returns c = c.all_finite.ensures

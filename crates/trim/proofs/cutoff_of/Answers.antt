-- `trim::cutoff_of`: the median of the first n roots is the root of the squares' median, and the comparison is the definition's.
-- Assumes nothing.
use mathlib.Core.List.{map}
use mathlib.Core.Path.{◌≡◌, sym, ap, ◌∙◌}
use lib.ListN.{take}
use lib.Seq.{length-take-le}
use Rattle.root.specs.Root.{root}
use Rattle.median.specs.Median.{median}
use Rattle.trim.proofs.Roots.{median-of-roots}
use Rattle.trim.proofs.cutoff_of.Goals as goal

pub slice_bounds-median-end : goal.slice_bounds-median-end
slice_bounds-median-end c = let s = c.before in
    sym (length-take-le s.args.n s.args.squares.now s.requires.n_in_bounds)

pub median-requires : goal.median-requires
median-requires c = c.requires.findable

pub returns-then-three : goal.returns-then-three
returns-then-three c = let s = c.before in
    let squares = take s.args.n s.args.squares.now in
    let e : c.root-three.result ≡ median (map root squares) = c.root-three.ensures ∙ ap root c.median.ensures ∙ sym (median-of-roots squares s.requires.findable.plain) in
    rw (← e, c.if-three.true)

pub returns : goal.returns
returns c = let s = c.before in
    let squares = take s.args.n s.args.squares.now in
    let e : c.root-three.result ≡ median (map root squares) = c.root-three.ensures ∙ ap root c.median.ensures ∙ sym (median-of-roots squares s.requires.findable.plain) in
    rw (← e, c.if-three.false)

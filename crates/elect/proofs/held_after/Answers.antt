-- `elect::held_after`: above the gate the held one stays; otherwise the better of the two.
-- Assumes nothing.
use Rattle.elect.specs.Elect.{held_after}
use Rattle.elect.proofs.held_after.Goals as goal

pub returns-then-energy-err : goal.returns-then-energy-err
unfolding held_after
returns-then-energy-err c = rw c.if-energy-err.true

pub returns-then-beats : goal.returns-then-beats
unfolding held_after
returns-then-beats c = rw (c.if-energy-err.false, ← c.beats.ensures, c.if-beats.true)

pub returns : goal.returns
unfolding held_after
returns c = rw (c.if-energy-err.false, ← c.beats.ensures, c.if-beats.false)

-- `fill_reference`: before turn i the state is that after i steps, so the turn writes pel i after those before it.
-- Assumes nothing.
use mathlib.Core.Path.{◌≡◌}
use Rattle.laws.specs.Buffer.{onto}
use Rattle.laws.specs.Parts.{listing}
use Rattle.generator.specs.Generator.{times, next, noise}
use Rattle.practice_planes.proofs.fill_reference.Given as goal

abbrev pub invariant-loop-i : goal.invariant-loop-i
invariant-loop-i l = (l.reference ≡ onto (listing (noise l.seed) l.i) l.initial.reference) × (l.state ≡ times next l.i l.seed)

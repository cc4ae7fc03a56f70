-- `coarse`: what the scan finds in the copies is what the stage finds on the planes.
-- Assumes nothing.
use mathlib.Core.Path.{refl}
use Rattle.stage.specs.Inner.{at}
use Rattle.stage.proofs.Seen.{coarse-leads}
use Rattle.coarse.proofs.coarse.Goals as goal

pub returns : goal.returns
returns c = let s = c in
    let a = s.args in
    coarse-leads a.input.now a.reference.now a.place (at 0 0) refl refl s.requires.block
    c.window.ensures
    c.window-2.ensures
    c.coarse_scan.ensures

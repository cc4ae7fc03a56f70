-- `fine`: what the scans find in the copies is what both stages find on the planes.
-- Assumes nothing.
use mathlib.Core.Path.{refl}
use Rattle.stage.specs.Inner.{at}
use Rattle.stage.proofs.Seen.{fine-leads}
use Rattle.fine.proofs.fine.Goals as goal

pub returns : goal.returns
returns c = let s = c in
    let a = s.args in
    fine-leads a.input.now a.reference.now a.place (at 0 0) a.centre refl refl s.requires.block s.requires.roomy
    c.window.ensures
    c.window-2.ensures
    c.fine_scan.ensures

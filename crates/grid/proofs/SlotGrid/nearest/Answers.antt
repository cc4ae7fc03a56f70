-- `SlotGrid::nearest`: its steps are those of `quantize`, over a sign and a magnitude.
-- Assumes nothing.
use mir.Syntax.{w32, w64}
use mir.Facts.{to_z-of_z}
use Rattle.laws.proofs.Signed.{result-reads}
use Rattle.grid.specs.Grid.{quantize}
use Rattle.grid.proofs.Signs.{signed-times}
use Rattle.grid.proofs.SlotGrid.nearest.Goals as goal

pub returns : goal.returns
unfolding quantize
returns c = let num = c.from_centre-num in
    rw (
      result-reads w32 c.to_centre.result c.to_centre.type_inv,
      c.to_centre.ensures,
      result-reads w64 c.with_sign.result c.with_sign.type_inv,
      c.with_sign.ensures,
      c.is_negative.ensures,
      c.distance-distance.ensures.is,
      c.magnitude.ensures,
      result-reads w64 num.result num.type_inv,
      num.ensures.is,
      to_z-of_z c.ranges.value,
      signed-times,
    )

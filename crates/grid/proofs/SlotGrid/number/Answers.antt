-- `SlotGrid::number`: no symbol's number is farther from the centre than the codable numbers reach.
-- Assumes nothing.
use mir.Syntax.{w64}
use Rattle.laws.proofs.Signed.{result-reads}
use Rattle.grid.proofs.Bounds.{symbol-distance-small}
use Rattle.grid.proofs.SlotGrid.number.Goals as goal

pub to_centre-requires : goal.to_centre-requires
to_centre-requires c = let s = c.args.self in (
  rw (result-reads w64 c.from_middle.result c.from_middle.type_inv, c.from_middle.ensures)
      (symbol-distance-small s.abs s.prec (record { fraction = s.fraction; reach = s.reach }) c.args.symbol c.requires),
  s.centred,
)

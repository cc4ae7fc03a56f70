-- `quantize::linear_of`: each case quantizes the slots that it has, and a rotation-zoom's slot 3 is small enough to be negated.
-- Assumes nothing.
use Rattle.grid_number.specs.GridNumber.{grid_number}
use Rattle.quantize.proofs.Slots.{slot-three-reach}
use mir.Syntax.{w32}
use Rattle.laws.proofs.Signed.{result-reads}
use Rattle.quantize.specs.Quantize.{linear_of}
use Rattle.quantize.proofs.linear_of.Goals as goal

pub rotzoom_linear-requires : goal.rotzoom_linear-requires
rotzoom_linear-requires c = let p3 = c.quantized_slot-in-RotZoom in
    rw (result-reads w32 p3.result p3.type_inv, p3.ensures)
    (slot-three-reach c.args.flag (grid_number c.in-RotZoom.m3))

pub returns-in-Refused : goal.returns-in-Refused
unfolding linear_of
returns-in-Refused c = rw c.in-Refused.is c.identity_linear.ensures

pub returns-in-Translation : goal.returns-in-Translation
unfolding linear_of
returns-in-Translation c = rw c.in-Translation.is c.identity_linear-in-Translation.ensures

pub returns-in-RotZoom : goal.returns-in-RotZoom
unfolding linear_of
returns-in-RotZoom c = let p2 = c.quantized_slot in
    let p3 = c.quantized_slot-in-RotZoom in
    rw (c.in-RotZoom.is, ← p2.ensures, ← p3.ensures)
    (rw (result-reads w32 p2.result p2.type_inv, result-reads w32 p3.result p3.type_inv) at c.rotzoom_linear.ensures)

pub returns-in-Affine : goal.returns-in-Affine
unfolding linear_of
returns-in-Affine c = let p2 = c.quantized_slot-in-Affine in
    let p3 = c.quantized_slot-in-Affine-2 in
    let p4 = c.quantized_slot-in-Affine-3 in
    let p5 = c.quantized_slot-in-Affine-4 in
    rw (
      c.in-Affine.is,
      result-reads w32 p2.result p2.type_inv,
      result-reads w32 p3.result p3.type_inv,
      result-reads w32 p4.result p4.type_inv,
      result-reads w32 p5.result p5.type_inv,
      ← p2.ensures,
      ← p3.ensures,
      ← p4.ensures,
      ← p5.ensures,
    )

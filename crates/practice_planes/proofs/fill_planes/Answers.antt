-- `fill_planes`: the front of the buffer holds the reference plane when the input plane is made from it.
-- Assumes nothing.
use native.Mathlib.Omega.{arith}
use Rattle.plane.proofs.Clamped.{plane-small}
use Rattle.practice_planes.proofs.Planes.{front, front_length}
use Rattle.practice_planes.proofs.fill_planes.Goals as goal

pub overflow_mul-pels : goal.overflow_mul-pels
overflow_mul-pels c = let s = c in
    omega (arith, plane-small s.args.sides.width s.args.sides.height s.requires.input_room.small.narrow s.requires.input_room.small.low)

pub slice_bounds-fill_input-end-2 : goal.slice_bounds-fill_input-end-2
slice_bounds-fill_input-end-2 c = let a = c.args in
    front_length a.seed a.sides.width a.sides.height a.reference.now c.fill_reference.ensures

pub fill_input-requires : goal.fill_input-requires
fill_input-requires c = let s = c in
    let a = s.args in
    record {
      pels = front_length a.seed a.sides.width a.sides.height a.reference.now c.fill_reference.ensures;
      near = s.requires.near;
      room = s.requires.input_room;
    }

pub returns : goal.returns
returns c = let a = c.args in
    let made = c.fill_reference.ensures in record { input_after = rw (c.fill_input.ensures, front a.seed a.sides.width a.sides.height a.reference.now made); reference_after = made }

-- `row_start`: a row of pels inside a plane ends with the plane at the latest, so that nothing wraps.
-- Assumes nothing.
use mathlib.Core.Path.{refl}
use native.Mathlib.Omega.{arith}
use Rattle.plane.proofs.Clamped.{row-end, plane-small}
use Rattle.plane.proofs.row_start.Goals as goal

pub overflow_mul-result : goal.overflow_mul-result
overflow_mul-result c = let p = c.args.place in
    let i = c.requires in
    omega (arith, row-end p.width p.height p.r p.c c.args.n i.row i.columns, plane-small p.width p.height i.small.narrow i.small.low)

pub overflow_add-result : goal.overflow_add-result
overflow_add-result c = let p = c.args.place in
    let i = c.requires in
    omega (arith, row-end p.width p.height p.r p.c c.args.n i.row i.columns, plane-small p.width p.height i.small.narrow i.small.low)

pub returns : goal.returns
returns c = let p = c.args.place in
    record { same = refl; inside = row-end p.width p.height p.r p.c c.args.n c.requires.row c.requires.columns }

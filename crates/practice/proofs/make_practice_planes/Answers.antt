-- `make_practice_planes`: refused by the table; otherwise the biased numbers stand for the motion, and both planes have room.
-- In each answer `e` says that the number is the table's.
-- Assumes nothing.
use Prim.Native.Nat.{ℕ}
use mathlib.Core.Path.{◌≡◌, refl, sym}
use native.Mathlib.Omega.{arith}
use lib.ListN.{length}
use borrow.Author.Tests.{ne_eqb}
use mir.Facts.{to_z-of_z}
use Rattle.refusal.specs.Number.{number_of}
use Rattle.refusal.proofs.Rows.{above-zero}
use Rattle.plane.proofs.Clamped.{plane-small}
use Rattle.practice.specs.Call.{refusal}
use Rattle.practice.proofs.Accepted.{accepted}
use Rattle.practice.proofs.make_practice_planes.Goals as goal

pub returns-in-Err : goal.returns-in-Err
returns-in-Err c =
    let a = c.args in
    let n = number_of c.in-Err.refusal in
    let e : n ≡ refusal a.width a.height a.dy a.dx (length a.input.now) (length a.reference.now) = rw (to_z-of_z c.ranges.dy, to_z-of_z c.ranges.dx) at c.in-Err.ensures in
    let z = ne_eqb n 0 (λ k. let h = above-zero c.in-Err.refusal in omega (arith, h, k)) in
    record { value = rw (c.number.ensures, ← e, z) refl; input_after = rw (← e, z) refl; reference_after = rw (← e, z) refl }

pub biased-requires : goal.biased-requires
biased-requires c =
    let a = c.args in
    let e : ◌≡◌ {A = ℕ} 0 (refusal a.width a.height a.dy a.dx (length a.input.now) (length a.reference.now)) = rw (to_z-of_z c.ranges.dy, to_z-of_z c.ranges.dx) at c.in_default.ensures in
    let k = accepted a.width a.height a.dy a.dx (length a.input.now) (length a.reference.now) (sym e) in
    rw (to_z-of_z c.ranges.dy) k.dy_near

pub biased-requires-2 : goal.biased-requires-2
biased-requires-2 c =
    let a = c.args in
    let e : ◌≡◌ {A = ℕ} 0 (refusal a.width a.height a.dy a.dx (length a.input.now) (length a.reference.now)) = rw (to_z-of_z c.ranges.dy, to_z-of_z c.ranges.dx) at c.in_default.ensures in
    let k = accepted a.width a.height a.dy a.dx (length a.input.now) (length a.reference.now) (sym e) in
    rw (to_z-of_z c.ranges.dx) k.dx_near

pub fill_planes-requires : goal.fill_planes-requires
fill_planes-requires c =
    let a = c.args in
    let e : ◌≡◌ {A = ℕ} 0 (refusal a.width a.height a.dy a.dx (length a.input.now) (length a.reference.now)) = rw (to_z-of_z c.ranges.dy, to_z-of_z c.ranges.dx) at c.in_default.ensures in
    let k = accepted a.width a.height a.dy a.dx (length a.input.now) (length a.reference.now) (sym e) in
    record {
      near = record { y_small = c.biased.ensures.small; x_small = c.biased-2.ensures.small };
      input_room = record { small = k.small; room = k.input_room };
      reference_room = record { small = k.small; room = k.reference_room };
    }

pub overflow_mul-result : goal.overflow_mul-result
overflow_mul-result c =
    let a = c.args in
    let e : ◌≡◌ {A = ℕ} 0 (refusal a.width a.height a.dy a.dx (length a.input.now) (length a.reference.now)) = rw (to_z-of_z c.ranges.dy, to_z-of_z c.ranges.dx) at c.in_default.ensures in
    let k = accepted a.width a.height a.dy a.dx (length a.input.now) (length a.reference.now) (sym e) in
    omega (arith, plane-small a.width a.height k.small.narrow k.small.low)

pub returns : goal.returns
returns c =
    let a = c.args in
    let e : ◌≡◌ {A = ℕ} 0 (refusal a.width a.height a.dy a.dx (length a.input.now) (length a.reference.now)) = rw (to_z-of_z c.ranges.dy, to_z-of_z c.ranges.dx) at c.in_default.ensures in
    let none : refusal a.width a.height a.dy a.dx (length a.input.now) (length a.reference.now) ≡ 0 = sym e in
    let f = c.fill_planes.ensures in
    record {
      value = rw none refl;
      input_after = rw none (rw (rw (to_z-of_z c.ranges.dy) at c.biased.ensures.same, rw (to_z-of_z c.ranges.dx) at c.biased-2.ensures.same) at f.input_after);
      reference_after = rw none f.reference_after;
    }

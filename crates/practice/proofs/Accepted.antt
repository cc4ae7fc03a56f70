-- What an accepted call knows: small sides, a near motion, and room for both planes.
-- Assumes nothing.
use Prim.Native.Nat.{ℕ, ◌*◌, ◌≤◌}
use mathlib.Core.Path.{◌≡◌}
use borrow.Author.Tests.{ltb-false}
use lib.IntN.{ℤ, nat_abs}
use Rattle.laws.proofs.Refusal.{neither, quiet}
use Rattle.plane.specs.Inner.{Small}
use Rattle.search.proofs.Rows.{small}
use Rattle.practice.specs.Call.{rows, refusal}
use Rattle.practice_planes.specs.Shift.{largest_shift}

pub record Accepted (w h : ℕ) (dy dx : ℤ) (input reference : ℕ) : Type 0 where
  pub small : Small w h
  pub dy_near : nat_abs dy ≤ largest_shift
  pub dx_near : nat_abs dx ≤ largest_shift
  pub input_room : h * w ≤ input
  pub reference_room : h * w ≤ reference

pub accepted : (w h : ℕ) (dy dx : ℤ) (input reference : ℕ) → refusal w h dy dx input reference ≡ 0 → Accepted w h dy dx input reference
unfolding refusal
accepted w h dy dx input reference e =
    let q = quiet (rows w h dy dx input reference) tt e in
    let near = neither _ _ q.1.0 in
    let room = neither _ _ q.1.1.0 in
    record {
      small = small w h q.0;
      dy_near = ltb-false _ _ near.0;
      dx_near = ltb-false _ _ near.1;
      input_room = ltb-false _ _ room.0;
      reference_room = ltb-false _ _ room.1;
    }

use Prim.Native.Nat.{◌+◌, ◌*◌, ◌≤◌}
use mathlib.Core.Path.{◌∙◌}
use native.Mathlib.Omega.{arith}
use lib.ListN.{length}
use Rattle.plane.specs.Plane.{largest_side}
use Rattle.plane.specs.Inner.{window_pel}
use Rattle.plane.proofs.Listing.{row_by_row-more}
use Rattle.plane.proofs.Windows.{row-of-window, window-whole}
use Rattle.plane.proofs.window.Goals as goal

pub place_row-requires : goal.place_row-requires
place_row-requires c = let a = c.args in
    let n = c.requires.near in
    let i = c.loop-a.a in
    let rows : a.place.r + a.side ≤ 2 * largest_side = n.close.r_small in
    let row : a.place.r + i ≤ 2 * largest_side = omega arith in record {
      near = record {
        wide = n.wide;
        high = n.high;
        small = n.small;
        pels = n.pels;
        close = record { r_small = row; c_small = n.close.c_small; y_small = n.close.y_small; x_small = n.close.x_small };
      };
      window_row = record {
        row = row-of-window a.side i (length c.loop-a.out) (c.loop-a.auto.out ∙ c.requires.out_len) (omega arith);
        row_small = omega (arith, row);
        narrow = omega (arith, rows);
      };
    }

pub loop-a-preserved : goal.loop-a-preserved
loop-a-preserved c = let a = c.args in
    c.place_row.ensures ∙ row_by_row-more (window_pel a.plane.now a.place a.by a.bias) a.side c.loop-a.a a.out.now c.loop-a.invariant

pub returns : goal.returns
returns c = let a = c.args in
    window-whole a.plane.now a.place a.by a.bias a.side a.out.now c.loop-a.a (omega arith) c.requires.out_len c.loop-a.invariant

-- `half_plane`: refused by the table, otherwise an accepted call has what halving asks.
-- Assumes nothing.
use mathlib.Core.Path.{sym, ◌∙◌}
use borrow.Author.Tests.{ne_eqb}
use native.Mathlib.Omega.{arith}
use Rattle.refusal.specs.Number.{number_of}
use Rattle.refusal.proofs.Rows.{above-zero}
use Rattle.band.proofs.Accepted.{half-accepted}
use Rattle.band.proofs.half_plane.Goals as goal

pub returns-in-Err : goal.returns-in-Err
returns-in-Err c = let n = number_of c.in-Err.refusal in
    let e = c.in-Err.ensures in
    record {
      value = c.number.ensures ∙ e;
      out_after = rw (← e, ne_eqb n 0 (λ z. let h = above-zero c.in-Err.refusal in omega (arith, h, z)));
    }

pub downsample-requires : goal.downsample-requires
downsample-requires c = let a = c.args in
    half-accepted a.plane.now a.width a.height a.out.now (sym c.in_default.ensures)

pub returns : goal.returns
returns c = let e = sym c.in_default.ensures in record { value = sym e; out_after = rw e c.downsample.ensures }

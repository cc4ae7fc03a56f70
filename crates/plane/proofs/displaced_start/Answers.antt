-- `displaced_start`: the row is the clamped one, and the columns are inside.
-- Assumes nothing.
use Prim.Native.Nat.{ℕ, ◌+◌, ◌*◌, ◌-◌}
use mathlib.Core.Path.{ap, ◌∙◌}
use Rattle.plane.proofs.displaced_start.Goals as goal

pub returns : goal.returns
returns c = let a = c.args in
    record {
      same = c.row_start.ensures.same ∙ ap (λ (q : ℕ). q * a.place.width + (a.place.c + a.by.x - a.bias)) c.clamp-row.ensures;
      inside = c.row_start.ensures.inside;
    }

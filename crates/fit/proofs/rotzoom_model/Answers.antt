-- `fit::rotzoom_model`: the sums make the system, and each number is its unknown.
-- Assumes nothing.
use mathlib.Core.List.{List, [], ◌∷◌}
use mathlib.Core.Path.{ap, ◌∙◌}
use lib.Ieee.{Float}
use Rattle.solve.specs.Elimination.{system}
use Rattle.solve.specs.Solution.{solved}
use Rattle.fit.specs.Fitted.{rot_zoom_model}
use Rattle.fit.proofs.rotzoom_model.Goals as goal

pub returns : goal.returns
returns c = let t = c.args.t in
    ap rot_zoom_model (c.in_ok-x.ensures.answer ∙ ap (λ (a : List Float). solved 4 (system a (t.p1 ∷ t.p2 ∷ t.su ∷ t.sv ∷ []))) c.rotzoom_matrix-a.ensures)

-- `fit::affine_model`: each row's system is the definition's, and each number its unknown.
-- Assumes nothing.
use mathlib.Core.List.{List, [], ◌∷◌}
use mathlib.Core.Path.{ap, ◌∙◌}
use lib.Ieee.{Float}
use Rattle.laws.specs.Binary64.{nought}
use Rattle.solve.specs.Elimination.{system, solvable}
use Rattle.solve.specs.Solution.{Solution, solved}
use Rattle.fit.specs.Fitted.{affine_model, affine_u}
use Rattle.fit.proofs.affine_model.Goals as goal

pub returns : goal.returns
returns c = let t = c.args.t in
    let across = c.in_ok-xu.ensures.answer ∙ ap (λ (a : List Float). solved 3 (system a (t.sxu ∷ t.syu ∷ t.su ∷ nought ∷ []))) c.affine_matrix-a.ensures in
    let down = c.in_ok-xv.ensures.answer ∙ ap (λ (a : List Float). solved 3 (system a (t.sxv ∷ t.syv ∷ t.sv ∷ nought ∷ []))) c.affine_matrix-a-2.ensures in
    ap (λ (u : Solution). affine_model u (record { outcome = solvable; x = c.in_ok-xv.xv })) across ∙ ap (affine_model (solved 3 (affine_u t c.args.n))) down

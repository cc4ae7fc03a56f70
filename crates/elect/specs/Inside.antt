-- What it is for an answer to be a candidate inside the gate.
-- docs/RULES.md, 'Election'.
-- Assumes nothing.
use Rattle.std.specs.Prelude.{ℕ, ◌≤◌, false, List, ◌≡◌, Float}
use Rattle.std.specs.Float.Ieee.{lt}
use Rattle.sample.specs.declared.MotionSample.{MotionSample}
use Rattle.elect.specs.declared.Elected.{Elected}
use Rattle.elect.specs.Elect.{error_from, gate, candidate_from, unfit}

-- the trimmed fit of its type on the grid, x first, neither the identity nor of an invalid shear, with an error that isn't above the gate
pub record Inside {A : Type 0} (read : A → MotionSample) (flag : ℕ) (xs : List A) (energy : Float) (e : Elected) : Type 0 where
  pub some-type : 1 ≤ e.gm_type
  pub last_type : e.gm_type ≤ 3
  pub fitted : (candidate_from read flag xs e.gm_type).refusal ≡ 0
  pub numbers : e.params ≡ (candidate_from read flag xs e.gm_type).params
  pub fit : unfit e.gm_type e.params ≡ false
  pub error : e.score ≡ error_from read e.params xs
  pub under : lt (gate energy) e.score ≡ false

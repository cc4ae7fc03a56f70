-- What it is for two lists to agree on the samples of the named classes, and to hold the same words of them in any order.
-- docs/RULES.md, 'Sets of classes'.
-- Assumes nothing.
use Rattle.std.specs.Prelude.{ℕ, Bool, List, map, ◌≡◌, length}
use Rattle.sample.specs.declared.MotionSample.{MotionSample}
use Rattle.exact.specs.Words.{Words, SameWords}
use Rattle.class_set.specs.Set.{chosen}
use Rattle.class_rows.specs.Rows.{lets_pass}

-- rows 1, 2 and 4 let both pass
pub record Pass {A : Type 0} (wrong : Bool) (set : ℕ) (xs : List A) (cs : List ℕ) (ys : List A) (ds : List ℕ) : Type 0 where
  pub first : lets_pass wrong set (length xs) cs ≡ 0
  pub second : lets_pass wrong set (length ys) ds ≡ 0

-- and their named samples are the same, in order, whatever the others are
pub record Agree {A : Type 0} (read : A → MotionSample) (wrong : Bool) (set : ℕ) (xs : List A) (cs : List ℕ) (ys : List A) (ds : List ℕ) : Type 0 where
  pub pass : Pass wrong set xs cs ys ds
  pub named : chosen set (map read xs) cs ≡ chosen set (map read ys) ds

-- and each of their named words stands equally often in both
pub record Reordered (wrong : Bool) (set : ℕ) (ws cs vs ds : List ℕ) : Type 0 where
  pub pass : Pass wrong set ws cs vs ds
  pub words : Words ws
  pub same : SameWords (chosen set ws cs) (chosen set vs ds)

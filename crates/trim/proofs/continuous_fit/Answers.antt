-- `trim::continuous_fit`: each case gives the six numbers that it stands for.
-- Assumes nothing.
use Rattle.trim.specs.Trim.{continuous_fit}
use Rattle.trim.proofs.continuous_fit.Goals as goal

pub returns-in-Refused : goal.returns-in-Refused
unfolding continuous_fit
returns-in-Refused c = rw c.in-Refused.is

pub returns-in-Translation : goal.returns-in-Translation
unfolding continuous_fit
returns-in-Translation c = rw c.in-Translation.is

pub returns-in-RotZoom : goal.returns-in-RotZoom
unfolding continuous_fit
returns-in-RotZoom c = rw c.in-RotZoom.is

pub returns-in-Affine : goal.returns-in-Affine
unfolding continuous_fit
returns-in-Affine c = rw c.in-Affine.is

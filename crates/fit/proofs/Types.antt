-- The type codes of a fit are at most 3.
-- Assumes nothing.
use Prim.Native.Nat.{◌≤◌}
use lib.Dec.{lit≤}
use Rattle.fit.specs.declared.Fitted.{Fitted}
use Rattle.fit.specs.declared.Fitted.TheVariants.{Refused, Translation, RotZoom, Affine}
use Rattle.fit.specs.Fitted.{type_of}

pub type_of-le : (f : Fitted) → type_of f ≤ 3
type_of-le (Refused n) = lit≤ tt
type_of-le (Translation m0 m1) = lit≤ tt
type_of-le (RotZoom m0 m1 m2 m3) = lit≤ tt
type_of-le (Affine m0 m1 m2 m3 m4 m5) = lit≤ tt

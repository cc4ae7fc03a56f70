-- Which classes a set names: by its bits up to the last class, none over it; the empty set names none, and 31 names all five.
-- Assumes nothing.
use Prim.Native.Nat.{ℕ, zero, suc, ◌/◌, ◌%◌, ◌^◌, ◌≤◌, ◌<◌}
use mathlib.Core.Bool.{true, false}
use mathlib.Core.Path.{◌≡◌, refl}
use native.Mathlib.Omega.{arith}
use borrow.Author.Tests.{lt-ltb, le-ltb}
use lib.Dec.{eqb}
use Rattle.class.specs.Class.{last_class}
use Rattle.class_set.specs.Set.{all_classes, names}

pub named-by-bit : (set class : ℕ) → class ≤ last_class → names set class ≡ eqb (set / 2 ^ class % 2) 1
unfolding names
named-by-bit set class h = rw (le-ltb last_class class h)

pub none_over : (set class : ℕ) → last_class < class → names set class ≡ false
unfolding names
none_over set class h = rw (lt-ltb last_class class h)

pub all_named : (class : ℕ) → class ≤ last_class → names all_classes class ≡ true
unfolding names
all_named zero h = refl
all_named (suc zero) h = refl
all_named (suc (suc zero)) h = refl
all_named (suc (suc (suc zero))) h = refl
all_named (suc (suc (suc (suc zero)))) h = refl
all_named (suc (suc (suc (suc (suc class))))) h = absurd (omega arith)

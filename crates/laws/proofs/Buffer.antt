-- What is written from the front stands there, and the buffer keeps its length.
-- Assumes nothing.
use Prim.Native.Nat.{◌≤◌, ◌-◌}
use mathlib.Core.List.{List}
use mathlib.Core.Path.{◌≡◌}
use native.Mathlib.Omega.{arith}
use lib.ListN.{length, take, drop, length-append, length-drop}
use lib.Seq.{take-append_seam}
use Rattle.laws.specs.Buffer.{onto}

module _ {A : Type 0} where
  pub onto-length : (new old : List A) → length new ≤ length old → length (onto new old) ≡ length old
  onto-length new old h = rw (length-append, length-drop) (omega arith)

  pub onto-front : (new old : List A) → take (length new) (onto new old) ≡ new
  onto-front new old = take-append_seam new (drop (length new) old)

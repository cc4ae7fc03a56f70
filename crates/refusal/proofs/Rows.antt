-- A refusal handed on is the table's answer: no row has the number 0, so that the first group that refuses answers.
-- Assumes nothing.
use Prim.Native.Nat.{ℕ, ◌<◌}
use mathlib.Core.Path.{◌≡◌}
use native.Mathlib.Omega.{arith}
use Rattle.laws.specs.Refusal.{or_else}
use Rattle.laws.proofs.Refusal.{or-else-refused}
use Rattle.refusal.specs.Number.{number_of}
use Rattle.refusal.specs.declared.Refusal.{Refusal}
use Rattle.refusal.specs.declared.Refusal.TheVariants.{TooLarge, WrongLength, TooShort, NoSuchCode, NotThere, Singular, ModelWrong, PriorOut, BytesEnd, CheckWrong, FieldWrong, NotStorable, ClassNotHeld, StartOver, TooFew, NotFinite, ShutterClosed, TooFar, NoClass}

-- each row's number is above 0
pub above-zero : (r : Refusal) → 0 < number_of r
above-zero TooLarge = omega arith
above-zero WrongLength = omega arith
above-zero TooShort = omega arith
above-zero NoSuchCode = omega arith
above-zero NotThere = omega arith
above-zero Singular = omega arith
above-zero ModelWrong = omega arith
above-zero PriorOut = omega arith
above-zero BytesEnd = omega arith
above-zero CheckWrong = omega arith
above-zero FieldWrong = omega arith
above-zero NotStorable = omega arith
above-zero ClassNotHeld = omega arith
above-zero StartOver = omega arith
above-zero TooFew = omega arith
above-zero NotFinite = omega arith
above-zero ShutterClosed = omega arith
above-zero TooFar = omega arith
above-zero NoClass = omega arith

pub never-zero : (r : Refusal) → number_of r ≡ 0 → ⊥
never-zero r e = let h = above-zero r in omega (arith, h, e)

-- a group that refuses answers for the groups after it
pub first-refused : (r : Refusal) (b : ℕ) → number_of r ≡ or_else (number_of r) b
first-refused r b = or-else-refused (number_of r) b (never-zero r)

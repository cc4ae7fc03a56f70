-- The numbers of the table of refusals: docs/RULES.md, 'When a call says no'.
-- Assumes nothing.
use Rattle.std.specs.Prelude.{ℕ, Result, Ok, Err}
use Rattle.refusal.specs.declared.Refusal.{Refusal}
use Rattle.refusal.specs.declared.Refusal.TheVariants.{TooLarge, WrongLength, TooShort, NoSuchCode, NotThere, Singular, ModelWrong, PriorOut, BytesEnd, CheckWrong, FieldWrong, NotStorable, ClassNotHeld, StartOver, TooFew, NotFinite, ShutterClosed, TooFar, NoClass}

abbrev pub number_of : Refusal → ℕ
number_of TooLarge = 1
number_of WrongLength = 2
number_of TooShort = 3
number_of NoSuchCode = 4
number_of NotThere = 5
number_of Singular = 6
number_of ModelWrong = 7
number_of PriorOut = 8
number_of BytesEnd = 9
number_of CheckWrong = 10
number_of FieldWrong = 11
number_of NotStorable = 12
number_of ClassNotHeld = 13
number_of StartOver = 14
number_of TooFew = 15
number_of NotFinite = 16
number_of ShutterClosed = 17
number_of TooFar = 18
number_of NoClass = 19

-- the number of a refusal, 0 where there is none
abbrev pub refusal_number : {A : Type 0} → Result A Refusal → ℕ
refusal_number (Ok _) = 0
refusal_number (Err r) = number_of r

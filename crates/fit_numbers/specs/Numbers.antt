-- A fitted model as the numbers that pass to and from C: its refusal and six numbers, zeros where its type has none, and the model of a type code and six numbers.
-- docs/RULES.md, 'Model'.
-- Assumes nothing.
use Rattle.std.specs.Prelude.{ℕ, List, eqb, get_or, replicate, Float}
use Rattle.std.specs.Float.{nan}
use Rattle.laws.specs.Binary64.{nought}
use Rattle.laws.specs.Buffer.{onto}
use Rattle.laws.specs.Refusal.{choose}
use Rattle.fit.specs.declared.Fitted.{Fitted}
use Rattle.fit.specs.declared.Fitted.TheVariants.{Refused, Translation, RotZoom, Affine}
use Rattle.fit.specs.Fitted.{refusal_of, values_of}
use Rattle.fit_numbers.specs.declared.FitAnswer.{FitAnswer}

abbrev pub numbers_of : Fitted → FitAnswer
numbers_of f = record { refusal = refusal_of f; numbers = onto (values_of f) (replicate 6 nought) }

abbrev pub at : List Float → ℕ → Float
at m i = get_or m i nan

-- a code that no fit has gives no model: row 4
abbrev pub fitted_of : ℕ → List Float → Fitted
fitted_of kind m =
    choose (eqb kind 1) (Translation (at m 0) (at m 1))
    (choose (eqb kind 2) (RotZoom (at m 0) (at m 1) (at m 2) (at m 3))
    (choose (eqb kind 3) (Affine (at m 0) (at m 1) (at m 2) (at m 3) (at m 4) (at m 5))
    (Refused 4)))

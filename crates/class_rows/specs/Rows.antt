-- Rows 1, 2, 4 and 19 of a list with classes: docs/RULES.md, 'Sets of classes'.
-- Assumes nothing.
use Rattle.std.specs.Prelude.{ℕ, Bool, not, List, [], ◌∷◌, ltb, eqb, pos, length, replicate}
use Rattle.laws.specs.Refusal.{row, judge, or_else, either}
use Rattle.class.specs.Class.{last_class, class_over}
use Rattle.class_set.specs.Set.{names_over, names_none}
use Rattle.fit.specs.declared.Fitted.{Fitted}
use Rattle.fit.specs.Fitted.{too_many, no_type}
use Rattle.quantize.specs.Quantize.{no_model}
use Rattle.trim.specs.declared.TrimmedModel.{TrimmedModel}
use Rattle.trim.specs.Trim.{trimmed_model_as}

-- rows 1, 2 and 4 of so many samples and their classes, of all classes and not of the named alone; `wrong` is the call's own condition of row 4
abbrev pub lets_pass : Bool → ℕ → ℕ → List ℕ → ℕ
lets_pass wrong set samples classes =
    judge
    (row 1 (too_many samples) ∷ row 2 (not (eqb (length classes) samples)) ∷ row 4 (either wrong (either (class_over last_class classes) (names_over set))) ∷ [])

-- row 19
abbrev pub empty_refusal : ℕ → ℕ
empty_refusal set = judge (row 19 (names_none set) ∷ [])

abbrev pub set_refusal : Bool → ℕ → ℕ → List ℕ → ℕ
set_refusal wrong set samples classes = or_else (lets_pass wrong set samples classes) (empty_refusal set)

abbrev pub refused_trimmed_model : ℕ → TrimmedModel
refused_trimmed_model n = trimmed_model_as n 0 (replicate 6 (pos 0))

-- row 4 of a call of two codes
abbrev pub no_type_or_flag : ℕ → ℕ → Bool
no_type_or_flag gm_type flag = either (no_type gm_type) (ltb 1 flag)

abbrev pub no_model_or_flag : Fitted → ℕ → Bool
no_model_or_flag f flag = either (no_model f) (ltb 1 flag)

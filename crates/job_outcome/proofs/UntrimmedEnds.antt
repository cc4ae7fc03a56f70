-- How a job that neither elects nor trims ends, said without electing and trimming: its rows, its fit of all named words,
-- its report and what it leaves. The law is `as-untrimmed` of `Untrimmed`.
-- Assumes nothing.
use Prim.Native.Nat.{ℕ}
use mathlib.Core.Bool.{Bool}
use mathlib.Core.List.{List, [], ◌∷◌}
use lib.Dec.{ltb}
use lib.IntN.{ℤ}
use lib.ListN.{length}
use Rattle.laws.specs.Refusal.{Row, row, judge, or_else, either}
use Rattle.class.specs.Class.{last_class, class_over}
use Rattle.class_set.specs.Set.{names_over, names_none}
use Rattle.models.specs.Models.{types_over, start_over}
use Rattle.forms.specs.Forms.{no_form}
use Rattle.frame_number.specs.Shutter.{closed_refusal}
use Rattle.fit.specs.declared.Fitted.{Fitted}
use Rattle.fit.specs.Fitted.{no_type, fit_of, refusal_of}
use Rattle.quantize.specs.Quantize.{params, row_first}
use Rattle.job_task.specs.Task.{Task, Lent, sizes_of}
use Rattle.job_task.specs.Rows.{no_reference, too_little, size_rows, model_rows}
use Rattle.job_model.specs.Assemble.{types_with, models_with}
use Rattle.job_outcome.specs.Outcome.{Ended, named}
use Rattle.job_outcome.proofs.Ends.{outcome_by}

-- ---- the rows: 4 without the codes of trimming and electing, and no 15

abbrev pub codes : Task → Bool
codes j =
    either (class_over last_class j.classes)
    (either (no_type j.settings.gm_type) (either (types_over j.types) (either (ltb 1 j.settings.flag) (either (names_over j.settings.set) (no_form j.form)))))

abbrev pub code_rows : Task → List Row
code_rows j =
    row 4 (codes j)
    ∷ row 19 (names_none j.settings.set)
    ∷ row 5 (no_reference j.settings.reference)
    ∷ row 14 (start_over j.settings.start)
    ∷ []

abbrev pub early : Task → Lent → ℕ
early j l =
    or_else (judge (size_rows (sizes_of j l) (length j.classes) (length j.types) (length j.models) (length j.prior)))
    (or_else (judge (code_rows j))
    (or_else (judge (model_rows j.settings j.form j.classes j.types j.models j.prior))
    (or_else (judge (row 3 (too_little (sizes_of j l) j.form) ∷ []))
    (closed_refusal j.settings.frame))))

-- ---- the model: fitted to all named words, refitted and scored over them

abbrev pub fit : Task → Fitted
fit j = fit_of j.settings.gm_type (named j)

abbrev pub own : Task → List ℤ
own j = params (fit j) j.settings.flag (named j)

abbrev pub types : Task → List ℕ
types j = types_with j.settings.reference j.settings.gm_type j.types

abbrev pub models : Task → List ℤ
models j = models_with j.settings.reference (row_first j.settings.gm_type (own j)) j.models

-- ---- the end

abbrev pub outcome : Task → Lent → Ended
outcome j l = outcome_by j l (types j) (models j) (own j) (named j) (early j l) (refusal_of (fit j))

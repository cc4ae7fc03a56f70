-- How a job that doesn't elect ends, said without electing: its rows, its fit of the type asked for, after trimming
-- where it trims, its report and what it leaves. The law is `as-asked` of `Asked`.
-- Assumes nothing.
use Prim.Native.Nat.{ℕ}
use mathlib.Core.Bool.{Bool}
use mathlib.Core.List.{List, [], ◌∷◌}
use lib.Dec.{ltb, eqb}
use lib.IntN.{ℤ}
use lib.ListN.{length}
use Rattle.laws.specs.Refusal.{Row, row, judge, or_else, either, both, choose}
use Rattle.class.specs.Class.{last_class, class_over}
use Rattle.class_set.specs.Set.{names_over, names_none, named_count}
use Rattle.models.specs.Models.{types_over, start_over}
use Rattle.forms.specs.Forms.{no_form}
use Rattle.frame_number.specs.Shutter.{closed_refusal}
use Rattle.sample.specs.Sample.{sample_of}
use Rattle.fit.specs.declared.Fitted.{Fitted}
use Rattle.fit.specs.Fitted.{no_type, fit_of, refusal_of}
use Rattle.quantize.specs.Quantize.{params, row_first}
use Rattle.trim.specs.Trim.{too_few, used_from, trim_refusal}
use Rattle.job_task.specs.Task.{Task, Lent, sizes_of}
use Rattle.job_task.specs.Rows.{no_reference, too_little, size_rows, model_rows}
use Rattle.job_model.specs.Assemble.{types_with, models_with}
use Rattle.job_outcome.specs.Outcome.{Ended, named}
use Rattle.job_outcome.proofs.Ends.{outcome_by}

-- ---- the rows: 4 without the elect code

abbrev pub gm_type : Task → ℕ
gm_type j = j.settings.gm_type

abbrev pub trims : Task → Bool
trims j = eqb j.settings.trim 1

abbrev pub codes : Task → Bool
codes j =
    either (class_over last_class j.classes)
    (either (no_type (gm_type j))
    (either (types_over j.types) (either (ltb 1 j.settings.flag) (either (ltb 1 j.settings.trim) (either (names_over j.settings.set) (no_form j.form))))))

abbrev pub code_rows : Task → List Row
code_rows j =
    row 4 (codes j)
    ∷ row 19 (names_none j.settings.set)
    ∷ row 5 (no_reference j.settings.reference)
    ∷ row 14 (start_over j.settings.start)
    ∷ []

abbrev pub room_rows : Task → Lent → List Row
room_rows j l =
    row 3 (too_little (sizes_of j l) j.form)
    ∷ row 15 (both (trims j) (too_few (gm_type j) (named_count j.settings.set j.classes)))
    ∷ []

abbrev pub early : Task → Lent → ℕ
early j l =
    or_else (judge (size_rows (sizes_of j l) (length j.classes) (length j.types) (length j.models) (length j.prior)))
    (or_else (judge (code_rows j))
    (or_else (judge (model_rows j.settings j.form j.classes j.types j.models j.prior))
    (or_else (judge (room_rows j l))
    (closed_refusal j.settings.frame))))

-- ---- the model: the fit of the type asked for, of the last fit's words where the job trims, otherwise of all that are named

abbrev pub fit_words : Task → List ℕ
fit_words j = choose (trims j) (used_from sample_of (gm_type j) (named j)) (named j)

abbrev pub fit : Task → Fitted
fit j = fit_of (gm_type j) (fit_words j)

abbrev pub late : Task → ℕ
late j = choose (trims j) (trim_refusal sample_of (gm_type j) (named j)) (refusal_of (fit j))

abbrev pub own : Task → List ℤ
own j = params (fit j) j.settings.flag (fit_words j)

abbrev pub types : Task → List ℕ
types j = types_with j.settings.reference (gm_type j) j.types

abbrev pub models : Task → List ℤ
models j = models_with j.settings.reference (row_first (gm_type j) (own j)) j.models

-- ---- the end

abbrev pub outcome : Task → Lent → Ended
outcome j l = outcome_by j l (types j) (models j) (own j) (named j) (early j l) (late j)

-- How a job whose set names all five classes ends, said without sets: its rows, its model of all words, its report and
-- what it leaves. The law is `as-unnamed` of `Unnamed`.
-- Assumes nothing.
use Prim.Native.Nat.{ℕ}
use mathlib.Core.Bool.{Bool}
use mathlib.Core.List.{List, [], ◌∷◌}
use lib.Dec.{ltb}
use lib.IntN.{ℤ}
use lib.ListN.{length}
use Rattle.laws.specs.Refusal.{Row, row, judge, or_else, either}
use Rattle.class.specs.Class.{last_class, class_over}
use Rattle.models.specs.Models.{types_over, start_over}
use Rattle.forms.specs.Forms.{no_form}
use Rattle.frame_number.specs.Shutter.{closed_refusal}
use Rattle.fit.specs.Fitted.{no_type}
use Rattle.job_task.specs.Task.{Task, Lent, sizes_of}
use Rattle.job_task.specs.Rows.{unless_elects, no_reference, too_little, too_few_to_trim, size_rows, model_rows}
use Rattle.job_model.specs.Modelled as model
use Rattle.job_outcome.specs.Outcome.{Ended, samples, words}
use Rattle.job_outcome.proofs.Ends.{outcome_by}

-- ---- the rows: 4 without the set, no 19, and 15 by all samples

abbrev pub codes : Task → Bool
codes j =
    let s = j.settings in
    either (class_over last_class j.classes)
    (either (unless_elects s (no_type s.gm_type))
    (either (types_over j.types) (either (ltb 1 s.flag) (either (unless_elects s (ltb 1 s.trim)) (either (ltb 1 s.elect) (no_form j.form))))))

abbrev pub code_rows : Task → List Row
code_rows j =
    row 4 (codes j)
    ∷ row 5 (no_reference j.settings.reference)
    ∷ row 14 (start_over j.settings.start)
    ∷ []

abbrev pub room_rows : Task → Lent → List Row
room_rows j l =
    row 3 (too_little (sizes_of j l) j.form)
    ∷ row 15 (too_few_to_trim j.settings (samples j))
    ∷ []

abbrev pub early : Task → Lent → ℕ
early j l =
    or_else (judge (size_rows (sizes_of j l) (length j.classes) (length j.types) (length j.models) (length j.prior)))
    (or_else (judge (code_rows j))
    (or_else (judge (model_rows j.settings j.form j.classes j.types j.models j.prior))
    (or_else (judge (room_rows j l))
    (closed_refusal j.settings.frame))))

-- ---- the model: of all words

abbrev pub late : Task → ℕ
late j = model.model_refusal j.settings (words j)

abbrev pub own : Task → List ℤ
own j = model.own j.settings (words j)

abbrev pub types : Task → List ℕ
types j = model.all_types j.settings j.types (words j)

abbrev pub models : Task → List ℤ
models j = model.all_models j.settings j.models (words j)

-- ---- the end

abbrev pub outcome : Task → Lent → Ended
outcome j l = outcome_by j l (types j) (models j) (own j) (words j) (early j l) (late j)

-- A job outside a run, that is of form 2, is the job without forms, bit for bit: form 2 holds every class, so row 13 never answers, and it reports and leaves the same.
-- Assumes nothing.
use Prim.Native.Nat.{ℕ}
use mathlib.Core.Bool.{Bool, true, false}
use mathlib.Core.List.{[], ◌∷◌}
use mathlib.Core.Path.{◌≡◌, refl, ap, ◌∙◌}
use lib.ListN.{length}
use Rattle.laws.specs.Refusal.{row, judge, or_else, either}
use Rattle.class.specs.Class.{last_class, class_over}
use Rattle.class_set.specs.Set.{names_over}
use Rattle.models.specs.Models.{models_wrong, priors_out}
use Rattle.forms.specs.Forms.{codec_of}
use Rattle.frame_number.specs.Shutter.{closed_refusal}
use Rattle.job_task.specs.Task.{Task, Lent, sizes_of}
use Rattle.job_task.specs.Rows.{not_held, size_rows, code_rows, model_rows, room_rows, refusal_before, early}
use Rattle.job_task.proofs.Groups.{or-else-same}
use Rattle.job_task.proofs.Accepted.{codes}
use Rattle.job_outcome.specs.Outcome.{outcome}
use Rattle.job_outcome.proofs.OutsideEnds as outside

either-false : (b : Bool) → either b false ≡ b
either-false true = refl
either-false false = refl

module _ (j : Task) (second : j.form ≡ 2) where
  -- the form's own part of row 4 is false
  codes-are : judge (code_rows j.settings j.form j.classes j.types) ≡ judge (outside.code_rows j)
  codes-are = rw (second, either-false (names_over j.settings.set))

  -- row 13 is row 4's test of the classes
  pub held-by-four : not_held j.form j.classes ≡ class_over last_class j.classes
  unfolding codec_of
  held-by-four = rw second

  models-are : judge (code_rows j.settings j.form j.classes j.types) ≡ 0
      → judge (model_rows j.settings j.form j.classes j.types j.models j.prior) ≡ judge (outside.model_rows j)
  models-are e =
      let c = codes j.settings j.form j.classes j.types e in
      ap (λ (b : Bool). judge (row 7 (models_wrong j.types j.settings.flag j.models) ∷ row 8 (priors_out j.prior) ∷ row 13 b ∷ [])) (held-by-four ∙ c.classed)

  module _ (l : Lent) where
    room-is : judge (room_rows (sizes_of j l) j.settings j.form j.classes) ≡ judge (outside.room_rows j l)
    unfolding codec_of
    room-is = rw second

    pub outside-run : early j l ≡ outside.early j l
    unfolding refusal_before
    outside-run =
        or-else-same {a = judge (size_rows (sizes_of j l) (length j.classes) (length j.types) (length j.models) (length j.prior))} refl
        (λ a. or-else-same codes-are (λ b. or-else-same (models-are b) (λ c. ap (λ (n : ℕ). or_else n (closed_refusal j.settings.frame)) room-is)))

    pub as-outside : outcome j l ≡ outside.outcome j l
    unfolding outcome codec_of
    as-outside = rw (outside-run, second)

-- What a refused job reports and leaves, and which rows a job never meets.
-- Assumes nothing.
use mathlib.Core.Bool.{false}
use mathlib.Core.Logic.{⊎_elim}
use mathlib.Core.Path.{◌≡◌, refl, sym, ap, ◌∙◌}
use native.Mathlib.Omega.{arith}
use lib.ListN.{length}
use Rattle.laws.proofs.Refusal.{or-else-refused, or_else_none}
use Rattle.frame_store.specs.InForm.{store_refusal_in}
use Rattle.models.specs.Models.{model_wrong, models_wrong}
use Rattle.job_model.specs.Modelled.{stored}
use Rattle.job_model.proofs.Refusals.{model-refusals}
use Rattle.job_task.specs.Task.{Task, Lent, sheet_of, sizes_of}
use Rattle.job_task.specs.Rows.{too_little, early}
use Rattle.job_task.proofs.Accepted.{all_quiet, quiet_all, ready}
use Rattle.job_outcome.specs.Outcome.{Ended, words, named, own_type, types, models, late, refusal, refused, searched, outcome}
use Rattle.job_outcome.proofs.Stages.{refused-early, refused-late, ends-accepted, by-stages, early-never-twelve, refused-in-second}
use Rattle.job_outcome.proofs.Blocks as blocks
use Rattle.job_outcome.proofs.Written.{writable, fitted-right}

-- half planes and words as the search leaves them; blocks and header as they were
pub record AsSearched (j : Task) (l : Lent) (left : Lent) : Type 0 where
  pub half_planes : (left.input_half ≡ (searched j l).input_half) × (left.ref_half ≡ (searched j l).ref_half)
  pub words : left.words ≡ (searched j l).words
  pub blocks : left.blocks ≡ l.blocks
  pub header : left.header ≡ l.header

module _ (j : Task) (l : Lent) where
  -- ---- what a refusal leaves

  -- before the search: all as it was
  pub early-leaves : (early j l ≡ 0 → ⊥) → (outcome j l).left ≡ l
  early-leaves h = ap (λ (o : Ended). o.left) (refused-early j l h)

  -- after it, whatever the number
  pub late-leaves : early j l ≡ 0 → (late j ≡ 0 → ⊥) → AsSearched j l (outcome j l).left
  late-leaves quiet h = rw (refused-late j l quiet h) (record { half_planes = (refl, refl); words = refl; blocks = refl; header = refl })

  -- a refusal reports its number and zeros
  pub refusal-reports : (refusal j l ≡ 0 → ⊥) → (outcome j l).report ≡ refused (refusal j l)
  refusal-reports z =
      by-stages j l (λ (o : Ended). o.report ≡ refused (refusal j l)) (λ h. ap refused (or-else-refused (early j l) (late j) h))
      (λ quiet h. ap refused (or_else_none (early j l) (late j) quiet))
      (λ quiet e. absurd (z (sym (or_else_none (early j l) (late j) quiet) ∙ e)))

  -- ---- which rows never hold

  pub never-twelve : refusal j l ≡ 12 → ⊥
  never-twelve e =
      let q = refused-in-second j l 12 (early-never-twelve j l) e in
      let r = (ready j l q.0).writes.sound.range in
      ⊎_elim (λ (z : late j ≡ 0). omega (arith, q.1))
      (⊎_elim (λ (z : late j ≡ 6). omega (arith, q.1)) (λ (z : late j ≡ 16). omega (arith, q.1)))
      (model-refusals j.settings (named j) r)

  module _ (quiet : early j l ≡ 0) where
    -- storing refuses nothing, 12 neither
    pub storing-accepted : store_refusal_in j.form j.settings.frame (words j) j.classes (length l.blocks) ≡ 0
    storing-accepted = let r = ready j l quiet in blocks.stored (sheet_of j) r.writes.sound (length l.blocks) r.writes.blocks_room

    -- no model of a job is wrong, the fitted one neither
    pub models-never-seven : late j ≡ 0 → models_wrong (types j) j.settings.flag (models j) ≡ false
    models-never-seven fits = (writable (sheet_of j) (ready j l quiet).writes.sound fits).right

    pub fitted-never-seven : late j ≡ 0 → model_wrong (own_type j) j.settings.flag (stored j.settings (named j)) 0 ≡ false
    fitted-never-seven fits = fitted-right (sheet_of j) (ready j l quiet).writes.sound fits

    -- ---- other buffers

    module _ (other : Lent) (enough : too_little (sizes_of j other) j.form ≡ false) where
      pub early-again : early j other ≡ 0
      early-again =
          let q = all_quiet (sizes_of j l) j.settings j.form j.classes j.types j.models j.prior quiet in
          let few = (ready j l quiet).writes.sound.enough in
          quiet_all (sizes_of j other) j.settings j.form j.classes j.types j.models j.prior
          (record { sizes = q.sizes; codes = q.codes; handed = q.handed; room = rw (enough, few); shutter = q.shutter })

      pub same-report : late j ≡ 0 → (outcome j other).report ≡ (outcome j l).report
      same-report fits =
          ap (λ (o : Ended). o.report) (ends-accepted j other early-again fits) ∙ sym (ap (λ (o : Ended). o.report) (ends-accepted j l quiet fits))

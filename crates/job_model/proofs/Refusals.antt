-- What refuses a job's model: 6, and of a job that trims 16 too; of a job that elects 16 alone. Unless the model is refused, its last fit isn't.
-- Assumes nothing.
use Prim.Native.Nat.{ℕ, zero, suc, ◌≤◌}
use mathlib.Core.Bool.{Bool, true, false, not}
use mathlib.Core.List.{List, [], ◌∷◌}
use mathlib.Core.Logic.{◌⊎◌, inl, inr, ⊎_elim}
use mathlib.Core.Path.{◌≡◌, refl, sym, ap, ◌∙◌}
use lib.Dec.{eqb}
use Rattle.laws.specs.Refusal.{row, judge, or_else, choose}
use Rattle.laws.proofs.Cases.{outcome}
use Rattle.laws.proofs.Refusal.{or-else-quiet}
use Rattle.sample.specs.Sample.{sample_of}
use Rattle.median.specs.Median.{all_finite}
use Rattle.fit.specs.Fitted.{fit_of, refusal_of, type_of}
use Rattle.trim.specs.Trim.{first_from, residuals_from, residual_refusal, used_from, last_from, trim_refusal}
use Rattle.job_task.specs.declared.Settings.{Settings}
use Rattle.job_task.specs.Rows.{elects}
use Rattle.job_task.specs.Inner.{InRange}
use Rattle.elect.specs.declared.Elected.{Elected}
use Rattle.elect.specs.Elect.{stopped}
use Rattle.elect.proofs.Held.{winner-numbered}
use Rattle.job_model.specs.Modelled.{winner, own_type, fit_words, fit_in, model_refusal}
use Rattle.job_model.proofs.FitOfType.{refusal-or-six, type-asked-for}
use Rattle.job_model.proofs.OwnType.{refusal-elected, last_type, elected-accepted}

-- none, 6 or 16
abbrev pub Late : ℕ → Type 0
Late n = (n ≡ 0) ⊎ ((n ≡ 6) ⊎ (n ≡ 16))

or-else-late : (a b : ℕ) → Late a → Late b → Late (or_else a b)
or-else-late zero b p q = q
or-else-late (suc a) b p q = p

of-a-fit : (n : ℕ) → (n ≡ 0) ⊎ (n ≡ 6) → Late n
of-a-fit n = ⊎_elim (λ (e : n ≡ 0). inl e) (λ (e : n ≡ 6). inr (inl e))

of-a-residual : (b : Bool) → Late (judge (row 16 b ∷ []))
of-a-residual true = inr (inr refl)
of-a-residual false = inl refl

of_either : (b : Bool) (m n : ℕ) → Late m → Late n → Late (choose b m n)
of_either true m n p q = p
of_either false m n p q = q

module _ (s : Settings) (ws : List ℕ) where
  -- ---- a job that elects

  sixteen-alone : ((winner s ws).refusal ≡ 0) ⊎ ((winner s ws).refusal ≡ 16)
  sixteen-alone =
      ⊎_elim
      (λ (z : (winner s ws).refusal ≡ 0). inl z)
      (λ (z : winner s ws ≡ stopped 16). inr (ap (λ (w : Elected). w.refusal) z))
      (winner-numbered sample_of s.flag ws)

  -- 16 alone
  pub electing-refusals : elects s ≡ true → (model_refusal s ws ≡ 0) ⊎ (model_refusal s ws ≡ 16)
  electing-refusals e = rw (refusal-elected s ws e) sixteen-alone

  -- ---- the type asked for

  abbrev kind : ℕ
  kind = s.gm_type

  abbrev used : List ℕ
  used = used_from sample_of kind ws

  module _ (least : 1 ≤ kind) (most : kind ≤ 3) where
    of-trimming : Late (trim_refusal sample_of kind ws)
    unfolding trim_refusal
    of-trimming =
        or-else-late (refusal_of (first_from sample_of kind ws)) _ (of-a-fit _ (refusal-or-six kind ws least most))
        (or-else-late (residual_refusal (residuals_from sample_of (first_from sample_of kind ws) ws)) (refusal_of (last_from sample_of kind ws))
        (of-a-residual (not (all_finite (residuals_from sample_of (first_from sample_of kind ws) ws))))
        (of-a-fit _ (refusal-or-six kind used least most)))

    of-asking : (b : Bool) → Late (choose b (trim_refusal sample_of kind ws) (refusal_of (fit_of kind (choose b used ws))))
    of-asking b = of_either b (trim_refusal sample_of kind ws) _ of-trimming (of-a-fit _ (refusal-or-six kind (choose b used ws) least most))

  last-accepted : trim_refusal sample_of kind ws ≡ 0 → refusal_of (last_from sample_of kind ws) ≡ 0
  unfolding trim_refusal
  last-accepted e = (or-else-quiet (residual_refusal (residuals_from sample_of (first_from sample_of kind ws) ws)) _ (or-else-quiet (refusal_of (first_from sample_of kind ws)) _ e).1).1

  either-accepted : (b : Bool) → choose b (trim_refusal sample_of kind ws) (refusal_of (fit_of kind (choose b used ws))) ≡ 0 → refusal_of (fit_of kind (choose b used ws)) ≡ 0
  either-accepted true e = last-accepted e
  either-accepted false e = e

  module _ (a : elects s ≡ false) where
    asked-refusal : model_refusal s ws ≡ choose (eqb s.trim 1) (trim_refusal sample_of kind ws) (refusal_of (fit_of kind (choose (eqb s.trim 1) used ws)))
    asked-refusal = rw a

    asked-fit : fit_in s ws ≡ fit_of kind (choose (eqb s.trim 1) used ws)
    asked-fit = rw a

    asked-accepted : model_refusal s ws ≡ 0 → refusal_of (fit_in s ws) ≡ 0
    asked-accepted z = ap refusal_of asked-fit ∙ either-accepted (eqb s.trim 1) (sym asked-refusal ∙ z)

  -- ---- any job

  module _ (r : InRange s) where
    pub model-refusals : Late (model_refusal s ws)
    model-refusals =
        ⊎_elim
        (λ (e : elects s ≡ true). ⊎_elim (λ (z : model_refusal s ws ≡ 0). inl z) (λ (z : model_refusal s ws ≡ 16). inr (inr z)) (electing-refusals e))
        (λ (a : elects s ≡ false). rw (asked-refusal a) (of-asking (r.some-type a) (r.last_type a) (eqb s.trim 1)))
        (outcome (elects s))

    module _ (z : model_refusal s ws ≡ 0) (some : 1 ≤ own_type s ws) where
      pub fit-accepted : refusal_of (fit_in s ws) ≡ 0
      fit-accepted =
          ⊎_elim (λ (e : elects s ≡ true). elected-accepted s ws r z some e) (λ (a : elects s ≡ false). asked-accepted a z) (outcome (elects s))

      -- and it is of the job's own type
      pub fit-type : type_of (fit_in s ws) ≡ own_type s ws
      fit-type = type-asked-for (own_type s ws) (fit_words s ws) some (last_type s ws r z) fit-accepted

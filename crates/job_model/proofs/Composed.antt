-- The steps of a job's model, one after the other, make the definition: each step's answer is the next one's argument.
-- Assumes nothing.
use Prim.Native.Nat.{ℕ}
use mathlib.Core.Bool.{false}
use mathlib.Core.List.{List}
use mathlib.Core.Logic.{⊎_elim}
use mathlib.Core.Path.{◌≡◌, refl, sym, ap, ◌∙◌}
use lib.IntN.{ℤ}
use Rattle.laws.specs.Call.{answered}
use Rattle.laws.proofs.Call.{answered-accepted, answered-refused}
use Rattle.laws.proofs.Cases.{eq-or-ne}
use Rattle.score.specs.declared.Score.{Score}
use Rattle.score.specs.Score.{mean_sq_residual}
use Rattle.quantize.specs.declared.Quantized.{Quantized}
use Rattle.quantize.specs.Quantize.{row_first, quantized_as, refused_model}
use Rattle.elect.specs.declared.Elected.{Elected}
use Rattle.elect.specs.Elect.{elected_as, stopped}
use Rattle.job_task.specs.declared.Settings.{Settings}
use Rattle.job_task.specs.Rows.{elects}
use Rattle.job_model.specs.Modelled.{model_refusal, own, score_of, modelled, modelled_as, not_modelled}
use Rattle.job_model.specs.Inner.{grid_answer, own_model, own_answer, modelled_with}
use Rattle.job_model.proofs.OwnType.{type-asked}

-- an answer shows the number that refuses it, or 0
shown : {A : Type 0} (number : A → ℕ) (refused : ℕ → A) → ((n : ℕ) → number (refused n) ≡ n) → (n : ℕ) (a : A) → number a ≡ 0 → number (answered refused n a) ≡ n
shown number refused own n a e =
    ⊎_elim
    (λ (z : n ≡ 0). ap number (answered-accepted refused n a z) ∙ e ∙ sym z)
    (λ (h : n ≡ 0 → ⊥). ap number (answered-refused refused n a h) ∙ own n)
    (eq-or-ne n 0)

-- ---- the model of the type asked for, from its fit on the grid

module _ (s : Settings) (ws : List ℕ) (asks : elects s ≡ false) {q : Quantized} (e : q ≡ grid_answer s ws) where
  grid-refusal : q.refusal ≡ model_refusal s ws
  unfolding grid_answer
  grid-refusal =
      ap (λ (a : Quantized). a.refusal) e
      ∙ shown (λ (a : Quantized). a.refusal) refused_model (λ n. refl) (model_refusal s ws) (quantized_as 0 (own s ws)) refl

  pub asked-refused : (q.refusal ≡ 0 → ⊥) → stopped q.refusal ≡ own_answer s ws
  unfolding own_answer
  asked-refused z =
      ap stopped grid-refusal
      ∙ sym (answered-refused stopped (model_refusal s ws) (own_model s ws) (λ y. z (grid-refusal ∙ y)))

  module _ (z : q.refusal ≡ 0) where
    params_are : q.params ≡ own s ws
    unfolding grid_answer
    params_are = ap (λ (a : Quantized). a.params) (e ∙ answered-accepted refused_model (model_refusal s ws) (quantized_as 0 (own s ws)) (sym grid-refusal ∙ z))

    as-own-model : {p : List ℤ} → p ≡ row_first s.gm_type q.params → {x : Score} → x ≡ mean_sq_residual q.params ws → elected_as 0 s.gm_type p x.score ≡ own_model s ws
    as-own-model {p} ep {x} ex =
        let kind = s.gm_type in
        ap (λ (l : List ℤ). elected_as 0 kind l x.score) ep
        ∙ ap (λ (y : Score). elected_as 0 kind (row_first kind q.params) y.score) ex
        ∙ ap (λ (o : List ℤ). elected_as 0 kind (row_first kind o) (mean_sq_residual o ws).score) params_are
        ∙ ap (λ (k : ℕ). elected_as 0 k (row_first k (own s ws)) (score_of s ws)) (sym (type-asked s ws asks))

    pub asked-accepted : {p : List ℤ} → p ≡ row_first s.gm_type q.params → {x : Score} → x ≡ mean_sq_residual q.params ws → elected_as 0 s.gm_type p x.score ≡ own_answer s ws
    unfolding own_answer
    asked-accepted ep ex = as-own-model ep ex ∙ sym (answered-accepted stopped (model_refusal s ws) (own_model s ws) (sym grid-refusal ∙ z))

-- ---- the seven models, from the job's own

module _ (s : Settings) (types : List ℕ) (models : List ℤ) (ws : List ℕ) {m : Elected} (e : m ≡ own_answer s ws) where
  own-refusal : m.refusal ≡ model_refusal s ws
  unfolding own_answer
  own-refusal =
      ap (λ (a : Elected). a.refusal) e
      ∙ shown (λ (a : Elected). a.refusal) stopped (λ n. refl) (model_refusal s ws) (own_model s ws) refl

  pub refused-as : (m.refusal ≡ 0 → ⊥) → not_modelled m.refusal ≡ modelled s types models ws
  unfolding modelled
  refused-as z =
      ap not_modelled own-refusal
      ∙ sym (answered-refused not_modelled (model_refusal s ws) (modelled_as s types models ws) (λ y. z (own-refusal ∙ y)))

  pub accepted-as : m.refusal ≡ 0 → modelled_with m s types models ≡ modelled s types models ws
  unfolding own_answer modelled
  accepted-as z =
      let quiet = sym own-refusal ∙ z in
      ap (λ (a : Elected). modelled_with a s types models) (e ∙ answered-accepted stopped (model_refusal s ws) (own_model s ws) quiet)
      ∙ sym (answered-accepted not_modelled (model_refusal s ws) (modelled_as s types models ws) quiet)

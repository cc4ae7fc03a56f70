-- The two ways to the model of a type asked for answer as the definition does: the trimmed call, of whose rows only its fits' and its residuals' are left, and the fit of all words put on the grid.
-- Assumes nothing.
use Prim.Native.Nat.{ℕ}
use mathlib.Core.Bool.{Bool, true, false}
use mathlib.Core.List.{List}
use mathlib.Core.Path.{◌≡◌, refl, sym, ap, ◌∙◌}
use native.Mathlib.Omega.{arith}
use borrow.Author.Tests.{le-ltb, ne_eqb}
use lib.Dec.{eqb}
use lib.IntN.{ℤ, pos}
use lib.ListN.{length, replicate}
use Rattle.laws.specs.Refusal.{choose}
use Rattle.laws.specs.Call.{answered}
use Rattle.laws.proofs.Call.{answered-accepted, answered-refused}
use Rattle.sample.specs.Sample.{sample_of}
use Rattle.fit.specs.declared.Fitted.{Fitted}
use Rattle.fit.specs.Fitted.{fitted, fit_of, refusal_of}
use Rattle.quantize.specs.declared.Quantized.{Quantized}
use Rattle.quantize.specs.Quantize.{params, params_from, quantized_as, refused_model, quantized_model}
use Rattle.trim.specs.declared.TrimmedModel.{TrimmedModel}
use Rattle.trim.specs.Trim.{too_few, used_from, last_from, trim_refusal, trimmed_model_refusal, trimmed_model_as, trimmed_model_from}
use Rattle.job_task.specs.declared.Settings.{Settings}
use Rattle.job_task.specs.Rows.{trims}
use Rattle.job_model.specs.Modelled.{model_refusal, own}
use Rattle.job_model.specs.Inner.{Fitting, Asking, grid_answer}
use Rattle.job_model.proofs.FitOfType.{fit-answers, grid-answers}

-- the answer of the trimmed call without the count of samples
abbrev pub uncounted : TrimmedModel → Quantized
uncounted t = quantized_as t.refusal t.params

of_either : (b : Bool) (t u : TrimmedModel) → uncounted (choose b t u) ≡ choose b (uncounted t) (uncounted u)
of_either true t u = refl
of_either false t u = refl

module _ (s : Settings) (ws : List ℕ) (g : Asking s ws) where
  abbrev kind : ℕ
  kind = s.gm_type

  abbrev f : Fitting s ws
  f = g.fitting

  module _ (t : trims s ≡ true) where
    abbrev last : List ℤ
    last = params_from sample_of (last_from sample_of kind ws) s.flag (used_from sample_of kind ws)

    long-enough : too_few kind (length ws) ≡ false
    long-enough = rw (t, g.asks) at f.enough

    -- rows 1, 4 and 15 are quiet
    refusal-left : trimmed_model_refusal sample_of kind s.flag ws ≡ trim_refusal sample_of kind ws
    refusal-left =
        let r = f.range in
        rw (
          le-ltb 4096 (length ws) f.few,
          ne_eqb kind 0 (omega (arith, r.some-type g.asks)),
          le-ltb 3 kind (r.last_type g.asks),
          le-ltb 1 s.flag r.flagged,
          long-enough,
        )

    as_own : answered refused_model (trim_refusal sample_of kind ws) (quantized_as 0 last) ≡ grid_answer s ws
    unfolding grid_answer
    as_own = rw (t, g.asks)

    pub trimmed-answers : {m : TrimmedModel} → m ≡ trimmed_model_from sample_of kind s.flag ws → uncounted m ≡ grid_answer s ws
    trimmed-answers e =
        let n = trimmed_model_refusal sample_of kind s.flag ws in
        ap uncounted e
        ∙ (of_either (eqb n 0) (trimmed_model_as 0 (length (used_from sample_of kind ws)) last) (trimmed_model_as n 0 (replicate 6 (pos 0)))
        ∙ (ap (λ (m : ℕ). answered refused_model m (quantized_as 0 last)) refusal-left ∙ as_own))

  module _ (t : trims s ≡ false) {h : Fitted} (e : h ≡ fitted kind ws) where
    is-fit : h ≡ fit_of kind ws
    is-fit = e ∙ fit-answers kind ws (f.range.some-type g.asks) (f.range.last_type g.asks) f.few

    refusal_is : {n : ℕ} → n ≡ refusal_of h → n ≡ model_refusal s ws
    refusal_is r = rw (t, g.asks) (r ∙ ap refusal_of is-fit)

    pub refused-answers : {n : ℕ} → n ≡ refusal_of h → (n ≡ 0 → ⊥) → refused_model n ≡ grid_answer s ws
    unfolding grid_answer
    refused-answers {n} r z =
        let q = refusal_is r in
        ap refused_model q ∙ sym (answered-refused refused_model (model_refusal s ws) (quantized_as 0 (own s ws)) (λ y. z (q ∙ y)))

    as-params : params (fit_of kind ws) s.flag ws ≡ own s ws
    as-params = rw (t, g.asks)

    pub accepted-answers : {n : ℕ} → n ≡ refusal_of h → n ≡ 0 → {q : Quantized} → q ≡ quantized_model h s.flag ws → q ≡ grid_answer s ws
    unfolding grid_answer
    accepted-answers r z eq =
        let on-grid = grid-answers kind ws (f.range.some-type g.asks) (f.range.last_type g.asks) f.few s.flag f.range.flagged (sym (r ∙ ap refusal_of is-fit) ∙ z) in
        eq
        ∙ (ap (λ (x : Fitted). quantized_model x s.flag ws) is-fit
        ∙ (on-grid
        ∙ (ap (quantized_as 0) as-params
        ∙ sym (answered-accepted refused_model (model_refusal s ws) (quantized_as 0 (own s ws)) (sym (refusal_is r) ∙ z)))))

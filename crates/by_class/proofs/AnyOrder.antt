-- Lists that hold the same named words in any order have the same fit, model on the grid, trimmed fit and trimmed model: the sums are exact.
-- Assumes nothing.
use Prim.Native.Nat.{ℕ}
use mathlib.Core.Bool.{Bool, true, false}
use mathlib.Core.List.{List, [], ◌∷◌}
use mathlib.Core.Path.{◌≡◌}
use Rattle.laws.specs.Refusal.{choose}
use Rattle.sample.specs.Sample.{sample_of}
use Rattle.class_set.specs.Set.{names, chosen}
use Rattle.fit.specs.declared.Fitted.{Fitted}
use Rattle.fit.specs.declared.Fitted.TheVariants.{Refused}
use Rattle.fit.specs.Fitted.{no_type}
use Rattle.quantize.specs.Quantize.{refused_model, quantized_model}
use Rattle.exact.specs.Words.{Words}
use Rattle.exact.proofs.Fits.{same-fit}
use Rattle.exact.proofs.Refit.{same-model}
use Rattle.trim.specs.Trim.{trimmed_from, trimmed_model_from}
use Rattle.trim_order.proofs.AnyOrder.{same-trimmed, same-trimmed-model}
use Rattle.by_class.specs.ByClass.{refused_trim, fitted_from, fitted_by, quantized_by, trimmed_by, trimmed_model_by}
use Rattle.class_rows.specs.Rows.{no_type_or_flag, no_model_or_flag, refused_trimmed_model}
use Rattle.by_class.specs.Agree.{Reordered}
use Rattle.by_class.proofs.Named.{same-call}

-- named words are words
words-or-not : (b : Bool) (w : ℕ) (ws us : List ℕ) → Words (w ∷ ws) → Words us → Words (choose b (w ∷ us) us)
words-or-not true w ws us h u = (h.0, u)
words-or-not false w ws us h u = u

named-words : (set : ℕ) (ws cs : List ℕ) → Words ws → Words (chosen set ws cs)
named-words set [] cs h = tt
named-words set (w ∷ ws) [] h = tt
named-words set (w ∷ ws) (c ∷ cs) h = words-or-not (names set c) w ws (chosen set ws cs) h (named-words set ws cs h.1)

module _ {set : ℕ} {ws cs vs ds : List ℕ} where
  pub reordered-fit : (gm_type : ℕ) → Reordered (no_type gm_type) set ws cs vs ds → fitted_by sample_of set gm_type ws cs ≡ fitted_by sample_of set gm_type vs ds
  reordered-fit gm_type o =
      same-call Refused (no_type gm_type) (fitted_from sample_of gm_type) o.pass (same-fit o.same (named-words set ws cs o.words) gm_type)

  pub reordered-model : (f : Fitted) (flag : ℕ) → Reordered (no_model_or_flag f flag) set ws cs vs ds
      → quantized_by sample_of set f flag ws cs ≡ quantized_by sample_of set f flag vs ds
  reordered-model f flag o =
      same-call refused_model (no_model_or_flag f flag) (quantized_model f flag) o.pass (same-model o.same (named-words set ws cs o.words) f flag)

  pub reordered-trimmed : (gm_type : ℕ) → Reordered (no_type gm_type) set ws cs vs ds → trimmed_by sample_of set gm_type ws cs ≡ trimmed_by sample_of set gm_type vs ds
  reordered-trimmed gm_type o =
      same-call refused_trim (no_type gm_type) (trimmed_from sample_of gm_type) o.pass (same-trimmed o.same (named-words set ws cs o.words) gm_type)

  pub reordered-trimmed-model : (gm_type flag : ℕ) → Reordered (no_type_or_flag gm_type flag) set ws cs vs ds
      → trimmed_model_by sample_of set gm_type flag ws cs ≡ trimmed_model_by sample_of set gm_type flag vs ds
  reordered-trimmed-model gm_type flag o =
      same-call refused_trimmed_model (no_type_or_flag gm_type flag) (trimmed_model_from sample_of gm_type flag) o.pass
      (same-trimmed-model o.same (named-words set ws cs o.words) gm_type flag)

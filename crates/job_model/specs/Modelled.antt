-- The model of a job: of the type asked for or elected, fitted, after trimming where the job trims, on the grid, scored, and among the six others at its reference. docs/RULES.md, 'Job'.
-- Assumes nothing.
use Rattle.std.specs.Prelude.{ℕ, Bool, List, eqb, ℤ, pos, replicate, Float, Result, Ok, Err}
use Rattle.laws.specs.Binary64.{nought}
use Rattle.laws.specs.Call.{answered}
use Rattle.laws.specs.Refusal.{choose, both}
use Rattle.sample.specs.Sample.{sample_of}
use Rattle.fit.specs.declared.Fitted.{Fitted}
use Rattle.fit.specs.Fitted.{fit_of, refusal_of}
use Rattle.score.specs.Score.{mean_sq_residual}
use Rattle.quantize.specs.Quantize.{params, row_first}
use Rattle.trim.specs.Trim.{used_from, trim_refusal}
use Rattle.elect.specs.declared.Elected.{Elected}
use Rattle.elect.specs.Elect.{identity_params, winner_from}
use Rattle.job_task.specs.declared.Settings.{Settings}
use Rattle.job_task.specs.Rows.{elects, trims}
use Rattle.job_model.specs.declared.SevenModels.{SevenModels}
use Rattle.job_model.specs.Assemble.{types_with, models_with}

-- ---- what of a job's settings and of the search's words the model takes

-- the winner of an election among all words
abbrev pub winner : Settings → List ℕ → Elected
winner s ws = winner_from sample_of s.flag ws

-- the type: the elected one where the job elects, otherwise the one asked for
abbrev pub own_type : Settings → List ℕ → ℕ
own_type s ws = choose (elects s) (winner s ws).gm_type s.gm_type

-- nobody wins: the job's model is IDENTITY, and no number of it is fitted to the grid
abbrev pub none_elected : Settings → List ℕ → Bool
none_elected s ws = both (elects s) (eqb (winner s ws).gm_type 0)

-- the words of the fit, and of the translation's second fit on the grid: those of the last fit made where the job trims, otherwise all of them
abbrev pub fit_words : Settings → List ℕ → List ℕ
fit_words s ws = choose (trims s) (used_from sample_of (own_type s ws) ws) ws

-- the words of the score: all of them, whether the job elects or trims or not
abbrev pub score_words : Settings → List ℕ → List ℕ
score_words s ws = ws

-- ---- the model

abbrev pub fit_in : Settings → List ℕ → Fitted
fit_in s ws = fit_of (own_type s ws) (fit_words s ws)

-- what it is refused for, 0 for nothing: an elimination refuses; of a job that trims also a residual that isn't finite; of a job that elects what the election is refused for
abbrev pub model_refusal : Settings → List ℕ → ℕ
model_refusal s ws = choose (elects s) (winner s ws).refusal (choose (trims s) (trim_refusal sample_of s.gm_type ws) (refusal_of (fit_in s ws)))

-- on the grid, x first, and as it is stored
abbrev pub own : Settings → List ℕ → List ℤ
own s ws = choose (none_elected s ws) identity_params (params (fit_in s ws) s.flag (fit_words s ws))

abbrev pub stored : Settings → List ℕ → List ℤ
stored s ws = row_first (own_type s ws) (own s ws)

abbrev pub score_of : Settings → List ℕ → Float
score_of s ws = (mean_sq_residual (own s ws) (score_words s ws)).score

-- the seven types, and the seven models as stored
abbrev pub all_types : Settings → List ℕ → List ℕ → List ℕ
all_types s types ws = types_with s.reference (own_type s ws) types

abbrev pub all_models : Settings → List ℤ → List ℕ → List ℤ
all_models s models ws = models_with s.reference (stored s ws) models

-- a row of the table of refusals (0: none), the seven types and models in rising order of reference, and the score
pub record Modelled : Type 0 where
  pub refusal : ℕ
  pub types : List ℕ
  pub models : List ℤ
  pub score : Float

abbrev pub not_modelled : ℕ → Modelled
not_modelled n = record { refusal = n; types = replicate 7 0; models = replicate 42 (pos 0); score = nought }

abbrev pub modelled_as : Settings → List ℕ → List ℤ → List ℕ → Modelled
modelled_as s types models ws =
    record { refusal = 0; types = all_types s types ws; models = all_models s models ws; score = score_of s ws }

-- the models, or the number of what refuses them
unfoldable pub modelled : Settings → List ℕ → List ℤ → List ℕ → Modelled
modelled s types models ws = answered not_modelled (model_refusal s ws) (modelled_as s types models ws)

-- what the call answers
abbrev pub modelled_in : Result SevenModels ℕ → Modelled
modelled_in (Ok m) = record { refusal = 0; types = m.types; models = m.models; score = m.score }
modelled_in (Err n) = not_modelled n

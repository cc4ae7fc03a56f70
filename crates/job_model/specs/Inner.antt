-- What the functions below the public calls ask and answer; no public contract cites it.
-- Assumes nothing.
use Rattle.std.specs.Prelude.{ℕ, ◌≤◌, Bool, false, List, ◌≡◌, ℤ, length}
use Rattle.laws.specs.Call.{answered}
use Rattle.quantize.specs.declared.Quantized.{Quantized}
use Rattle.quantize.specs.Quantize.{quantized_as, refused_model}
use Rattle.elect.specs.declared.Elected.{Elected}
use Rattle.elect.specs.Elect.{elected_as, stopped}
use Rattle.job_task.specs.declared.Settings.{Settings}
use Rattle.job_task.specs.Rows.{other_types, other_numbers, elects, trims, too_few_to_trim}
use Rattle.job_task.specs.Inner.{InRange}
use Rattle.job_model.specs.Assemble.{types_with, models_with}
use Rattle.job_model.specs.Modelled.{Modelled, own_type, model_refusal, own, stored, score_of}

-- a reference of 1 to 7
pub record Reference (reference : ℕ) : Type 0 where
  pub least : 1 ≤ reference
  pub most : reference ≤ 7

-- what a job's fit rests on: where the job trims the type asked for, its words are enough
pub record Fitting (s : Settings) (ws : List ℕ) : Type 0 where
  pub range : InRange s
  pub few : length ws ≤ 4096
  pub enough : too_few_to_trim s (length ws) ≡ false

-- of a job that doesn't elect, and that trims or doesn't
pub record Asking (s : Settings) (ws : List ℕ) : Type 0 where
  pub fitting : Fitting s ws
  pub asks : elects s ≡ false

pub record Trimming (s : Settings) (ws : List ℕ) (b : Bool) : Type 0 where
  pub asking : Asking s ws
  pub trimming : trims s ≡ b

-- the fit on the grid, x first, or the number of what refuses it
unfoldable pub grid_answer : Settings → List ℕ → Quantized
grid_answer s ws = answered refused_model (model_refusal s ws) (quantized_as 0 (own s ws))

-- the job's own model: its type, its numbers as stored and its score
abbrev pub own_model : Settings → List ℕ → Elected
own_model s ws = elected_as 0 (own_type s ws) (stored s ws) (score_of s ws)

-- that, or the number of what refuses it
unfoldable pub own_answer : Settings → List ℕ → Elected
own_answer s ws = answered stopped (model_refusal s ws) (own_model s ws)

-- what the seven models rest on
pub record Modelling (s : Settings) (types : List ℕ) (models : List ℤ) (ws : List ℕ) : Type 0 where
  pub fitting : Fitting s ws
  pub six : length types ≡ other_types
  pub numbers : length models ≡ other_numbers

-- a model among the six others at its reference
abbrev pub modelled_with : Elected → Settings → List ℕ → List ℤ → Modelled
modelled_with m s types models =
    record {
      refusal = 0;
      types = types_with s.reference m.gm_type types;
      models = models_with s.reference m.params models;
      score = m.score;
    }

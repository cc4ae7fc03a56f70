-- What the functions below the public calls ask and answer; no public contract cites it.
-- Assumes nothing.
use Rattle.std.specs.Prelude.{ℕ, ◌≤◌, Bool, List, ◌≡◌, length, Float}
use Rattle.std.specs.Float.Ieee.{le}
use Rattle.laws.specs.Buffer.{onto}
use Rattle.laws.specs.Call.{answered}
use Rattle.laws.specs.Chosen.{Front}
use Rattle.sample.specs.Word.{most_samples}
use Rattle.sample.specs.Sample.{sample_of}
use Rattle.fit.specs.declared.Fitted.{Fitted}
use Rattle.fit.specs.declared.Fitted.TheVariants.{Refused}
use Rattle.fit.specs.Fitted.{refusal_of, type_refusal}
use Rattle.trim.specs.declared.Trimmed.{Trimmed}
use Rattle.trim.specs.Trim.{least_of, first_from, used_from, trim_refusal, trimmed_as}
use Rattle.trim.specs.Inner.{squares_from, trim_answer, model_refusal}

abbrev pub at_most : Float → Float → Bool
at_most limit s = le s limit

abbrev pub refused_trim : ℕ → Trimmed
refused_trim k = trimmed_as (Refused k) 0

abbrev pub trim_of : Fitted → ℕ → Trimmed
trim_of f samples = answered refused_trim (refusal_of f) (trimmed_as f samples)

-- a list that rows 1, 4 and 15 let pass, and room for its squares and for all of it
pub record Asked (gm_type n : ℕ) (squares : List Float) (kept : List ℕ) : Type 0 where
  pub few : n ≤ most_samples
  pub typed : type_refusal gm_type ≡ 0
  pub enough : least_of gm_type ≤ n
  pub long : n ≤ length squares
  pub room : n ≤ length kept

-- after the first fit: each word's square in front of what was there
pub record Measured (gm_type : ℕ) (first : Fitted) (words : List ℕ) (squares : List Float) (kept : List ℕ) : Type 0 where
  pub old : List Float
  pub asked : Asked gm_type (length words) old kept
  pub is : first ≡ first_from sample_of gm_type words
  pub fitted : refusal_of (first_from sample_of gm_type words) ≡ 0
  pub squared : squares ≡ onto (squares_from sample_of (first_from sample_of gm_type words) words) old

-- the answer after rows 1, 4 and 15, and the words of the last fit
pub record Trims (gm_type : ℕ) (words kept : List ℕ) (t : Trimmed) : Type 0 where
  pub answers : t ≡ trim_answer sample_of gm_type words
  pub room : length words ≤ length kept
  pub within : trim_refusal sample_of gm_type words ≡ 0 → Front (used_from sample_of gm_type words) kept t.used

-- a list that the flag's row lets pass too, and the same room
pub record Placed (gm_type flag n : ℕ) (squares : List Float) (kept : List ℕ) : Type 0 where
  pub passes : model_refusal gm_type flag n ≡ 0
  pub long : n ≤ length squares
  pub room : n ≤ length kept

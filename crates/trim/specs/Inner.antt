-- A call's samples by their places, and what the functions below the public calls ask and answer; no public contract over words cites it.
-- Assumes nothing.
use Rattle.std.specs.Prelude.{ℕ, ◌≤◌, true, List, map, ◌≡◌, pos, length, get_or, replicate, T, Float}
use Rattle.std.specs.Float.{nan, binary64}
use Rattle.std.specs.Float.Ieee.{fits, le}
use Rattle.laws.specs.Parts.{listing}
use Rattle.laws.specs.Buffer.{onto}
use Rattle.laws.specs.Refusal.{or_else}
use Rattle.laws.specs.Call.{answered}
use Rattle.laws.specs.Binary64.{nought}
use Rattle.sample.specs.declared.MotionSample.{MotionSample}
use Rattle.sample.specs.Word.{most_samples}
use Rattle.root.specs.Root.{root}
use Rattle.median.specs.Inner.{unsigned, Plain}
use Rattle.score.specs.Score.{residual_of}
use Rattle.fit.specs.declared.Fitted.{Fitted}
use Rattle.fit.specs.declared.Fitted.TheVariants.{Refused}
use Rattle.fit.specs.Fitted.{refusal_of, fit_refusal}
use Rattle.quantize.specs.declared.Quantized.{Quantized}
use Rattle.trim.specs.declared.Cut.{Cut}
use Rattle.trim.specs.declared.Trimmed.{Trimmed}
use Rattle.trim.specs.declared.TrimmedModel.{TrimmedModel}
use Rattle.trim.specs.Trim.{least_of, continuous_fit, passing, first_from, used_from, last_from, few_refusal, flag_refusal, trim_refusal, trimmed_as, trimmed_model_as}

-- ---- samples by their places

-- read where a list has none
abbrev pub no_sample : MotionSample
no_sample = record { x = nan; y = nan; u = nan; v = nan }

abbrev pub sample_at : List MotionSample → ℕ → MotionSample
sample_at given i = get_or given i no_sample

-- 0, 1, .., n - 1
abbrev pub up_to : ℕ → List ℕ
up_to n = listing (λ i. i) n

-- the first n samples
abbrev pub samples_in : List MotionSample → ℕ → List MotionSample
samples_in given n = map (sample_at given) (up_to n)

-- ---- samples under a limit

-- how far a sample lies from a fit, squared: a residual before its root
abbrev pub square : Fitted → MotionSample → Float
square f s = residual_of (continuous_fit f) s

abbrev pub squares_from : {A : Type 0} → (A → MotionSample) → Fitted → List A → List Float
squares_from read f xs = map (λ x. square f (read x)) xs

-- a binary64 without sign
pub record Bare (x : Float) : Type 0 where
  pub held : T (fits binary64 x)
  pub bare : unsigned x ≡ true

-- a number is at most the limit exactly where its root is at most the cutoff
pub record Limits (cutoff limit : Float) : Type 0 where
  pub same : (x : Float) → Plain x → le x limit ≡ le (root x) cutoff

-- the i below n whose square is at most the limit
abbrev pub under : List Float → Float → ℕ → List ℕ
under squares limit n = passing (λ i. le (get_or squares i nan) limit) (up_to n)

-- so many are under the limit, of so many with a square
pub record Under (squares : List Float) (limit : Float) (n : ℕ) (used : ℕ) : Type 0 where
  pub few : n ≤ most_samples
  pub long : n ≤ length squares
  pub counted : used ≡ length (under squares limit n)

-- ---- the trim

abbrev pub cut_as : Fitted → ℕ → Float → Cut
cut_as f samples limit = record { fitted = f; used = samples; limit = limit }

abbrev pub refused_cut : ℕ → Cut
refused_cut k = cut_as (Refused k) 0 nought

abbrev pub cut_of : Fitted → ℕ → Float → Cut
cut_of f samples limit = answered refused_cut (refusal_of f) (cut_as f samples limit)

-- before the first fit: a list that rows 1, 4 and 15 let pass, and no square yet
pub record Untrimmed (gm_type n : ℕ) (squares : List Float) : Type 0 where
  pub few : n ≤ most_samples
  pub enough : least_of gm_type ≤ n
  pub clear : squares ≡ replicate most_samples nought

-- after it: the fit, and each sample's square in front of what was there
pub record Squared (given : List MotionSample) (gm_type n : ℕ) (squares : List Float) (first : Fitted) : Type 0 where
  pub few : n ≤ most_samples
  pub enough : least_of gm_type ≤ n
  pub is : first ≡ first_from (sample_at given) gm_type (up_to n)
  pub fitted : refusal_of (first_from (sample_at given) gm_type (up_to n)) ≡ 0
  pub old : List Float
  pub long : length old ≡ most_samples
  pub squared : squares ≡ onto (squares_from (sample_at given) (first_from (sample_at given) gm_type (up_to n)) (up_to n)) old

-- the answer after rows 1, 4 and 15
abbrev pub trim_answer : {A : Type 0} → (A → MotionSample) → ℕ → List A → Trimmed
trim_answer read gm_type xs =
    answered (λ k. trimmed_as (Refused k) 0) (trim_refusal read gm_type xs)
    (trimmed_as (last_from read gm_type xs) (length (used_from read gm_type xs)))

-- of a cut, and the limit that the last fit's samples are under
pub record Cuts (given : List MotionSample) (gm_type n : ℕ) (squares : List Float) (c : Cut) : Type 0 where
  pub long : n ≤ length squares
  pub answers : trimmed_as c.fitted c.used ≡ trim_answer (sample_at given) gm_type (up_to n)
  pub within : trim_refusal (sample_at given) gm_type (up_to n) ≡ 0 → under squares c.limit n ≡ used_from (sample_at given) gm_type (up_to n)

-- ---- the calls

-- rows 1, 4 and 15, which the list's length decides
abbrev pub list_refusal : ℕ → ℕ → ℕ
list_refusal gm_type samples = or_else (fit_refusal gm_type samples) (few_refusal gm_type samples)

abbrev pub model_refusal : ℕ → ℕ → ℕ → ℕ
model_refusal gm_type flag samples = or_else (fit_refusal gm_type samples) (or_else (flag_refusal flag) (few_refusal gm_type samples))

abbrev pub refused_model : ℕ → TrimmedModel
refused_model k = trimmed_model_as k 0 (replicate 6 (pos 0))

abbrev pub model_as : ℕ → Quantized → TrimmedModel
model_as samples q = trimmed_model_as 0 samples q.params

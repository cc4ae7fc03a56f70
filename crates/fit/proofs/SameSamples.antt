-- A fit takes each word's sample and nothing else of it: lists that are read as the same samples have the same fits. The class is no part of a sample.
-- Assumes nothing.
use Prim.Native.Nat.{ℕ, ◌/◌, ◌%◌}
use mathlib.Core.List.{List, [], ◌∷◌, map}
use mathlib.Core.Path.{◌≡◌, refl, sym, ap, ◌∙◌}
use native.Mathlib.Nat.{div-div-eq-div-mul}
use lib.Dec.{eqb}
use lib.ListN.{length, length-map}
use Rattle.laws.specs.Loops.{fold}
use Rattle.laws.specs.Refusal.{choose}
use Rattle.laws.specs.Call.{answered}
use Rattle.laws.specs.Binary64.{nought}
use Rattle.sample.specs.declared.MotionSample.{MotionSample}
use Rattle.sample.specs.Word.{row_unit, col_unit, v_unit, u_unit, sides, motions}
use Rattle.sample.specs.Sample.{sample_of, centre_of, pels_of}
use Rattle.fit.specs.declared.Fitted.{Fitted}
use Rattle.fit.specs.declared.Fitted.TheVariants.{Refused}
use Rattle.fit.specs.Sums.{Summing, sums_of, plus}
use Rattle.fit.specs.Fitted.{translation_by, rot_zoom_by, affine_by, translation_from, rot_zoom_from, affine_from, fit_refusal, fitted}

-- the answer of a type's fit by the sums over so many samples
abbrev fit_by : ℕ → Summing → ℕ → Fitted
fit_by gm_type sum samples =
    answered Refused (fit_refusal gm_type samples)
    (choose (eqb gm_type 1) (translation_by sum samples) (choose (eqb gm_type 2) (rot_zoom_by sum samples) (affine_by sum samples)))

-- ---- what a list is read as

-- a list read element by element is folded as the list of what was read
pub fold-map : {A B S : Type 0} (f : S → B → S) (read : A → B) (xs : List A) (s : S) → fold f (map read xs) s ≡ fold (λ (t : S) (x : A). f t (read x)) xs s
fold-map f read [] s = refl
fold-map f read (x ∷ xs) s = fold-map f read xs (f s (read x))

-- the sums over it are those over that list
module _ {A : Type 0} (read : A → MotionSample) (xs : List A) where
  abbrev samples : List MotionSample
  samples = map read xs

  sums-read : sums_of (λ (s : MotionSample). s) samples ≡ sums_of read xs
  sums-read = λ i term. fold-map (plus term) read xs nought i

  -- and so is whatever the sums over so many samples make
  pub by-samples : {B : Type 0} (g : Summing → ℕ → B) → g (sums_of (λ (s : MotionSample). s) samples) (length samples) ≡ g (sums_of read xs) (length xs)
  by-samples g = ap (g (sums_of (λ (s : MotionSample). s) samples)) (length-map xs read) ∙ ap (λ (sum : Summing). g sum (length xs)) sums-read

-- two lists of words that stand for the same samples
pub record SameSamples (ws vs : List ℕ) : Type 0 where
  pub samples : map sample_of ws ≡ map sample_of vs

module _ {ws vs : List ℕ} (same : SameSamples ws vs) where
  pub same_length : length ws ≡ length vs
  same_length = sym (length-map ws sample_of) ∙ ap length same.samples ∙ length-map vs sample_of

  -- any fold over the samples
  pub same_fold : {S : Type 0} (f : S → MotionSample → S) (s : S) → fold (λ (t : S) (w : ℕ). f t (sample_of w)) ws s ≡ fold (λ (t : S) (w : ℕ). f t (sample_of w)) vs s
  same_fold f s = sym (fold-map f sample_of ws s) ∙ ap (λ (xs : List MotionSample). fold f xs s) same.samples ∙ fold-map f sample_of vs s

  pub same-sums : sums_of sample_of ws ≡ sums_of sample_of vs
  same-sums = λ i term. same_fold (plus term) nought i

  pub same-fit : (gm_type : ℕ) → fitted gm_type ws ≡ fitted gm_type vs
  unfolding translation_from rot_zoom_from affine_from
  same-fit gm_type =
      ap (λ (samples : ℕ). fit_by gm_type (sums_of sample_of ws) samples) same_length
      ∙ ap (λ (sum : Summing). fit_by gm_type sum (length vs)) same-sums

-- ---- the class

-- a word without its class
abbrev pub without_class : ℕ → ℕ
without_class w = w / u_unit

-- the sample of what is left of a word
abbrev sample_in : ℕ → MotionSample
sample_in n =
    record {
      x = centre_of (n / (col_unit / u_unit) % sides);
      y = centre_of (n / (row_unit / u_unit));
      u = pels_of (n % motions);
      v = pels_of (n / (v_unit / u_unit) % motions);
    }

sample-without-class : (w : ℕ) → sample_in (without_class w) ≡ sample_of w
sample-without-class w = rw (div-div-eq-div-mul w 4 262144, div-div-eq-div-mul w 4 16777216, div-div-eq-div-mul w 4 512)

read-without-class : (ws : List ℕ) → map sample_of ws ≡ map sample_in (map without_class ws)
read-without-class [] = refl
read-without-class (w ∷ ws) = rw (sample-without-class w, ← read-without-class ws)

-- words that differ in their classes alone stand for the same samples
pub class-plays-no-part : (ws vs : List ℕ) → map without_class ws ≡ map without_class vs → SameSamples ws vs
class-plays-no-part ws vs e =
    record { samples = read-without-class ws ∙ ap (map sample_in) e ∙ sym (read-without-class vs) }

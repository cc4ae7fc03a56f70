-- A list that is read as samples elects what those samples elect: energy, candidates and errors take what is read and nothing else.
-- Assumes nothing.
use Prim.Native.Nat.{ℕ}
use mathlib.Core.List.{List, [], ◌∷◌, map}
use mathlib.Core.Path.{◌≡◌, refl, ap, ◌∙◌}
use lib.Dec.{eqb}
use lib.IntN.{ℤ}
use lib.ListN.{length, length-map}
use lib.Ieee.{Float, lt}
use Rattle.laws.specs.Binary64.{nought}
use Rattle.laws.specs.Call.{answered}
use Rattle.laws.specs.Loops.{fold}
use Rattle.laws.specs.Refusal.{choose}
use Rattle.sample.specs.declared.MotionSample.{MotionSample}
use Rattle.fit.specs.Sums.{reading, itself}
use Rattle.fit.proofs.SameSamples.{fold-map}
use Rattle.score.specs.Score.{continuous_model, score_step, score_of}
use Rattle.trim.specs.declared.TrimmedModel.{TrimmedModel}
use Rattle.trim.proofs.Mapped.{model-mapped}
use Rattle.elect.specs.declared.Elected.{Elected}
use Rattle.elect.specs.Elect.{floor, identity_params, error_from, energy_from, candidate_from, unfit, nobody, stopped}
use Rattle.elect.specs.Elect.{held_after, by_number, judged, turn, types, winner_from, elect_refusal, as_stored, elected_from}

module _ {A : Type 0} (read : A → MotionSample) where
  pub error-mapped : (p : List ℤ) (xs : List A) → error_from itself p (map read xs) ≡ error_from read p xs
  error-mapped p xs =
      ap (λ (n : ℕ). (score_of (fold (reading (score_step (continuous_model p)) itself) (map read xs) nought) n).score) (length-map xs read)
      ∙ ap (λ (acc : Float). (score_of acc (length xs)).score) (fold-map (score_step (continuous_model p)) read xs nought)

  module _ (flag : ℕ) (xs : List A) where
    abbrev samples : List MotionSample
    samples = map read xs

    judged-mapped : (energy : Float) (h : Elected) (gm_type : ℕ) (c : TrimmedModel) → judged itself samples energy h gm_type c ≡ judged read xs energy h gm_type c
    judged-mapped energy h gm_type c =
        ap (λ (err : Float). by_number c.refusal h (choose (unfit gm_type c.params) h (held_after energy h gm_type c.params err))) (error-mapped c.params xs)

    turn-mapped : (energy : Float) (h : Elected) (gm_type : ℕ) → turn itself flag samples energy h gm_type ≡ turn read flag xs energy h gm_type
    unfolding turn
    turn-mapped energy h gm_type =
        ap (λ (c : TrimmedModel). choose (eqb h.refusal 0) (judged itself samples energy h gm_type c) h) (model-mapped read gm_type xs flag)
        ∙ ap (λ (e : Elected). choose (eqb h.refusal 0) e h) (judged-mapped energy h gm_type (candidate_from read flag xs gm_type))

    turns-mapped : (kinds : List ℕ) (energy : Float) (h : Elected) → fold (turn itself flag samples energy) kinds h ≡ fold (turn read flag xs energy) kinds h
    turns-mapped [] energy h = refl
    turns-mapped (kind ∷ kinds) energy h =
        turns-mapped kinds energy (turn itself flag samples energy h kind)
        ∙ ap (λ (e : Elected). fold (turn read flag xs energy) kinds e) (turn-mapped energy h kind)

    abbrev energy : Float
    energy = energy_from read xs

    pub winner-mapped : winner_from itself flag samples ≡ winner_from read flag xs
    unfolding winner_from
    winner-mapped =
        ap (λ (e : Float). choose (lt e floor) (nobody e) (fold (turn itself flag samples e) types (nobody e))) (error-mapped identity_params xs)
        ∙ ap (λ (w : Elected). choose (lt energy floor) (nobody energy) w) (turns-mapped types energy (nobody energy))

    pub elected-mapped : elected_from itself flag samples ≡ elected_from read flag xs
    elected-mapped =
        ap (λ (n : ℕ). answered stopped (elect_refusal flag n) (as_stored (winner_from itself flag samples))) (length-map xs read)
        ∙ ap (λ (w : Elected). answered stopped (elect_refusal flag (length xs)) (as_stored w)) winner-mapped

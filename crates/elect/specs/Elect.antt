-- The election of a model (`estimate_global_motion`), over a list whose elements are read as samples: the energy of the
-- motion, the candidate of each type in rising order, which of them are passed over, and who is held at the end.
-- docs/RULES.md, 'Election'.
-- Assumes nothing.
use Rattle.std.specs.Prelude.{ℕ, Bool, false, not, List, [], ◌∷◌, ltb, eqb, ℤ, pos, length, replicate, Float}
use Rattle.std.specs.Float.{binary64}
use Rattle.std.specs.Float.Ieee.{lt, le, of_bits}
use Rattle.laws.specs.Loops.{fold}
use Rattle.laws.specs.Refusal.{or_else, choose, either, both}
use Rattle.laws.specs.Call.{answered}
use Rattle.laws.specs.Binary64.{◌⊖◌, ◌⊗◌, nought, one}
use Rattle.models.specs.Models.{model_wrong}
use Rattle.shear.specs.Call.{shear}
use Rattle.sample.specs.declared.MotionSample.{MotionSample}
use Rattle.fit.specs.Fitted.{list_refusal}
use Rattle.score.specs.Score.{continuous_model, scored}
use Rattle.quantize.specs.Quantize.{row_first}
use Rattle.trim.specs.declared.TrimmedModel.{TrimmedModel}
use Rattle.trim.specs.Trim.{flag_refusal, trimmed_model_from}
use Rattle.elect.specs.declared.Elected.{Elected}

-- ---- the thresholds

-- 0.25: a field of less energy than this stands still
abbrev pub floor : Float
floor = of_bits binary64 0x3fd0_0000_0000_0000

-- 0.75: the part of the energy that a model must explain
abbrev pub explained : Float
explained = of_bits binary64 0x3fe8_0000_0000_0000

-- 0.8: a higher type's error is at most this part of the held one's
abbrev pub ratio : Float
ratio = of_bits binary64 0x3fe9_9999_9999_999a

-- 0.02: and is below it by more than this
abbrev pub margin : Float
margin = of_bits binary64 0x3f94_7ae1_47ae_147b

-- ---- energy, error, candidates

abbrev pub identity_params : List ℤ
identity_params = pos 0 ∷ pos 0 ∷ pos 65536 ∷ pos 0 ∷ pos 0 ∷ pos 65536 ∷ []

-- the score over all samples of a model on the grid, x first
abbrev pub error_from : {A : Type 0} → (A → MotionSample) → List ℤ → List A → Float
error_from read p xs = (scored read (continuous_model p) xs).score

abbrev pub energy_from : {A : Type 0} → (A → MotionSample) → List A → Float
energy_from read xs = error_from read identity_params xs

-- the error above which a candidate is passed over
abbrev pub gate : Float → Float
gate energy = (one ⊖ explained) ⊗ energy

-- the trimmed fit of a type on the grid, x first, or what it is refused for
abbrev pub candidate_from : {A : Type 0} → (A → MotionSample) → ℕ → List A → ℕ → TrimmedModel
candidate_from read flag xs gm_type = trimmed_model_from read gm_type flag xs

-- six numbers that type 0 may hold
abbrev pub is_identity : List ℤ → Bool
is_identity p = not (model_wrong 0 0 p 0)

-- a warp that a decoder doesn't keep; a TRANSLATION has none
abbrev pub invalid_shear : ℕ → List ℤ → Bool
invalid_shear gm_type p = choose (ltb gm_type 2) false (eqb (shear gm_type p).valid 0)

unfoldable pub unfit : ℕ → List ℤ → Bool
unfit gm_type p = either (is_identity p) (invalid_shear gm_type p)

-- ---- who is held: a type, its numbers x first and its error; type 0 is nobody

abbrev pub elected_as : ℕ → ℕ → List ℤ → Float → Elected
elected_as n gm_type p err = record { refusal = n; gm_type = gm_type; params = p; score = err }

-- nobody: the identity, whose error is the energy
abbrev pub nobody : Float → Elected
nobody energy = elected_as 0 0 identity_params energy

abbrev pub stopped : ℕ → Elected
stopped n = elected_as n 0 (replicate 6 (pos 0)) nought

-- the first is held; a later one takes its place at 0.8 of its error or less and more than 0.02 below it
abbrev pub beats : Float → Elected → Bool
beats err h = either (eqb h.gm_type 0) (both (le err (ratio ⊗ h.score)) (lt margin (h.score ⊖ err)))

-- above the gate it is passed over
unfoldable pub held_after : Float → Elected → ℕ → List ℤ → Float → Elected
held_after energy h gm_type p err = choose (lt (gate energy) err) h (choose (beats err h) (elected_as 0 gm_type p err) h)

-- 16 ends the election; 15 and 6 are passed over
abbrev pub by_number : ℕ → Elected → Elected → Elected
by_number n h next = choose (eqb n 16) (stopped 16) (choose (eqb n 0) next h)

-- a candidate's turn
abbrev pub judged : {A : Type 0} → (A → MotionSample) → List A → Float → Elected → ℕ → TrimmedModel → Elected
judged read xs energy h gm_type c =
    by_number c.refusal h
    (choose (unfit gm_type c.params) h (held_after energy h gm_type c.params (error_from read c.params xs)))

unfoldable pub turn : {A : Type 0} → (A → MotionSample) → ℕ → List A → Float → Elected → ℕ → Elected
turn read flag xs energy h gm_type = choose (eqb h.refusal 0) (judged read xs energy h gm_type (candidate_from read flag xs gm_type)) h

-- ---- the election

abbrev pub types : List ℕ
types = 1 ∷ 2 ∷ 3 ∷ []

unfoldable pub winner_from : {A : Type 0} → (A → MotionSample) → ℕ → List A → Elected
winner_from read flag xs =
    choose (lt (energy_from read xs) floor)
    (nobody (energy_from read xs))
    (fold (turn read flag xs (energy_from read xs)) types (nobody (energy_from read xs)))

-- rows 1 and 4
abbrev pub elect_refusal : ℕ → ℕ → ℕ
elect_refusal flag samples = or_else (list_refusal samples) (flag_refusal flag)

-- a TRANSLATION row first
abbrev pub as_stored : Elected → Elected
as_stored e = elected_as e.refusal e.gm_type (row_first e.gm_type e.params) e.score

-- the type, its numbers as stored, and its score; IDENTITY where nobody wins
abbrev pub elected_from : {A : Type 0} → (A → MotionSample) → ℕ → List A → Elected
elected_from read flag xs = answered stopped (elect_refusal flag (length xs)) (as_stored (winner_from read flag xs))

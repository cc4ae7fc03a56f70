-- The election among a job's words answers as the definition does: rows 1 and 4 are quiet, its type, numbers and score are the job's own.
-- Assumes nothing.
use Prim.Native.Nat.{ℕ}
use mathlib.Core.Bool.{true}
use mathlib.Core.List.{List}
use mathlib.Core.Logic.{⊎_elim}
use mathlib.Core.Path.{◌≡◌, sym, ap, ◌∙◌}
use borrow.Author.Tests.{le-ltb}
use lib.IntN.{ℤ}
use lib.Ieee.{Float}
use lib.ListN.{length}
use Rattle.laws.specs.Call.{answered}
use Rattle.laws.proofs.Call.{answered-accepted}
use Rattle.sample.specs.Sample.{sample_of}
use Rattle.quantize.specs.Quantize.{row_first}
use Rattle.elect.specs.declared.Elected.{Elected}
use Rattle.elect.specs.Elect.{error_from, elected_as, stopped, elect_refusal, as_stored, elected_from}
use Rattle.elect.proofs.Held.{winner-numbered, winner-score}
use Rattle.job_task.specs.declared.Settings.{Settings}
use Rattle.job_task.specs.Rows.{elects}
use Rattle.job_model.specs.Modelled.{winner, model_refusal}
use Rattle.job_model.specs.Inner.{Fitting, own_model, own_answer}
use Rattle.job_model.proofs.OwnType.{refusal-elected, elected-type, elected-own}

module _ (s : Settings) (ws : List ℕ) (f : Fitting s ws) (e : elects s ≡ true) where
  no_row : elect_refusal s.flag (length ws) ≡ 0
  no_row = rw (le-ltb 4096 (length ws) f.few, le-ltb 1 s.flag f.range.flagged)

  same-model : {k k' : ℕ} {p p' : List ℤ} {x x' : Float} → k ≡ k' → p ≡ p' → x ≡ x' → elected_as 0 k (row_first k p) x ≡ elected_as 0 k' (row_first k' p') x'
  same-model p q r = rw (p, q, r)

  won : (winner s ws).refusal ≡ 0 → as_stored (winner s ws) ≡ own_answer s ws
  unfolding own_answer
  won z =
      let own_is = elected-own s ws e z in
      ap (λ (n : ℕ). elected_as n (winner s ws).gm_type (row_first (winner s ws).gm_type (winner s ws).params) (winner s ws).score) z
      ∙ same-model (sym (elected-type s ws e z)) (sym own_is) (winner-score sample_of s.flag ws z ∙ ap (λ (p : List ℤ). error_from sample_of p ws) (sym own_is))
      ∙ sym (answered-accepted stopped (model_refusal s ws) (own_model s ws) (refusal-elected s ws e ∙ z))

  ended : winner s ws ≡ stopped 16 → as_stored (winner s ws) ≡ own_answer s ws
  unfolding own_answer
  ended z =
      ap as_stored z
      ∙ sym (ap (λ (n : ℕ). answered stopped n (own_model s ws)) (refusal-elected s ws e ∙ ap (λ (w : Elected). w.refusal) z))

  pub election-answers : {a : Elected} → a ≡ elected_from sample_of s.flag ws → a ≡ own_answer s ws
  election-answers q =
      q
      ∙ answered-accepted stopped (elect_refusal s.flag (length ws)) (as_stored (winner s ws)) no_row
      ∙ ⊎_elim (λ (z : (winner s ws).refusal ≡ 0). won z) (λ (z : winner s ws ≡ stopped 16). ended z) (winner-numbered sample_of s.flag ws)

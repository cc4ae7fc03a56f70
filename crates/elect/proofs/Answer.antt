-- What holds of an accepted call's answer, as it is stored: its score is that of its numbers, x first again, over all samples, and a header can carry it.
-- Assumes nothing.
use Prim.Native.Nat.{ℕ, ◌≤◌}
use mathlib.Core.Bool.{false}
use mathlib.Core.List.{List}
use mathlib.Core.Logic.{⊎_elim}
use mathlib.Core.Path.{◌≡◌, sym, ap, subst, ◌∙◌}
use native.Mathlib.Omega.{arith}
use lib.Dec.{lit≤}
use lib.IntN.{ℤ}
use lib.ListN.{length}
use Rattle.laws.specs.Call.{answered}
use Rattle.laws.proofs.Call.{answered-accepted, answered-refused}
use Rattle.laws.proofs.Cases.{eq-or-ne}
use Rattle.models.specs.Models.{model_wrong}
use Rattle.sample.specs.declared.MotionSample.{MotionSample}
use Rattle.quantize.specs.Quantize.{row_first}
use Rattle.quantize.proofs.Accepted.{row-first-twice}
use Rattle.elect.specs.declared.Elected.{Elected}
use Rattle.elect.specs.Elect.{error_from, energy_from, nobody, stopped, winner_from, elect_refusal, as_stored, elected_from}
use Rattle.elect.specs.Inside.{Inside}
use Rattle.elect.proofs.Held.{winner-inside, winner-score}
use Rattle.elect.proofs.Codable.{inside-on-grid, winner-codable}

quiet-number : (n : ℕ) (a : Elected) → (answered stopped n a).refusal ≡ 0 → n ≡ 0
quiet-number n a e =
    ⊎_elim (λ (z : n ≡ 0). z)
    (λ (h : n ≡ 0 → ⊥). sym (ap (λ (w : Elected). w.refusal) (answered-refused stopped n a h)) ∙ e)
    (eq-or-ne n 0)

module _ {A : Type 0} (read : A → MotionSample) (flag : ℕ) (xs : List A) where
  abbrev winner : Elected
  winner = winner_from read flag xs

  pub winner-six : winner.refusal ≡ 0 → 2 ≤ length winner.params
  winner-six e =
      ⊎_elim
      (λ (n : winner ≡ nobody (energy_from read xs)). subst (λ (w : Elected). 2 ≤ length w.params) (sym n) (lit≤ tt))
      (λ (i : Inside read flag xs (energy_from read xs) winner). omega (arith, (inside-on-grid read flag xs (energy_from read xs) winner i).six))
      (winner-inside read flag xs e)

  -- the stored numbers, exchanged back
  pub winner-back : winner.refusal ≡ 0 → row_first winner.gm_type (as_stored winner).params ≡ winner.params
  winner-back e = row-first-twice winner.gm_type winner.params (winner-six e)

  module _ (accepted : (elected_from read flag xs).refusal ≡ 0) where
    abbrev answer : Elected
    answer = elected_from read flag xs

    is-winner : answer ≡ as_stored winner
    is-winner =
        answered-accepted stopped (elect_refusal flag (length xs)) (as_stored winner) (quiet-number (elect_refusal flag (length xs)) (as_stored winner) accepted)

    not-refused : winner.refusal ≡ 0
    not-refused = sym (ap (λ (w : Elected). w.refusal) is-winner) ∙ accepted

    pub answer-score : answer.score ≡ error_from read (row_first answer.gm_type answer.params) xs
    answer-score =
        subst (λ (w : Elected). w.score ≡ error_from read (row_first w.gm_type w.params) xs) (sym is-winner)
        (winner-score read flag xs not-refused ∙ ap (λ (p : List ℤ). error_from read p xs) (sym (winner-back not-refused)))

    pub answer-codable : model_wrong answer.gm_type flag answer.params 0 ≡ false
    answer-codable =
        subst (λ (w : Elected). model_wrong w.gm_type flag w.params 0 ≡ false) (sym is-winner) (winner-codable read flag xs not-refused)

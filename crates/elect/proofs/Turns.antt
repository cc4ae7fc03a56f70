-- A candidate's turn, by its cases: the election has ended, the fit is refused, the model is unfit, or its error decides.
-- Assumes nothing.
use Prim.Native.Nat.{ℕ}
use mathlib.Core.Bool.{Bool, true, false}
use mathlib.Core.List.{List}
use mathlib.Core.Path.{◌≡◌, sym, ap, ◌∙◌}
use borrow.Author.Tests.{eq-eqb, ne_eqb}
use lib.Dec.{eqb}
use lib.Ieee.{Float, lt}
use Rattle.laws.specs.Loops.{fold}
use Rattle.laws.specs.Refusal.{choose}
use Rattle.sample.specs.declared.MotionSample.{MotionSample}
use Rattle.trim.specs.declared.TrimmedModel.{TrimmedModel}
use Rattle.elect.specs.declared.Elected.{Elected}
use Rattle.elect.specs.Elect.{floor, error_from, energy_from, candidate_from, unfit, nobody, stopped, held_after, by_number, judged, turn, types, winner_from}

module _ {A : Type 0} (read : A → MotionSample) (flag : ℕ) (xs : List A) (energy : Float) (h : Elected) (gm_type : ℕ) where
  abbrev after : Elected
  after = turn read flag xs energy h gm_type

  abbrev own : TrimmedModel
  own = candidate_from read flag xs gm_type

  pub turn-ended : (h.refusal ≡ 0 → ⊥) → h ≡ after
  unfolding turn
  turn-ended ended = sym (ap (λ (b : Bool). choose b (judged read xs energy h gm_type own) h) (ne_eqb h.refusal 0 ended))

  module _ (goes : h.refusal ≡ 0) (c : TrimmedModel) (is : c ≡ own) where
    turn_is : after ≡ judged read xs energy h gm_type c
    unfolding turn
    turn_is =
        ap (λ (b : Bool). choose b (judged read xs energy h gm_type own) h) (eq-eqb h.refusal 0 goes)
        ∙ ap (λ (t : TrimmedModel). judged read xs energy h gm_type t) (sym is)

    abbrev next : Elected
    next = choose (unfit gm_type c.params) h (held_after energy h gm_type c.params (error_from read c.params xs))

    pub turn-stops : c.refusal ≡ 16 → stopped 16 ≡ after
    turn-stops e = sym (turn_is ∙ ap (λ (n : ℕ). by_number n h next) e)

    pub turn-passes : (c.refusal ≡ 16 → ⊥) → (c.refusal ≡ 0 → ⊥) → h ≡ after
    turn-passes not-sixteen refused =
        sym
        (turn_is
        ∙ ap (λ (b : Bool). choose b (stopped 16) (choose (eqb c.refusal 0) next h)) (ne_eqb c.refusal 16 not-sixteen)
        ∙ ap (λ (b : Bool). choose b next h) (ne_eqb c.refusal 0 refused))

    module _ (fitted : c.refusal ≡ 0) where
      turn-next : after ≡ next
      turn-next = turn_is ∙ ap (λ (n : ℕ). by_number n h next) fitted

      pub turn-unfit : unfit gm_type c.params ≡ true → h ≡ after
      turn-unfit e =
          sym
          (turn-next
          ∙ ap (λ (b : Bool). choose b h (held_after energy h gm_type c.params (error_from read c.params xs))) e)

      pub turn-judged : unfit gm_type c.params ≡ false → (err : Float) → err ≡ error_from read c.params xs → held_after energy h gm_type c.params err ≡ after
      turn-judged e err q =
          ap (λ (x : Float). held_after energy h gm_type c.params x) q
          ∙ sym
          (turn-next
          ∙ ap (λ (b : Bool). choose b h (held_after energy h gm_type c.params (error_from read c.params xs))) e)

-- ---- the election

module _ {A : Type 0} (read : A → MotionSample) (flag : ℕ) (xs : List A) where
  abbrev turns : Float → Elected
  turns energy = fold (turn read flag xs energy) types (nobody energy)

  -- below the floor nobody is asked
  pub winner-still : lt (energy_from read xs) floor ≡ true → winner_from read flag xs ≡ nobody (energy_from read xs)
  unfolding winner_from
  winner-still e = ap (λ (b : Bool). choose b (nobody (energy_from read xs)) (turns (energy_from read xs))) e

  pub winner-moving : lt (energy_from read xs) floor ≡ false → winner_from read flag xs ≡ turns (energy_from read xs)
  unfolding winner_from
  winner-moving e = ap (λ (b : Bool). choose b (nobody (energy_from read xs)) (turns (energy_from read xs))) e

  -- one turn after the other
  pub three-turns : (energy : Float) → energy ≡ energy_from read xs → lt energy floor ≡ false → {none first second third : Elected} → none ≡ nobody energy
      → first ≡ turn read flag xs energy none 1 → second ≡ turn read flag xs energy first 2 → third ≡ turn read flag xs energy second 3 → third ≡ winner_from read flag xs
  three-turns energy e moving n a b c =
      c
      ∙ ap (λ (h : Elected). turn read flag xs energy h 3) (b ∙ ap (λ (h : Elected). turn read flag xs energy h 2) (a ∙ ap (λ (h : Elected). turn read flag xs energy h 1) n))
      ∙ ap turns e
      ∙ sym (winner-moving (ap (λ (x : Float). lt x floor) (sym e) ∙ moving))

-- Every answer is codable: as it is stored, it is a model that a header can carry.
-- Assumes nothing.
use Prim.Native.Nat.{ℕ, zero, suc}
use mathlib.Core.Bool.{false}
use mathlib.Core.List.{List}
use mathlib.Core.Logic.{⊎_elim}
use mathlib.Core.Path.{◌≡◌, refl, sym, ap, subst, ◌∙◌}
use native.Mathlib.Omega.{arith}
use borrow.Author.Tests.{ne_eqb}
use lib.IntN.{ℤ}
use lib.ListN.{length}
use lib.Ieee.{Float}
use Rattle.laws.specs.Call.{answered}
use Rattle.laws.specs.Refusal.{or_else}
use Rattle.laws.proofs.Call.{answered-accepted}
use Rattle.laws.proofs.Refusal.{or-else-quiet}
use Rattle.models.specs.Models.{filler, slot_wrong, model_wrong}
use Rattle.sample.specs.declared.MotionSample.{MotionSample}
use Rattle.fit.specs.declared.Fitted.{Fitted}
use Rattle.fit.specs.Fitted.{refusal_of, type_of, fit_refusal}
use Rattle.fit.proofs.OfType.{fit-of-type}
use Rattle.quantize.specs.Quantize.{params_from, row_first}
use Rattle.quantize.proofs.OnGrid.{OnGrid}
use Rattle.trim.specs.declared.TrimmedModel.{TrimmedModel}
use Rattle.trim.specs.Trim.{residuals_from, first_from, used_from, last_from, few_refusal, flag_refusal, residual_refusal, trim_refusal, trimmed_model_as, trimmed_model_refusal}
use Rattle.trim.specs.Inner.{refused_model}
use Rattle.elect.specs.declared.Elected.{Elected}
use Rattle.elect.specs.Elect.{identity_params, energy_from, nobody, winner_from, as_stored}
use Rattle.elect.specs.Inside.{Inside}
use Rattle.elect.proofs.AnyMotion.{from-on-grid}
use Rattle.elect.proofs.OwnModel.{own-right}
use Rattle.elect.proofs.Held.{winner-inside}

-- an answer shows its own number
number-shown : (n samples : ℕ) (p : List ℤ) → (answered refused_model n (trimmed_model_as 0 samples p)).refusal ≡ n
number-shown zero samples p = refl
number-shown (suc n) samples p = rw (ne_eqb (suc n) 0 (omega arith))

-- IDENTITY
identity-right : (flag : ℕ) → model_wrong 0 flag identity_params 0 ≡ false
unfolding model_wrong slot_wrong filler
identity-right flag = refl

module _ {A : Type 0} (read : A → MotionSample) (flag : ℕ) (xs : List A) (energy : Float) (e : Elected) (i : Inside read flag xs energy e) where
  abbrev kind : ℕ
  kind = e.gm_type

  abbrev used : List A
  used = used_from read kind xs

  abbrev last : Fitted
  last = last_from read kind xs

  abbrev model : List ℤ
  model = params_from read last flag used

  abbrev first-refusal : ℕ
  first-refusal = refusal_of (first_from read kind xs)

  abbrev far : ℕ
  far = residual_refusal (residuals_from read (first_from read kind xs) xs)

  no-refusal : trimmed_model_refusal read kind flag xs ≡ 0
  no-refusal = sym (number-shown (trimmed_model_refusal read kind flag xs) (length used) model) ∙ i.fitted

  -- the last fit of its type, on the grid
  pub numbers-are : e.params ≡ model
  numbers-are =
      i.numbers
      ∙ ap (λ (c : TrimmedModel). c.params) (answered-accepted refused_model (trimmed_model_refusal read kind flag xs) (trimmed_model_as 0 (length used) model) no-refusal)

  trim-quiet : trim_refusal read kind xs ≡ 0
  trim-quiet =
      (or-else-quiet (few_refusal kind (length xs)) (trim_refusal read kind xs)
      (or-else-quiet (flag_refusal flag) (or_else (few_refusal kind (length xs)) (trim_refusal read kind xs))
      (or-else-quiet (fit_refusal kind (length xs)) (or_else (flag_refusal flag) (or_else (few_refusal kind (length xs)) (trim_refusal read kind xs))) no-refusal).1).1).1

  pub last-fitted : refusal_of last ≡ 0
  unfolding trim_refusal
  last-fitted = (or-else-quiet far (refusal_of last) (or-else-quiet first-refusal (or_else far (refusal_of last)) trim-quiet).1).1

  last_type : type_of last ≡ kind
  last_type = (fit-of-type read kind used i.some-type i.last_type).same last-fitted

  pub inside-on-grid : OnGrid kind flag e.params
  inside-on-grid =
      subst (λ (p : List ℤ). OnGrid kind flag p) (sym numbers-are)
      (subst (λ (k : ℕ). OnGrid k flag model) last_type (from-on-grid read last flag used (λ z. omega (arith, last_type, i.some-type, z))))

  inside-right : model_wrong kind flag (row_first kind e.params) 0 ≡ false
  inside-right = own-right kind flag i.some-type i.last_type e.params inside-on-grid

module _ {A : Type 0} (read : A → MotionSample) (flag : ℕ) (xs : List A) where
  abbrev winner : Elected
  winner = winner_from read flag xs

  abbrev Right : Elected → Type 0
  Right w = model_wrong (as_stored w).gm_type flag (as_stored w).params 0 ≡ false

  pub winner-codable : winner.refusal ≡ 0 → Right winner
  winner-codable e =
      ⊎_elim
      (λ (n : winner ≡ nobody (energy_from read xs)). subst Right (sym n) (identity-right flag))
      (λ (i : Inside read flag xs (energy_from read xs) winner). inside-right read flag xs (energy_from read xs) winner i)
      (winner-inside read flag xs e)

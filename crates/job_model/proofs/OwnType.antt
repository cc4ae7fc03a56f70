-- A job's own model by its type, unless it is refused: elected it is the winner's, of the last fit of its type, or the identity where nobody wins; otherwise it is of the type asked for.
-- Assumes nothing.
use Prim.Native.Nat.{ℕ, ◌≤◌}
use mathlib.Core.Bool.{Bool, true, false}
use mathlib.Core.List.{List}
use mathlib.Core.Logic.{⊎_elim}
use mathlib.Core.Path.{◌≡◌, sym, ap, ◌∙◌}
use native.Mathlib.Omega.{arith}
use borrow.Author.Tests.{ne_eqb}
use lib.Dec.{eqb}
use lib.IntN.{ℤ}
use Rattle.laws.specs.Refusal.{choose, both}
use Rattle.laws.proofs.Cases.{outcome, eq-or-ne}
use Rattle.sample.specs.Sample.{sample_of}
use Rattle.fit.specs.Fitted.{fit_of, refusal_of}
use Rattle.quantize.specs.Quantize.{params}
use Rattle.trim.specs.Trim.{used_from}
use Rattle.elect.specs.declared.Elected.{Elected}
use Rattle.elect.specs.Elect.{identity_params, energy_from}
use Rattle.elect.specs.Inside.{Inside}
use Rattle.elect.proofs.Held.{winner-none, winner-some, winner-last}
use Rattle.elect.proofs.Codable.{numbers-are, last-fitted}
use Rattle.job_task.specs.declared.Settings.{Settings}
use Rattle.job_task.specs.Rows.{elects}
use Rattle.job_task.specs.Inner.{InRange}
use Rattle.job_model.specs.Modelled.{winner, own_type, fit_words, fit_in, model_refusal, own}

module _ (s : Settings) (ws : List ℕ) where
  abbrev flag : ℕ
  flag = s.flag

  abbrev fitted : List ℤ
  fitted = params (fit_in s ws) flag (fit_words s ws)

  -- ---- a job that elects

  module _ (e : elects s ≡ true) (z : (winner s ws).refusal ≡ 0) where
    abbrev kind : ℕ
    kind = (winner s ws).gm_type

    pub elected-type : own_type s ws ≡ kind
    elected-type = rw e

    elected-words : fit_words s ws ≡ used_from sample_of kind ws
    elected-words = rw e

    pub elected-none : kind ≡ 0 → own s ws ≡ (winner s ws).params
    elected-none n = rw (e, n) (sym (ap (λ (w : Elected). w.params) (winner-none sample_of flag ws z n)))

    module _ (some : 1 ≤ kind) where
      inside : Inside sample_of flag ws (energy_from sample_of ws) (winner s ws)
      inside = winner-some sample_of flag ws z some

      own-fitted : own s ws ≡ fitted
      own-fitted = rw (e, ne_eqb kind 0 (λ n. omega (arith, some, n)))

      fitted-elected : fitted ≡ params (fit_of kind (used_from sample_of kind ws)) flag (used_from sample_of kind ws)
      fitted-elected = rw e

      pub elected-some : own s ws ≡ (winner s ws).params
      elected-some = own-fitted ∙ fitted-elected ∙ sym (numbers-are sample_of flag ws (energy_from sample_of ws) (winner s ws) inside)

      elected-fits : refusal_of (fit_in s ws) ≡ 0
      elected-fits = rw e (last-fitted sample_of flag ws (energy_from sample_of ws) (winner s ws) inside)

    -- the winner's numbers
    pub elected-own : own s ws ≡ (winner s ws).params
    elected-own =
        ⊎_elim (λ (n : kind ≡ 0). elected-none n) (λ (h : kind ≡ 0 → ⊥). elected-some (omega (arith, h))) (eq-or-ne kind 0)

  -- ---- any job

  -- where a refusal comes from
  pub refusal-elected : elects s ≡ true → model_refusal s ws ≡ (winner s ws).refusal
  refusal-elected e = rw e

  pub type-asked : elects s ≡ false → own_type s ws ≡ s.gm_type
  type-asked a = rw a

  pub own-asked : elects s ≡ false → own s ws ≡ fitted
  own-asked a = ap (λ (b : Bool). choose (both b (eqb (winner s ws).gm_type 0)) identity_params fitted) a

  module _ (r : InRange s) (z : model_refusal s ws ≡ 0) where
    winner-accepted : elects s ≡ true → (winner s ws).refusal ≡ 0
    winner-accepted e = sym (refusal-elected e) ∙ z

    pub last_type : own_type s ws ≤ 3
    last_type =
        ⊎_elim
        (λ (e : elects s ≡ true). rw e (winner-last sample_of flag ws (winner-accepted e)))
        (λ (a : elects s ≡ false). rw a (r.last_type a))
        (outcome (elects s))

    -- IDENTITY is elected, never asked for
    pub as-identity : own_type s ws ≡ 0 → own s ws ≡ identity_params
    as-identity n =
        ⊎_elim
        (λ (e : elects s ≡ true).
        let none = sym (elected-type e (winner-accepted e)) ∙ n in
        elected-none e (winner-accepted e) none ∙ ap (λ (w : Elected). w.params) (winner-none sample_of flag ws (winner-accepted e) none))
        (λ (a : elects s ≡ false). absurd (omega (arith, r.some-type a, type-asked a, n)))
        (outcome (elects s))

    module _ (some : 1 ≤ own_type s ws) where
      kind-some : (e : elects s ≡ true) → 1 ≤ (winner s ws).gm_type
      kind-some e = let t = elected-type e (winner-accepted e) in omega (arith, t, some)

      -- the fit of its type on the grid
      pub as-fitted : own s ws ≡ fitted
      as-fitted =
          ⊎_elim (λ (e : elects s ≡ true). own-fitted e (winner-accepted e) (kind-some e)) (λ (a : elects s ≡ false). own-asked a) (outcome (elects s))

      pub elected-accepted : elects s ≡ true → refusal_of (fit_in s ws) ≡ 0
      elected-accepted e = elected-fits e (winner-accepted e) (kind-some e)

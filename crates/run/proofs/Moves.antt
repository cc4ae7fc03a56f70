-- The answers of the start of a run and of a switch, by the tests that led to them.
-- Assumes nothing.
use Prim.Native.Nat.{ℕ}
use mathlib.Core.Bool.{Bool, true, false}
use mathlib.Core.Path.{◌≡◌, sym, ap, ◌∙◌}
use Rattle.laws.specs.Call.{answered, left}
use Rattle.laws.specs.Refusal.{choose}
use Rattle.laws.proofs.Call.{left-refused}
use Rattle.run.specs.declared.Run.{Run}
use Rattle.run.specs.Run.{codes_wrong, moved, fresh, no_run, started, switch_refusal, switched_to, switched}

module _ (flag form : ℕ) where
  pub start-refused : codes_wrong flag form ≡ true → moved 4 no_run ≡ started flag form
  unfolding started
  start-refused e = ap (λ (b : Bool). answered (λ (n : ℕ). moved n no_run) (choose b 4 0) (moved 0 (fresh flag form))) (sym e)

  pub start-accepted : codes_wrong flag form ≡ false → moved 0 (fresh flag form) ≡ started flag form
  unfolding started
  start-accepted e = ap (λ (b : Bool). answered (λ (n : ℕ). moved n no_run) (choose b 4 0) (moved 0 (fresh flag form))) (sym e)

module _ (run : Run) (code r : ℕ) (e : r ≡ switch_refusal run code) where
  pub switch-refused : (r ≡ 0 → ⊥) → moved r run ≡ switched run code
  switch-refused h =
      ap (λ (n : ℕ). moved n run) e ∙ ap (moved (switch_refusal run code)) (sym (left-refused (switch_refusal run code) (switched_to run code) run (λ z. h (e ∙ z))))

  pub switch-accepted : r ≡ 0 → moved 0 (switched_to run code) ≡ switched run code
  switch-accepted z = ap (λ (n : ℕ). moved n (left n (switched_to run code) run)) (sym z ∙ e)

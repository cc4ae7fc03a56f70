-- A fit of a list in range answers 6 exactly when an elimination refuses: a rotation-zoom's one, an affine model's first or second; a translation never.
-- Assumes nothing.
use Prim.Native.Nat.{ℕ}
use mathlib.Core.List.{List}
use mathlib.Core.Logic.{◌⊎◌, inl, inr, ⊎_elim, ◌↔◌}
use mathlib.Core.Path.{◌≡◌, refl, sym, ap, ◌∙◌}
use native.Mathlib.Omega.{arith}
use Rattle.std.specs.Prelude.{Ok, Err}
use Rattle.solve.specs.Elimination.{Outcome, solvable, singular, unless_singular}
use Rattle.solve.specs.Solution.{solved, number_of}
use Rattle.fit.specs.declared.Fitted.{Fitted}
use Rattle.fit.specs.declared.Fitted.TheVariants.{Refused, RotZoom, Affine}
use Rattle.fit.specs.Sums.{count_of, rot_zoom_sums, affine_sums}
use Rattle.fit.specs.Fitted.{refusal_of, rot_zoom_system, affine_u, affine_v, translation_fit, translation_from, rot_zoom_fit, rot_zoom_from, affine_fit, affine_from}

abbrev guarded : Outcome → Fitted → Fitted
guarded o f = unless_singular o (Refused (number_of o)) f

number-of-guarded : (o : Outcome) (f : Fitted) → refusal_of f ≡ 0 → refusal_of (guarded o f) ≡ number_of o
number-of-guarded (Ok _) f e = e
number-of-guarded (Err _) f e = refl

six-is-singular : (o : Outcome) → number_of o ≡ 6 → o ≡ singular
six-is-singular (Ok _) e = absurd (omega arith)
six-is-singular (Err _) e = refl

-- ---- one elimination

module _ (ws : List ℕ) where
  abbrev eliminated : Outcome
  eliminated = (solved 4 (rot_zoom_system (rot_zoom_sums ws) (count_of ws))).outcome

  pub rotzoom-refuses : (refusal_of (rot_zoom_fit ws) ≡ 6) ↔ (eliminated ≡ singular)
  unfolding rot_zoom_from
  rotzoom-refuses = (
    (λ e. six-is-singular eliminated (sym (number-of-guarded eliminated (RotZoom _ _ _ _) refl) ∙ e)),
    (λ e. number-of-guarded eliminated (RotZoom _ _ _ _) refl ∙ ap number_of e),
  )

-- ---- two eliminations

either-refuses : (o p : Outcome) (f : Fitted) → refusal_of f ≡ 0 → refusal_of (guarded o (guarded p f)) ≡ 6 → (o ≡ singular) ⊎ (p ≡ singular)
either-refuses (Err _) p f z e = inl refl
either-refuses (Ok _) p f z e = inr (six-is-singular p (sym (number-of-guarded p f z) ∙ e))

refuses-either : (o p : Outcome) (f : Fitted) → refusal_of f ≡ 0 → (o ≡ singular) ⊎ (p ≡ singular) → refusal_of (guarded o (guarded p f)) ≡ 6
refuses-either (Err _) p f z e = refl
refuses-either (Ok _) p f z e =
    number-of-guarded p f z
    ∙ ⊎_elim (λ (h : solvable ≡ singular). let x : ◌≡◌ {A = ℕ} 0 6 = ap number_of h in absurd (omega arith)) (λ (h : p ≡ singular). ap number_of h) e

module _ (ws : List ℕ) where
  abbrev first : Outcome
  first = (solved 3 (affine_u (affine_sums ws) (count_of ws))).outcome

  abbrev second : Outcome
  second = (solved 3 (affine_v (affine_sums ws) (count_of ws))).outcome

  pub affine-refuses : (refusal_of (affine_fit ws) ≡ 6) ↔ ((first ≡ singular) ⊎ (second ≡ singular))
  unfolding affine_from
  affine-refuses = (
    (λ e. either-refuses first second (Affine _ _ _ _ _ _) refl e),
    (λ e. refuses-either first second (Affine _ _ _ _ _ _) refl e),
  )

  pub translation-never-refuses : refusal_of (translation_fit ws) ≡ 0
  unfolding translation_from
  translation-never-refuses = refl

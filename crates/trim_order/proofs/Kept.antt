-- Two lists in which each word stands equally often keep the same words by any test, and have the same median of what is read from them, if it is finite in one and so in both.
-- Assumes nothing.
use Prim.Native.Nat.{ℕ, ◌+◌}
use mathlib.Core.Bool.{Bool, true, false, false≢true}
use mathlib.Core.List.{List, [], ◌∷◌, map}
use mathlib.Core.Logic.{⊎_elim}
use mathlib.Core.Path.{◌≡◌, refl, sym, ap, ◌∙◌, subst}
use native.Mathlib.Omega.{arith}
use borrow.Author.Tests.{eqb-true}
use lib.Dec.{T, eqb}
use lib.Ieee.{Float, lt, le}
use lib.Ieee.Scale.{finite}
use Rattle.laws.specs.Refusal.{choose, both}
use Rattle.laws.specs.Binary64.{◌⊗◌, one}
use Rattle.laws.specs.Stands.{Each}
use Rattle.laws.proofs.Cases.{outcome}
use Rattle.laws.proofs.Refusal.{both_left, both_right}
use Rattle.sample.specs.Sample.{sample_of}
use Rattle.median.specs.Median.{all_finite}
use Rattle.median.proofs.AnyOrder.{same-mapped, same-median}
use Rattle.fit.specs.declared.Fitted.{Fitted}
use Rattle.exact.specs.Words.{times, SameWords}
use Rattle.exact.proofs.Counts.{same-whole-sum, same-each}
use Rattle.trim.specs.Trim.{residual, residuals_from, three, cutoff, passing, kept_from}
use Rattle.trim.proofs.NoSign.{held, residuals-plain}

-- ---- by a test

first-or-not : (b : Bool) (v w : ℕ) (l : List ℕ) → times w (choose b (v ∷ l) l) ≡ choose b (choose (eqb v w) 1 0 + times w l) (times w l)
first-or-not true v w l = refl
first-or-not false v w l = refl

-- the first word passes as w does where it is w
one-or-none : (b q e : Bool) (n : ℕ) → (e ≡ true → b ≡ q) → choose b (choose e 1 0 + choose q n 0) (choose q n 0) ≡ choose q (choose e 1 0 + n) 0
one-or-none true true true n h = refl
one-or-none true false true n h = absurd (false≢true (sym (h refl)))
one-or-none false true true n h = absurd (false≢true (h refl))
one-or-none false false true n h = refl
one-or-none true true false n h = refl
one-or-none true false false n h = refl
one-or-none false true false n h = omega arith
one-or-none false false false n h = refl

none : (b : Bool) → ◌≡◌ {A = ℕ} 0 (choose b 0 0)
none true = refl
none false = refl

times-passing : (p : ℕ → Bool) (w : ℕ) (ws : List ℕ) → times w (passing p ws) ≡ choose (p w) (times w ws) 0
times-passing p w [] = none (p w)
times-passing p w (v ∷ ws) =
    first-or-not (p v) v w (passing p ws)
    ∙ ap (λ (n : ℕ). choose (p v) (choose (eqb v w) 1 0 + n) n) (times-passing p w ws)
    ∙ one-or-none (p v) (p w) (eqb v w) (times w ws) (λ e. ap p (eqb-true v w e))

pub same-passing : (p : ℕ → Bool) {ws vs : List ℕ} → SameWords ws vs → SameWords (passing p ws) (passing p vs)
same-passing p {ws} {vs} same =
    record { often = λ w. times-passing p w ws ∙ ap (λ (n : ℕ). choose (p w) n 0) (same.often w) ∙ sym (times-passing p w vs) }

each-or-not : {A : Type 0} (P : A → Type 0) (b : Bool) (x : A) (xs : List A) → P x → Each P xs → Each P (choose b (x ∷ xs) xs)
each-or-not P true x xs h e = (h, e)
each-or-not P false x xs h e = e

pub each-passing : {A : Type 0} (P : A → Type 0) (p : A → Bool) (xs : List A) → Each P xs → Each P (passing p xs)
each-passing P p [] e = tt
each-passing P p (x ∷ xs) e = each-or-not P (p x) x (passing p xs) e.0 (each-passing P p xs e.1)

-- ---- finite numbers

pub opposite : {ws vs : List ℕ} → SameWords ws vs → SameWords vs ws
opposite same = record { often = λ w. sym (same.often w) }

both_hold : (a b : Bool) → T a → T b → T (both a b)
both_hold true b t u = u
both_hold false b t u = absurd t

holds : (b : Bool) → T b → b ≡ true
holds true t = refl
holds false t = absurd t

module _ (g : ℕ → Float) where
  finite-each : (ws : List ℕ) → T (all_finite (map g ws)) → Each (λ (w : ℕ). T (finite (g w))) ws
  finite-each [] t = tt
  finite-each (w ∷ ws) t =
      (both_left (finite (g w)) (all_finite (map g ws)) t, finite-each ws (both_right (finite (g w)) (all_finite (map g ws)) t))

  each-finite : (ws : List ℕ) → Each (λ (w : ℕ). T (finite (g w))) ws → T (all_finite (map g ws))
  each-finite [] e = tt
  each-finite (w ∷ ws) e = both_hold (finite (g w)) (all_finite (map g ws)) e.0 (each-finite ws e.1)

  finite-too : {ws vs : List ℕ} → SameWords ws vs → all_finite (map g ws) ≡ true → all_finite (map g vs) ≡ true
  finite-too {ws} {vs} same e =
      holds (all_finite (map g vs)) (each-finite vs (same-each (λ (w : ℕ). T (finite (g w))) same (finite-each ws (held (all_finite (map g ws)) e))))

  pub same-finite : {ws vs : List ℕ} → SameWords ws vs → all_finite (map g ws) ≡ all_finite (map g vs)
  same-finite {ws} {vs} same =
      ⊎_elim
      (λ (e : all_finite (map g ws) ≡ true). e ∙ sym (finite-too same e))
      (λ (e : all_finite (map g ws) ≡ false).
      ⊎_elim
      (λ (h : all_finite (map g vs) ≡ true). absurd (false≢true (sym e ∙ finite-too (opposite same) h)))
      (λ (h : all_finite (map g vs) ≡ false). e ∙ sym h)
      (outcome (all_finite (map g vs))))
      (outcome (all_finite (map g ws)))

-- ---- what stays

module _ (f : Fitted) {ws vs : List ℕ} (same : SameWords ws vs) (e : all_finite (residuals_from sample_of f ws) ≡ true) where
  abbrev far : ℕ → Float
  far w = residual f (sample_of w)

  pub same-cutoff : cutoff (residuals_from sample_of f ws) ≡ cutoff (residuals_from sample_of f vs)
  same-cutoff =
      ap (λ (m : Float). choose (lt (three ⊗ m) one) one (three ⊗ m))
      (same-median (same-mapped far ws vs (λ whole. same-whole-sum whole ws vs same)) (residuals-plain sample_of f ws e) (residuals-plain sample_of f vs (finite-too far same e)))

  pub same_kept : SameWords (kept_from sample_of f ws) (kept_from sample_of f vs)
  unfolding kept_from
  same_kept =
      subst (λ (c : Float). SameWords (kept_from sample_of f ws) (passing (λ (w : ℕ). le (far w) c) vs)) same-cutoff
      (same-passing (λ (w : ℕ). le (far w) (cutoff (residuals_from sample_of f ws))) same)

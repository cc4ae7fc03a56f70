-- Lists in which each word stands equally often have equal whole-number sums: the first word of one is taken out of the other, wherever it stands, and what is left agrees again.
-- Assumes nothing.
use Prim.Native.Nat.{ℕ, suc, ◌+◌, ◌≤◌, ◌<◌}
use mathlib.Core.List.{List, [], ◌∷◌}
use mathlib.Core.Logic.{⊎_elim}
use mathlib.Core.Path.{◌≡◌, refl, sym, ap, ◌∙◌, subst}
use native.Mathlib.Nat.{add_left_cancel}
use native.Mathlib.Omega.{arith}
use borrow.Author.Tests.{eq-eqb, ne_eqb}
use lib.Dec.{eqb}
use lib.IntN.{ℤ, pos, nat_abs, ◌+ℤ◌, +ℤ_assoc, +ℤ_comm}
use lib.ListN.{length}
use Rattle.laws.specs.Refusal.{choose}
use Rattle.laws.proofs.Cases.{lt-or-le, eq-or-ne}
use Rattle.sample.specs.Word.{most_samples}
use Rattle.laws.specs.Stands.{Each, sum_of}
use Rattle.exact.specs.Words.{times, SameWords}

-- the list without the first w
abbrev without : ℕ → List ℕ → List ℕ
without w [] = []
without w (v ∷ vs) = choose (eqb v w) vs (v ∷ without w vs)

sum-without : (whole : ℕ → ℤ) (w : ℕ) (vs : List ℕ) → 0 < times w vs → sum_of whole vs ≡ whole w +ℤ sum_of whole (without w vs)
sum-without whole w [] h = absurd (omega arith)
sum-without whole w (v ∷ vs) h =
    ⊎_elim
    (λ (e : v ≡ w). rw (eq-eqb v w e) (ap (λ (k : ℕ). whole k +ℤ sum_of whole vs) e))
    (λ (e : v ≡ w → ⊥).
    let l = rw (ne_eqb v w e) at h in
    rw (ne_eqb v w e)
    (ap (λ (z : ℤ). whole v +ℤ z) (sum-without whole w vs (omega arith))
    ∙ sym (+ℤ_assoc (whole v) (whole w) (sum_of whole (without w vs)))
    ∙ ap (λ (z : ℤ). z +ℤ sum_of whole (without w vs)) (+ℤ_comm (whole v) (whole w))
    ∙ +ℤ_assoc (whole w) (whole v) (sum_of whole (without w vs))))
    (eq-or-ne v w)

-- counts and the length are such sums
abbrev one_at : ℕ → ℕ → ℤ
one_at w v = pos (choose (eqb v w) 1 0)

times-sum : (w : ℕ) (vs : List ℕ) → sum_of (one_at w) vs ≡ pos (times w vs)
times-sum w [] = refl
times-sum w (v ∷ vs) = rw (times-sum w vs)

length-sum : (vs : List ℕ) → sum_of (λ (v : ℕ). pos 1) vs ≡ pos (length vs)
length-sum [] = refl
length-sum (v ∷ vs) = rw (length-sum vs) (ap pos (let e : 1 + length vs ≡ suc (length vs) = omega arith in e))

times-without : (x w : ℕ) (vs : List ℕ) → 0 < times w vs → times x vs ≡ choose (eqb w x) 1 0 + times x (without w vs)
times-without x w vs h =
    ap nat_abs
    (let e : pos (times x vs) ≡ pos (choose (eqb w x) 1 0 + times x (without w vs)) =
    sym (times-sum x vs) ∙ sum-without (one_at x) w vs h ∙ ap (λ (z : ℤ). one_at x w +ℤ z) (times-sum x (without w vs)) in
    e)

pub same-whole-sum : (whole : ℕ → ℤ) (ws vs : List ℕ) → SameWords ws vs → sum_of whole ws ≡ sum_of whole vs
same-whole-sum whole [] [] same = refl
same-whole-sum whole [] (v ∷ vs) same =
    let e : 0 ≡ 1 + times v vs = rw (eq-eqb v v refl) at (same.often v) in
    absurd (omega arith)
same-whole-sum whole (w ∷ ws) vs same =
    let e : 1 + times w ws ≡ times w vs = rw (eq-eqb w w refl) at (same.often w) in
    let h : 0 < times w vs = omega arith in
    ap (λ (z : ℤ). whole w +ℤ z)
    (same-whole-sum whole ws (without w vs)
    (record { often = λ x. add_left_cancel (choose (eqb w x) 1 0) (same.often x ∙ times-without x w vs h) }))
    ∙ sym (sum-without whole w vs h)

module _ {ws vs : List ℕ} (same : SameWords ws vs) where
  pub same_length : length ws ≡ length vs
  same_length = ap nat_abs (sym (length-sum ws) ∙ same-whole-sum (λ (v : ℕ). pos 1) ws vs same ∙ length-sum vs)

  -- an answer that refuses every list of over 4,096 words, and that is the same for two shorter ones
  pub same-or-refused : {A : Type 0} (answer : List ℕ → A) (refused : A) → ((us : List ℕ) → most_samples < length us → answer us ≡ refused)
      → (length ws ≤ most_samples → answer ws ≡ answer vs) → answer ws ≡ answer vs
  same-or-refused answer refused long short =
      ⊎_elim
      (λ (h : most_samples < length ws). long ws h ∙ sym (long vs (rw same_length at h)))
      (λ (h : length ws ≤ most_samples). short h)
      (lt-or-le most_samples (length ws))

-- ---- what holds of each word of one holds of each word of the other

each-counted : (P : ℕ → Type 0) (ws : List ℕ) → Each P ws → (w : ℕ) → 0 < times w ws → P w
each-counted P [] e w h = absurd (omega arith)
each-counted P (v ∷ vs) e w h =
    ⊎_elim
    (λ (q : v ≡ w). subst P q e.0)
    (λ (q : v ≡ w → ⊥). let l = rw (ne_eqb v w q) at h in each-counted P vs e.1 w (omega arith))
    (eq-or-ne v w)

counted-each : (P : ℕ → Type 0) (ws : List ℕ) → ((w : ℕ) → 0 < times w ws → P w) → Each P ws
counted-each P [] h = tt
counted-each P (v ∷ vs) h = (
  h v (let e : times v (v ∷ vs) ≡ 1 + times v vs = rw (eq-eqb v v refl) in omega arith),
  counted-each P vs (λ w l. h w (omega arith)),
)

pub same-each : (P : ℕ → Type 0) {ws vs : List ℕ} → SameWords ws vs → Each P ws → Each P vs
same-each P {ws} {vs} same e = counted-each P vs (λ w h. each-counted P ws e w (omega (arith, same.often w)))

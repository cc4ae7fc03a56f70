-- The number of codes of each length in closed form: the lengths of the list's parts differ from each other, so one part at most counts.
-- Assumes nothing.
use Prim.Native.Nat.{ℕ, ◌+◌, ◌-◌, ◌*◌, ◌/◌, ◌%◌, ◌^◌, ◌≤◌, ◌<◌}
use mathlib.Core.Path.{◌≡◌, ◌∙◌}
use native.Mathlib.Omega.{arith}
use borrow.Author.Tests.{eq-eqb, ne_eqb}
use Rattle.price.specs.Listed.{between, listed}
use Rattle.price.proofs.Counting.{sum-none, sum_one}

module _ (abs bits : ℕ) where
  -- no rung between the first and the last has codes of so many bits
  between_none : ((i : ℕ) → i < abs - 3 → bits ≡ 2 * (3 + i) - 1 → ⊥) → between abs bits ≡ 0
  between_none h = sum-none _ (abs - 3) (λ i l. rw (ne_eqb bits (2 * (3 + i) - 1) (h i l)))

  -- one has
  between-one : (k : ℕ) → k < abs - 3 → bits ≡ 2 * (3 + k) - 1 → between abs bits ≡ 2 ^ (3 + k)
  between-one k l e =
      sum_one _ (abs - 3) k l (λ i b d. rw (ne_eqb bits (2 * (3 + i) - 1) (λ s. d (omega arith))))
      ∙ rw (eq-eqb bits (2 * (3 + k) - 1) e)

module _ (abs : ℕ) (four : 4 ≤ abs) where
  pub listed-first : listed abs 4 ≡ 8
  unfolding listed
  listed-first =
      rw (
        between_none abs 4 (λ i l e. omega arith),
        ne_eqb 4 (2 * abs - 2) (λ e. omega arith),
        ne_eqb 4 (2 * abs - 1) (λ e. omega arith),
      )

  module _ (bits : ℕ) (more : 5 ≤ bits) where
    pub listed-longest : bits ≡ 2 * abs - 1 → listed abs bits ≡ 2
    unfolding listed
    listed-longest e =
        rw (
          ne_eqb bits 4 (λ s. omega arith),
          between_none abs bits (λ i l s. omega arith),
          ne_eqb bits (2 * abs - 2) (λ s. omega arith),
          eq-eqb bits (2 * abs - 1) e,
        )

    pub listed-last : bits ≡ 2 * abs - 2 → listed abs bits ≡ 2 ^ abs - 1
    unfolding listed
    listed-last e =
        rw (
          ne_eqb bits 4 (λ s. omega arith),
          between_none abs bits (λ i l s. omega arith),
          eq-eqb bits (2 * abs - 2) e,
          ne_eqb bits (2 * abs - 1) (λ s. omega arith),
        )
        (omega arith)

    pub listed-even : bits < 2 * abs - 2 → bits % 2 ≡ 0 → listed abs bits ≡ 0
    unfolding listed
    listed-even l e =
        rw (
          ne_eqb bits 4 (λ s. omega arith),
          between_none abs bits (λ i b s. omega arith),
          ne_eqb bits (2 * abs - 2) (λ s. omega arith),
          ne_eqb bits (2 * abs - 1) (λ s. omega arith),
        )

    pub listed-odd : bits < 2 * abs - 2 → bits % 2 ≡ 1 → listed abs bits ≡ 2 ^ ((bits + 1) / 2)
    unfolding listed
    listed-odd l e =
        let k : ℕ = (bits - 5) / 2 in
        let up : 3 + k ≡ (bits + 1) / 2 = omega arith in
        rw (
          ne_eqb bits 4 (λ s. omega arith),
          between-one abs bits k (omega arith) (omega arith),
          ne_eqb bits (2 * abs - 2) (λ s. omega arith),
          ne_eqb bits (2 * abs - 1) (λ s. omega arith),
          up,
        )
        (omega arith)

-- Recentring and its inverse undo one another on the symbols, and stay among them.
-- Assumes nothing.
use Prim.Native.Nat.{ℕ, ◌+◌, ◌-◌, ◌*◌, ◌/◌, ◌%◌, ◌≤◌, ◌<◌}
use mathlib.Core.Path.{◌≡◌, ap, subst, sym, ◌∙◌}
use native.Mathlib.Decide.{dec_lt, dec_le, ℕ_discrete}
use native.Mathlib.Omega.{arith}
use borrow.Author.Tests.{lt-ltb, le-ltb, le-leb, lt-leb, eq-eqb, ne_eqb}
use Rattle.subexp.specs.Recenter.{recenter, inverse_recenter, code_of, symbol_of}

module _ (r v : ℕ) where
  pub recenter-far : 2 * r < v → recenter r v ≡ v
  recenter-far h = rw (lt-ltb (2 * r) v h)

  pub recenter-even : v ≤ 2 * r → r ≤ v → recenter r v ≡ 2 * (v - r)
  recenter-even h l = rw (le-ltb (2 * r) v h, le-leb r v l)

  pub recenter-odd : v ≤ 2 * r → v < r → recenter r v ≡ 2 * (r - v) - 1
  recenter-odd h l = rw (le-ltb (2 * r) v h, lt-leb r v l)

  pub inverse-far : 2 * r < v → inverse_recenter r v ≡ v
  inverse-far h = rw (lt-ltb (2 * r) v h)

  pub inverse-odd : v ≤ 2 * r → v % 2 ≡ 1 → inverse_recenter r v ≡ r - (v + 1) / 2
  inverse-odd h o = rw (le-ltb (2 * r) v h, eq-eqb (v % 2) 1 o)

  pub inverse-even : v ≤ 2 * r → (v % 2 ≡ 1 → ⊥) → inverse_recenter r v ≡ r + v / 2
  inverse-even h e = rw (le-ltb (2 * r) v h, ne_eqb (v % 2) 1 e)

-- below S, where r is not past the middle
record Recentred (S r v : ℕ) : Type 0 where
  back : inverse_recenter r (recenter r v) ≡ v
  within : recenter r v < S

recentred-as : (S r v c : ℕ) → recenter r v ≡ c → inverse_recenter r c ≡ v → c < S → Recentred S r v
recentred-as S r v c e b l =
    record { back = ap (inverse_recenter r) e ∙ b; within = subst (λ (x : ℕ). x < S) (sym e) l }

recentred : (S r v : ℕ) → 2 * r ≤ S → v < S → Recentred S r v
recentred S r v hr hv =
    elim (dec_lt (2 * r) v) [
      | yes f ↦ recentred-as S r v v (recenter-far r v f) (inverse-far r v f) hv
      | no n ↦
          elim (dec_le r v) [
            | yes l ↦
                recentred-as S r v (2 * (v - r)) (recenter-even r v (omega arith) l)
                (inverse-even r (2 * (v - r)) (omega arith) (λ o. omega arith) ∙ omega arith)
                (omega arith)
            | no m ↦
                recentred-as S r v (2 * (r - v) - 1) (recenter-odd r v (omega arith) (omega arith))
                (inverse-odd r (2 * (r - v) - 1) (omega arith) (omega arith) ∙ omega arith)
                (omega arith)
          ]
    ]

record Uncentred (S r k : ℕ) : Type 0 where
  back : recenter r (inverse_recenter r k) ≡ k
  within : inverse_recenter r k < S

uncentred-as : (S r k v : ℕ) → inverse_recenter r k ≡ v → recenter r v ≡ k → v < S → Uncentred S r k
uncentred-as S r k v e b l =
    record { back = ap (recenter r) e ∙ b; within = subst (λ (x : ℕ). x < S) (sym e) l }

uncentred : (S r k : ℕ) → 2 * r ≤ S → k < S → Uncentred S r k
uncentred S r k hr hk =
    elim (dec_lt (2 * r) k) [
      | yes f ↦ uncentred-as S r k k (inverse-far r k f) (recenter-far r k f) hk
      | no n ↦
          elim (ℕ_discrete (k % 2) 1) [
            | yes o ↦
                uncentred-as S r k (r - (k + 1) / 2) (inverse-odd r k (omega arith) o)
                (recenter-odd r (r - (k + 1) / 2) (omega arith) (omega arith) ∙ omega arith)
                (omega arith)
            | no m ↦
                uncentred-as S r k (r + k / 2) (inverse-even r k (omega arith) m)
                (recenter-even r (r + k / 2) (omega arith) (omega arith) ∙ omega arith)
                (omega arith)
          ]
    ]

-- what comes back is a symbol
pub inverse-within : (S r k : ℕ) → 2 * r ≤ S → k < S → inverse_recenter r k < S
inverse-within S r k hr hk = (uncentred S r k hr hk).within

-- the two ends of the range
module _ (S p x : ℕ) where
  pub code-near : 2 * p ≤ S → code_of S p x ≡ recenter p x
  unfolding code_of
  code-near h = rw (le-leb (2 * p) S h)

  pub code-far : S < 2 * p → code_of S p x ≡ recenter (S - 1 - p) (S - 1 - x)
  unfolding code_of
  code-far h = rw (lt-leb (2 * p) S h)

  pub symbol-near : 2 * p ≤ S → symbol_of S p x ≡ inverse_recenter p x
  unfolding symbol_of
  symbol-near h = rw (le-leb (2 * p) S h)

  pub symbol-far : S < 2 * p → symbol_of S p x ≡ S - 1 - inverse_recenter (S - 1 - p) x
  unfolding symbol_of
  symbol-far h = rw (lt-leb (2 * p) S h)

module _ (S p : ℕ) (place : p < S) where
  record Coded (t : ℕ) : Type 0 where
    back : symbol_of S p (code_of S p t) ≡ t
    within : code_of S p t < S

  coded : (t : ℕ) → t < S → Coded t
  coded t symbol =
      elim (dec_le (2 * p) S) [
        | yes l ↦
            let c = recentred S p t l symbol in
            let e : code_of S p t ≡ recenter p t = code-near S p t l in
            record { back = ap (symbol_of S p) e ∙ symbol-near S p (recenter p t) l ∙ c.back; within = subst (λ (x : ℕ). x < S) (sym e) c.within }
        | no n ↦
            let far : S < 2 * p = omega arith in
            let c = recentred S (S - 1 - p) (S - 1 - t) (omega arith) (omega arith) in
            let e : code_of S p t ≡ recenter (S - 1 - p) (S - 1 - t) = code-far S p t far in
            record {
              back = ap (symbol_of S p) e ∙ symbol-far S p (recenter (S - 1 - p) (S - 1 - t)) far ∙ ap (λ (x : ℕ). S - 1 - x) c.back ∙ omega arith;
              within = subst (λ (x : ℕ). x < S) (sym e) c.within;
            }
      ]

  record Decoded (k : ℕ) : Type 0 where
    back : code_of S p (symbol_of S p k) ≡ k
    within : symbol_of S p k < S

  decoded : (k : ℕ) → k < S → Decoded k
  decoded k code =
      elim (dec_le (2 * p) S) [
        | yes l ↦
            let c = uncentred S p k l code in
            let e : symbol_of S p k ≡ inverse_recenter p k = symbol-near S p k l in
            record { back = ap (code_of S p) e ∙ code-near S p (inverse_recenter p k) l ∙ c.back; within = subst (λ (x : ℕ). x < S) (sym e) c.within }
        | no n ↦
            let far : S < 2 * p = omega arith in
            let c = uncentred S (S - 1 - p) k (omega arith) code in
            let v : ℕ = inverse_recenter (S - 1 - p) k in
            let less : v < S = c.within in
            let twice : S - 1 - (S - 1 - v) ≡ v = turned S v less in
            let e : symbol_of S p k ≡ S - 1 - v = symbol-far S p k far in
            record {
              back = ap (code_of S p) e ∙ code-far S p (S - 1 - v) far ∙ ap (recenter (S - 1 - p)) twice ∙ c.back;
              within = subst (λ (x : ℕ). x < S) (sym e) (omega arith);
            }
      ]
    where
      turned : (S v : ℕ) → v < S → S - 1 - (S - 1 - v) ≡ v
      turned S v h = omega arith

  pub code_lt : (t : ℕ) → t < S → code_of S p t < S
  code_lt t h = (coded t h).within

  pub symbol-of-code : (t : ℕ) → t < S → symbol_of S p (code_of S p t) ≡ t
  symbol-of-code t h = (coded t h).back

  pub symbol-lt : (k : ℕ) → k < S → symbol_of S p k < S
  symbol-lt k h = (decoded k h).within

  pub code-of-symbol : (k : ℕ) → k < S → code_of S p (symbol_of S p k) ≡ k
  code-of-symbol k h = (decoded k h).back

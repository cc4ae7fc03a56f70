-- A table judged group by group: the first group that refuses answers; after a quiet one the rest does.
-- Assumes nothing.
use Prim.Native.Nat.{ℕ, zero, suc}
use mathlib.Core.Path.{◌≡◌, refl, sym, ap, ◌∙◌}
use Rattle.laws.specs.Refusal.{or_else}
use Rattle.laws.proofs.Refusal.{or_else_none}
use Rattle.refusal.specs.Number.{number_of}
use Rattle.refusal.specs.declared.Refusal.{Refusal}
use Rattle.refusal.proofs.Rows.{first-refused}

pub stops : (r : Refusal) {a : ℕ} (b : ℕ) → number_of r ≡ a → number_of r ≡ or_else a b
stops r b e = rw (← e) (first-refused r b)

pub goes_on : {n a b : ℕ} → 0 ≡ a → n ≡ b → n ≡ or_else a b
goes_on {n} {a} {b} e f = f ∙ or_else_none a b (sym e)

-- a group counts only where the one before it is quiet
pub or-else-same : {a a' b b' : ℕ} → a ≡ a' → (a ≡ 0 → b ≡ b') → or_else a b ≡ or_else a' b'
or-else-same {a} {a'} {b} {b'} e f = ap (λ (n : ℕ). or_else n b) e ∙ rest a' (λ z. f (e ∙ z))
  where
    rest : (n : ℕ) → (n ≡ 0 → b ≡ b') → or_else n b ≡ or_else n b'
    rest zero g = g refl
    rest (suc n) g = refl

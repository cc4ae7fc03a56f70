-- Identities by place: every third number is 65,536, whatever the reference.
-- Assumes nothing.
use Prim.Native.Nat.{ℕ, zero, suc, ◌*◌, ◌%◌, ◌<◌}
use mathlib.Core.Path.{◌≡◌, refl, ap, ◌∙◌}
use native.Mathlib.Omega.{arith}
use lib.Dec.{eqb}
use lib.IntN.{pos}
use lib.ListN.{get_or}
use Rattle.laws.specs.Refusal.{choose}
use Rattle.key_frame.specs.Key.{identities}
use Rattle.key_frame.specs.Inner.{identity_at}

pub at-identities : (n i : ℕ) → i < 6 * n → get_or (identities n) i (pos 0) ≡ identity_at i
at-identities zero i l = absurd (omega arith)
at-identities (suc n) zero l = refl
at-identities (suc n) (suc zero) l = refl
at-identities (suc n) (suc (suc zero)) l = refl
at-identities (suc n) (suc (suc (suc zero))) l = refl
at-identities (suc n) (suc (suc (suc (suc zero)))) l = refl
at-identities (suc n) (suc (suc (suc (suc (suc zero))))) l = refl
at-identities (suc n) (suc (suc (suc (suc (suc (suc i)))))) l =
    at-identities n i (omega arith)
    ∙ ap (λ (k : ℕ). choose (eqb k 2) (pos 65536) (pos 0)) (let e : i % 3 ≡ suc (suc (suc (suc (suc (suc i))))) % 3 = omega arith in e)

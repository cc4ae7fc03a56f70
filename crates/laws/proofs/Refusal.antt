-- A chain of tests in code answers as the table does: pass over a row that doesn't hold, stop at one that does.
-- Assumes nothing.
use Prim.Native.Nat.{ℕ, zero, suc, ◌<◌}
use mathlib.Core.Bool.{Bool, true, false, not}
use mathlib.Core.List.{List, [], ◌∷◌, ◌++◌}
use mathlib.Core.Path.{◌≡◌, refl}
use native.Mathlib.Omega.{arith}
use borrow.Author.Tests.{eqb-true, not-false}
use lib.Dec.{T, ltb, eqb, ltb→lt}
use Rattle.laws.specs.Refusal.{Row, row, choose, judge, or_else, either, both}

-- no row holds
abbrev pub Quiet : List Row → Type 0
Quiet [] = Unit {0}
Quiet (r ∷ rs) = (r.holds ≡ false) × Quiet rs

-- no row has the number 0
abbrev pub numbered : List Row → Bool
numbered [] = true
numbered (r ∷ rs) = both (ltb 0 r.number) (numbered rs)

pub judge-hit : (n : ℕ) (b : Bool) (rs : List Row) → b ≡ true → judge (row n b ∷ rs) ≡ n
judge-hit n b rs e = rw e

pub both_left : (a b : Bool) → T (both a b) → T a
both_left true b t = tt
both_left false b t = t

pub both_right : (a b : Bool) → T (both a b) → T b
both_right true b t = t
both_right false b t = absurd t

pub or-else-refused : (a b : ℕ) → (a ≡ 0 → ⊥) → a ≡ or_else a b
or-else-refused zero b h = absurd (h refl)
or-else-refused (suc a) b h = refl

pub or_else_none : (a b : ℕ) → a ≡ 0 → b ≡ or_else a b
or_else_none a b e = rw e

-- nothing follows a group
pub or-else-nothing : (a : ℕ) → or_else a 0 ≡ a
or-else-nothing zero = refl
or-else-nothing (suc a) = refl

-- the answer 0 says that neither group refuses
pub or-else-quiet : (a b : ℕ) → or_else a b ≡ 0 → (a ≡ 0) × (b ≡ 0)
or-else-quiet zero b e = (refl, e)
or-else-quiet (suc a) b e = absurd (omega arith)

row-first : (n : ℕ) (b : Bool) (x y : ℕ) → 0 < n → choose b n (or_else x y) ≡ or_else (choose b n x) y
row-first zero b x y h = absurd (omega arith)
row-first (suc n) true x y h = refl
row-first (suc n) false x y h = refl

-- a table is its groups, one after the other
pub judge-groups : (rs qs : List Row) → T (numbered rs) → judge (rs ++ qs) ≡ or_else (judge rs) (judge qs)
judge-groups [] qs t = refl
judge-groups (r ∷ rs) qs t =
    rw (judge-groups rs qs (both_right (ltb 0 r.number) (numbered rs) t))
    (row-first r.number r.holds (judge rs) (judge qs) (ltb→lt 0 r.number (both_left (ltb 0 r.number) (numbered rs) t)))

-- of two conditions neither holds
pub neither : (a b : Bool) → either a b ≡ false → (a ≡ false) × (b ≡ false)
neither true true e = (e, e)
neither true false e = (e, refl)
neither false b e = (refl, e)

-- a length that row 2 lets pass
pub length-is : (n m : ℕ) → not (eqb n m) ≡ false → n ≡ m
length-is n m e = eqb-true n m (not-false (eqb n m) e)

silent : (n : ℕ) (b : Bool) (m : ℕ) → 0 < n → choose b n m ≡ 0 → (b ≡ false) × (m ≡ 0)
silent n true m h e = absurd (omega arith)
silent n false m h e = (refl, e)

-- the answer 0 says that no row holds
pub quiet : (rs : List Row) → T (numbered rs) → judge rs ≡ 0 → Quiet rs
quiet [] t e = tt
quiet (r ∷ rs) t e =
    let s = silent r.number r.holds (judge rs) (ltb→lt 0 r.number (both_left (ltb 0 r.number) (numbered rs) t)) e in
    (s.0, quiet rs (both_right (ltb 0 r.number) (numbered rs) t) s.1)

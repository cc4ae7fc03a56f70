-- What the functions of a key frame answer; no public contract cites it.
-- Assumes nothing.
use Rattle.std.specs.Prelude.{ℕ, ◌%◌, eqb, ℤ, pos}
use Rattle.laws.specs.Refusal.{choose}

-- the number at place i of identities
abbrev pub identity_at : ℕ → ℤ
identity_at i = choose (eqb (i % 3) 2) (pos 65536) (pos 0)

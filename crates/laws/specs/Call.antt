-- What a public call gives and leaves, by the number that its table answers: 0 accepts.
-- docs/RULES.md, 'When a call says no'.
-- Assumes nothing.
use Rattle.std.specs.Prelude.{ℕ, eqb}
use Rattle.laws.specs.Refusal.{choose}

-- the answer: the accepted one, or the number with zeros
abbrev pub answered : {A : Type 0} → (ℕ → A) → ℕ → A → A
answered refused n a = choose (eqb n 0) a (refused n)

-- a lent buffer at exit: written by an accepted call, otherwise as it was
abbrev pub left : {A : Type 0} → ℕ → A → A → A
left n new old = choose (eqb n 0) new old

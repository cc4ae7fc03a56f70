-- The sub-exponential ladder over S symbols, written as a list of bits and read as docs/RULES.md writes it out: clause 5.9.28.
-- docs/RULES.md, 'Header' and 'Reading by the standard'.
-- Assumes nothing.
use Rattle.std.specs.Prelude.{ℕ, zero, suc, ◌+◌, ◌-◌, ◌*◌, List, [], ◌∷◌, ltb, leb, eqb}
use Rattle.laws.specs.Refusal.{choose}
use Rattle.bits.specs.Fields.{field, field_bits}
use Rattle.bits.specs.Ns.{Taken, bit_length, ns, ns_bits}

-- a: 8 at m = 0, afterwards m
abbrev pub step_at : ℕ → ℕ
step_at m = choose (eqb m 0) 8 m

-- how many bits count a numbers: 3 for 8, 4 for 16 and so on
abbrev pub width_of : ℕ → ℕ
width_of a = bit_length a - 1

-- the number and the bits taken, with m added to the number, and with a bit more
abbrev pub raised : ℕ → Taken → Taken
raised m t = record { value = m + t.value; bits = t.bits }

abbrev pub counted : Taken → Taken
counted t = record { value = t.value; bits = suc t.bits }

-- the climb from m, at position j, with at most n rungs to go
abbrev pub climb : (ℕ → ℕ) → ℕ → ℕ → ℕ → ℕ → Taken
climb g zero S m j = record { value = 0; bits = 0 }
climb g (suc n) S m j =
    let more : Taken = counted (climb g n S (m + step_at m) (j + 1)) in
    choose (leb S (m + 3 * step_at m))
    (raised m (ns g j (S - m)))
    (choose (eqb (g j) 1)
    more
    (record { value = m + field g (j + 1) (width_of (step_at m)); bits = suc (width_of (step_at m)) }))

unfoldable pub subexp : (ℕ → ℕ) → ℕ → ℕ → Taken
subexp g j S = climb g S S 0 j

-- the bits of v from the rung at m on
abbrev pub climb_bits : ℕ → ℕ → ℕ → ℕ → List ℕ
climb_bits zero S v m = []
climb_bits (suc n) S v m =
    let more : List ℕ = 1 ∷ climb_bits n S v (m + step_at m) in
    choose (leb S (m + 3 * step_at m))
    (ns_bits (S - m) (v - m))
    (choose (ltb v (m + step_at m))
    (0 ∷ field_bits (width_of (step_at m)) (v - m))
    more)

unfoldable pub subexp_bits : ℕ → ℕ → List ℕ
subexp_bits S v = climb_bits S S v 0

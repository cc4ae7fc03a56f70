-- What the functions below the public calls ask and answer; no public contract cites it.
-- Assumes nothing.
use Rattle.std.specs.Prelude.{ℕ, zero, suc, ◌+◌, ◌-◌, ◌*◌, ◌^◌, ◌≤◌, ◌<◌, Bool, true, false, List, ◌∷◌, ◌++◌, ◌≡◌, leb, replicate}
use Rattle.laws.specs.Refusal.{choose}
use Rattle.bits.specs.Fields.{field, field_bits}
use Rattle.bits.specs.Ns.{Taken, ns, ns_bits}
use Rattle.subexp.specs.declared.RungRead.{RungRead}
use Rattle.subexp.specs.Ladder.{subexp, subexp_bits}

-- the rungs of the ladder by their number: how many bits count a rung's numbers, its step, where it starts
abbrev pub rung_bits : ℕ → ℕ
rung_bits zero = 3
rung_bits (suc i) = 3 + i

abbrev pub rung_step : ℕ → ℕ
rung_step i = 2 ^ rung_bits i

abbrev pub rung_start : ℕ → ℕ
rung_start zero = 0
rung_start (suc i) = 2 ^ (3 + i)

-- a rung is the last where S is at most this
abbrev pub reach : ℕ → ℕ
reach i = rung_start i + 3 * rung_step i

abbrev pub last_rung : ℕ → ℕ → Bool
last_rung S i = leb S (reach i)

-- the code of v goes on to the next rung
abbrev pub climbs : ℕ → ℕ → ℕ → Bool
climbs S v i = choose (last_rung S i) false (leb (rung_start i + rung_step i) v)

-- the code on rung i
abbrev pub rung_code : ℕ → ℕ → ℕ → List ℕ
rung_code S v i = choose (last_rung S i) (ns_bits (S - rung_start i) (v - rung_start i)) (0 ∷ field_bits (rung_bits i) (v - rung_start i))

-- the code that ends on rung i, where that is the last and where it isn't
abbrev pub last_bits : ℕ → ℕ → ℕ → List ℕ
last_bits S v i = replicate i 1 ++ ns_bits (S - rung_start i) (v - rung_start i)

abbrev pub stop_bits : ℕ → ℕ → List ℕ
stop_bits v i = replicate i 1 ++ 0 ∷ field_bits (rung_bits i) (v - rung_start i)

-- the number read on rung i at position k, of a code that began at j
abbrev pub behind : ℕ → ℕ → ℕ → Taken → Taken
behind j i k t = record { value = rung_start i + t.value; bits = k - j + t.bits }

-- v is a number of the ladder from rung i on
pub record OnRung (S v i : ℕ) : Type 0 where
  pub few : i ≤ 13
  pub start : rung_start i ≤ v
  pub less : v < S
  pub small : S ≤ 65536

-- the code of v ends on rung i: so many ones, and then the code on that rung
pub record Rung (S v i : ℕ) : Type 0 where
  pub on : OnRung S v i
  pub bits : subexp_bits S v ≡ replicate i 1 ++ rung_code S v i

-- the first rung that is the last
pub record LastIs (S r : ℕ) : Type 0 where
  pub few : r ≤ 12
  pub last : last_rung S r ≡ true
  pub before : (i : ℕ) → i < r → last_rung S i ≡ false

-- what is read of S symbols at position j, by the rung that the code ends on
pub record ClimbIs (g : ℕ → ℕ) (S j : ℕ) (r : RungRead) : Type 0 where
  pub few : r.i ≤ 13
  pub below : rung_start r.i < S
  pub next : r.next.at ≡ j + r.i + choose r.last 0 1
  pub reads : subexp g j S
      ≡ choose r.last
      (behind j r.i r.next.at (ns g r.next.at (S - rung_start r.i)))
      (behind j r.i r.next.at (record { value = field g r.next.at (rung_bits r.i); bits = rung_bits r.i }))

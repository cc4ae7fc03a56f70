-- What the functions below the public calls ask and answer; no public contract cites it.
-- Assumes nothing.
use Rattle.std.specs.Prelude.{ℕ, ◌*◌, ◌/◌, ◌%◌, ◌^◌, ◌≤◌, ◌<◌, Bool, true, false, not, ◌≡◌, ltb, eqb, ℤ, pos, nat_abs, ◌+ℤ◌, ◌-ℤ◌}
use Rattle.laws.specs.Refusal.{choose}
use Rattle.grid.specs.Grid.{step, abs_bits, prec_bits, centre, Row, Codable}
use Rattle.grid.specs.Symbols.{symbols, symbol_of, place, prior_out}
use Rattle.grid.specs.declared.Coded.{Coded}
use Rattle.grid.specs.declared.SlotSymbols.{SlotSymbols}

-- beyond the last codable number, or not a whole number of steps from the centre: a number that isn't its own quantization
abbrev pub off_grid : ℕ → ℕ → ℕ → ℤ → Bool
off_grid abs prec c z = choose (ltb (2 ^ abs * step prec) (nat_abs (z -ℤ pos c))) true (not (eqb (nat_abs (z -ℤ pos c) % step prec) 0))

pub record Symbol (abs prec c t : ℕ) : Type 0 where
  pub row : Row abs prec
  pub centred : c ≤ 65536
  pub below : t < symbols abs

pub record Prior (abs prec c : ℕ) (z : ℤ) : Type 0 where
  pub row : Row abs prec
  pub reach : nat_abs (z -ℤ pos c) ≤ 2 ^ abs * step prec

-- the place, counted in steps from the least codable number: for a prior in range it is `place_of`
abbrev pub place_code : ℕ → ℕ → ℕ → ℤ → ℕ
place_code abs prec c z = nat_abs ((z -ℤ pos c) +ℤ pos (2 ^ abs * step prec)) / step prec

-- a prior in range, of a slot of a model
pub record PriorIn (slot : ℕ) (q : ℤ) : Type 0 where
  pub known : slot < 6
  pub within : prior_out slot q ≡ false

-- S and the prior's place
pub record SymbolsIs (gm_type flag slot : ℕ) (q : ℤ) (r : SlotSymbols) : Type 0 where
  pub mx : r.mx ≡ symbols (abs_bits gm_type flag slot)
  pub stands : r.r ≡ place gm_type flag slot q
  pub below : r.r < r.mx
  pub few : r.mx ≤ 8193

pub record SymbolIs (gm_type flag slot : ℕ) (z : ℤ) (r : ℕ) : Type 0 where
  pub is : r ≡ symbol_of (abs_bits gm_type flag slot) (prec_bits gm_type flag slot) (centre slot) z
  pub below : r < symbols (abs_bits gm_type flag slot)

-- two numbers within reach by their places, for any abs_bits, prec_bits and centre
pub record PlacesAre (abs prec c : ℕ) (z q : ℤ) (r : Coded) : Type 0 where
  pub mx : r.mx ≡ symbols abs
  pub prior : r.r ≡ place_code abs prec c q
  pub own : r.t ≡ place_code abs prec c z

-- a codable number of a slot, and its prior in range
pub record CodedIn (gm_type flag slot : ℕ) (z q : ℤ) : Type 0 where
  pub prior : PriorIn slot q
  pub own : Codable (abs_bits gm_type flag slot) (prec_bits gm_type flag slot) (centre slot) z

-- S, the prior's place and the number's symbol
pub record CodedIs (gm_type flag slot : ℕ) (z q : ℤ) (r : Coded) : Type 0 where
  pub mx : r.mx ≡ symbols (abs_bits gm_type flag slot)
  pub stands : r.r ≡ place gm_type flag slot q
  pub is : r.t ≡ symbol_of (abs_bits gm_type flag slot) (prec_bits gm_type flag slot) (centre slot) z
  pub below : r.r < r.mx
  pub less : r.t < r.mx
  pub few : r.mx ≤ 8193

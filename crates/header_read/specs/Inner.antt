-- What the functions below the public calls ask and answer; no public contract cites it.
-- Assumes nothing.
use Rattle.std.specs.Prelude.{ℕ, ◌+◌, ◌-◌, ◌*◌, ◌^◌, ◌≤◌, ◌<◌, false, ◌≡◌, List, ltb, ℤ, pos, nat_abs, length, get_or, take, Result, Ok, Err}
use Rattle.refusal.specs.Number.{number_of}
use Rattle.refusal.specs.declared.Refusal.{Refusal}
use Rattle.laws.specs.Call.{answered}
use Rattle.laws.specs.Refusal.{choose, judge}
use Rattle.models.specs.Models.{priors_out}
use Rattle.header.specs.Coefficient.{ReadNumber}
use Rattle.header.specs.Inner.{ValidPrior}
use Rattle.header.specs.Reading.{ReadNumbers, ReadModel, ReadModels, type_read, type_length}
use Rattle.header_read.specs.Called.{no_models, the_models, end_rows}
use Rattle.header_read.specs.declared.Models.{Models}
use Rattle.header_read.specs.declared.Param.{Param}
use Rattle.header_read.specs.declared.Numbers.{Numbers}
use Rattle.header_read.specs.declared.TypeRead.{TypeRead}
use Rattle.header_read.specs.declared.Model.{Model}
use Rattle.header_read.specs.declared.Seven.{Seven}

-- what was read up to position `next` of so many bytes, from position `start` on
abbrev pub answer_of : Seven → ℕ → ℕ → Models
answer_of seven start bytes =
    choose (ltb (8 * bytes) seven.next.at)
    (no_models 9)
    (record { refusal = 0; types = seven.types; params = seven.params; bits = seven.next.at - start })

-- the models that were read from position `at` of the bytes, or row 9
abbrev pub within : List ℕ → ℕ → ReadModels → Models
within header at t = answered no_models (judge (end_rows header at t)) (the_models t)

-- an answer as the call gives it: a refusal by its number
abbrev pub told : Result Models Refusal → Models
told (Ok m) = m
told (Err r) = no_models (number_of r)

-- the six priors from `first` on are there and in range, and n positions from `at` on are numbers of the machine
pub record Ready (qs : List ℤ) (first at n : ℕ) : Type 0 where
  pub places : first + 6 ≤ length qs
  pub priors : ValidPrior qs first
  pub room : at + n < 2 ^ 64

-- all the priors are there and in range
pub record PriorsReady (qs : List ℤ) : Type 0 where
  pub places : length qs ≡ 42
  pub within : priors_out qs ≡ false

-- and the positions of a header from `at` on are numbers of the machine
pub record AllReady (qs : List ℤ) (at : ℕ) : Type 0 where
  pub priors : PriorsReady qs
  pub room : at + 2048 < 2 ^ 64

-- the number at position j, and the position behind it: at most 23 bits, and no number farther from 0 than 4,194,304 about 65,536
pub record ParamIs (r : Param) (t : ReadNumber) (j : ℕ) : Type 0 where
  pub value : r.value ≡ t.value
  pub next : r.next.at ≡ j + t.bits
  pub near : r.next.at ≤ j + 23
  pub small : nat_abs r.value ≤ 4259840

-- every number of a list is no farther from 0 than that
abbrev pub AllSmall : List ℤ → Type 0
AllSmall vs = (i : ℕ) → nat_abs (get_or vs i (pos 0)) ≤ 4259840

-- n numbers at the front of an array of six, and the position behind them
pub record NumbersAre (r : Numbers) (t : ReadNumbers) (j n : ℕ) : Type 0 where
  pub values : take n r.values ≡ t.values
  pub long : length r.values ≡ 6
  pub small : AllSmall r.values
  pub next : r.next.at ≡ j + t.bits
  pub near : r.next.at ≤ j + 138

-- the type at position j of the bits g
pub record TypeIs (r : TypeRead) (g : ℕ → ℕ) (j : ℕ) : Type 0 where
  pub is : r.gm_type ≡ type_read g j
  pub next : r.next.at ≡ j + type_length (type_read g j)
  pub near : r.next.at ≤ j + 3

pub record ModelIs (r : Model) (t : ReadModel) (j most : ℕ) : Type 0 where
  pub gm_type : r.gm_type ≡ t.gm_type
  pub six : r.six ≡ t.six
  pub next : r.next.at ≡ j + t.bits
  pub near : r.next.at ≤ j + most

pub record SevenIs (r : Seven) (t : ReadModels) (j : ℕ) : Type 0 where
  pub types : r.types ≡ t.types
  pub params : r.params ≡ t.params
  pub next : r.next.at ≡ j + t.bits
  pub near : r.next.at ≤ j + 987

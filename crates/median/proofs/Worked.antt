-- Worked medians, by bit patterns: odd and even lengths, equal numbers, the largest finite numbers, the smallest above 0.
-- Two orders of +0 and −0 have two medians, so the laws must ask for numbers without sign.
-- Assumes nothing.
use Prim.Native.Nat.{ℕ}
use mathlib.Core.Bool.{true, false}
use mathlib.Core.List.{List, [], ◌∷◌, map}
use mathlib.Core.Path.{◌≡◌, refl}
use lib.Ieee.{Float, binary64, le, of_bits, to_bits}
use Rattle.median.specs.Median.{median, all_finite}

abbrev read : List ℕ → List Float
read bs = map (of_bits binary64) bs

abbrev median_of : List ℕ → ℕ
median_of bs = to_bits binary64 (median (read bs))

abbrev one : ℕ
one = 0x3ff0_0000_0000_0000

abbrev two : ℕ
two = 0x4000_0000_0000_0000

abbrev three : ℕ
three = 0x4008_0000_0000_0000

abbrev four : ℕ
four = 0x4010_0000_0000_0000

abbrev five : ℕ
five = 0x4014_0000_0000_0000

abbrev greatest : ℕ
greatest = 0x7fef_ffff_ffff_ffff

abbrev next : ℕ
next = 0x7fef_ffff_ffff_fffe

abbrev infinity : ℕ
infinity = 0x7ff0_0000_0000_0000

-- the sign alone: −0
abbrev minus : ℕ
minus = 0x8000_0000_0000_0000

-- ---- the median

pub of_one : median_of (three ∷ []) ≡ three
unfolding median le of_bits to_bits
of_one = refl

pub of-five : median_of (five ∷ one ∷ four ∷ two ∷ three ∷ []) ≡ three
unfolding median le of_bits to_bits
of-five = refl

-- of an even length the upper of the two
pub of_two : median_of (two ∷ one ∷ []) ≡ two
unfolding median le of_bits to_bits
of_two = refl

pub of_four : median_of (four ∷ one ∷ three ∷ two ∷ []) ≡ three
unfolding median le of_bits to_bits
of_four = refl

pub of-equals : median_of (one ∷ 0 ∷ one ∷ 0 ∷ []) ≡ one
unfolding median le of_bits to_bits
of-equals = refl

pub of-noughts : median_of (0 ∷ five ∷ 0 ∷ 0 ∷ five ∷ []) ≡ 0
unfolding median le of_bits to_bits
of-noughts = refl

pub of-greatest : median_of (greatest ∷ one ∷ next ∷ []) ≡ next
unfolding median le of_bits to_bits
of-greatest = refl

pub of-greatest-two : median_of (next ∷ greatest ∷ []) ≡ greatest
unfolding median le of_bits to_bits
of-greatest-two = refl

-- 1, 2 and 3 of the least binary64 above 0
pub of-least : median_of (3 ∷ 1 ∷ 2 ∷ []) ≡ 2
unfolding median le of_bits to_bits
of-least = refl

pub of-least-and-nought : median_of (1 ∷ 0 ∷ []) ≡ 1
unfolding median le of_bits to_bits
of-least-and-nought = refl

-- +0 and −0 are level, so they keep their places
pub of-minus-nought : median_of (0 ∷ minus ∷ []) ≡ minus
unfolding median le of_bits to_bits
of-minus-nought = refl

pub of-nought-after : median_of (minus ∷ 0 ∷ []) ≡ 0
unfolding median le of_bits to_bits
of-nought-after = refl

-- ---- finite

pub all_are : all_finite (read (greatest ∷ 0xffef_ffff_ffff_ffff ∷ minus ∷ 1 ∷ [])) ≡ true
unfolding of_bits
all_are = refl

pub none-of-none : all_finite (read []) ≡ true
none-of-none = refl

pub infinity-not : all_finite (read (one ∷ infinity ∷ [])) ≡ false
unfolding of_bits
infinity-not = refl

pub minus-infinity-not : all_finite (read (0xfff0_0000_0000_0000 ∷ one ∷ [])) ≡ false
unfolding of_bits
minus-infinity-not = refl

pub nan-not : all_finite (read (one ∷ 0x7ff8_0000_0000_0000 ∷ one ∷ [])) ≡ false
unfolding of_bits
nan-not = refl

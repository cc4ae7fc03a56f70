-- The division table: each of its 257 entries is the nearest to its quotient, which one computed test says, and so what the rule says; and small.
-- Assumes nothing.
use Prim.Native.Nat.{ℕ, ◌+◌, ◌*◌, ◌/◌, ◌≤◌, ◌<◌}
use mathlib.Core.Bool.{Bool}
use mathlib.Core.List.{List, [], ◌∷◌}
use mathlib.Core.Path.{◌≡◌}
use native.Mathlib.Nat.{div-lt_iff_lt-mul, lt_of_mul-lt-mul_right}
use native.Mathlib.Omega.{arith}
use lib.Dec.{ltb, ltb→lt}
use lib.ListN.{get_or}
use Rattle.laws.proofs.Products.{quotient-low, quotient-high}
use Rattle.grid.proofs.Signs.{apart}
use Rattle.divisor.specs.Divisor.{div_lut}
use Rattle.divisor.proofs.Passes.{entry-passes}

-- the code's table
abbrev pub table : List ℕ
table =
    16384 ∷ 16320 ∷ 16257 ∷ 16194 ∷ 16132 ∷ 16070 ∷ 16009 ∷ 15948 ∷ 15888 ∷ 15828 ∷ 15768 ∷ 15709 ∷ 15650 ∷ 15592 ∷ 15534 ∷ 15477
    ∷ 15420 ∷ 15364 ∷ 15308 ∷ 15252 ∷ 15197 ∷ 15142 ∷ 15087 ∷ 15033 ∷ 14980 ∷ 14926 ∷ 14873 ∷ 14821 ∷ 14769 ∷ 14717 ∷ 14665 ∷ 14614
    ∷ 14564 ∷ 14513 ∷ 14463 ∷ 14413 ∷ 14364 ∷ 14315 ∷ 14266 ∷ 14218 ∷ 14170 ∷ 14122 ∷ 14075 ∷ 14028 ∷ 13981 ∷ 13935 ∷ 13888 ∷ 13843
    ∷ 13797 ∷ 13752 ∷ 13707 ∷ 13662 ∷ 13618 ∷ 13574 ∷ 13530 ∷ 13487 ∷ 13443 ∷ 13400 ∷ 13358 ∷ 13315 ∷ 13273 ∷ 13231 ∷ 13190 ∷ 13148
    ∷ 13107 ∷ 13066 ∷ 13026 ∷ 12985 ∷ 12945 ∷ 12906 ∷ 12866 ∷ 12827 ∷ 12788 ∷ 12749 ∷ 12710 ∷ 12672 ∷ 12633 ∷ 12596 ∷ 12558 ∷ 12520
    ∷ 12483 ∷ 12446 ∷ 12409 ∷ 12373 ∷ 12336 ∷ 12300 ∷ 12264 ∷ 12228 ∷ 12193 ∷ 12157 ∷ 12122 ∷ 12087 ∷ 12053 ∷ 12018 ∷ 11984 ∷ 11950
    ∷ 11916 ∷ 11882 ∷ 11848 ∷ 11815 ∷ 11782 ∷ 11749 ∷ 11716 ∷ 11683 ∷ 11651 ∷ 11619 ∷ 11586 ∷ 11555 ∷ 11523 ∷ 11491 ∷ 11460 ∷ 11429
    ∷ 11398 ∷ 11367 ∷ 11336 ∷ 11305 ∷ 11275 ∷ 11245 ∷ 11215 ∷ 11185 ∷ 11155 ∷ 11125 ∷ 11096 ∷ 11067 ∷ 11038 ∷ 11009 ∷ 10980 ∷ 10951
    ∷ 10923 ∷ 10894 ∷ 10866 ∷ 10838 ∷ 10810 ∷ 10782 ∷ 10755 ∷ 10727 ∷ 10700 ∷ 10673 ∷ 10645 ∷ 10618 ∷ 10592 ∷ 10565 ∷ 10538 ∷ 10512
    ∷ 10486 ∷ 10460 ∷ 10434 ∷ 10408 ∷ 10382 ∷ 10356 ∷ 10331 ∷ 10305 ∷ 10280 ∷ 10255 ∷ 10230 ∷ 10205 ∷ 10180 ∷ 10156 ∷ 10131 ∷ 10107
    ∷ 10082 ∷ 10058 ∷ 10034 ∷ 10010 ∷ 9986 ∷ 9963 ∷ 9939 ∷ 9916 ∷ 9892 ∷ 9869 ∷ 9846 ∷ 9823 ∷ 9800 ∷ 9777 ∷ 9754 ∷ 9732
    ∷ 9709 ∷ 9687 ∷ 9664 ∷ 9642 ∷ 9620 ∷ 9598 ∷ 9576 ∷ 9554 ∷ 9533 ∷ 9511 ∷ 9489 ∷ 9468 ∷ 9447 ∷ 9425 ∷ 9404 ∷ 9383
    ∷ 9362 ∷ 9341 ∷ 9321 ∷ 9300 ∷ 9279 ∷ 9259 ∷ 9239 ∷ 9218 ∷ 9198 ∷ 9178 ∷ 9158 ∷ 9138 ∷ 9118 ∷ 9098 ∷ 9079 ∷ 9059
    ∷ 9039 ∷ 9020 ∷ 9001 ∷ 8981 ∷ 8962 ∷ 8943 ∷ 8924 ∷ 8905 ∷ 8886 ∷ 8867 ∷ 8849 ∷ 8830 ∷ 8812 ∷ 8793 ∷ 8775 ∷ 8756
    ∷ 8738 ∷ 8720 ∷ 8702 ∷ 8684 ∷ 8666 ∷ 8648 ∷ 8630 ∷ 8613 ∷ 8595 ∷ 8577 ∷ 8560 ∷ 8542 ∷ 8525 ∷ 8508 ∷ 8490 ∷ 8473
    ∷ 8456 ∷ 8439 ∷ 8422 ∷ 8405 ∷ 8389 ∷ 8372 ∷ 8355 ∷ 8339 ∷ 8322 ∷ 8306 ∷ 8289 ∷ 8273 ∷ 8257 ∷ 8240 ∷ 8224 ∷ 8208
    ∷ 8192 ∷ []

-- t is the nearest to 4,194,304 divided by 256 + i, and no other is as near
abbrev pub nearest : ℕ → ℕ → Bool
nearest i t = ltb (2 * apart 4194304 (t * (256 + i))) (256 + i)

-- one test over all entries
pub entry-nearest : (i : ℕ) → i < 257 → 2 * apart 4194304 (get_or table i 0 * (256 + i)) < 256 + i
entry-nearest i h = ltb→lt _ _ (entry-passes nearest table 0 tt i i h (omega arith))

-- the nearest is the rounded quotient
nearest-quotient : (d t : ℕ) → 0 < d → 2 * apart 4194304 (t * d) < d → t ≡ (4194304 + d / 2) / d
nearest-quotient d t some h =
    let q = (4194304 + d / 2) / d in
    let low : q * d ≤ 4194304 + d / 2 = quotient-low (4194304 + d / 2) some in
    let high : 4194304 + d / 2 < q * d + d = quotient-high (4194304 + d / 2) some in
    let over : t < q + 1 = lt_of_mul-lt-mul_right d (omega arith) in
    let under : q < t + 1 = lt_of_mul-lt-mul_right d (omega arith) in
    omega arith

pub table-follows : (i : ℕ) → i < 257 → get_or table i 0 ≡ div_lut i
unfolding div_lut
table-follows i h = nearest-quotient (256 + i) (get_or table i 0) (omega arith) (entry-nearest i h)

pub entry-small : (i : ℕ) → div_lut i ≤ 16384
unfolding div_lut
entry-small i =
    let l : (4194304 + (256 + i) / 2) / (256 + i) < 16385 =
    (div-lt_iff_lt-mul {k = 256 + i} {x = 4194304 + (256 + i) / 2} {y = 16385} (omega arith)).1 (omega arith) in
    omega arith

-- A word's sample in whole numbers, and for each sum of the three fits the whole number that its term stands for, over
-- which power of two, and how large that number is at most.
-- docs/RULES.md, 'Fits and score'.
-- Assumes nothing.
use Rattle.std.specs.Prelude.{ℕ, ◌+◌, ◌*◌, List, [], ◌∷◌, ℤ, pos, ◌+ℤ◌, ◌-ℤ◌, ◌*ℤ◌, Float}
use Rattle.sample.specs.declared.MotionSample.{MotionSample}
use Rattle.sample.specs.Word.{row_of, col_of, v_of, u_of}
use Rattle.sample.specs.Sample.{block_side, eighths_of, sample_of}
use Rattle.fit.specs.Sums.{total, su, sv, sx, sy, sxx, sxy, syy, sxu, syu, sxv, syv, q, p1, p2}
use Rattle.laws.specs.Stands.{Stands, sum_of}

-- ---- a word's sample

-- the centre of the block at this row or column, 16 · place + 7.5 pels, in halves
abbrev pub halves_of : ℕ → ℕ
halves_of place = 2 * block_side * place + 15

-- in halves of a pel
abbrev pub x_halves : ℕ → ℤ
x_halves w = pos (halves_of (col_of w))

abbrev pub y_halves : ℕ → ℤ
y_halves w = pos (halves_of (row_of w))

-- in eighths
abbrev pub u_eighths : ℕ → ℤ
u_eighths w = eighths_of (u_of w)

abbrev pub v_eighths : ℕ → ℤ
v_eighths w = eighths_of (v_of w)

-- the centre of the last row or column
abbrev pub most_halves : ℕ
most_halves = 2031

-- the stored motions 0 and 511: eighths run from −223 to 288
abbrev pub low_eighths : ℕ
low_eighths = 223

abbrev pub high_eighths : ℕ
high_eighths = 288

-- ---- the sums

pub record Sum : Type 0 where
  pub term : MotionSample → Float
  pub whole : ℕ → ℤ
  pub scale : ℕ
  pub most : ℕ

abbrev pub sum_u : Sum
sum_u = record { term = su; whole = u_eighths; scale = 3; most = high_eighths }

abbrev pub sum_v : Sum
sum_v = record { term = sv; whole = v_eighths; scale = 3; most = high_eighths }

abbrev pub sum_x : Sum
sum_x = record { term = sx; whole = x_halves; scale = 1; most = most_halves }

abbrev pub sum_y : Sum
sum_y = record { term = sy; whole = y_halves; scale = 1; most = most_halves }

abbrev pub sum_xx : Sum
sum_xx = record { term = sxx; whole = λ w. x_halves w *ℤ x_halves w; scale = 2; most = most_halves * most_halves }

abbrev pub sum_xy : Sum
sum_xy = record { term = sxy; whole = λ w. x_halves w *ℤ y_halves w; scale = 2; most = most_halves * most_halves }

abbrev pub sum_yy : Sum
sum_yy = record { term = syy; whole = λ w. y_halves w *ℤ y_halves w; scale = 2; most = most_halves * most_halves }

abbrev pub sum_xu : Sum
sum_xu = record { term = sxu; whole = λ w. x_halves w *ℤ u_eighths w; scale = 4; most = most_halves * high_eighths }

abbrev pub sum_yu : Sum
sum_yu = record { term = syu; whole = λ w. y_halves w *ℤ u_eighths w; scale = 4; most = most_halves * high_eighths }

abbrev pub sum_xv : Sum
sum_xv = record { term = sxv; whole = λ w. x_halves w *ℤ v_eighths w; scale = 4; most = most_halves * high_eighths }

abbrev pub sum_yv : Sum
sum_yv = record { term = syv; whole = λ w. y_halves w *ℤ v_eighths w; scale = 4; most = most_halves * high_eighths }

abbrev pub sum_q : Sum
sum_q = record { term = q; whole = λ w. x_halves w *ℤ x_halves w +ℤ y_halves w *ℤ y_halves w; scale = 2; most = most_halves * most_halves + most_halves * most_halves }

abbrev pub sum_p1 : Sum
sum_p1 = record { term = p1; whole = λ w. x_halves w *ℤ u_eighths w +ℤ y_halves w *ℤ v_eighths w; scale = 4; most = most_halves * high_eighths + most_halves * high_eighths }

abbrev pub sum_p2 : Sum
sum_p2 = record { term = p2; whole = λ w. y_halves w *ℤ u_eighths w -ℤ x_halves w *ℤ v_eighths w; scale = 4; most = most_halves * high_eighths + most_halves * low_eighths }

-- every sum of the matrices and right sides but n
abbrev pub sums : List Sum
sums =
    sum_u ∷ sum_v ∷ sum_x ∷ sum_y ∷ sum_xx ∷ sum_xy ∷ sum_yy ∷
    sum_xu ∷ sum_yu ∷ sum_xv ∷ sum_yv ∷ sum_q ∷ sum_p1 ∷ sum_p2 ∷ []

-- ---- exact

-- the sum over a list of words
abbrev pub summed : Sum → List ℕ → Float
summed r ws = total (λ w. r.term (sample_of w)) ws

-- it stands for the whole-number sum over its power of two
abbrev pub Exact : Sum → List ℕ → Type 0
Exact r ws = Stands r.scale (sum_of r.whole ws) (summed r ws)

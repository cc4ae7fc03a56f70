-- The word's fields and the word are inverse to each other, and the fields' ranges.
-- Assumes nothing.
use Prim.Native.Nat.{ℕ, ◌+◌, ◌*◌, ◌<◌, ◌^◌}
use mathlib.Core.Path.{◌≡◌}
use native.Mathlib.Nat.{div-div-eq-div-mul}
use native.Mathlib.Omega.{arith}
use Rattle.sample.specs.Word.{row_of, col_of, v_of, u_of, class_of, word_of, place_of}
use Rattle.sample.specs.Inner.{Held}

pub row_below : (w : ℕ) → w < 2 ^ 32 → row_of w < 64
row_below w h = omega arith

pub col-below : (w : ℕ) → col_of w < 64
col-below w = omega arith

pub v_below : (w : ℕ) → v_of w < 512
v_below w = omega arith

pub u-below : (w : ℕ) → u_of w < 512
u-below w = omega arith

pub class-below : (w : ℕ) → class_of w < 4
class-below w = omega arith

pub fields-held : (w : ℕ) → w < 2 ^ 32 → Held (row_of w) (col_of w) (v_of w) (u_of w) (class_of w)
fields-held w h =
    record { row = row_below w h; col = col-below w; motion-v = v_below w; motion-u = u-below w; class = class-below w }

-- a word is the word of its fields
pub word-of-fields : (w : ℕ) → word_of (row_of w) (col_of w) (v_of w) (u_of w) (class_of w) ≡ w
word-of-fields w =
    omega (arith, div-div-eq-div-mul w 1048576 64, div-div-eq-div-mul w 2048 512, div-div-eq-div-mul w 4 512)

module _ {r c v u k : ℕ} (h : Held r c v u k) where
  pub word_fits : word_of r c v u k < 2 ^ 32
  word_fits = omega arith

  pub row-of-word : row_of (word_of r c v u k) ≡ r
  row-of-word = omega arith

  pub col-of-word : col_of (word_of r c v u k) ≡ c
  col-of-word = omega arith

  pub v-of-word : v_of (word_of r c v u k) ≡ v
  v-of-word = omega arith

  pub u-of-word : u_of (word_of r c v u k) ≡ u
  u-of-word = omega arith

  pub class-of-word : class_of (word_of r c v u k) ≡ k
  class-of-word = omega arith

  pub place-of-word : place_of (word_of r c v u k) ≡ r * 64 + c
  place-of-word = omega arith

pub place-of-fields : (w : ℕ) → place_of w ≡ row_of w * 64 + col_of w
place-of-fields w = omega arith

-- A fitted model is on the grid of its type whatever motion is left for its translation: that motion has slots 0 and 1 alone.
-- Assumes nothing.
use Prim.Native.Nat.{ℕ}
use mathlib.Core.List.{List, []}
use mathlib.Core.Path.{◌≡◌, refl}
use lib.Dec.{lit<}
use lib.IntN.{ℤ}
use Rattle.grid.proofs.Table.{row-codable}
use Rattle.sample.specs.declared.MotionSample.{MotionSample}
use Rattle.fit.specs.declared.Fitted.{Fitted}
use Rattle.fit.specs.Fitted.{type_of}
use Rattle.grid_number.specs.GridNumber.{grid_number}
use Rattle.quantize.specs.declared.Linear.{Linear}
use Rattle.quantize.specs.declared.Motion.{Motion}
use Rattle.quantize.specs.Quantize.{slot_of, linear_of, refitted, refitted_from, params_of, params_from}
use Rattle.quantize.proofs.OnGrid.{OnGrid, CodableAt, each-of-six, quantized-on-grid}

module _ (kind flag : ℕ) (l : Linear) (s t : Motion) (g : OnGrid kind flag (params_of kind flag l s)) where
  any-motion : OnGrid kind flag (params_of kind flag l t)
  any-motion =
      record {
        six = refl;
        codable =
            each-of-six (λ (i : ℕ) (z : ℤ). CodableAt kind flag i z) (slot_of kind flag 0 t.u) (slot_of kind flag 1 t.v) l.p2 l.p3 l.p4 l.p5
            (row-codable kind flag 0 (grid_number t.u)) (row-codable kind flag 1 (grid_number t.v))
            (g.codable 2 (lit< tt)) (g.codable 3 (lit< tt)) (g.codable 4 (lit< tt)) (g.codable 5 (lit< tt));
        translation = λ e. let i = g.translation e in record { two = i.two; three = i.three; four = i.four; five = i.five };
        pair = λ e. let p = g.pair e in record { four = p.four; five = p.five };
      }

pub from-on-grid : {A : Type 0} (read : A → MotionSample) (f : Fitted) (flag : ℕ) (xs : List A) → (type_of f ≡ 0 → ⊥) → OnGrid (type_of f) flag (params_from read f flag xs)
unfolding params_from
from-on-grid read f flag xs h =
    any-motion (type_of f) flag (linear_of f flag) (refitted (linear_of f flag) []) (refitted_from read (linear_of f flag) xs) (quantized-on-grid f flag [] h)

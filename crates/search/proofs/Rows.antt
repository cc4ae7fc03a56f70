-- The tests of the refusal table over sides that are small, and what a quiet table says.
-- Assumes nothing.
use Prim.Native.Nat.{ℕ, zero, suc, ◌*◌, ◌/◌, ◌≤◌, ◌<◌}
use mathlib.Core.Bool.{Bool, true, false}
use mathlib.Core.List.{List}
use mathlib.Core.Path.{◌≡◌, sym, ap, ◌∙◌}
use native.Mathlib.Nat.{mul-le-mul}
use native.Mathlib.Omega.{arith}
use lib.Dec.{ltb}
use lib.ListN.{length, take}
use borrow.Author.Tests.{ltb-false, lt-ltb}
use Rattle.laws.specs.Refusal.{judge, both}
use Rattle.laws.specs.Buffer.{onto}
use Rattle.laws.proofs.Buffer.{onto-front}
use Rattle.laws.proofs.Refusal.{neither, quiet, or-else-quiet, length-is}
use Rattle.plane.specs.Plane.{half_plane, largest_side}
use Rattle.plane.specs.Inner.{Small}
use Rattle.plane.proofs.Halves.{length-half_plane}
use Rattle.search.specs.Search.{sample_count}
use Rattle.search.specs.Refusal.{verdict, input_rows, lent_rows, too_large}
use Rattle.search.specs.Inner.{Ready}

pub count_small : (w h : ℕ) → w ≤ largest_side → h ≤ largest_side → h / 16 * (w / 16) ≤ 4096
count_small w h p q = mul-le-mul (let a : h / 16 ≤ 64 = omega arith in a) (let b : w / 16 ≤ 64 = omega arith in b)

pub half-small : (w h : ℕ) → w ≤ largest_side → h ≤ largest_side → h / 2 * (w / 2) ≤ 262144
half-small w h p q = mul-le-mul (let a : h / 2 ≤ 512 = omega arith in a) (let b : w / 2 ≤ 512 = omega arith in b)

both_false : (a b : Bool) → both a b ≡ false → a ≡ true → b ≡ false
both_false a b e t = rw t at e

-- sides that row 1 lets pass
pub small : (w h : ℕ) → too_large w h ≡ false → Small w h
small w h e = record { narrow = ltb-false largest_side w (neither (ltb largest_side w) (ltb largest_side h) e).0; low = ltb-false largest_side h (neither (ltb largest_side w) (ltb largest_side h) e).1 }

-- a number below a product
pub factor-pos : (a b k : ℕ) → k < a * b → 0 < b
factor-pos a zero k h = absurd (omega arith)
factor-pos a (suc b) k h = omega arith

-- an accepted call has small sides
pub small-sides : (w h input ref : ℕ) (classes : List ℕ) (input_half ref_half words : ℕ) →
    verdict w h input ref classes input_half ref_half words ≡ 0 → Small w h
unfolding verdict
small-sides w h input ref classes input_half ref_half words e =
    let q = or-else-quiet (judge (input_rows w h input ref classes)) (judge (lent_rows w h input_half ref_half words)) e in
    small w h (quiet (input_rows w h input ref classes) tt q.0).0

-- an accepted call with samples has all that it rests on
pub ready : (input ref : List ℕ) (w h : ℕ) (classes input_half ref_half words : List ℕ) →
    verdict w h (length input) (length ref) classes (length input_half) (length ref_half) (length words) ≡ 0 → 0 < sample_count w h →
    Ready input ref w h input_half ref_half words
unfolding verdict
ready input ref w h classes input_half ref_half words e s =
    let ins = input_rows w h (length input) (length ref) classes in
    let outs = lent_rows w h (length input_half) (length ref_half) (length words) in
    let z = or-else-quiet (judge ins) (judge outs) e in
    let q = quiet ins tt z.0 in
    let two = neither _ _ q.1.0 in
    let three = neither _ _ two.1 in
    let short = neither _ _ (both_false _ _ (quiet outs tt z.1).0 (lt-ltb 0 (sample_count w h) s)) in
    let words-short = neither _ _ short.1 in
    record {
      small = small w h q.0;
      input_pels = sym (length-is _ _ two.0);
      ref_pels = sym (length-is _ _ three.0);
      words_room = ltb-false _ _ words-short.1;
      input_room = ltb-false _ _ short.0;
      ref_room = ltb-false _ _ words-short.0;
    }

-- the front of a buffer that holds a half plane
pub half-front : (p : List ℕ) (w h : ℕ) (old : List ℕ) {l : List ℕ} → l ≡ onto (half_plane p w h) old → take (h / 2 * (w / 2)) l ≡ half_plane p w h
half-front p w h old e = rw (e, ← length-half_plane p w h) (onto-front (half_plane p w h) old)

pub half-front-length : (p : List ℕ) (w h : ℕ) (old : List ℕ) {l : List ℕ} → l ≡ onto (half_plane p w h) old → h / 2 * (w / 2) ≡ length (take (h / 2 * (w / 2)) l)
half-front-length p w h old e = sym (ap length (half-front p w h old e) ∙ length-half_plane p w h)

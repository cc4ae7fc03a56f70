-- How far the code's stages go: every candidate's pels lie in the window.
-- Assumes nothing.
use Prim.Native.Nat.{ℕ, ◌+◌, ◌*◌, ◌-◌, ◌/◌, ◌%◌, ◌≤◌}
use mathlib.Core.List.{List}
use mathlib.Core.Path.{◌≡◌, refl}
use native.Mathlib.Nat.{mul-le-mul_right}
use native.Mathlib.Omega.{arith}
use Rattle.plane.specs.declared.Offset.{Offset}
use Rattle.cost.specs.Inner.{window_costs, bilinear_window_costs, Reached}
use Rattle.stage.specs.declared.Best.{Best}
use Rattle.stage.specs.Inner.{start_of, at, magnitudes_of, coarse_motion, coarse_in, full_motion, full_pel_in, step_motion, step_in, steps_in, refined_in, eightfold, fine_in, Lies, Roomy, Around, Steady}
use Rattle.stage.proofs.Turns.{run_lies}

-- a motion of a step: at most two steps are added before one is taken back
pub record Stepped (corner step m j : ℕ) : Type 0 where
  pub added : j * step ≤ 2 * step
  pub step_small : step ≤ 31
  pub m_small : m ≤ 446
  pub back : m + j * step - step + 1 * step ≡ m + j * step
  pub reached : Reached corner (m + j * step - step)
  pub near_low : m ≤ m + j * step - step + step
  pub near_high : m + j * step - step ≤ m + step

pub stepped : (corner step m j : ℕ) → 3 ≤ corner → corner + 3 ≤ 54 → Around step corner m → j ≤ 2 → Stepped corner step m j
stepped corner step m j low high a l =
    let k : j * step ≤ 2 * step = mul-le-mul_right step l in
    let p : 8 * corner + step ≤ m + 24 = a.low in
    let q : m + step ≤ 8 * corner + 38 = a.high in
    record {
      added = k;
      step_small = omega arith;
      m_small = omega arith;
      back = omega arith;
      reached = record { low = omega arith; high = omega arith; small = omega arith };
      near_low = omega arith;
      near_high = omega arith;
    }

-- the start of the steps
pub reached-here : (corner m : ℕ) → corner + 3 ≤ 54 → Around 7 corner m → Reached corner m
reached-here corner m l a =
    let p : 8 * corner + 7 ≤ m + 24 = a.low in
    let q : m + 7 ≤ 8 * corner + 38 = a.high in
    record { low = omega arith; high = omega arith; small = omega arith }

-- the steps keep within their reach
pub step_in-lies : (corner : Offset) (step : ℕ) (block window : List ℕ) (start : Best) → Roomy 3 54 corner.y corner.x → Steady step corner (at start.y start.x) →
    Lies step start.y start.x (step_in corner step block window start).y (step_in corner step block window start).x
unfolding step_in
step_in-lies corner step block window start r a =
    let centre = at start.y start.x in
    run_lies (λ k. bilinear_window_costs block window corner (step_motion centre step k)) (λ k. 0) (step_motion centre step) 1 step start.y start.x 9 start
    (λ k l.
    let sy = stepped corner.y step start.y (k / 3) r.y_low r.y_high a.y_around (omega arith) in
    let sx = stepped corner.x step start.x (k % 3) r.x_low r.x_high a.x_around (omega arith) in
    record { y_low = sy.near_low; y_high = sy.near_high; x_low = sx.near_low; x_high = sx.near_high })
    (record { y_low = omega arith; y_high = omega arith; x_low = omega arith; x_high = omega arith })

-- a reach left over
pub steady-after : {reach step before : ℕ} (corner : Offset) (y x y' x' : ℕ) → Steady before corner (at y x) → Lies step y x y' x' → reach + step ≤ before → Steady reach corner (at y' x')
steady-after {reach} {step} {before} corner y x y' x' s l k =
    let a : 8 * corner.y + before ≤ y + 24 = s.y_around.low in
    let b : y + before ≤ 8 * corner.y + 38 = s.y_around.high in
    let c : 8 * corner.x + before ≤ x + 24 = s.x_around.low in
    let d : x + before ≤ 8 * corner.x + 38 = s.x_around.high in
    let e : y ≤ y' + step = l.y_low in
    let f : y' ≤ y + step = l.y_high in
    let g : x ≤ x' + step = l.x_low in
    let h : x' ≤ x + step = l.x_high in
    record { y_around = record { low = omega arith; high = omega arith }; x_around = record { low = omega arith; high = omega arith } }

-- a full-pel winner, as eighths
pub steady-start : (centre : Offset) (y x : ℕ) → Lies 3 centre.y centre.x y x → Steady 7 centre (at (8 * y + 7) (8 * x + 7))
steady-start centre y x l =
    let e : centre.y ≤ y + 3 = l.y_low in
    let f : y ≤ centre.y + 3 = l.y_high in
    let g : centre.x ≤ x + 3 = l.x_low in
    let h : x ≤ centre.x + 3 = l.x_high in
    record { y_around = record { low = omega arith; high = omega arith }; x_around = record { low = omega arith; high = omega arith } }

pub steady-less : {reach less : ℕ} (corner motion : Offset) → Steady reach corner motion → less ≤ reach → Steady less corner motion
steady-less {reach} {less} corner motion s l =
    let a : 8 * corner.y + reach ≤ motion.y + 24 = s.y_around.low in
    let b : motion.y + reach ≤ 8 * corner.y + 38 = s.y_around.high in
    let c : 8 * corner.x + reach ≤ motion.x + 24 = s.x_around.low in
    let d : motion.x + reach ≤ 8 * corner.x + 38 = s.x_around.high in
    record { y_around = record { low = omega arith; high = omega arith }; x_around = record { low = omega arith; high = omega arith } }

pub full_pel_in-lies : (centre : Offset) (block window : List ℕ) → Roomy 3 54 centre.y centre.x →
    Lies 3 centre.y centre.x (full_pel_in centre block window).y (full_pel_in centre block window).x
unfolding full_pel_in
full_pel_in-lies centre block window r =
    let ly : 3 ≤ centre.y = r.y_low in
    let lx : 3 ≤ centre.x = r.x_low in
    run_lies (λ k. window_costs 16 24 block window (k / 7 + 1) (k % 7 + 1)) (λ k. magnitudes_of 27 (full_motion centre k)) (full_motion centre) 3 3 centre.y centre.x 49
    (start_of (window_costs 16 24 block window 4 4) centre.y centre.x)
    (λ k l. record { y_low = omega arith; y_high = omega arith; x_low = omega arith; x_high = omega arith })
    (record { y_low = omega arith; y_high = omega arith; x_low = omega arith; x_high = omega arith })

pub coarse_in-lies : (block window : List ℕ) → Lies 12 12 12 (coarse_in block window).y (coarse_in block window).x
unfolding coarse_in
coarse_in-lies block window =
    run_lies (λ k. window_costs 8 32 block window (k / 25) (k % 25)) (λ k. magnitudes_of 12 (coarse_motion k)) coarse_motion 12 12 12 12 625
    (start_of (window_costs 8 32 block window 12 12) 12 12)
    (λ k l. record { y_low = omega arith; y_high = omega arith; x_low = omega arith; x_high = omega arith })
    (record { y_low = omega arith; y_high = omega arith; x_low = omega arith; x_high = omega arith })

-- three steps
pub lies-after : (a b y x y1 x1 y2 x2 : ℕ) → Lies a y x y1 x1 → Lies b y1 x1 y2 x2 → Lies (a + b) y x y2 x2
lies-after a b y x y1 x1 y2 x2 l m =
    let p : y ≤ y1 + a = l.y_low in
    let q : y1 ≤ y + a = l.y_high in
    let r : x ≤ x1 + a = l.x_low in
    let s : x1 ≤ x + a = l.x_high in
    let t : y1 ≤ y2 + b = m.y_low in
    let u : y2 ≤ y1 + b = m.y_high in
    let v : x1 ≤ x2 + b = m.x_low in
    let w : x2 ≤ x1 + b = m.x_high in
    record { y_low = omega arith; y_high = omega arith; x_low = omega arith; x_high = omega arith }

-- three steps on a window that was taken apart and is whole again
pub steps-are : (corner : Offset) (block window : List ℕ) (first : Best) {again : List ℕ} {by_4 by_2 by-1 : Best} → again ≡ window → by_4 ≡ step_in corner 4 block again first →
    by_2 ≡ step_in corner 2 block again by_4 → by-1 ≡ step_in corner 1 block again by_2 → by-1 ≡ steps_in corner block window first
steps-are corner block window first e p q d = rw (d, q, p, e)

-- the start, and three steps
pub refined_in-is : (corner start : Offset) (block window : List ℕ) {first last : Best} → first ≡ start_of (bilinear_window_costs block window corner start) start.y start.x →
    last ≡ steps_in corner block window first → last ≡ refined_in corner start block window
unfolding refined_in
refined_in-is corner start block window e p = rw (p, e)

-- both stages on planes
pub fine_in-is : (centre : Offset) (block window : List ℕ) {full last : Best} → full ≡ full_pel_in centre block window →
    last ≡ refined_in centre (eightfold (at full.y full.x)) block window →
    record { cost = last.cost; y = last.y; x = last.x; rows = full.rows + last.rows } ≡ fine_in centre block window
unfolding fine_in
fine_in-is centre block window e q = rw (q, e) refl

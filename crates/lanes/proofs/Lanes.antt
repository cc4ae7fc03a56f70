-- Lane k is the candidate k columns further right; and sums that are added row by row together end as each would alone.
-- Assumes nothing.
use Prim.Native.Nat.{ℕ, zero, suc, ◌+◌, ◌*◌, ◌-◌, ◌/◌, ◌≤◌, ◌<◌}
use mathlib.Core.Bool.{Bool, true, false}
use mathlib.Core.List.{List}
use mathlib.Core.Path.{◌≡◌, refl, sym, ap, subst, ◌∙◌}
use native.Mathlib.Numerals.{add-one}
use native.Mathlib.Omega.{arith}
use lib.Dec.{T, ltb}
use lib.ListN.{length, take, drop, get_or}
use borrow.Author.Tests.{ltb-true, ltb-false}
use Rattle.laws.specs.Loops.{sum}
use Rattle.laws.specs.Parts.{listing}
use Rattle.laws.proofs.Loops.{sum_step, sum_same}
use Rattle.laws.proofs.Filling.{length-listing, listing-same}
use Rattle.plane.specs.Difference.{difference}
use Rattle.plane.proofs.Halves.{part_at}
use Rattle.plane.proofs.Listing.{get_d-listing}
use Rattle.cost.specs.Ended.{ended}
use Rattle.cost.specs.Inner.{window_cost, window_costs, AtMost}
use Rattle.cost.proofs.Bounded.{part-at-most}
use Rattle.lanes.specs.Inner.{live, spread_of, lane_row, lane_cost, lane_costs, IfLow, LowSums, Room, Grown, Counts}
use Rattle.lanes.proofs.Going.{sum-zero, sum-noughts, sum_ones, sum_both, live-zero, goes, stays-ended, rows-stop, ended-rows, ended-live}

-- ---- lane k is candidate x + k

spread_at : (block : List ℕ) (i j k : ℕ) → length block ≡ 64 → i < 8 → j < 8 → k < 8 → get_or (spread_of block) (i * 64 + (8 * j + k)) 0 ≡ get_or block (i * 8 + j) 0
unfolding spread_of
spread_at block i j k e l m g =
    let at : i * 64 + (8 * j + k) < 8 * length block = omega (arith, e) in
    let place : (i * 64 + (8 * j + k)) / 8 ≡ i * 8 + j = omega arith in
    get_d-listing (λ q. get_or block (q / 8) 0) (8 * length block) (i * 64 + (8 * j + k)) 0 at ∙ ap (λ (q : ℕ). get_or block q 0) place

lane-cost : (block window : List ℕ) (y x k i : ℕ) → length block ≡ 64 → k < 8 → i < 8 → lane_cost (spread_of block) window y x k i ≡ window_cost 8 32 block window y (x + k) i
unfolding lane_cost window_cost
lane-cost block window y x k i e g l =
    sum_same
    (λ j. difference (get_or (spread_of block) (i * 64 + (8 * j + k)) 0) (get_or window ((y + i) * 32 + x + (j + k)) 0))
    (λ j. difference (get_or block (i * 8 + j) 0) (get_or window ((y + i) * 32 + (x + k) + j) 0))
    8
    (λ j m.
    let q : (y + i) * 32 + x + (j + k) ≡ (y + i) * 32 + (x + k) + j = omega arith in
    rw (spread_at block i j k e l m g, q) refl)

pub lane-is-candidate : (block window : List ℕ) (y x k : ℕ) → length block ≡ 64 → k < 8 → lane_costs (spread_of block) window y x k ≡ window_costs 8 32 block window y (x + k)
unfolding lane_costs window_costs
lane-is-candidate block window y x k e g =
    listing-same (lane_cost (spread_of block) window y x k) (window_cost 8 32 block window y (x + k)) 8 (λ i l. lane-cost block window y x k i e g l)

-- ---- a row of the lanes, from parts of the spread block and the window

lane-laid : (spread window : List ℕ) (y x k i : ℕ) → k < 8 →
    lane_row (take (i * 64 + 64 - i * 64) (drop (i * 64) spread)) (take ((y + i) * 32 + x + 15 - ((y + i) * 32 + x)) (drop ((y + i) * 32 + x) window)) k
    ≡ lane_cost spread window y x k i
unfolding lane_row lane_cost
lane-laid spread window y x k i g =
    sum_same
    (λ j.
    difference (get_or (take (i * 64 + 64 - i * 64) (drop (i * 64) spread)) (8 * j + k) 0)
    (get_or (take ((y + i) * 32 + x + 15 - ((y + i) * 32 + x)) (drop ((y + i) * 32 + x) window)) (j + k) 0))
    (λ j. difference (get_or spread (i * 64 + (8 * j + k)) 0) (get_or window ((y + i) * 32 + x + (j + k)) 0))
    8
    (λ j m.
    rw (
      part_at spread (i * 64) 64 (8 * j + k) (omega arith),
      part_at window ((y + i) * 32 + x) 15 (j + k) (omega arith),
    ) refl)

-- a part of low pels
pub low-if : {said : Bool} {pels : List ℕ} → IfLow said pels → (a n : ℕ) → a + n ≤ length pels → IfLow said (take (a + n - a) (drop a pels))
low-if {said} {pels} h a n l = record { then = λ e. part-at-most 8191 pels a n l (h.then e) }

-- nothing is said
pub low-unsaid : (pels : List ℕ) → IfLow false pels
low-unsaid pels = record { then = λ e. by e }
  where
    by : {A : Type 0} → false ≡ true → A
    by e = absurd (subst T (sym e) tt)

pub low-spread : {said : Bool} {block : List ℕ} → IfLow said block → IfLow said (spread_of block)
unfolding spread_of
low-spread {said} {block} h =
    record {
      then = λ e.
          record {
            each = λ i l.
                let n : length (listing (λ k. get_or block (k / 8) 0) (8 * length block)) ≡ 8 * length block = length-listing (λ k. get_or block (k / 8) 0) (8 * length block) in
                let m : i < 8 * length block = omega (arith, n, l) in
                rw (get_d-listing (λ k. get_or block (k / 8) 0) (8 * length block) i 0 m) ((h.then e).each (i / 8) (omega arith));
          };
    }

-- the greatest of the first pels
pub record Highest (pels : List ℕ) (i highest : ℕ) : Type 0 where
  pub within : i ≤ length pels
  pub each : (j : ℕ) → j < i → get_or pels j 0 ≤ highest

pub highest-none : (pels : List ℕ) (highest : ℕ) → Highest pels 0 highest
highest-none pels highest = record { within = omega arith; each = λ j l. absurd (omega arith) }

pub highest-more : {pels : List ℕ} {i highest more : ℕ} → Highest pels i highest → i < length pels → highest ≤ more → get_or pels i 0 ≤ more → Highest pels (i + 1) more
highest-more {pels} {i} {highest} {more} h l p q = record { within = omega arith; each = λ j g. by j g (ltb j i) refl }
  where
    by : (j : ℕ) → j < i + 1 → (t : Bool) → ltb j i ≡ t → get_or pels j 0 ≤ more
    by j g true t = let r : get_or pels j 0 ≤ highest = h.each j (ltb-true j i t) in omega arith
    by j g false t =
        let m = ltb-false j i t in
        let e : i ≡ j = omega arith in
        subst (λ (k : ℕ). get_or pels k 0 ≤ more) e q

pub highest-low : {pels : List ℕ} {i highest : ℕ} → Highest pels i highest → length pels ≤ i → highest ≤ 8191 → AtMost 8191 pels
highest-low {pels} {i} {highest} h l m = record { each = λ j g. let r : get_or pels j 0 ≤ highest = h.each j (omega arith) in omega arith }

pub lane-read : {row part lanes : List ℕ} → LowSums row part lanes → (k : ℕ) → k < 8 → get_or lanes k 0 ≡ lane_row row part k
lane-read {row} {part} s k l = ap (λ (a : List ℕ). get_or a k 0) s.same ∙ get_d-listing (lane_row row part) 8 k 0 l

-- ---- sums added together

-- one sum that has reached the best after some row: its rows, and that it doesn't win
lane-stopped : (best start : ℕ) (f : ℕ → ℕ) (i n : ℕ) → 0 < i → i ≤ n → goes best start f i ≡ 0 → sum (goes best start f) i ≡ (ended best start 0 (listing f n)).rows
lane-stopped best start f zero n p l z = absurd (omega arith)
lane-stopped best start f (suc i) n p l z = sym (ended-rows best start f n ∙ rows-stop best start f n i l (live-zero best (start + sum f (suc i)) z))

lane_over : (best start : ℕ) (f : ℕ → ℕ) (i n : ℕ) → 0 < i → i ≤ n → goes best start f i ≡ 0 → 0 ≡ live best (ended best start 0 (listing f n)).cost
lane_over best start f zero n p l z = absurd (omega arith)
lane_over best start f (suc i) n p l z =
    sym (ended-live best start f n (omega arith) ∙ stays-ended best start f i (live-zero best (start + sum f (suc i)) z) n l)

-- what a loop over h rows of n lanes keeps after row i, lane k costing f k j in row j, at most b
pub record Together (best : ℕ) (starts : List ℕ) (f : ℕ → ℕ → ℕ) (n h b i : ℕ) (costs : List ℕ) (rows going : ℕ) : Type 0 where
  pub within : i ≤ h
  pub each : (k : ℕ) → k < n → get_or costs k 0 ≡ get_or starts k 0 + sum (f k) i
  pub all_rows : rows ≡ sum (λ k. sum (goes best (get_or starts k 0) (f k)) i) n
  pub all_going : going ≡ sum (λ k. goes best (get_or starts k 0) (f k) i) n
  pub small : (k : ℕ) → k < n → sum (f k) i ≤ b * i
  pub few : rows ≤ n * i
  pub few_going : going ≤ n

pub begins : (best : ℕ) (starts : List ℕ) (f : ℕ → ℕ → ℕ) (n h b : ℕ) → Together best starts f n h b 0 starts 0 n
begins best starts f n h b =
    record {
      within = omega arith;
      each = λ k g. omega arith;
      all_rows = sum-noughts n;
      all_going = sum_ones n;
      small = λ k g. omega arith;
      few = omega arith;
      few_going = omega arith;
    }

module _ {best : ℕ} {starts : List ℕ} {f : ℕ → ℕ → ℕ} {n h b i : ℕ} {costs : List ℕ} {rows going : ℕ} (t : Together best starts f n h b i costs rows going) where
  -- a row more of every lane
  pub goes_on : {sums : List ℕ} {next : ℕ} → i < h → sums ≡ listing (λ k. get_or costs k 0 + f k i) n → ((k : ℕ) → k < n → f k i ≤ b) →
      next ≡ sum (λ k. live best (get_or sums k 0)) n → next ≤ n → Together best starts f n h b (i + 1) sums (rows + going) next
  goes_on {sums} {next} l e m q few =
      let each : (k : ℕ) → k < n → get_or sums k 0 ≡ get_or starts k 0 + sum (f k) (i + 1) =
      λ k g.
      ap (λ (s : List ℕ). get_or s k 0) e
      ∙ (get_d-listing (λ j. get_or costs j 0 + f j i) n k 0 g
      ∙ (let p : get_or costs k 0 ≡ get_or starts k 0 + sum (f k) i = t.each k g in
      let s : sum (f k) (i + 1) ≡ sum (f k) i + f k i = sum_step (f k) i in
      let r : get_or costs k 0 + f k i ≡ get_or starts k 0 + sum (f k) (i + 1) = omega arith in r)) in
      record {
        within = omega arith;
        each = each;
        all_rows =
            ap (λ (a : ℕ). a + going) t.all_rows
            ∙ (ap (λ (a : ℕ). sum (λ k. sum (goes best (get_or starts k 0) (f k)) i) n + a) t.all_going
            ∙ (sum_both (λ k. sum (goes best (get_or starts k 0) (f k)) i) (λ k. goes best (get_or starts k 0) (f k) i) n
            ∙ sum_same (λ k. sum (goes best (get_or starts k 0) (f k)) i + goes best (get_or starts k 0) (f k) i) (λ k. sum (goes best (get_or starts k 0) (f k)) (i + 1)) n
            (λ k g. sym (sum_step (goes best (get_or starts k 0) (f k)) i))));
        all_going =
            q
            ∙ sum_same (λ k. live best (get_or sums k 0)) (λ k. goes best (get_or starts k 0) (f k) (i + 1)) n
            (λ k g. ap (live best) (each k g) ∙ rw (add-one i) refl);
        small = λ k g.
            let s : sum (f k) (i + 1) ≡ sum (f k) i + f k i = sum_step (f k) i in
            let p : sum (f k) i ≤ b * i = t.small k g in
            let r : f k i ≤ b = m k g in
            omega arith;
        few = let p : rows ≤ n * i = t.few in let r : going ≤ n = t.few_going in omega arith;
        few_going = few;
      }

-- no cost of eight lanes comes near 2^32
pub room : {best : ℕ} {starts : List ℕ} {f : ℕ → ℕ → ℕ} {i : ℕ} {costs : List ℕ} {rows going : ℕ} → Together best starts f 8 8 524280 i costs rows going →
    ((k : ℕ) → k < 8 → get_or starts k 0 ≤ 512) → Room costs
room {i = i} t h =
    record {
      each = λ k l. omega (arith, t.each k l, t.small k l, h k l, t.within);
    }

-- eight lanes of eight rows, all of them ended, or all rows added
module _ {best : ℕ} {starts : List ℕ} {f : ℕ → ℕ → ℕ} {b i : ℕ} {costs : List ℕ} {rows going : ℕ} (t : Together best starts f 8 8 b i costs rows going) where
  pub stops : 0 < i → going ≡ 0 → Counts best (λ k. ended best (get_or starts k 0) 0 (listing (f k) 8)) (record { rows = rows; below = 0 })
  stops p z =
      let off : (k : ℕ) → k < 8 → goes best (get_or starts k 0) (f k) i ≡ 0 =
      λ k g. sum-zero (λ j. goes best (get_or starts j 0) (f j) i) 8 k (sym t.all_going ∙ z) g in
      record {
        all_rows =
            t.all_rows
            ∙ sum_same (λ k. sum (goes best (get_or starts k 0) (f k)) i) (λ k. (ended best (get_or starts k 0) 0 (listing (f k) 8)).rows) 8
            (λ k g. lane-stopped best (get_or starts k 0) (f k) i 8 p t.within (off k g));
        all_below =
            sum-noughts 8
            ∙ sum_same (λ k. 0) (λ k. live best (ended best (get_or starts k 0) 0 (listing (f k) 8)).cost) 8
            (λ k g. lane_over best (get_or starts k 0) (f k) i 8 p t.within (off k g));
        few = omega (arith, t.few, t.within);
      }

  pub ends : 8 ≤ i → Counts best (λ k. ended best (get_or starts k 0) 0 (listing (f k) 8)) (record { rows = rows; below = going })
  ends l =
      let e : i ≡ 8 = omega (arith, t.within) in
      record {
        all_rows =
            t.all_rows
            ∙ sum_same (λ k. sum (goes best (get_or starts k 0) (f k)) i) (λ k. (ended best (get_or starts k 0) 0 (listing (f k) 8)).rows) 8
            (λ k g. ap (sum (goes best (get_or starts k 0) (f k))) e ∙ sym (ended-rows best (get_or starts k 0) (f k) 8));
        all_below =
            t.all_going
            ∙ sum_same (λ k. goes best (get_or starts k 0) (f k) i) (λ k. live best (ended best (get_or starts k 0) 0 (listing (f k) 8)).cost) 8
            (λ k g. ap (goes best (get_or starts k 0) (f k)) e ∙ sym (ended-live best (get_or starts k 0) (f k) 8 (omega arith)));
        few = omega (arith, t.few, t.within);
      }

-- a row as the code adds it
pub row_laid : (spread window : List ℕ) (y x i : ℕ) {costs sums : List ℕ} →
    Grown costs (take (i * 64 + 64 - i * 64) (drop (i * 64) spread)) (take ((y + i) * 32 + x + 15 - ((y + i) * 32 + x)) (drop ((y + i) * 32 + x) window)) sums →
    sums ≡ listing (λ k. get_or costs k 0 + lane_cost spread window y x k i) 8
row_laid spread window y x i {costs} g =
    g.same
    ∙ listing-same
    (λ k.
    get_or costs k 0
    + lane_row (take (i * 64 + 64 - i * 64) (drop (i * 64) spread)) (take ((y + i) * 32 + x + 15 - ((y + i) * 32 + x)) (drop ((y + i) * 32 + x) window)) k)
    (λ k. get_or costs k 0 + lane_cost spread window y x k i)
    8
    (λ k l. ap (λ (a : ℕ). get_or costs k 0 + a) (lane-laid spread window y x k i l))

pub row_small : (spread window : List ℕ) (y x i : ℕ) {costs sums : List ℕ} →
    Grown costs (take (i * 64 + 64 - i * 64) (drop (i * 64) spread)) (take ((y + i) * 32 + x + 15 - ((y + i) * 32 + x)) (drop ((y + i) * 32 + x) window)) sums →
    (k : ℕ) → k < 8 → lane_cost spread window y x k i ≤ 524280
row_small spread window y x i g k l = rw (← lane-laid spread window y x k i l) (g.small k l)

-- The codes of each length, counted rung by rung: a rung that starts at 2 ^ e has 2 ^ e codes of 2 e - 1 bits, and the last one, of ns(2 ^ abs_bits + 1),
-- all but two of 2 abs_bits - 2 bits and two of one more.
-- Assumes nothing.
use Prim.Native.Nat.{ℕ, zero, suc, ◌+◌, ◌-◌, ◌*◌, ◌^◌, ◌≤◌, ◌<◌}
use mathlib.Core.Bool.{Bool}
use mathlib.Core.List.{List}
use mathlib.Core.Path.{◌≡◌, sym, ap, subst, ◌∙◌}
use native.Mathlib.Decide.{ℕ_discrete}
use native.Mathlib.Nat.{pow-suc}
use native.Mathlib.Omega.{arith}
use borrow.Author.Tests.{eq-eqb, ne_eqb}
use lib.Dec.{eqb}
use lib.ListN.{length}
use lib.Pow.{pow_mono, pow_pos}
use Rattle.laws.specs.Loops.{sum}
use Rattle.bits.specs.Fields.{field_bits}
use Rattle.bits.specs.Ns.{bit_length, short_codes, ns_bits}
use Rattle.bits.proofs.BitLength.{bit_length-is}
use Rattle.bits.proofs.Fields.{length-field_bits}
use Rattle.bits.proofs.Ns.{short-code, long-code}
use Rattle.grid.specs.Symbols.{symbols}
use Rattle.subexp.specs.Ladder.{climb_bits, subexp_bits}
use Rattle.subexp.specs.Inner.{rung_start, rung_step, reach}
use Rattle.subexp.proofs.Ladder.{bits-last, bits-stop, bits-more}
use Rattle.subexp.proofs.Rungs.{next_start, step-pos}
use Rattle.laws.proofs.Loops.{sum_same}
use Rattle.price.specs.Prices.{count_of}
use Rattle.price.specs.Listed.{when, listed}
use Rattle.price.proofs.Counting.{count_same, count-parts, count-alike}

-- the two lengths of an ns code
module _ (n v w m : ℕ) (ew : w ≡ bit_length n) (em : m ≡ short_codes n) where
  short-length : v < m → length (ns_bits n v) ≡ w - 1
  short-length h = ap length (short-code n v w m ew em h) ∙ length-field_bits (w - 1) v

  long-length : m ≤ v → length (ns_bits n v) ≡ w
  long-length h = ap length (long-code n v w m ew em h) ∙ length-field_bits w (v + m)

-- the codes of ns(2 ^ e + 1), behind so many bits
ns-count : (e front bits : ℕ) → 1 ≤ e
    → count_of (λ j. eqb bits (front + length (ns_bits (2 ^ e + 1) j))) (2 ^ e + 1)
    ≡ when (eqb bits (front + e)) (2 ^ e - 1) + when (eqb bits (front + suc e)) 2
ns-count e front bits some =
    let N : ℕ = 2 ^ e + 1 in
    let test : ℕ → Bool = λ j. eqb bits (front + length (ns_bits N j)) in
    let w : bit_length N ≡ suc e =
    bit_length-is N (suc e) (omega arith) (omega (arith, pow-suc 2 e, pow_mono some)) (omega (arith, pow-suc 2 e)) in
    let m : short_codes N ≡ 2 ^ e - 1 = ap (λ (x : ℕ). 2 ^ x - N) w ∙ (let d : 2 ^ suc e - N ≡ 2 ^ e - 1 = omega (arith, pow-suc 2 e) in d) in
    let n : N ≡ (2 ^ e - 1) + 2 = omega (arith, pow_pos e) in
    let less : suc e - 1 ≡ e = omega arith in
    let short : count_of test (2 ^ e - 1) ≡ when (eqb bits (front + e)) (2 ^ e - 1) =
    count-alike test (eqb bits (front + e)) (2 ^ e - 1)
    (λ i l. ap (λ (x : ℕ). eqb bits (front + x)) (short-length N i (suc e) (2 ^ e - 1) (sym w) (sym m) l ∙ less)) in
    let long : count_of (λ i. test ((2 ^ e - 1) + i)) 2 ≡ when (eqb bits (front + suc e)) 2 =
    count-alike (λ i. test ((2 ^ e - 1) + i)) (eqb bits (front + suc e)) 2
    (λ i l. ap (λ (x : ℕ). eqb bits (front + x)) (long-length N ((2 ^ e - 1) + i) (suc e) (2 ^ e - 1) (sym w) (sym m) (omega arith))) in
    ap (count_of test) n ∙ count-parts test (2 ^ e - 1) 2 ∙ rw (short, long)

-- the codes from the rung at 2 ^ e on, with k rungs behind it
abbrev rest : ℕ → ℕ → ℕ → ℕ
rest zero e bits = when (eqb bits (2 * e - 2)) (2 ^ e - 1) + when (eqb bits (2 * e - 1)) 2
rest (suc k) e bits = when (eqb bits (2 * e - 1)) (2 ^ e) + rest k (suc e) bits

module _ (abs bits : ℕ) (three : 3 ≤ abs) where
  abbrev S : ℕ
  S = symbols abs

  -- behind a one for each rung before it
  abbrev code : ℕ → ℕ → ℕ → ℕ
  code n i v = suc i + length (climb_bits n S v (rung_start (suc i)))

  rung-count : (k n i : ℕ) → 3 + i + k ≡ abs → S ≤ n + rung_start (suc i)
      → count_of (λ j. eqb bits (code n i (rung_start (suc i) + j))) (S - rung_start (suc i)) ≡ rest k (3 + i) bits
  rung-count k zero i e fuel = absurd (let le : 3 + i ≤ abs = omega arith in omega (arith, pow_mono le))
  rung-count zero (suc n) i e fuel =
      let e' : 3 + i ≡ abs = omega arith in
      let s : S - rung_start (suc i) ≡ 2 ^ (3 + i) + 1 = subst (λ (x : ℕ). 2 * 2 ^ x + 1 - 2 ^ (3 + i) ≡ 2 ^ (3 + i) + 1) e' (omega arith) in
      let last : S ≤ reach (suc i) = subst (λ (x : ℕ). 2 * 2 ^ x + 1 ≤ 2 ^ (3 + i) + 3 * 2 ^ (3 + i)) e' (omega (arith, pow_pos (3 + i))) in
      let same : (j : ℕ) → j < 2 ^ (3 + i) + 1 → eqb bits (code (suc n) i (rung_start (suc i) + j)) ≡ eqb bits (suc i + length (ns_bits (2 ^ (3 + i) + 1) j)) =
      λ j l. ap (λ (x : ℕ). eqb bits (suc i + x))
      (ap length (bits-last n S (suc i) (rung_start (suc i) + j) last)
      ∙ ap (λ (x : ℕ). length (ns_bits x (rung_start (suc i) + j - rung_start (suc i)))) s
      ∙ (let d : rung_start (suc i) + j - rung_start (suc i) ≡ j = omega arith in ap (λ (x : ℕ). length (ns_bits (2 ^ (3 + i) + 1) x)) d)) in
      let f : suc i + (3 + i) ≡ 2 * (3 + i) - 2 = omega arith in
      let g : suc i + suc (3 + i) ≡ 2 * (3 + i) - 1 = omega arith in
      ap (count_of (λ j. eqb bits (code (suc n) i (rung_start (suc i) + j)))) s
      ∙ count_same _ _ (2 ^ (3 + i) + 1) same
      ∙ ns-count (3 + i) (suc i) bits (omega arith)
      ∙ rw (f, g)
  rung-count (suc k) (suc n) i e fuel =
      let up : suc (3 + i) ≤ abs = omega arith in
      let next : rung_start (suc i) + rung_step (suc i) ≡ rung_start (suc (suc i)) = next_start (suc i) in
      let more : reach (suc i) < S = omega (arith, pow_mono up, pow-suc 2 (3 + i)) in
      let test : ℕ → Bool = λ j. eqb bits (code (suc n) i (rung_start (suc i) + j)) in
      let size : S - rung_start (suc i) ≡ rung_step (suc i) + (S - rung_start (suc (suc i))) = omega (arith, pow_mono up, pow-suc 2 (3 + i)) in
      let here : count_of test (rung_step (suc i)) ≡ when (eqb bits (2 * (3 + i) - 1)) (2 ^ (3 + i)) =
      count-alike test (eqb bits (2 * (3 + i) - 1)) (rung_step (suc i))
      (λ j l. ap (eqb bits)
      (ap (λ (x : List ℕ). suc i + length x) (bits-stop n S (suc i) (rung_start (suc i) + j) more (omega arith))
      ∙ (let d : suc i + suc (length (field_bits (3 + i) (rung_start (suc i) + j - rung_start (suc i)))) ≡ 2 * (3 + i) - 1 =
      omega (arith, length-field_bits (3 + i) (rung_start (suc i) + j - rung_start (suc i))) in d))) in
      let behind : count_of (λ j. test (rung_step (suc i) + j)) (S - rung_start (suc (suc i))) ≡ rest k (3 + suc i) bits =
      count_same _ _ (S - rung_start (suc (suc i)))
      (λ j l. ap (eqb bits)
      (let v : rung_start (suc i) + (rung_step (suc i) + j) ≡ rung_start (suc (suc i)) + j = omega (arith, next) in
      ap (λ (x : ℕ). code (suc n) i x) v
      ∙ ap (λ (x : List ℕ). suc i + length x) (bits-more n S (suc i) (rung_start (suc (suc i)) + j) more (omega (arith, next)))
      ∙ (let d : suc i + suc (length (climb_bits n S (rung_start (suc (suc i)) + j) (rung_start (suc (suc i))))) ≡ code n (suc i) (rung_start (suc (suc i)) + j) = omega arith in d)))
      ∙ rung-count k n (suc i) (omega arith) (omega (arith, next, step-pos (suc i))) in
      let u : 3 + suc i ≡ suc (3 + i) = omega arith in
      ap (count_of test) size ∙ count-parts test (rung_step (suc i)) (S - rung_start (suc (suc i))) ∙ rw (here, behind, u)

-- a sum by its first term
sum-front : (f : ℕ → ℕ) (n : ℕ) → sum f (suc n) ≡ f 0 + sum (λ i. f (suc i)) n
sum-front f zero = omega arith
sum-front f (suc n) = rw (sum-front f n) (omega arith)

-- the rungs as the list's sum has them
rest_sum : (k e bits : ℕ)
    → rest k e bits
    ≡ sum (λ i. when (eqb bits (2 * (e + i) - 1)) (2 ^ (e + i))) k + (when (eqb bits (2 * (e + k) - 2)) (2 ^ (e + k) - 1) + when (eqb bits (2 * (e + k) - 1)) 2)
rest_sum zero e bits = let z : e + 0 ≡ e = omega arith in rw z (omega arith)
rest_sum (suc k) e bits =
    let term : ℕ → ℕ = λ i. when (eqb bits (2 * (e + i) - 1)) (2 ^ (e + i)) in
    let z : e + 0 ≡ e = omega arith in
    let s : e + suc k ≡ suc e + k = omega arith in
    let shift : sum (λ i. when (eqb bits (2 * (suc e + i) - 1)) (2 ^ (suc e + i))) k ≡ sum (λ i. term (suc i)) k =
    sum_same _ _ k (λ i l. let d : suc e + i ≡ e + suc i = omega arith in ap (λ (x : ℕ). when (eqb bits (2 * x - 1)) (2 ^ x)) d) in
    let first : term 0 ≡ when (eqb bits (2 * e - 1)) (2 ^ e) = ap (λ (x : ℕ). when (eqb bits (2 * x - 1)) (2 ^ x)) z in
    rw (rest_sum k (suc e) bits, shift, s) (omega (arith, sum-front term k, first))

module _ (abs bits : ℕ) (three : 3 ≤ abs) where
  -- the rungs behind the first
  later : 8 ≤ symbols abs → count_of (λ j. eqb bits (1 + length (climb_bits (2 * 2 ^ abs) (symbols abs) (8 + j) 8))) (symbols abs - 8) ≡ rest (abs - 3) 3 bits
  later h = rung-count abs bits three (abs - 3) (2 * 2 ^ abs) 0 (omega arith) (omega arith)

  -- where the first is the last
  alone : abs ≡ 3 → count_of (λ v. eqb bits (length (climb_bits (suc (2 * 2 ^ abs)) (symbols abs) v 0))) (symbols abs) ≡ when (eqb bits 4) 15 + when (eqb bits 5) 2
  alone e =
      let p : 2 ^ abs ≡ 8 = ap (λ (x : ℕ). 2 ^ x) e in
      let s : symbols abs ≡ 2 ^ 4 + 1 = omega arith in
      let last : symbols abs ≤ reach 0 = omega arith in
      ap (count_of (λ v. eqb bits (length (climb_bits (suc (2 * 2 ^ abs)) (symbols abs) v 0)))) s
      ∙ count_same _ _ (2 ^ 4 + 1)
      (λ v l.
      let n : symbols abs - rung_start 0 ≡ 2 ^ 4 + 1 = omega arith in
      let d : v - rung_start 0 ≡ v = omega arith in
      ap (λ (x : List ℕ). eqb bits (length x))
      (bits-last (2 * 2 ^ abs) (symbols abs) 0 v last
      ∙ ap (λ (x : ℕ). ns_bits x (v - rung_start 0)) n
      ∙ ap (ns_bits (2 ^ 4 + 1)) d)
      ∙ (let z : length (ns_bits (2 ^ 4 + 1) v) ≡ 0 + length (ns_bits (2 ^ 4 + 1) v) = omega arith in ap (eqb bits) z))
      ∙ ns-count 4 0 bits (omega arith)

  -- where more follow
  first : 4 ≤ abs
      → count_of (λ v. eqb bits (length (climb_bits (suc (2 * 2 ^ abs)) (symbols abs) v 0))) (symbols abs) ≡ when (eqb bits 4) 8 + rest (abs - 3) 3 bits
  first up =
      let S : ℕ = symbols abs in
      let test : ℕ → Bool = λ v. eqb bits (length (climb_bits (suc (2 * 2 ^ abs)) S v 0)) in
      let more : reach 0 < S = omega (arith, pow_mono up) in
      let size : S ≡ 8 + (S - 8) = omega (arith, pow_mono up) in
      let here : count_of test 8 ≡ when (eqb bits 4) 8 =
      count-alike test (eqb bits 4) 8
      (λ v l. ap (λ (x : List ℕ). eqb bits (length x)) (bits-stop (2 * 2 ^ abs) S 0 v more l)
      ∙ (let d : suc (length (field_bits 3 (v - rung_start 0))) ≡ 4 = omega (arith, length-field_bits 3 (v - rung_start 0)) in ap (eqb bits) d)) in
      let behind : count_of (λ j. test (8 + j)) (S - 8) ≡ rest (abs - 3) 3 bits =
      count_same _ _ (S - 8)
      (λ j l. ap (λ (x : List ℕ). eqb bits (length x)) (bits-more (2 * 2 ^ abs) S 0 (8 + j) more (omega arith))
      ∙ (let d : suc (length (climb_bits (2 * 2 ^ abs) S (8 + j) 8)) ≡ 1 + length (climb_bits (2 * 2 ^ abs) S (8 + j) 8) = omega arith in ap (eqb bits) d))
      ∙ later (omega arith) in
      ap (count_of test) size ∙ count-parts test 8 (S - 8) ∙ rw (here, behind)

  -- every code number of a slot, by its length
  pub codes-listed : count_of (λ k. eqb bits (length (subexp_bits (symbols abs) k))) (symbols abs) ≡ listed abs bits
  unfolding subexp_bits listed
  codes-listed =
      let fuel : symbols abs ≡ suc (2 * 2 ^ abs) = omega arith in
      ap (λ (n : ℕ). count_of (λ v. eqb bits (length (climb_bits n (symbols abs) v 0))) (symbols abs)) fuel
      ∙ elim (ℕ_discrete abs 3) [
        | yes e ↦ alone e ∙ rw e (meet bits)
        | no ne ↦
            let k : 3 + (abs - 3) ≡ abs = omega arith in
            first (omega arith) ∙ rw (rest_sum (abs - 3) 3 bits, k) (omega arith)
      ]
    where
      meet : (bits : ℕ) → when (eqb bits 4) 15 + when (eqb bits 5) 2 ≡ listed 3 bits
      meet bits =
          elim (ℕ_discrete bits 4) [
            | yes e ↦ rw (eq-eqb bits 4 e, e)
            | no ne ↦ rw (ne_eqb bits 4 ne) (omega arith)
          ]

-- Lists whose numbers have a bound: a part of one keeps it; and lists that are filled from the front.
-- Assumes nothing.
use Prim.Native.Nat.{ℕ, ◌+◌, ◌-◌, ◌≤◌, ◌<◌}
use mathlib.Core.Bool.{Bool, true, false}
use mathlib.Core.List.{List}
use mathlib.Core.Path.{◌≡◌, refl, ap, subst, ◌∙◌}
use native.Mathlib.Omega.{arith}
use lib.Dec.{ltb}
use lib.ListN.{length, take, drop, get_or, set, length-set}
use borrow.Author.Tests.{ltb-true, ltb-false}
use Rattle.laws.specs.Buffer.{onto}
use Rattle.laws.specs.Parts.{listing}
use Rattle.plane.proofs.Halves.{part_at}
use Rattle.plane.proofs.Listing.{get_d-listing, listing-more, listing-all, part_length}
use Rattle.cost.specs.Inner.{AtMost}

pub part-at-most : (m : ℕ) (l : List ℕ) (a n : ℕ) → a + n ≤ length l → AtMost m l → AtMost m (take (a + n - a) (drop a l))
part-at-most m l a n le h =
    record {
      each = λ i k. let g : i < n = (let e = part_length a n l le in omega (arith, e, k)) in rw (part_at l a n i g) (h.each (a + i) (omega arith));
    }

-- ---- n numbers filled from the front

-- g 0, .., g (k - 1) so far, and what t says of each is at most b
pub record Filling (t g : ℕ → ℕ) (b n : ℕ) (old out : List ℕ) (k : ℕ) : Type 0 where
  pub within : k ≤ n
  pub whole : length old ≡ n
  pub long : length out ≡ n
  pub front : out ≡ onto (listing g k) old
  pub small : (j : ℕ) → j < k → t j ≤ b

pub fill_none : (t g : ℕ → ℕ) (b n : ℕ) (old : List ℕ) → length old ≡ n → Filling t g b n old old 0
fill_none t g b n old e = record { within = omega arith; whole = e; long = e; front = refl; small = λ j l. absurd (omega arith) }

pub fill_more : {t g : ℕ → ℕ} {b n k v : ℕ} {old out : List ℕ} → Filling t g b n old out k → k < n → v ≡ g k → t k ≤ b → Filling t g b n old (set out k v) (k + 1)
fill_more {t} {g} {b} {n} {k} {v} {old} {out} f l q m =
    record {
      within = omega arith;
      whole = f.whole;
      long = length-set out k v ∙ f.long;
      front = listing-more g old k (omega (arith, f.whole)) f.front q;
      small = λ j h. by j h (ltb j k) refl;
    }
  where
    by : (j : ℕ) → j < k + 1 → (r : Bool) → ltb j k ≡ r → t j ≤ b
    by j h true r = f.small j (ltb-true j k r)
    by j h false r =
        let p = ltb-false j k r in
        let e : k ≡ j = omega arith in
        subst (λ (i : ℕ). t i ≤ b) e m

module _ {t g : ℕ → ℕ} {b n k : ℕ} {old out : List ℕ} (f : Filling t g b n old out k) (l : n ≤ k) where
  pub fill-all : out ≡ listing g n
  fill-all = listing-all g old {i = k} (omega (arith, f.within)) f.whole f.front

  pub fill-small : (j : ℕ) → j < n → t j ≤ b
  fill-small j h = f.small j (omega arith)

  pub fill-at : (j : ℕ) → j < n → get_or out j 0 ≡ g j
  fill-at j h = ap (λ (o : List ℕ). get_or o j 0) fill-all ∙ get_d-listing g n j 0 h

-- where t is g itself
pub fill-at-most : {g : ℕ → ℕ} {b n k : ℕ} {old out : List ℕ} → Filling g g b n old out k → n ≤ k → AtMost b out
fill-at-most {g} {b} {n} {k} {old} {out} f l =
    record {
      each = λ j h.
          let m : j < n = omega (arith, f.long, h) in
          let e : get_or out j 0 ≡ g j = fill-at f l j m in
          let r : g j ≤ b = fill-small f l j m in
          omega arith;
    }

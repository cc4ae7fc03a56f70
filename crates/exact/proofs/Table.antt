-- Every row of the table, by the one law of bounded sums: over at most 4,096 words of any field values the sum stands for the whole-number sum, and so has every part of it. Where two lists
-- hold each word equally often their whole-number sums are equal, and what stands for one whole number is one number.
-- Assumes nothing.
use Prim.Native.Nat.{ℕ, ◌≤◌}
use mathlib.Core.List.{List}
use mathlib.Core.Path.{◌≡◌, sym, subst}
use native.Mathlib.Nat.{le_trans}
use native.Mathlib.Omega.{arith}
use lib.Dec.{lit≤}
use lib.IntN.{ℤ, pos}
use lib.ListN.{length, take}
use Rattle.sample.specs.Word.{most_samples}
use Rattle.sample.specs.Sample.{sample_of}
use Rattle.fit.specs.Sums.{count_of}
use Rattle.laws.specs.Stands.{Stands, Bounded, Each}
use Rattle.exact.specs.Words.{Word, Words, SameWords}
use Rattle.exact.specs.Table.{Sum, sums, summed, Exact}
use Rattle.laws.proofs.Stands.{of_int-stands, stands-once}
use Rattle.laws.proofs.ExactSum.{sum-exact, part-exact, each_map}
use Rattle.exact.proofs.Counts.{same-whole-sum, same_length, same-each}
use Rattle.exact.proofs.Terms.{Summable, row-u, row-v, row-x, row-y, row-xx, row-xy, row-yy, row-xu, row-yu, row-xv, row-yv, row-q, row-p1, row-p2}

-- ---- each sum

module _ (r : Sum) (row : Summable r) (ws : List ℕ) (words : Words ws) (few : length ws ≤ most_samples) where
  terms : Each (λ (w : ℕ). Bounded r.scale r.most (r.whole w) (r.term (sample_of w))) ws
  terms = each_map Word (λ (w : ℕ). Bounded r.scale r.most (r.whole w) (r.term (sample_of w))) row.term ws words

  pub exact : Exact r ws
  exact = sum-exact r.scale r.most (λ w. r.term (sample_of w)) r.whole row.low most_samples row.room ws few terms

  pub exact-part : (k : ℕ) → Exact r (take k ws)
  exact-part k = part-exact r.scale r.most (λ w. r.term (sample_of w)) r.whole row.low most_samples row.room k ws few terms

-- n
pub count-exact : (ws : List ℕ) → length ws ≤ most_samples → Stands 0 (pos (length ws)) (count_of ws)
count-exact ws few = of_int-stands (pos (length ws)) (le_trans few (lit≤ tt))

-- the whole table
pub rows : Each Summable sums
rows = (row-u, (row-v, (row-x, (row-y, (row-xx, (row-xy, (row-yy, (row-xu, (row-yu, (row-xv, (row-yv, (row-q, (row-p1, (row-p2, tt))))))))))))))

pub table-exact : (ws : List ℕ) → Words ws → length ws ≤ most_samples → Each (λ (r : Sum). Exact r ws) sums
table-exact ws words few = each_map Summable (λ (r : Sum). Exact r ws) (λ r row. exact r row ws words few) sums rows

-- ---- two orders

module _ {ws vs : List ℕ} (same : SameWords ws vs) (words : Words ws) (few : length ws ≤ most_samples) where
  pub same_sum : (r : Sum) → Summable r → summed r ws ≡ summed r vs
  same_sum r row =
      stands-once (exact r row ws words few)
      (subst (λ (z : ℤ). Stands r.scale z (summed r vs)) (sym (same-whole-sum r.whole ws vs same))
      (exact r row vs (same-each Word same words) (omega (arith, same_length same))))

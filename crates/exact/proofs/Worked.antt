-- Worked: 4,096 words FFFFFFFC, each sum through the law; each bound of the table is reached by a word; and two orders of three free numbers with two sums, so the laws must ask for words.
-- Assumes nothing.
use Prim.Native.Nat.{ℕ, zero, suc, ◌*◌, ◌^◌, ◌≤◌}
use mathlib.Core.List.{List, [], ◌∷◌}
use mathlib.Core.Path.{◌≡◌, refl, sym, ap, ◌∙◌, subst}
use native.Mathlib.Nat.{le_of_eq, zero-add, suc-mul, add_comm, zero-mul}
use lib.Dec.{lit≤}
use lib.IntN.{ℤ, pos, nat_abs}
use lib.ListN.{replicate, length-replicate}
use lib.Ieee.{Float, binary64, add, of_int, of_bits}
use Rattle.laws.specs.Binary64.{nought, one}
use Rattle.sample.specs.Word.{most_samples, word_of}
use Rattle.fit.specs.Sums.{total}
use Rattle.laws.specs.Stands.{whole_limit, Stands, Each, sum_of}
use Rattle.exact.specs.Words.{Word}
use Rattle.exact.specs.Table.{Sum, sum_u, sum_v, sum_x, sum_y, sum_xx, sum_xy, sum_yy, sum_xu, sum_yu, sum_xv, sum_yv, sum_q, sum_p1, sum_p2, summed}
use Rattle.laws.proofs.Stands.{of_int-stands, stands-once, finer}
use Rattle.exact.proofs.Terms.{Summable, row-u, row-x, row-xx, row-xu, row-q, row-p1, row-p2}
use Rattle.exact.proofs.Table.{exact}

-- ---- the last word, 4,096 times

abbrev last_word : ℕ
last_word = 0xFFFF_FFFC

abbrev full : List ℕ
full = replicate most_samples last_word

sum-replicate : (whole : ℕ → ℤ) (w k n : ℕ) → whole w ≡ pos k → sum_of whole (replicate n w) ≡ pos (n * k)
sum-replicate whole w k zero e = ap pos (sym (zero-mul k))
sum-replicate whole w k (suc n) e = rw (e, sum-replicate whole w k n e) (ap pos (add_comm k (n * k) ∙ sym (suc-mul n k)))

each-replicate : (P : ℕ → Type 0) (w n : ℕ) → P w → Each P (replicate n w)
each-replicate P w zero p = tt
each-replicate P w (suc n) p = (p, each-replicate P w n p)

-- a sum of one numerator k is the whole number n
sum_is : (r : Sum) → Summable r → (k n : ℕ) → r.whole last_word ≡ pos k → most_samples * k ≡ n * 2 ^ r.scale → n ≤ whole_limit → summed r full ≡ of_int binary64 (pos n)
sum_is r row k n e m l =
    stands-once
    (subst (λ (z : ℤ). Stands r.scale z (summed r full)) (sum-replicate r.whole last_word k most_samples e ∙ ap pos m)
    (exact r row full (each-replicate Word last_word most_samples (lit≤ tt)) (le_of_eq (length-replicate most_samples last_word))))
    (rw (zero-add r.scale) at (finer r.scale (of_int-stands (pos n) l)))

pub full-sx : summed sum_x full ≡ of_int binary64 (pos 4159488)
full-sx = sum_is sum_x row-x 2031 4159488 refl refl (lit≤ tt)

pub full-su : summed sum_u full ≡ of_int binary64 (pos 147456)
full-su = sum_is sum_u row-u 288 147456 refl refl (lit≤ tt)

pub full-q : summed sum_q full ≡ of_int binary64 (pos 8447920128)
full-q = sum_is sum_q row-q 8249922 8447920128 refl refl (lit≤ tt)

pub full-p1 : summed sum_p1 full ≡ of_int binary64 (pos 299483136)
full-p1 = sum_is sum_p1 row-p1 1169856 299483136 refl refl (lit≤ tt)

-- +0
pub full-p2 : summed sum_p2 full ≡ nought
unfolding of_int of_bits
full-p2 = sum_is sum_p2 row-p2 0 0 refl refl (lit≤ tt)

pub full-sxx : summed sum_xx full ≡ of_int binary64 (pos 4223960064)
full-sxx = sum_is sum_xx row-xx 4124961 4223960064 refl refl (lit≤ tt)

pub full-sxu : summed sum_xu full ≡ of_int binary64 (pos 149741568)
full-sxu = sum_is sum_xu row-xu 584928 149741568 refl refl (lit≤ tt)

-- ---- no bound can be less

abbrev Reached : ℕ → Sum → Type 0
Reached w r = nat_abs (r.whole w) ≡ r.most

pub reached : Each (Reached last_word) (sum_u ∷ sum_v ∷ sum_x ∷ sum_y ∷ sum_xx ∷ sum_xy ∷ sum_yy ∷ sum_xu ∷ sum_yu ∷ sum_xv ∷ sum_yv ∷ sum_q ∷ sum_p1 ∷ [])
reached = (refl, (refl, (refl, (refl, (refl, (refl, (refl, (refl, (refl, (refl, (refl, (refl, (refl, tt)))))))))))))

-- y u − x v with u at its highest and v at its lowest
pub reached-p2 : Reached (word_of 63 63 0 511 0) sum_p2
reached-p2 = refl

-- ---- free numbers: 1e16, 1, −1e16

abbrev great : Float
great = of_bits binary64 0x4341_c379_37e0_8000

abbrev lowest : Float
lowest = of_bits binary64 0xc341_c379_37e0_8000

pub free-order : total (λ x. x) (great ∷ one ∷ lowest ∷ []) ≡ nought
unfolding add of_bits
free-order = refl

pub free-other-order : total (λ x. x) (great ∷ lowest ∷ one ∷ []) ≡ one
unfolding add of_bits
free-other-order = refl

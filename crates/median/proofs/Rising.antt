-- Whole numbers put in order by insertion. How many of a rising list lie below each number says where that number stands in it, and so which list it is.
-- Assumes nothing.
use Prim.Native.Nat.{ℕ, zero, suc, ◌+◌, ◌≤◌, ◌<◌, zero-le}
use mathlib.Core.List.{List, [], ◌∷◌}
use mathlib.Core.Logic.{⊎_elim}
use mathlib.Core.Path.{◌≡◌, refl, sym, ap, ◌∙◌}
use native.Mathlib.Nat.{add_left_cancel, zero-add}
use native.Mathlib.Omega.{arith}
use borrow.Author.Tests.{lt-ltb, le-ltb, eq-eqb, ne_eqb}
use lib.Dec.{ltb, eqb}
use lib.ListN.{get_or}
use Rattle.laws.specs.Refusal.{choose}
use Rattle.laws.specs.Stands.{Each}
use Rattle.laws.proofs.Cases.{lt-or-le, eq-or-ne}

-- in front of the first number that isn't below it
abbrev pub put : ℕ → List ℕ → List ℕ
put k [] = k ∷ []
put k (n ∷ ns) = choose (ltb n k) (n ∷ put k ns) (k ∷ n ∷ ns)

abbrev pub sorted : List ℕ → List ℕ
sorted [] = []
sorted (n ∷ ns) = put n (sorted ns)

abbrev pub under : ℕ → List ℕ → ℕ
under p [] = 0
under p (n ∷ ns) = choose (ltb n p) 1 0 + under p ns

abbrev pub Rising : List ℕ → Type 0
Rising [] = Unit
Rising (n ∷ ns) = Each (λ (m : ℕ). n ≤ m) ns × Rising ns

-- ---- what insertion leaves

each-put : (P : ℕ → Type 0) (k : ℕ) (ns : List ℕ) → P k → Each P ns → Each P (put k ns)
each-put P k [] p e = (p, tt)
each-put P k (n ∷ ns) p e =
    ⊎_elim
    (λ (h : n < k). rw (lt-ltb n k h) (e.0, each-put P k ns p e.1))
    (λ (h : k ≤ n). rw (le-ltb n k h) (p, e))
    (lt-or-le n k)

each_from : (k n : ℕ) (ns : List ℕ) → k ≤ n → Each (λ (m : ℕ). n ≤ m) ns → Each (λ (m : ℕ). k ≤ m) ns
each_from k n [] h e = tt
each_from k n (m ∷ ns) h e = (let l : n ≤ m = e.0 in omega arith, each_from k n ns h e.1)

put-rising : (k : ℕ) (ns : List ℕ) → Rising ns → Rising (put k ns)
put-rising k [] r = (tt, tt)
put-rising k (n ∷ ns) r =
    ⊎_elim
    (λ (h : n < k). rw (lt-ltb n k h) (each-put (λ (m : ℕ). n ≤ m) k ns (omega arith) r.0, put-rising k ns r.1))
    (λ (h : k ≤ n). rw (le-ltb n k h) ((h, each_from k n ns h r.0), r))
    (lt-or-le n k)

pub sorted-rising : (ns : List ℕ) → Rising (sorted ns)
sorted-rising [] = tt
sorted-rising (n ∷ ns) = put-rising n (sorted ns) (sorted-rising ns)

under-put : (p k : ℕ) (ns : List ℕ) → under p (put k ns) ≡ choose (ltb k p) 1 0 + under p ns
under-put p k [] = refl
under-put p k (n ∷ ns) =
    ⊎_elim
    (λ (h : n < k). let e = under-put p k ns in rw (lt-ltb n k h) (omega arith))
    (λ (h : k ≤ n). rw (le-ltb n k h))
    (lt-or-le n k)

pub under-sorted : (p : ℕ) (ns : List ℕ) → under p (sorted ns) ≡ under p ns
under-sorted p [] = refl
under-sorted p (n ∷ ns) = let e = under-sorted p ns in let q = under-put p n (sorted ns) in omega arith

-- ---- where a number stands

none-under : (p n : ℕ) (ns : List ℕ) → p ≤ n → Each (λ (m : ℕ). n ≤ m) ns → under p ns ≡ 0
none-under p n [] h e = refl
none-under p n (m ∷ ns) h e = let l : n ≤ m = e.0 in let k : p ≤ m = omega arith in rw (le-ltb m p k) (zero-add (under p ns) ∙ none-under p n ns h e.1)

-- as many lie below p as stand before the place, and more below p + 1: p stands there
pub stands_at : (p at : ℕ) (ns : List ℕ) → Rising ns → under p ns ≤ at → at < under (suc p) ns → get_or ns at 0 ≡ p
stands_at p at [] r h l = absurd (omega arith)
stands_at p zero (n ∷ ns) r h l =
    ⊎_elim
    (λ (k : n < p). let z = rw (lt-ltb n p k) at h in absurd (omega arith))
    (λ (k : p ≤ n).
    ⊎_elim
    (λ (j : n < suc p). omega arith)
    (λ (j : suc p ≤ n). let z = rw (le-ltb n (suc p) j) at l in let o = none-under (suc p) n ns j r.0 in absurd (omega arith))
    (lt-or-le n (suc p)))
    (lt-or-le n p)
stands_at p (suc at) (n ∷ ns) r h l =
    ⊎_elim
    (λ (j : n < suc p).
    let l' : suc at < 1 + under (suc p) ns = rw (lt-ltb n (suc p) j) at l in
    ⊎_elim
    (λ (k : n < p). let h' : 1 + under p ns ≤ suc at = rw (lt-ltb n p k) at h in stands_at p at ns r.1 (omega arith) (omega arith))
    (λ (k : p ≤ n). let o = none-under p n ns k r.0 in stands_at p at ns r.1 (omega arith) (omega arith))
    (lt-or-le n p))
    (λ (j : suc p ≤ n).
    let l' : suc at < 0 + under (suc p) ns = rw (le-ltb n (suc p) j) at l in
    let o = none-under (suc p) n ns j r.0 in
    absurd (omega arith))
    (lt-or-le n (suc p))

-- ---- which list it is

module _ (n : ℕ) (ns : List ℕ) where
  some-under : 0 < under (suc n) (n ∷ ns)
  some-under = let h : n < suc n = omega arith in rw (lt-ltb n (suc n) h) (let z : 0 < 1 + under (suc n) ns = omega arith in z)

  -- no smaller number stands in front of a list with the same counts
  first-least : (m : ℕ) (ms : List ℕ) → Rising (m ∷ ms) → under (suc n) (n ∷ ns) ≡ under (suc n) (m ∷ ms) → m ≤ n
  first-least m ms r e =
      ⊎_elim
      (λ (h : n < m).
      let o : under (suc n) (m ∷ ms) ≡ 0 = none-under (suc n) m (m ∷ ms) h (let k : m ≤ m = omega arith in k, r.0) in
      let s = some-under in
      absurd (omega arith))
      (λ (h : m ≤ n). h)
      (lt-or-le n m)

pub same-list : (ns ms : List ℕ) → Rising ns → Rising ms → ((p : ℕ) → under p ns ≡ under p ms) → ns ≡ ms
same-list [] [] r q e = refl
same-list [] (m ∷ ms) r q e = let s = some-under m ms in let z : 0 ≡ under (suc m) (m ∷ ms) = e (suc m) in absurd (omega arith)
same-list (n ∷ ns) [] r q e = let s = some-under n ns in let z : under (suc n) (n ∷ ns) ≡ 0 = e (suc n) in absurd (omega arith)
same-list (n ∷ ns) (m ∷ ms) r q e =
    let a = first-least n ns m ms q (e (suc n)) in
    let b = first-least m ms n ns r (sym (e (suc m))) in
    let same : n ≡ m = omega arith in
    rw same (ap (λ (l : List ℕ). m ∷ l) (same-list ns ms r.1 q.1
    (λ p. add_left_cancel (choose (ltb m p) 1 0) (let z : choose (ltb n p) 1 0 + under p ns ≡ choose (ltb m p) 1 0 + under p ms = e p in rw same at z))))

-- each number stands equally often: as many lie below each
abbrev pub standing : ℕ → List ℕ → ℕ
standing b [] = 0
standing b (n ∷ ns) = choose (eqb n b) 1 0 + standing b ns

one_more : (n p : ℕ) → choose (ltb n (suc p)) 1 0 ≡ choose (ltb n p) 1 0 + choose (eqb n p) 1 0
one_more n p =
    ⊎_elim
    (λ (e : n ≡ p). let a : n < suc p = omega arith in let b : p ≤ n = omega arith in rw (eq-eqb n p e, lt-ltb n (suc p) a, le-ltb n p b))
    (λ (e : n ≡ p → ⊥).
    rw (ne_eqb n p e)
    (⊎_elim
    (λ (h : n < p). let a : n < suc p = omega arith in rw (lt-ltb n p h, lt-ltb n (suc p) a))
    (λ (h : p ≤ n). let a : suc p ≤ n = omega arith in rw (le-ltb n p h, le-ltb n (suc p) a))
    (lt-or-le n p)))
    (eq-or-ne n p)

under_next : (p : ℕ) (ns : List ℕ) → under (suc p) ns ≡ under p ns + standing p ns
under_next p [] = refl
under_next p (n ∷ ns) = let a = one_more n p in let b = under_next p ns in omega arith

pub none-under-zero : (ns : List ℕ) → under 0 ns ≡ 0
none-under-zero [] = refl
none-under-zero (n ∷ ns) = rw (le-ltb n 0 zero-le) (zero-add (under 0 ns) ∙ none-under-zero ns)

pub same-under : (ns ms : List ℕ) → ((b : ℕ) → standing b ns ≡ standing b ms) → (p : ℕ) → under p ns ≡ under p ms
same-under ns ms e zero = none-under-zero ns ∙ sym (none-under-zero ms)
same-under ns ms e (suc p) = let a = same-under ns ms e p in let b = e p in rw (under_next p ns, under_next p ms) (omega arith)

pub same-sorted : (ns ms : List ℕ) → ((b : ℕ) → standing b ns ≡ standing b ms) → sorted ns ≡ sorted ms
same-sorted ns ms e =
    same-list (sorted ns) (sorted ms) (sorted-rising ns) (sorted-rising ms)
    (λ p. under-sorted p ns ∙ same-under ns ms e p ∙ sym (under-sorted p ms))

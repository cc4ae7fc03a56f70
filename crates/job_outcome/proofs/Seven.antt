-- Seven models out of six others and a job's own: where each stands, and that a header can carry them all.
-- Assumes nothing.
use Prim.Native.Nat.{ℕ, zero, suc, ◌+◌, ◌*◌, ◌-◌, ◌≤◌, ◌<◌}
use mathlib.Core.Bool.{Bool, true, false}
use mathlib.Core.List.{List, [], ◌∷◌, ◌++◌}
use mathlib.Core.Logic.{⊎_elim}
use mathlib.Core.Path.{◌≡◌, refl, sym, ap, ◌∙◌}
use native.Mathlib.Omega.{arith}
use borrow.Author.Tests.{lt-ltb, le-ltb}
use lib.Dec.{ltb, eqb}
use lib.IntN.{ℤ, pos}
use lib.ListN.{length, get_or, take, drop, set, length-set}
use lib.Seq.{length-take-le, take-append_seam, drop-append_seam}
use Rattle.laws.specs.Refusal.{choose}
use Rattle.laws.specs.Below.{any_below}
use Rattle.laws.proofs.Below.{each-fails, none-holds}
use Rattle.laws.proofs.Cases.{lt-or-le}
use Rattle.models.specs.Models.{slot_wrong, slot_at, model_wrong, model_at, models_wrong, type_at, types_over}
use Rattle.score.specs.Score.{slot}
use Rattle.job_model.specs.Assemble.{inserted}
use Rattle.job_model.proofs.Inserted as inserted-laws
use Rattle.quantize.specs.Quantize.{row_first, exchange}

-- ---- where each stands

module _ (place kind : ℕ) (ts : List ℕ) (six : length ts ≡ 6) (p : place ≤ 6) where
  abbrev seven : List ℕ
  seven = inserted place (kind ∷ []) ts

  pub seven-types : length seven ≡ 7
  seven-types = inserted-laws.length_inserted 0 place (kind ∷ []) ts (omega arith) ∙ (let e : length (kind ∷ []) + length ts ≡ 7 = omega arith in e)

  type-before : (i : ℕ) → i < place → get_or seven i 0 ≡ get_or ts i 0
  type-before i l = inserted-laws.before 0 place (kind ∷ []) ts (omega arith) i l

  pub type-own : get_or seven place 0 ≡ kind
  type-own =
      inserted-laws.within 0 place (kind ∷ []) ts (omega arith) place (omega arith) (omega arith)
      ∙ ap (λ (n : ℕ). get_or (kind ∷ []) n 0) (let e : place - place ≡ 0 = omega arith in e)

  type-after : (i : ℕ) → place ≤ i → get_or seven (i + 1) 0 ≡ get_or ts i 0
  type-after i l =
      inserted-laws.after 0 place (kind ∷ []) ts (omega arith) (i + 1) (omega arith)
      ∙ ap (λ (n : ℕ). get_or ts n 0) (let e : i + 1 - length (kind ∷ []) ≡ i = omega arith in e)

  pub type-other : (k : ℕ) → k < 6 → get_or seven (choose (ltb k place) k (k + 1)) 0 ≡ get_or ts k 0
  type-other k l =
      ⊎_elim
      (λ (h : k < place). rw (lt-ltb k place h) (type-before k h))
      (λ (h : place ≤ k). rw (le-ltb k place h) (type-after k h))
      (lt-or-le k place)

  -- a property of the six others and of the own one is one of all seven
  pub all-seven : (P : ℕ → Type 0) → ((i : ℕ) → i < place → P i) → P place → ((i : ℕ) → place ≤ i → i < 6 → P (i + 1)) → (i : ℕ) → i < 7 → P i
  all-seven P b o a i l =
      ⊎_elim (λ (h : i < place). b i h)
      (λ (h : place ≤ i). ⊎_elim (λ (m : place < i). later P a i m l) (λ (m : i ≤ place). here P o i h m) (lt-or-le place i))
      (lt-or-le i place)
    where
      here : (P : ℕ → Type 0) → P place → (i : ℕ) → place ≤ i → i ≤ place → P i
      here P o i h m = rw (let e : i ≡ place = omega arith in e) o

      later : (P : ℕ → Type 0) → ((i : ℕ) → place ≤ i → i < 6 → P (i + 1)) → (i : ℕ) → place < i → i < 7 → P i
      later P a i m l = rw (let e : i ≡ i - 1 + 1 = omega arith in e) (a (i - 1) (omega arith) (omega arith))

  pub types-known : types_over ts ≡ false → kind ≤ 3 → types_over seven ≡ false
  unfolding types_over
  types-known known k =
      none-holds (type_at seven) (length seven)
      (λ i l. all-seven (λ (n : ℕ). type_at seven n ≡ false)
      (λ n h. rw (type-before n h) (each-fails (type_at ts) (length ts) known n (omega arith)))
      (rw type-own (le-ltb 3 kind k))
      (λ n h m. rw (type-after n h) (each-fails (type_at ts) (length ts) known n (omega arith)))
      i (let q : i < 7 = omega (arith, seven-types) in q))

module _ (place : ℕ) (xs ms : List ℤ) (own : length xs ≡ 6) (others : length ms ≡ 36) (p : place ≤ 6) where
  abbrev all : List ℤ
  all = inserted (6 * place) xs ms

  pub all-numbers : length all ≡ 42
  all-numbers = inserted-laws.length_inserted (pos 0) (6 * place) xs ms (omega arith) ∙ (let e : length xs + length ms ≡ 42 = omega arith in e)

  number-before : (i s : ℕ) → i < place → s < 6 → get_or all (6 * i + s) (pos 0) ≡ get_or ms (6 * i + s) (pos 0)
  number-before i s l h = inserted-laws.before (pos 0) (6 * place) xs ms (omega arith) (6 * i + s) (omega arith)

  number-own : (s : ℕ) → s < 6 → get_or all (6 * place + s) (pos 0) ≡ get_or xs s (pos 0)
  number-own s h =
      inserted-laws.within (pos 0) (6 * place) xs ms (omega arith) (6 * place + s) (omega arith) (omega arith)
      ∙ ap (λ (n : ℕ). get_or xs n (pos 0)) (let e : 6 * place + s - 6 * place ≡ s = omega arith in e)

  number-after : (i s : ℕ) → place ≤ i → s < 6 → get_or all (6 * (i + 1) + s) (pos 0) ≡ get_or ms (6 * i + s) (pos 0)
  number-after i s l h =
      inserted-laws.after (pos 0) (6 * place) xs ms (omega arith) (6 * (i + 1) + s) (omega arith)
      ∙ ap (λ (n : ℕ). get_or ms n (pos 0)) (let e : 6 * (i + 1) + s - length xs ≡ 6 * i + s = omega arith in e)

  pub number-other : (k s : ℕ) → k < 6 → s < 6 → get_or all (6 * choose (ltb k place) k (k + 1) + s) (pos 0) ≡ get_or ms (6 * k + s) (pos 0)
  number-other k s l h =
      ⊎_elim
      (λ (b : k < place). rw (lt-ltb k place b) (number-before k s b h))
      (λ (a : place ≤ k). rw (le-ltb k place a) (number-after k s a h))
      (lt-or-le k place)

  -- the six numbers at the job's reference
  pub own-six : take 6 (drop (6 * place) all) ≡ xs
  own-six =
      let e : length (take (6 * place) ms) ≡ 6 * place = length-take-le (6 * place) ms (omega arith) in
      ap (λ (n : ℕ). take 6 (drop n all)) (sym e)
      ∙ (ap (take 6) (drop-append_seam (take (6 * place) ms) (xs ++ drop (6 * place) ms))
      ∙ (ap (λ (n : ℕ). take n (xs ++ drop (6 * place) ms)) (sym own) ∙ take-append_seam xs (drop (6 * place) ms)))

-- ---- a header can carry them

same-below : (f g : ℕ → Bool) (n : ℕ) → ((k : ℕ) → k < n → f k ≡ g k) → any_below f n ≡ any_below g n
same-below f g zero h = refl
same-below f g (suc n) h = rw (same-below f g n (λ k l. h k (omega arith)), h n (omega arith))

same-slot : (kind flag i : ℕ) {x y z x' y' z' : ℤ} → x ≡ x' → y ≡ y' → z ≡ z' → slot_wrong kind flag i x y z ≡ slot_wrong kind flag i x' y' z'
same-slot kind flag i p q r = rw (p, q, r)

-- six numbers that agree are both wrong, or neither
same-model : (kind flag : ℕ) (ps qs : List ℤ) (a b : ℕ) → ((s : ℕ) → s < 6 → get_or ps (a + s) (pos 0) ≡ get_or qs (b + s) (pos 0)) → model_wrong kind flag ps a ≡ model_wrong kind flag qs b
unfolding model_wrong
same-model kind flag ps qs a b h =
    same-below (slot_at kind flag ps a) (slot_at kind flag qs b) 6
    (λ k l. same-slot kind flag k (h k l) (h 2 (omega arith)) (h 3 (omega arith)))

module _ (place kind flag : ℕ) (ts : List ℕ) (xs ms : List ℤ) (six : length ts ≡ 6) (own : length xs ≡ 6) (others : length ms ≡ 36) (p : place ≤ 6) where
  pub models-right : models_wrong ts flag ms ≡ false → model_wrong kind flag xs 0 ≡ false → models_wrong (inserted place (kind ∷ []) ts) flag (inserted (6 * place) xs ms) ≡ false
  unfolding models_wrong
  models-right right fitted =
      let types = inserted place (kind ∷ []) ts in
      let numbers = inserted (6 * place) xs ms in
      none-holds (model_at types flag numbers) (length types)
      (λ i l. all-seven place kind ts six p (λ (n : ℕ). model_at types flag numbers n ≡ false)
      (λ n h.
      rw (type-before place kind ts six p n h)
      (same-model (get_or ts n 0) flag numbers ms (6 * n) (6 * n) (λ s b. number-before place xs ms own others p n s h b)
      ∙ each-fails (model_at ts flag ms) (length ts) right n (omega arith)))
      (rw (type-own place kind ts six p)
      (same-model kind flag numbers xs (6 * place) 0 (λ s b. number-own place xs ms own others p s b ∙ ap (λ (n : ℕ). get_or xs n (pos 0)) (let e : s ≡ 0 + s = omega arith in e)) ∙ fitted))
      (λ n h m.
      rw (type-after place kind ts six p n h)
      (same-model (get_or ts n 0) flag numbers ms (6 * (n + 1)) (6 * n) (λ s b. number-after place xs ms own others p n s h b)
      ∙ each-fails (model_at ts flag ms) (length ts) right n (omega arith)))
      i (let q : i < 7 = omega (arith, seven-types place kind ts six p) in q))

-- ---- as stored

chosen-length : (b : Bool) (p : List ℤ) → length (choose b (exchange p) p) ≡ length p
chosen-length true p = length-set (set p 0 (slot p 1)) 1 (slot p 0) ∙ length-set p 0 (slot p 1)
chosen-length false p = refl

pub row-first-length : (kind : ℕ) (p : List ℤ) → length (row_first kind p) ≡ length p
row-first-length kind p = chosen-length (eqb kind 1) p

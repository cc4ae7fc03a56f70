-- The numbers below n as a list: what a loop by index folds, reads and keeps.
-- Assumes nothing.
use Prim.Native.Nat.{ℕ, zero, suc, ◌+◌, ◌≤◌, ◌<◌, suc-le-suc}
use mathlib.Core.Bool.{Bool, true}
use mathlib.Core.List.{List, [], ◌∷◌, ◌++◌, map, map-append}
use mathlib.Core.Logic.{⊎_elim}
use mathlib.Core.Path.{◌≡◌, refl, sym, ap, ◌∙◌}
use native.Mathlib.Nat.{le_of_lt, le_refl}
use native.Mathlib.Omega.{arith}
use lib.ListN.{length, drop, get_or, get_or-append}
use lib.Seq.{get_or_at, take_all}
use Rattle.laws.specs.Loops.{fold}
use Rattle.laws.specs.Parts.{listing}
use Rattle.laws.specs.Refusal.{choose}
use Rattle.laws.proofs.Cases.{lt-or-le}
use Rattle.laws.proofs.Filling.{length-listing, listing-take}
use Rattle.laws.proofs.Fold.{fold-again, fold_done}
use Rattle.sample.specs.declared.MotionSample.{MotionSample}
use Rattle.trim.specs.Trim.{passing}
use Rattle.trim.specs.Inner.{no_sample, sample_at, samples_in, up_to}
use Rattle.trim.proofs.Passing.{passing-append, passing-true}

module _ {A : Type 0} where
  pub get_d-listing : (f : ℕ → A) (n i : ℕ) (d : A) → i < n → get_or (listing f n) i d ≡ f i
  get_d-listing f zero i d h = absurd (omega arith)
  get_d-listing f (suc n) i d h =
      ⊎_elim
      (λ (l : i < n). get_or-append (listing f n) (f n ∷ []) d i (rw (length-listing f n) l) ∙ get_d-listing f n i d l)
      (λ (l : n ≤ i). let e : i ≡ n = omega arith in rw e (get_or_at (listing f n) (f n) [] d n (length-listing f n)))
      (lt-or-le i n)

module _ {A B : Type 0} where
  pub map-listing : (g : A → B) (f : ℕ → A) (n : ℕ) → map g (listing f n) ≡ listing (λ i. g (f i)) n
  map-listing g f zero = refl
  map-listing g f (suc n) = map-append g (listing f n) (f n ∷ []) ∙ ap (λ (l : List B). l ++ (g (f n) ∷ [])) (map-listing g f n)

pub length-up_to : (n : ℕ) → length (up_to n) ≡ n
length-up_to n = length-listing (λ i. i) n

-- a list is what stands at its places
pub samples-whole : (given : List MotionSample) → samples_in given (length given) ≡ given
samples-whole given =
    map-listing (sample_at given) (λ i. i) (length given)
    ∙ listing-take given no_sample (length given) (le_refl (length given))
    ∙ take_all (length given) given (le_refl (length given))

-- ---- a loop by index

module _ {S : Type 0} (f : S → ℕ → S) {n i : ℕ} where
  pub index-again : {s s' t : S} → i < n → s' ≡ f s i → fold f (drop i (up_to n)) s ≡ t → fold f (drop (i + 1) (up_to n)) s' ≡ t
  index-again {s} h e r =
      fold-again f (up_to n) i 0 (rw (length-up_to n) h) (e ∙ ap (f s) (sym (get_d-listing (λ k. k) n i 0 h))) r

  pub index-done : {s t : S} → n ≤ i → fold f (drop i (up_to n)) s ≡ t → s ≡ t
  index-done h r = fold_done f (up_to n) i (rw (length-up_to n) h) r

-- ---- keeping

-- two tests that agree below n
pub passing-same : (p q : ℕ → Bool) (n : ℕ) → ((i : ℕ) → i < n → p i ≡ q i) → passing p (up_to n) ≡ passing q (up_to n)
passing-same p q zero h = refl
passing-same p q (suc n) h =
    passing-append p (up_to n) (n ∷ [])
    ∙ ap (λ (l : List ℕ). l ++ passing p (n ∷ [])) (passing-same p q n (λ i l. h i (le_of_lt (suc-le-suc l))))
    ∙ ap (λ (b : Bool). passing q (up_to n) ++ choose b (n ∷ []) []) (h n (le_refl (suc n)))
    ∙ sym (passing-append q (up_to n) (n ∷ []))

pub passing-all : (p : ℕ → Bool) (n : ℕ) → ((i : ℕ) → i < n → p i ≡ true) → passing p (up_to n) ≡ up_to n
passing-all p n h = passing-same p (λ i. true) n h ∙ passing-true (up_to n)

-- Words chosen by their squares: under the cutoff's limit those that are kept, under infinity all of them.
-- Assumes nothing.
use Prim.Native.Nat.{ℕ}
use mathlib.Core.Bool.{Bool, true, false}
use mathlib.Core.List.{List, [], ◌∷◌, ◌++◌, map}
use mathlib.Core.Path.{◌≡◌, refl, ap, ◌∙◌}
use lib.Ieee.{Float, inf, le}
use lib.Ieee.Scale.{finite}
use Rattle.laws.specs.Chosen.{chosen_by}
use Rattle.laws.specs.Refusal.{choose}
use Rattle.laws.specs.Stands.{Each}
use Rattle.sample.specs.Sample.{sample_of}
use Rattle.median.specs.Inner.{Plain}
use Rattle.median.specs.Median.{all_finite}
use Rattle.fit.specs.declared.Fitted.{Fitted}
use Rattle.trim.specs.Trim.{residual, residuals_from, cutoff, passing, kept_from}
use Rattle.trim.specs.Inner.{square, squares_from, Limits}
use Rattle.trim.proofs.NoSign.{held, squares-plain, under-infinity}
use Rattle.trim.proofs.Passing.{passing-true}
use Rattle.word_trim.specs.Inner.{at_most}

module _ {A L : Type 0} (p : L → Bool) (f : A → L) (rest : List L) where
  -- an element whose label is read from it passes by what is read
  chosen-own : (xs : List A) → chosen_by p xs (map f xs ++ rest) ≡ passing (λ (x : A). p (f x)) xs
  chosen-own [] = refl
  chosen-own (x ∷ xs) = ap (λ (l : List A). choose (p (f x)) (x ∷ l) l) (chosen-own xs)

-- two tests that agree where what is read holds
passing-where : {A : Type 0} (p q : A → Bool) (f : A → Float) (P : Float → Type 0) → ((x : A) → P (f x) → p x ≡ q x) → (xs : List A) → Each P (map f xs) → passing p xs ≡ passing q xs
passing-where p q f P h [] e = refl
passing-where {A} p q f P h (x ∷ xs) e =
    ap (λ (b : Bool). choose b (x ∷ passing p xs) (passing p xs)) (h x e.0)
    ∙ ap (λ (l : List A). choose (q x) (x ∷ l) l) (passing-where p q f P h xs e.1)

module _ (f : Fitted) (words : List ℕ) (rest : List Float) (each-finite : all_finite (squares_from sample_of f words) ≡ true) (limit : Float) where
  abbrev square_of : ℕ → Float
  square_of w = square f (sample_of w)

  abbrev chosen : List ℕ
  chosen = chosen_by (at_most limit) words (squares_from sample_of f words ++ rest)

  by-test : (q : ℕ → Bool) → ((w : ℕ) → Plain (square_of w) → at_most limit (square_of w) ≡ q w) → chosen ≡ passing q words
  by-test q h =
      chosen-own (at_most limit) square_of rest words
      ∙ passing-where (λ w. at_most limit (square_of w)) q square_of Plain h words (squares-plain sample_of f words each-finite)

  pub chosen-kept : Limits (cutoff (residuals_from sample_of f words)) limit → chosen ≡ kept_from sample_of f words
  unfolding kept_from
  chosen-kept l =
      by-test (λ w. le (residual f (sample_of w)) (cutoff (residuals_from sample_of f words))) (λ w p. l.same (square_of w) p)

  pub chosen-all : limit ≡ inf false → chosen ≡ words
  chosen-all e =
      by-test (λ w. true) (λ w p. ap (λ (l : Float). le (square_of w) l) e ∙ under-infinity (square_of w) (held (finite (square_of w)) p.ends))
      ∙ passing-true words

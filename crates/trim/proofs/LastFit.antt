-- After the first fit: what is asked of the squares, and the cut of each case.
-- Assumes nothing.
use Prim.Native.Nat.{ℕ, ◌≤◌, ◌<◌}
use mathlib.Core.Bool.{Bool, true, false}
use mathlib.Core.List.{List, map}
use mathlib.Core.Path.{◌≡◌, refl, sym, ap, subst, ◌∙◌}
use native.Mathlib.Omega.{arith}
use lib.Dec.{eqb, lit<}
use lib.ListN.{length, take}
use lib.Ieee.{Float, inf, binary64, of_bits}
use Rattle.laws.specs.Refusal.{choose}
use Rattle.sample.specs.declared.MotionSample.{MotionSample}
use Rattle.sample.specs.Word.{most_samples}
use Rattle.root.specs.Root.{root}
use Rattle.median.specs.Inner.{Findable}
use Rattle.median.specs.Median.{all_finite}
use Rattle.fit.specs.declared.Fitted.{Fitted}
use Rattle.fit.specs.Fitted.{fit_from}
use Rattle.trim.specs.Trim.{least_of, residuals_from, cutoff, kept_from, first_from, used_from}
use Rattle.trim.specs.Inner.{sample_at, up_to, squares_from, under, refused_cut, cut_of, Limits, Under, Squared, Cuts}
use Rattle.trim.proofs.Answers.{used_all, used-kept, not_finite}
use Rattle.trim.proofs.Cuts.{refused-cuts, made-cuts}
use Rattle.trim.proofs.Indices.{length-up_to}
use Rattle.trim.proofs.NoSign.{squares-bare}
use Rattle.trim.proofs.Roots.{finite-roots, roots-of-squares}
use Rattle.trim.proofs.Under.{length-squares, squares-front, kept_under, all_under, findable, under-few}

pub infinity-is : of_bits binary64 0x7ff0_0000_0000_0000 ≡ inf false
unfolding of_bits
infinity-is = refl

some_of : (a b : Bool) → 0 < choose a 4 (choose b 6 8)
some_of true b = lit< tt
some_of false true = lit< tt
some_of false false = lit< tt

pub some-least : (gm_type : ℕ) → 0 < least_of gm_type
some-least gm_type = some_of (eqb gm_type 1) (eqb gm_type 2)

module _ (given : List MotionSample) (gm_type n : ℕ) (squares : List Float) (first : Fitted) (r : Squared given gm_type n squares first) where
  abbrev read : ℕ → MotionSample
  read = sample_at given

  abbrev before : Fitted
  before = first_from read gm_type (up_to n)

  abbrev measured : List Float
  measured = squares_from read before (up_to n)

  abbrev residuals : List Float
  residuals = residuals_from read before (up_to n)

  room : n ≤ length r.old
  room = omega (arith, r.few, r.long)

  pub squares-long : n ≤ length squares
  squares-long =
      let e : length squares ≡ length r.old = ap (λ (l : List Float). length l) r.squared ∙ length-squares given before n r.old room in
      omega (arith, e, room)

  front : take n squares ≡ measured
  front = ap (λ (l : List Float). take n l) r.squared ∙ squares-front given before n r.old

  some : 0 < n
  some = omega (arith, some-least gm_type, r.enough)

  finite-is : (b : Bool) → all_finite (take n squares) ≡ b → all_finite residuals ≡ b
  finite-is b e =
      ap (λ (l : List Float). all_finite l) (sym (roots-of-squares read before (up_to n)))
      ∙ finite-roots measured (squares-bare read before (up_to n))
      ∙ ap (λ (l : List Float). all_finite l) (sym front)
      ∙ e

  roots-are : map root (take n squares) ≡ residuals
  roots-are = ap (λ (l : List Float). map root l) front ∙ roots-of-squares read before (up_to n)

  pub infinite-cuts : all_finite (take n squares) ≡ false → Cuts given gm_type n squares (refused_cut 16)
  infinite-cuts e =
      refused-cuts given gm_type n squares 16 squares-long (λ z. absurd (omega arith)) (not_finite read gm_type (up_to n) r.fitted (finite-is false e))

  module _ (finite : all_finite (take n squares) ≡ true) where
    each-finite : all_finite residuals ≡ true
    each-finite = finite-is true finite

    each-measured : all_finite measured ≡ true
    each-measured = ap (λ (l : List Float). all_finite l) (sym front) ∙ finite

    pub squares-findable : Findable (take n squares)
    squares-findable = subst (λ (l : List Float). Findable l) (sym front) (findable given before n r.old each-measured some)

    module _ (limit : Float) (e : Limits (cutoff (map root (take n squares))) limit) (count : ℕ) (counted : count ≡ length (under squares limit n)) where
      is-kept : under squares limit n ≡ kept_from read before (up_to n)
      is-kept =
          ap (λ (l : List Float). under l limit n) r.squared
          ∙ kept_under given before n r.old each-measured limit (subst (λ (l : List Float). Limits (cutoff l) limit) roots-are e)

      kept-count : count ≡ length (kept_from read before (up_to n))
      kept-count = counted ∙ ap (λ (l : List ℕ). length l) is-kept

      pub kept-under-limit : Under squares limit n count
      kept-under-limit = record { few = r.few; long = squares-long; counted = counted }

      pub few-kept : count ≤ most_samples
      few-kept = omega (arith, counted, under-few squares limit n, r.few)

      -- too few are kept: the first fit is the last
      pub stood-cuts : count < least_of gm_type → (top : Float) → top ≡ inf false → Cuts given gm_type n squares (cut_of first n top)
      stood-cuts h top q =
          let all : used_from read gm_type (up_to n) ≡ up_to n = used_all read gm_type (up_to n) (omega (arith, h, kept-count)) in
          made-cuts given gm_type n r.fitted each-finite squares squares-long first n top
          (r.is ∙ ap (λ (l : List ℕ). fit_from read gm_type l) (sym all))
          (sym (length-up_to n) ∙ ap (λ (l : List ℕ). length l) (sym all))
          (ap (λ (l : List Float). under l top n) r.squared ∙ all_under given before n r.old each-measured top q ∙ sym all)

      pub fitted-cuts : least_of gm_type ≤ count → (f : Fitted) → f ≡ fit_from read gm_type (under squares limit n) → Cuts given gm_type n squares (cut_of f count limit)
      fitted-cuts h f q =
          let those : under squares limit n ≡ used_from read gm_type (up_to n) = is-kept ∙ sym (used-kept read gm_type (up_to n) (omega (arith, h, kept-count))) in
          made-cuts given gm_type n r.fitted each-finite squares squares-long f count limit
          (q ∙ ap (λ (l : List ℕ). fit_from read gm_type l) those)
          (counted ∙ ap (λ (l : List ℕ). length l) those)
          those

-- The fit of a type 1 to 3 over any list that is read as samples is refused with 6, or is a model of that type.
-- Assumes nothing.
use Prim.Native.Nat.{ℕ, zero, suc, ◌≤◌}
use mathlib.Core.List.{List}
use mathlib.Core.Logic.{◌⊎◌, inl, inr}
use mathlib.Core.Path.{◌≡◌, refl}
use native.Mathlib.Omega.{arith}
use lib.ListN.{length}
use Rattle.laws.specs.Binary64.{◌⊕◌, one}
use Rattle.sample.specs.declared.MotionSample.{MotionSample}
use Rattle.std.specs.Prelude.{Ok, Err}
use Rattle.solve.specs.Elimination.{Outcome, unless_singular}
use Rattle.solve.specs.Solution.{Solution, solved, number_of}
use Rattle.fit.specs.declared.Fitted.{Fitted}
use Rattle.fit.specs.declared.Fitted.TheVariants.{Refused, RotZoom, Affine}
use Rattle.fit.specs.Sums.{sums_of, count_as, rot_zoom_totals, affine_totals}
use Rattle.fit.specs.Fitted.{refusal_of, type_of, at, rot_zoom_system, affine_u, affine_v, rot_zoom_model, affine_model, translation_from, rot_zoom_from, affine_from, fit_from}

pub record OfType (kind : ℕ) (f : Fitted) : Type 0 where
  pub number : (refusal_of f ≡ 0) ⊎ (refusal_of f ≡ 6)
  pub same : refusal_of f ≡ 0 → type_of f ≡ kind

guarded : (kind : ℕ) (o : Outcome) (f : Fitted) → OfType kind f → OfType kind (unless_singular o (Refused (number_of o)) f)
guarded kind (Ok _) f h = h
guarded kind (Err _) f h = record { number = inr refl; same = λ e. absurd (omega arith) }

model-of-type : (kind : ℕ) (f : Fitted) → refusal_of f ≡ 0 → type_of f ≡ kind → OfType kind f
model-of-type kind f e t = record { number = inl e; same = λ _. t }

rotzoom-of-type : (s : Solution) → OfType 2 (rot_zoom_model s)
rotzoom-of-type s =
    let m = RotZoom (at s 2) (at s 3) (one ⊕ at s 0) (at s 1) in
    guarded 2 s.outcome m (model-of-type 2 m refl refl)

affine-of-type : (xu xv : Solution) → OfType 3 (affine_model xu xv)
affine-of-type xu xv =
    let m = Affine (at xu 2) (at xv 2) (one ⊕ at xu 0) (at xu 1) (at xv 0) (one ⊕ at xv 1) in
    guarded 3 xu.outcome (unless_singular xv.outcome (Refused (number_of xv.outcome)) m) (guarded 3 xv.outcome m (model-of-type 3 m refl refl))

module _ {A : Type 0} (read : A → MotionSample) where
  pub fit-of-type : (kind : ℕ) (xs : List A) → 1 ≤ kind → kind ≤ 3 → OfType kind (fit_from read kind xs)
  unfolding translation_from rot_zoom_from affine_from
  fit-of-type zero xs l m = absurd (omega arith)
  fit-of-type (suc zero) xs l m = record { number = inl refl; same = λ e. refl }
  fit-of-type (suc (suc zero)) xs l m = rotzoom-of-type (solved 4 (rot_zoom_system (rot_zoom_totals (sums_of read xs)) (count_as (length xs))))
  fit-of-type (suc (suc (suc zero))) xs l m =
      let t = affine_totals (sums_of read xs) in
      affine-of-type (solved 3 (affine_u t (count_as (length xs)))) (solved 3 (affine_v t (count_as (length xs))))
  fit-of-type (suc (suc (suc (suc k)))) xs l m = absurd (omega arith)

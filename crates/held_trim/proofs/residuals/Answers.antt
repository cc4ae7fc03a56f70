use lib.ListN.{length}
use borrow.Author.Rules.{rules}
use Prim.Native.Nat.{ℕ}
use mathlib.Core.List.{List}
use mathlib.Core.Path.{◌≡◌, refl, sym, ap, ◌∙◌}
use native.Mathlib.Omega.{arith}
use lib.Ieee.{Float}
use Rattle.laws.specs.Buffer.{onto}
use Rattle.laws.specs.Parts.{listing}
use Rattle.laws.proofs.Filling.{fill-front}
use Rattle.score.specs.declared.ContinuousModel.{ContinuousModel}
use Rattle.trim.specs.Inner.{sample_at, square}
use Rattle.trim.proofs.Indices.{map-listing}
use Rattle.held_trim.proofs.residuals.Invariants.{square_by}
use Rattle.held_trim.proofs.residuals.Goals as goal

pub loop-i-init : goal.loop-i-init
loop-i-init c = (omega arith, refl, refl)

pub loop-i-preserved : goal.loop-i-preserved
loop-i-preserved c = let s = c.before in
    let a = s.args in
    let l = c.loop-i in
    let m = c.continuous_fit-m.result in (
      search rules,
      fill-front (square_by m a.samples.now) l.i a.squares.now (search rules) l.invariant.1
          c.residual.ensures,
      search rules,
    )

pub returns : goal.returns
returns c = let a = c.args in
    let l = c.loop-i in
    let m = c.continuous_fit-m in
    l.invariant.1
    ∙ ap (λ (k : ℕ). onto (listing (square_by m.result a.samples.now) k) a.squares.now) (let e : l.i ≡ (length a.samples.now) = omega arith in e)
    ∙ ap (λ (model : ContinuousModel). onto (listing (square_by model a.samples.now) (length a.samples.now)) a.squares.now) m.ensures
    ∙ ap (λ (rs : List Float). onto rs a.squares.now) (sym (map-listing (λ (k : ℕ). square a.fitted (sample_at a.samples.now k)) (λ k. k) (length a.samples.now)))

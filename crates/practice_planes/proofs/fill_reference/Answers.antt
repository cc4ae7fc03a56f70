use Prim.Native.Nat.{ℕ, ◌*◌}
use mathlib.Core.Path.{◌≡◌, refl, ap, ◌∙◌}
use native.Mathlib.Numerals.{add-one}
use native.Mathlib.Omega.{arith}
use Rattle.laws.specs.Buffer.{onto}
use Rattle.laws.specs.Parts.{listing}
use Rattle.plane.proofs.Listing.{listing-more}
use Rattle.plane.proofs.Clamped.{plane-small}
use Rattle.generator.specs.Generator.{next, noise, upper_half}
use Rattle.practice_planes.specs.Belt.{reference_plane}
use Rattle.practice_planes.proofs.fill_reference.Goals as goal

pub overflow_mul-pels : goal.overflow_mul-pels
overflow_mul-pels c = let s = c.args.sides in
    omega (arith, plane-small s.width s.height c.requires.small.narrow c.requires.small.low)

pub loop-i-init : goal.loop-i-init
loop-i-init c = (refl, refl)

pub loop-i-preserved : goal.loop-i-preserved
loop-i-preserved c = let a = c.args in
    let l = c.loop-i in
    let stepped = c.next_state-next.ensures ∙ ap next l.invariant.1 in (
      listing-more (noise a.seed) a.reference.now l.i (omega arith) l.invariant.0 (c.upper_half.ensures ∙ ap upper_half stepped),
      rw (add-one l.i) stepped,
    )

pub returns : goal.returns
unfolding reference_plane
returns c = let a = c.args in
    c.loop-i.invariant.0
    ∙ ap (λ (k : ℕ). onto (listing (noise a.seed) k) a.reference.now)
    (let e : c.loop-i.i ≡ a.sides.height * a.sides.width = omega arith in e)
